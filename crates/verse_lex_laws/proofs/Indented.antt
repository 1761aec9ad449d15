-- The first token of each line has the line's indentation.
use Rattle.std.proofs.Common.{◌≡◌, ℕ, ◌+◌, ◌-◌, Bool, List, [], ◌∷◌, ◌++◌, length, take, drop, Option, Some, None, option_map, refl, sym}
use Rattle.std.proofs.Common.{◌∙◌, ap, arith, subst, append_assoc, append-nil, length-append}
use Rattle.std.proofs.lemmas.List.{drop-drop}
use Rattle.std.proofs.Math.Seq.{drop-append_seam, take-append_seam}
use Rattle.verse_lex.specs.Bytes.{is_blank, run}
use Rattle.verse_lex.specs.Pieces.{piece_at}
use Rattle.verse_lex.specs.Cut.{Cuts, cuts_none, cuts_separator, cuts_line, cuts_token, in_hole, past, past_line, past_token, token}
use Rattle.verse_lex.specs.Cut.{mark_len, body, start, indentation}
use Rattle.verse_lex.specs.declared.tokens.Token.{Token}
use Rattle.verse_lex.specs.declared.tokens.TokenKind.{TokenKind}
use Rattle.verse_lex.specs.declared.pieces.Next.{Next}
use Rattle.verse_lex.specs.declared.pieces.Next.TheVariants as n
use Rattle.verse_lex.specs.declared.cursors.Cursor.{Cursor}
use Rattle.verse_lex_laws.specs.Spelling as s
use Rattle.verse_lex_laws.specs.Spelling.{Spells, BeginsWith, Explains}
use Rattle.verse_lex_laws.specs.Indents.{LinesIn, no_bytes, separator, last_end, earlier_end, indent_at, either, IsIndented, AllIndented}
use Rattle.verse_lex_laws.specs.Indents.{TokensIndented}
use Rattle.verse_lex_laws.proofs.Spelled.{each_explained}

-- one more separator, or one more line end
more_separator : {within : Bool} {at : ℕ} {cs : List ℕ} {line : Option ℕ} (ds : List ℕ) → LinesIn within at cs line →
    Spells within ds s.separates → LinesIn within at (cs ++ ds) line
more_separator {within = within} {at = at} ds no_bytes h = subst (λ x. LinesIn within at x None) (append-nil ds) (separator h no_bytes)
more_separator {within = within} {at = at} ds (separator {cs = cs} {ds = es} {line = line} g l) h =
    subst (λ x. LinesIn within at x line) (sym (append_assoc cs es ds)) (separator g (more_separator ds l h))
more_separator {within = within} {at = at} ds (last_end {cs = cs} {ds = es} g l) h =
    subst (λ x. LinesIn within at x (Some (at + length cs))) (sym (append_assoc cs es ds)) (last_end g (more_separator ds l h))
more_separator {within = within} {at = at} ds (earlier_end {cs = cs} {ds = es} {line = line} g l) h =
    subst (λ x. LinesIn within at x (Some line)) (sym (append_assoc cs es ds)) (earlier_end g (more_separator ds l h))

same_line : {within : Bool} {at : ℕ} {cs : List ℕ} (i j : ℕ) → i ≡ j → LinesIn within at cs (Some i) → LinesIn within at cs (Some j)
same_line {within = within} {at = at} {cs = cs} i j e l = subst (λ x. LinesIn within at cs (Some x)) e l

more_line : {within : Bool} {at : ℕ} {cs : List ℕ} {line : Option ℕ} (ds : List ℕ) → LinesIn within at cs line →
    Spells within ds s.ends_line → LinesIn within at (cs ++ ds) (Some (at + length (cs ++ ds)))
more_line {within = within} {at = at} ds no_bytes h =
    subst (λ x. LinesIn within at x (Some (at + length ds))) (append-nil ds) (last_end h no_bytes)
more_line {within = within} {at = at} ds (separator {cs = cs} {ds = es} g l) h =
    same_line _ _ (omega (arith, length-append cs es, length-append (cs ++ es) ds, length-append es ds))
    (subst (λ x. LinesIn within at x (Some (at + length cs + length (es ++ ds)))) (sym (append_assoc cs es ds))
    (separator g (more_line ds l h)))
more_line {within = within} {at = at} ds (last_end {cs = cs} {ds = es} g l) h =
    same_line _ _ (omega (arith, length-append cs es, length-append (cs ++ es) ds, length-append es ds))
    (subst (λ x. LinesIn within at x (Some (at + length cs + length (es ++ ds)))) (sym (append_assoc cs es ds))
    (earlier_end g (more_line ds l h)))
more_line {within = within} {at = at} ds (earlier_end {cs = cs} {ds = es} g l) h =
    same_line _ _ (omega (arith, length-append cs es, length-append (cs ++ es) ds, length-append es ds))
    (subst (λ x. LinesIn within at x (Some (at + length cs + length (es ++ ds)))) (sym (append_assoc cs es ds))
    (earlier_end g (more_line ds l h)))

-- the bytes since the last token, or the file's first line
record Since (bs : List ℕ) (from : ℕ) (began : Option ℕ) (cursor : Cursor) (rest : List ℕ) : Type 0 where
  gap : List ℕ
  line : Option ℕ
  at : cursor.at ≡ from + length gap
  whole : drop from bs ≡ gap ++ rest
  lines : LinesIn (in_hole cursor) from gap line
  indent : cursor.line ≡ option_map (indent_at bs) (either line began)

begun : (within : Bool) (bs : List ℕ) (x : Next) → piece_at within bs ≡ x → Explains within bs x
begun within bs x h = subst (Explains within bs) h (each_explained within bs)

-- what is behind a piece
left : {within : Bool} {rest : List ℕ} {piece : s.Piece} {count : ℕ} → (b : BeginsWith within rest piece count) → drop count rest ≡ b.behind
left {rest = rest} b = ap (λ i. drop i rest) (sym b.len) ∙ (ap (drop (length b.front)) b.whole ∙ drop-append_seam b.front b.behind)

longer : {within : Bool} {rest : List ℕ} {piece : s.Piece} {count : ℕ} (bs gap : List ℕ) (from : ℕ) → drop from bs ≡ gap ++ rest →
    (b : BeginsWith within rest piece count) → drop from bs ≡ (gap ++ b.front) ++ drop count rest
longer bs gap from e b = e ∙ ap (λ x. gap ++ x) b.whole ∙ sym (append_assoc gap b.front b.behind) ∙
    ap (λ x. (gap ++ b.front) ++ x) (sym (left b))

-- the bytes at the cursor
at_cursor : (bs gap rest : List ℕ) (from at : ℕ) → drop from bs ≡ gap ++ rest → at ≡ from + length gap → drop at bs ≡ rest
at_cursor bs gap rest from at e h =
    ap (λ i. drop i bs) h ∙ sym (drop-drop (length gap) from bs) ∙ ap (drop (length gap)) e ∙ drop-append_seam gap rest

since_separator : {bs rest : List ℕ} {from : ℕ} {began : Option ℕ} {cursor : Cursor} {count : ℕ} → Since bs from began cursor rest →
    BeginsWith (in_hole cursor) rest s.separates count → Since bs from began (past cursor count rest) (drop count rest)
since_separator {bs = bs} {from = from} x b = record {
  gap = x.gap ++ b.front;
  line = x.line;
  at = omega (arith, x.at, b.len, length-append x.gap b.front);
  whole = longer bs x.gap from x.whole b;
  lines = more_separator b.front x.lines b.spelled;
  indent = x.indent;
}

since_line : {bs rest : List ℕ} {from : ℕ} {began : Option ℕ} {cursor : Cursor} {count : ℕ} → Since bs from began cursor rest →
    BeginsWith (in_hole cursor) rest s.ends_line count → Since bs from began (past_line cursor count rest) (drop count rest)
since_line {bs = bs} {rest = rest} {from = from} {cursor = cursor} {count = count} x b =
    let at : cursor.at + count ≡ from + length (x.gap ++ b.front) = omega (arith, x.at, b.len, length-append x.gap b.front) in
    let whole = longer bs x.gap from x.whole b in
    let here : drop (cursor.at + count) bs ≡ drop count rest =
    at_cursor bs (x.gap ++ b.front) (drop count rest) from (cursor.at + count) whole at in
    record {
      gap = x.gap ++ b.front;
      line = Some (from + length (x.gap ++ b.front));
      at = at;
      whole = whole;
      lines = more_line b.front x.lines b.spelled;
      indent = ap (λ y. Some (cursor.at + count, cursor.at + count + run is_blank y)) (sym here) ∙ ap (λ i. Some (indent_at bs i)) at;
    }

since_token : {bs rest : List ℕ} {from : ℕ} {began : Option ℕ} {cursor : Cursor} (kind : TokenKind) (count : ℕ) →
    Since bs from began cursor rest → Since bs (cursor.at + count) None (past_token cursor kind count rest) (drop count rest)
since_token {bs = bs} {rest = rest} {from = from} {cursor = cursor} kind count x = record {
  gap = [];
  line = None;
  at = omega arith;
  whole = sym (drop-drop count cursor.at bs) ∙ ap (drop count) (at_cursor bs x.gap rest from cursor.at x.whole x.at);
  lines = no_bytes;
  indent = refl;
}

indented : {bs rest : List ℕ} {from : ℕ} {began : Option ℕ} {cursor : Cursor} (kind : TokenKind) (count : ℕ) →
    Since bs from began cursor rest → IsIndented bs from began (token cursor kind count)
indented {bs = bs} {rest = rest} {from = from} {cursor = cursor} kind count x =
    let len : cursor.at - from ≡ length x.gap = omega (arith, x.at) in
    let gap : take (cursor.at - from) (drop from bs) ≡ x.gap = ap (λ i. take i (drop from bs)) len ∙ ap (take (length x.gap)) x.whole ∙
    take-append_seam x.gap rest in
    record {
      within = in_hole cursor;
      line = x.line;
      lines = subst (λ y. LinesIn (in_hole cursor) from y x.line) (sym gap) x.lines;
      indent =
          x.indent;
    }

all_indented : {cursor there : Cursor} {rest cs : List ℕ} {ts : List Token} (bs : List ℕ) (from : ℕ) (began : Option ℕ) →
    Cuts cursor rest ts there cs → Since bs from began cursor rest → AllIndented bs from began ts
all_indented bs from began cuts_none x = tt
all_indented {cursor = cursor} {rest = rest} bs from began (cuts_separator {count = count} h r) x =
    all_indented bs from began r (since_separator x (begun (in_hole cursor) rest (n.Separator count) h))
all_indented {cursor = cursor} {rest = rest} bs from began (cuts_line {count = count} h r) x =
    all_indented bs from began r (since_line x (begun (in_hole cursor) rest (n.LineEnd count) h))
all_indented {cursor = cursor} {rest = rest} bs from began (cuts_token {kind = kind} {count = count} h r) x =
    (indented kind count x, all_indented bs (cursor.at + count) None r (since_token kind count x))

pub tokens_indented : TokensIndented
tokens_indented file bs ts x =
    all_indented bs (mark_len bs) (Some (mark_len bs)) x.cut
    (record { gap = []; line = None; at = omega arith; whole = refl; lines = no_bytes; indent = refl })
