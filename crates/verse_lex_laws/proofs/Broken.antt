-- A rule is broken exactly where that is answered.
use Rattle.std.proofs.Common.{◌≡◌, ℕ, suc, ◌+◌, ◌≤◌, ◌==◌, ◌&&◌, Bool, true, false, List, [], ◌∷◌, ◌++◌, Option, Some, None, length, refl}
use Rattle.std.proofs.Common.{sym, ◌∙◌, not, ap, arith, subst, if◌then◌else◌}
use Rattle.std.specs.Prelude.{slice_get}
use Rattle.std.proofs.lemmas.Bool.{and_parts}
use Rattle.verse_base.specs.declared.refusals.Rule.{Rule}
use Rattle.verse_lex.specs.Bytes.{in_line, is_at, letter_at, run}
use Rattle.verse_lex.specs.Words.{look_up}
use Rattle.verse_lex.specs.Marks.{doubles, singles}
use Rattle.verse_lex.specs.Texts.{text_chars, further}
use Rattle.verse_lex.specs.Comments.{closing}
use Rattle.verse_lex.specs.Pieces.{piece_at, common, number, literal, literal_end, literal_escape, in_literal, mark_next, double_mark}
use Rattle.verse_lex.specs.Pieces.{escape_of, comment_next, is_lone_at, breaks_hole}
use Rattle.verse_lex.specs.declared.rules.TheConstants.{UNEXPECTED, TEXT_END, COMMENT_END, CHARACTER}
use Rattle.verse_lex.specs.declared.tokens.Mark.{Mark}
use Rattle.verse_lex.specs.declared.tokens.TokenKind.{TokenKind}
use Rattle.verse_lex.specs.declared.tokens.TokenKind.TheVariants as k
use Rattle.verse_lex.specs.declared.texts.Ending.{Ending}
use Rattle.verse_lex.specs.declared.texts.Ending.TheVariants as e
use Rattle.verse_lex.specs.declared.comments.Close.{Close}
use Rattle.verse_lex.specs.declared.comments.Close.TheVariants as close
use Rattle.verse_lex.specs.declared.pieces.Next.{Next}
use Rattle.verse_lex.specs.declared.pieces.Next.TheVariants as n
use Rattle.verse_lex_laws.specs.Spelling as s
use Rattle.verse_lex_laws.specs.Spelling.{all_pass, Chars, Number, Stops, NoBody, NoLiteral, NoEscape, LongestNumber, MeetsLone, IsStray}
use Rattle.verse_lex_laws.specs.Spelling.{Breaks, Unended, EachBroken, EachUnended, OneBreak}
use Rattle.verse_lex_laws.proofs.Runs.{equal, run_stops, AllRows, in_table}
use Rattle.verse_lex_laws.proofs.Longest.{at_common, chars_end, number_first}
use Rattle.verse_lex_laws.proofs.Parts.{comment_body, comment_lone, meets_lone}
use Rattle.verse_lex_laws.proofs.Spelled.{outcome, NumberAt, number_here, lone_shift}
use Rattle.verse_lex_laws.proofs.Alone.{number_alone}

not_mark : (b c : ℕ) (m : Mark) → look_up singles (b ∷ []) ≡ None → look_up singles (c ∷ []) ≡ Some m → (b == c) ≡ false
not_mark b c m h g = by_test (b == c) refl
  where
    by_test : (v : Bool) → (b == c) ≡ v → (b == c) ≡ false
    by_test false x = x
    by_test true x = let f : None ≡ Some m = sym h ∙ ap (λ y. look_up singles (y ∷ [])) (equal b c x) ∙ g in absurd (cc)

-- the first byte of a mark of two bytes is a mark
abbrev FirstIsMark : List ℕ → Type 0
FirstIsMark [] = Unit {0}
FirstIsMark (b ∷ bs) = look_up singles (b ∷ []) ≡ None → ⊥

double_first : AllRows FirstIsMark doubles
double_first = (λ h. cc, (λ h. cc, (λ h. cc, (λ h. cc, (λ h. cc, (λ h. cc, (λ h. cc, (λ h. cc, (λ h. cc, (λ h. cc, tt))))))))))

no_double : (b c : ℕ) → look_up singles (b ∷ []) ≡ None → look_up doubles (b ∷ c ∷ []) ≡ None
no_double b c h = by_mark (look_up doubles (b ∷ c ∷ [])) refl
  where
    by_mark : (o : Option Mark) → look_up doubles (b ∷ c ∷ []) ≡ o → look_up doubles (b ∷ c ∷ []) ≡ None
    by_mark None x = x
    by_mark (Some m) x = absurd (in_table FirstIsMark doubles (b ∷ c ∷ []) m double_first x h)

stray_mark : (b : ℕ) (bs : List ℕ) → look_up singles (b ∷ []) ≡ None → mark_next (double_mark (b ∷ bs)) (look_up singles (b ∷ [])) ≡
    n.Bad UNEXPECTED 0
stray_mark b [] h = ap (mark_next None) h
stray_mark b (c ∷ bs) h = ap (λ x. mark_next x (look_up singles (b ∷ []))) (no_double b c h) ∙ ap (mark_next None) h

stray_bad : (within : Bool) (b : ℕ) (bs : List ℕ) → IsStray b → piece_at within (b ∷ bs) ≡ n.Bad UNEXPECTED 0
stray_bad within b bs x =
    at_common within b bs x.line_feed x.carriage_return x.comment (not_mark b 60 _ x.mark refl) x.text (not_mark b 123 _ x.mark refl)
    (not_mark b 125 _ x.mark refl)
    ∙ (rw (x.blank, x.letter, x.digit, x.quote) (stray_mark b bs x.mark))

lone_bad : (within : Bool) (bs : List ℕ) → is_lone_at bs 0 ≡ true → piece_at within bs ≡ n.Bad UNEXPECTED 0
lone_bad within [] h = absurd (cc)
lone_bad within (b ∷ bs) h =
    let f = and_parts (b == 13) (not (is_at bs 0 10)) h in
    let here : is_at bs 0 10 ≡ false = not_is (is_at bs 0 10) f.1 in
    subst (λ x. piece_at within (x ∷ bs) ≡ n.Bad UNEXPECTED 0) (sym (equal b 13 f.0)) (by_hole within here)
  where
    not_is : (v : Bool) → not v ≡ true → v ≡ false
    not_is true g = absurd (cc)
    not_is false g = refl

    by_hole : (w : Bool) → is_at bs 0 10 ≡ false → piece_at w (13 ∷ bs) ≡ n.Bad UNEXPECTED 0
    by_hole true g = rw g refl
    by_hole false g = rw g refl

line_bad : (cs ds : List ℕ) → all_pass in_line cs ≡ true → is_lone_at ds 0 ≡ true →
    piece_at false (35 ∷ (cs ++ ds)) ≡ n.Bad UNEXPECTED (1 + length cs)
line_bad cs [] all h = absurd (cc)
line_bad cs (d ∷ ds) all h =
    let f = and_parts (d == 13) (not (is_at ds 0 10)) h in
    let stops : in_line d ≡ false = subst (λ x. in_line x ≡ false) (sym (equal d 13 f.0)) refl in
    let first : all_pass in_line (35 ∷ cs) ≡ true = all in
    let count : run in_line (35 ∷ (cs ++ d ∷ ds)) ≡ length (35 ∷ cs) = run_stops in_line (35 ∷ cs) d ds first stops in
    let lone : is_lone_at (35 ∷ (cs ++ d ∷ ds)) (length (35 ∷ cs)) ≡ true = lone_shift (35 ∷ cs) (d ∷ ds) ∙ h in
    rw (count, lone) (ap (n.Bad UNEXPECTED) (omega arith))

comment_lone_bad : (bs : List ℕ) (count : ℕ) → is_at bs 0 62 ≡ false → MeetsLone bs count →
    piece_at false (60 ∷ 35 ∷ bs) ≡ n.Bad UNEXPECTED (count + 2)
comment_lone_bad bs count h m = rw (h, meets_lone m 0) refl

comment_never : (bs : List ℕ) (x : Close) → closing 1 bs ≡ x → NoBody bs → ((count : ℕ) → MeetsLone bs count → ⊥) →
    closing 1 bs ≡ close.Never
comment_never bs (close.Closed count) h none lone = let b = comment_body bs count h in absurd (none b.front b.behind b.whole b.body)
comment_never bs (close.Lone count) h none lone = absurd (lone count (comment_lone bs count h))
comment_never bs close.Never h none lone = h

comment_bad : (bs : List ℕ) → is_at bs 0 62 ≡ false → NoBody bs → ((count : ℕ) → MeetsLone bs count → ⊥) →
    piece_at false (60 ∷ 35 ∷ bs) ≡ n.Bad COMMENT_END 0
comment_bad bs h none lone = rw (h, comment_never bs (closing 1 bs) refl none lone) refl

-- numbers
same_front : (cs ds front behind : List ℕ) → cs ++ ds ≡ front ++ behind → length cs ≡ length front → (cs ≡ front) × (ds ≡ behind)
same_front [] ds [] behind e h = (refl, e)
same_front [] ds (f ∷ front) behind e h = absurd (omega arith)
same_front (c ∷ cs) ds [] behind e h = absurd (omega arith)
same_front (c ∷ cs) ds (f ∷ front) behind e h =
    let head : c ≡ f = cc in
    let tail : cs ++ ds ≡ front ++ behind = cc in
    let more = same_front cs ds front behind tail (omega arith) in
    (ap (λ x. x ∷ cs) head ∙ ap (λ xs. f ∷ xs) more.0, more.1)

number_at : (cs ds : List ℕ) (kind : TokenKind) (rule : Option Rule) → Number cs kind rule → NumberAt (cs ++ ds) (number (cs ++ ds))
number_at cs ds kind rule (s.digits b bs h all) = number_here b (bs ++ ds) h
number_at cs ds kind rule (s.hex_digits b bs h all) = number_here 48 (120 ∷ b ∷ (bs ++ ds)) refl
number_at cs ds kind rule (s.fraction b c bs es h all g each) = number_here b ((bs ++ 46 ∷ c ∷ es) ++ ds) h

-- the longest number here has one outcome
record OneNumber (within : Bool) (cs ds : List ℕ) (kind : TokenKind) (rule : Option Rule) : Type 0 where
  kind_there : TokenKind
  rule_there : Option Rule
  alone : outcome rule kind false (length cs) ≡ outcome rule_there kind_there false (length cs)
  is : piece_at within (cs ++ ds) ≡ outcome rule_there kind_there (letter_at ds 0) (length cs)

one_number : (within : Bool) (cs ds : List ℕ) (kind : TokenKind) (rule : Option Rule) → Number cs kind rule →
    LongestNumber (cs ++ ds) (length cs) → OneNumber within cs ds kind rule
one_number within cs ds kind rule h longest =
    let x = number_at cs ds kind rule h in
    let reach = x.longest cs ds kind rule refl h in
    let far = longest x.front x.behind x.kind x.rule x.whole x.spelled in
    let same = same_front cs ds x.front x.behind x.whole (omega arith) in
    let there : Number cs x.kind x.rule = subst (λ y. Number y x.kind x.rule) (sym same.0) x.spelled in
    record {
      kind_there = x.kind;
      rule_there = x.rule;
      alone = sym (number_alone within cs kind rule h) ∙ number_alone within cs x.kind x.rule there;
      is = number_first cs kind rule ds within h ∙ x.is ∙ ap (λ y. outcome x.rule x.kind (letter_at y 0) (length x.front)) (sym same.1)
          ∙ ap (λ y. outcome x.rule x.kind (letter_at ds 0) (length y)) (sym same.0);
    }

letter_bad : (within : Bool) (cs ds : List ℕ) (kind : TokenKind) → letter_at ds 0 ≡ true → OneNumber within cs ds kind None →
    piece_at within (cs ++ ds) ≡ n.Bad UNEXPECTED (length cs)
letter_bad within cs ds kind h x = by_rule x.rule_there x.alone x.is
  where
    by_rule : (rule : Option Rule) → n.Token kind (length cs) ≡ outcome rule x.kind_there false (length cs) →
        piece_at within (cs ++ ds) ≡ outcome rule x.kind_there (letter_at ds 0) (length cs) →
        piece_at within (cs ++ ds) ≡ n.Bad UNEXPECTED (length cs)
    by_rule (Some rule) a is = absurd (cc)
    by_rule None a is = is ∙ ap (λ v. outcome None x.kind_there v (length cs)) h

number_bad : (within : Bool) (cs ds : List ℕ) (kind : TokenKind) (rule : Rule) → OneNumber within cs ds kind (Some rule) →
    piece_at within (cs ++ ds) ≡ n.Bad rule 0
number_bad within cs ds kind rule x = by_rule x.rule_there x.alone x.is
  where
    by_rule : (other : Option Rule) → n.Bad rule 0 ≡ outcome other x.kind_there false (length cs) →
        piece_at within (cs ++ ds) ≡ outcome other x.kind_there (letter_at ds 0) (length cs) →
        piece_at within (cs ++ ds) ≡ n.Bad rule 0
    by_rule (Some other) a is = is ∙ sym a
    by_rule None a is = absurd (cc)

-- character literals
at_quote : (within : Bool) (bs : List ℕ) → piece_at within (39 ∷ bs) ≡ literal (39 ∷ bs)
at_quote within bs = at_common within 39 bs refl refl refl refl refl refl refl

end_bad : (bs : List ℕ) (c i : ℕ) → (is_at bs i 39 ≡ true → ⊥) → literal_end bs c i ≡ n.Bad CHARACTER 0
end_bad bs c i h = by_test (is_at bs i 39) refl
  where
    by_test : (v : Bool) → is_at bs i 39 ≡ v → (if v then n.Token (k.Char c) (i + 1) else n.Bad CHARACTER 0) ≡ n.Bad CHARACTER 0
    by_test true g = absurd (h g)
    by_test false g = refl

quote_first : (bs : List ℕ) → is_at bs 0 39 ≡ true → (ds : List ℕ) × (bs ≡ 39 ∷ ds)
quote_first [] h = absurd (cc)
quote_first (b ∷ bs) h = (bs, ap (λ x. x ∷ bs) (equal b 39 h))

escape_bad : (bs : List ℕ) (o : Option ℕ) → escape_of (slice_get bs 0) ≡ o → NoLiteral (39 ∷ 92 ∷ bs) → (NoEscape (92 ∷ bs) → ⊥) →
    literal_escape (39 ∷ 92 ∷ bs) o ≡ n.Bad CHARACTER 0
escape_bad bs None h none good = absurd (good (record { behind = bs; whole = refl; none = h }))
escape_bad [] (Some c) h none good = absurd (cc)
escape_bad (b ∷ bs) (Some c) h none good =
    end_bad (39 ∷ 92 ∷ b ∷ bs) c 3 (λ g. let x = quote_first bs g in
    none (39 ∷ 92 ∷ b ∷ 39 ∷ []) x.0 c (ap (λ y. 39 ∷ 92 ∷ b ∷ y) x.1) (s.literal_escaped h))

literal_bad : (bs : List ℕ) → NoLiteral (39 ∷ bs) → (NoEscape bs → ⊥) → literal (39 ∷ bs) ≡ n.Bad CHARACTER 0
literal_bad [] none good = refl
literal_bad (b ∷ bs) none good = by_backslash (b == 92) refl
  where
    by_plain : (v : Bool) → in_literal b ≡ v → (b == 92) ≡ false → (if v then literal_end (39 ∷ b ∷ bs) b 2 else n.Bad CHARACTER 0) ≡
        n.Bad CHARACTER 0
    by_plain false g f = refl
    by_plain true g f = end_bad (39 ∷ b ∷ bs) b 2 (λ q. let x = quote_first bs q in
        none (39 ∷ b ∷ 39 ∷ []) x.0 b (ap (λ y. 39 ∷ b ∷ y) x.1) (s.literal_plain g f))

    by_backslash : (v : Bool) → (b == 92) ≡ v →
        (if v then literal_escape (39 ∷ b ∷ bs) (escape_of (slice_get bs 0)) else
        (if in_literal b then literal_end (39 ∷ b ∷ bs) b 2 else n.Bad CHARACTER 0)) ≡ n.Bad CHARACTER 0
    by_backslash true g =
        let same = equal b 92 g in
        subst (λ x. literal_escape (39 ∷ x ∷ bs) (escape_of (slice_get bs 0)) ≡ n.Bad CHARACTER 0) (sym same)
        (escape_bad bs (escape_of (slice_get bs 0)) refl (subst (λ x. NoLiteral (39 ∷ x ∷ bs)) same none)
        (subst (λ x. NoEscape (x ∷ bs) → ⊥) same good))
    by_backslash false g = by_plain (in_literal b) refl g

-- texts
stops_is : {ds : List ℕ} {ending : Ending} → Stops ds ending → text_chars ds ≡ ending
stops_is s.quote = refl
stops_is s.hole = refl
stops_is s.brace = refl
stops_is (s.lone {ds = ds} h) = at_lone ds h
  where
    not_is : (v : Bool) → not v ≡ true → v ≡ false
    not_is true g = absurd (cc)
    not_is false g = refl

    at_lone : (cs : List ℕ) → is_lone_at cs 0 ≡ true → text_chars cs ≡ e.Broken UNEXPECTED 0
    at_lone [] g = absurd (cc)
    at_lone (b ∷ cs) g =
        let f = and_parts (b == 13) (not (is_at cs 0 10)) g in
        subst (λ x. text_chars (x ∷ cs) ≡ e.Broken UNEXPECTED 0) (sym (equal b 13 f.0)) (rw (not_is (is_at cs 0 10) f.1) refl)
stops_is (s.no_escape {ds = []} h) = refl
stops_is (s.no_escape {ds = b ∷ ds} h) = rw h refl
stops_is s.file_end = refl
stops_is s.line_end = refl
stops_is s.return_end = refl

text_ends : (cs ms ds : List ℕ) (ending : Ending) → Chars cs ms → Stops ds ending → text_chars (cs ++ ds) ≡ further (length cs) ending
text_ends cs ms ds ending r h = chars_end cs ms ds r ∙ ap (further (length cs)) (stops_is h)

text_bad : (cs ms ds : List ℕ) (rule : Rule) → Chars cs ms → Stops ds (e.Broken rule 0) →
    piece_at false (34 ∷ (cs ++ ds)) ≡ n.Bad rule (1 + length cs)
text_bad cs ms ds rule r h = rw (text_ends cs ms ds (e.Broken rule 0) r h) (ap (n.Bad rule) (omega arith))

part_bad : (cs ms ds : List ℕ) (rule : Rule) → Chars cs ms → Stops ds (e.Broken rule 0) →
    piece_at true (125 ∷ (cs ++ ds)) ≡ n.Bad rule (1 + length cs)
part_bad cs ms ds rule r h = rw (text_ends cs ms ds (e.Broken rule 0) r h) (ap (n.Bad rule) (omega arith))

text_unended : (cs ms ds : List ℕ) → Chars cs ms → Stops ds e.Line → piece_at false (34 ∷ (cs ++ ds)) ≡ n.Bad TEXT_END 0
text_unended cs ms ds r h = rw (text_ends cs ms ds e.Line r h) refl

part_unended : (cs ms ds : List ℕ) → Chars cs ms → Stops ds e.Line → piece_at true (125 ∷ (cs ++ ds)) ≡ n.HoleEnd
part_unended cs ms ds r h = rw (text_ends cs ms ds e.Line r h) refl

pub each_broken : EachBroken
each_broken within bs rule count (s.stray {b = b} {bs = cs} x) = stray_bad within b cs x
each_broken within bs rule count (s.lone_return h) = lone_bad within bs h
each_broken within bs rule count (s.lone_in_line cs ds all h) = line_bad cs ds all h
each_broken within bs rule count (s.lone_in_comment {bs = cs} {count = i} h m) = comment_lone_bad cs i h m
each_broken within bs rule count s.no_comment = refl
each_broken within bs rule count (s.letter_behind {cs = cs} ds {kind = kind} h longest l) =
    letter_bad within cs ds kind l (one_number within cs ds kind None h longest)
each_broken within bs rule count (s.broken_number {cs = cs} ds {kind = kind} h longest) =
    number_bad within cs ds kind rule (one_number within cs ds kind (Some rule) h longest)
each_broken within bs rule count (s.no_literal {bs = cs} none good) = at_quote within cs ∙ literal_bad cs none good
each_broken within bs rule count (s.literal_escape {bs = cs} h) = at_quote within (92 ∷ cs) ∙ (rw h refl)
each_broken within bs rule count (s.broken_text {cs = cs} {ms = ms} {ds = ds} r h) = text_bad cs ms ds rule r h
each_broken within bs rule count (s.broken_part {cs = cs} {ms = ms} {ds = ds} r h) = part_bad cs ms ds rule r h
each_broken within bs rule count (s.unended_text {cs = cs} {ms = ms} {ds = ds} r h) = text_unended cs ms ds r h
each_broken within bs rule count (s.unended_comment {bs = cs} h none lone) = comment_bad cs h none lone

hole_unended : (bs : List ℕ) → is_lone_at bs 0 ≡ false → breaks_hole bs ≡ true → piece_at true bs ≡ n.HoleEnd
hole_unended [] l h = refl
hole_unended (b ∷ bs) l h = by_close (b == 125) refl
  where
    by_close : (v : Bool) → (b == 125) ≡ v → piece_at true (b ∷ bs) ≡ n.HoleEnd
    by_close true g = let f : breaks_hole (125 ∷ bs) ≡ true = subst (λ x. breaks_hole (x ∷ bs) ≡ true) (equal b 125 g) h in absurd (cc)
    by_close false g = rw (g, l, h) refl

pub each_unended : EachUnended
each_unended bs s.no_more = refl
each_unended bs (s.broken_hole l h) = hole_unended bs l h
each_unended bs (s.unended_part {cs = cs} {ms = ms} {ds = ds} r h) = part_unended cs ms ds r h

pub one_break : OneBreak
one_break = record {
  one = λ within bs rule other count offset x y. let e : n.Bad rule count ≡ n.Bad other offset =
      sym (each_broken within bs rule count x) ∙ each_broken within bs other offset y in (cc, cc);
  apart = λ bs rule count x y. let e : n.Bad rule count ≡ n.HoleEnd = sym (each_broken true bs rule count x) ∙ each_unended bs y in cc;
}
