-- A cut goes on by one more piece.
use Rattle.std.proofs.Common.{◌≡◌, ℕ, ◌+◌, ◌<◌, ◌≤◌, List, [], ◌∷◌, ◌++◌, length, drop, Bool, true, false, ◌&&◌, if◌then◌else◌, Some, Err}
use Rattle.std.proofs.Common.{refl, sym, ap, ◌∙◌, arith, length-drop}
use Rattle.std.specs.Result.{IsErrOf}
use Rattle.std.specs.Str.{IsUtf8, IsValidUpTo}
use Rattle.verse_base.specs.declared.places.Place.{Place}
use Rattle.verse_base.specs.declared.refusals.Rule.{Rule}
use Rattle.verse_base.specs.declared.refusals.Refusal.{Refusal}
use Rattle.verse_base.specs.declared.refusals.Front.TheVariants as front
use Rattle.verse_lex.specs.Bytes.{is_at}
use Rattle.verse_lex.specs.Pieces.{piece_at}
use Rattle.verse_lex.proofs.Bounds.{at_within}
use Rattle.verse_lex.specs.Cut.{Cuts, cuts_none, cuts_separator, cuts_line, cuts_token, start, body, mark_len, in_hole, past, past_line}
use Rattle.verse_lex.specs.Cut.{past_token, token, opening, place_at, IsRefused, no_text, no_piece, Rise}
use Rattle.verse_lex.specs.declared.tokens.TokenKind.{TokenKind}
use Rattle.verse_lex.specs.declared.tokens.Token.{Token}
use Rattle.verse_lex.specs.declared.pieces.Next.{Next}
use Rattle.verse_lex.specs.declared.pieces.Next.TheVariants as n
use Rattle.verse_lex.specs.declared.rules.TheConstants.{NOT_UTF8, TEXT_END}
use Rattle.verse_lex.specs.declared.cursors.Cursor.{Cursor}

-- the tokens so far
pub record Reached (file : ℕ) (bytes : List ℕ) (tokens : List Token) (here : Cursor) (rest : List ℕ) : Type 0 where
  pub cut : Cuts (start file bytes) (body bytes) tokens here rest
  pub at : here.at + length rest ≡ length bytes
  pub spans : Rise 0 tokens here.at

more_separator : {here there : Cursor} {bs cs : List ℕ} {ts : List Token} (count : ℕ) → Cuts here bs ts there cs →
    piece_at (in_hole there) cs ≡ n.Separator count →
    Cuts here bs ts (past there count cs) (drop count cs)
more_separator count cuts_none h = cuts_separator h cuts_none
more_separator count (cuts_separator g r) h = cuts_separator g (more_separator count r h)
more_separator count (cuts_line g r) h = cuts_line g (more_separator count r h)
more_separator count (cuts_token g r) h = cuts_token g (more_separator count r h)

more_line : {here there : Cursor} {bs cs : List ℕ} {ts : List Token} (count : ℕ) → Cuts here bs ts there cs →
    piece_at (in_hole there) cs ≡ n.LineEnd count →
    Cuts here bs ts (past_line there count cs) (drop count cs)
more_line count cuts_none h = cuts_line h cuts_none
more_line count (cuts_separator g r) h = cuts_separator g (more_line count r h)
more_line count (cuts_line g r) h = cuts_line g (more_line count r h)
more_line count (cuts_token g r) h = cuts_token g (more_line count r h)

more_token : {here there : Cursor} {bs cs : List ℕ} {ts : List Token} (kind : TokenKind) (count : ℕ) → Cuts here bs ts there cs →
    piece_at (in_hole there) cs ≡ n.Token kind count →
    Cuts here bs (ts ++ token there kind count ∷ []) (past_token there kind count cs) (drop count cs)
more_token kind count cuts_none h = cuts_token h cuts_none
more_token kind count (cuts_separator g r) h = cuts_separator g (more_token kind count r h)
more_token kind count (cuts_line g r) h = cuts_line g (more_token kind count r h)
more_token kind count (cuts_token g r) h = cuts_token g (more_token kind count r h)

pub further_on : (from : ℕ) (ts : List Token) (at to : ℕ) → Rise from ts at → at ≤ to → Rise from ts to
further_on from [] at to r h = omega (arith, r, h)
further_on from (t ∷ ts) at to r h = (r.0, r.1, further_on t.end ts at to r.2 h)

one_more : (from : ℕ) (ts : List Token) (at : ℕ) (t : Token) → Rise from ts at → at ≤ t.start → t.start < t.end →
    Rise from (ts ++ t ∷ []) t.end
one_more from [] at t r h g = (omega (arith, r, h), g, omega arith)
one_more from (u ∷ ts) at t r h g = (r.0, r.1, one_more u.end ts at t r.2 h g)

pub mark_within : (bs : List ℕ) → mark_len bs ≤ length bs
mark_within bs = by_mark (is_at bs 0 0xEF) (is_at bs 1 0xBB) (is_at bs 2 0xBF) refl
  where
    by_mark : (u v w : Bool) → is_at bs 2 0xBF ≡ w → (if u && (v && w) then 3 else 0) ≤ length bs
    by_mark true true true e = omega (arith, at_within bs 2 0xBF e)
    by_mark true true false e = omega arith
    by_mark true false w e = omega arith
    by_mark false v w e = omega arith

pub reached_start : (file : ℕ) (bytes : List ℕ) → Reached file bytes [] (start file bytes) (body bytes)
reached_start file bytes = record {
  cut = cuts_none;
  at = omega (arith, length-drop (mark_len bytes) bytes, mark_within bytes);
  spans =
      omega arith;
}

pub reached_separator : (file : ℕ) (bytes : List ℕ) (tokens : List Token) (here : Cursor) (rest : List ℕ) (count : ℕ) →
    Reached file bytes tokens here rest → piece_at (in_hole here) rest ≡ n.Separator count → count ≤ length rest →
    Reached file bytes tokens (past here count rest) (drop count rest)
reached_separator file bytes tokens here rest count r h within = record {
  cut = more_separator count r.cut h;
  at = omega (arith, r.at, length-drop count rest);
  spans = further_on 0 tokens here.at (here.at + count) r.spans (omega arith);
}

pub reached_line : (file : ℕ) (bytes : List ℕ) (tokens : List Token) (here : Cursor) (rest : List ℕ) (count : ℕ) →
    Reached file bytes tokens here rest → piece_at (in_hole here) rest ≡ n.LineEnd count → count ≤ length rest →
    Reached file bytes tokens (past_line here count rest) (drop count rest)
reached_line file bytes tokens here rest count r h within = record {
  cut = more_line count r.cut h;
  at = omega (arith, r.at, length-drop count rest);
  spans = further_on 0 tokens here.at (here.at + count) r.spans (omega arith);
}

pub reached_token : (file : ℕ) (bytes : List ℕ) (tokens : List Token) (here : Cursor) (rest : List ℕ) (kind : TokenKind) (count : ℕ) →
    Reached file bytes tokens here rest → piece_at (in_hole here) rest ≡ n.Token kind count → 0 < count → count ≤ length rest →
    Reached file bytes (tokens ++ token here kind count ∷ []) (past_token here kind count rest) (drop count rest)
reached_token file bytes tokens here rest kind count r h g within = record {
  cut = more_token kind count r.cut h;
  at = omega (arith, r.at, length-drop count rest);
  spans = one_more 0 tokens here.at (token here kind count) r.spans (omega arith) (omega (arith, g));
}

-- what the call answered begins here
pub piece_is : (hole answer : Bool) (rest : List ℕ) (x y : Next) → answer ≡ hole → x ≡ piece_at answer rest → x ≡ y → piece_at hole rest ≡ y
piece_is hole answer rest x y e f g = sym (ap (λ b. piece_at b rest) e) ∙ (sym f ∙ g)

-- a rule is broken behind the pieces so far
pub refused_bad : {T : Type 0} (file : ℕ) (bytes : List ℕ) (tokens : List Token) (here there : Cursor) (rest : List ℕ) (rule : Rule)
    (count : ℕ) (refusal : Refusal) →
    IsUtf8 bytes → Reached file bytes tokens here rest → piece_at (in_hole here) rest ≡ n.Bad rule count → there ≡ past here count rest →
    IsErrOf {T = T} (Err (front.Refused (record { rule = rule; place = there.place }))) (front.Refused refusal) →
    IsRefused file bytes refusal
refused_bad file bytes tokens here there rest rule count refusal u r h e f =
    let g : record { rule = rule; place = there.place } ≡ refusal = cc in
    no_piece u r.cut (rw h (ap Some (ap (λ (x : Cursor). record { rule = rule; place = x.place }) (sym e) ∙ g)))

-- a text is not closed behind the pieces so far
pub refused_hole : {T : Type 0} (file : ℕ) (bytes : List ℕ) (tokens : List Token) (here : Cursor) (rest : List ℕ) (place : Place)
    (refusal : Refusal) →
    IsUtf8 bytes → Reached file bytes tokens here rest → piece_at (in_hole here) rest ≡ n.HoleEnd → place ≡ opening here here.hole →
    IsErrOf {T = T} (Err (front.Refused (record { rule = TEXT_END; place = place }))) (front.Refused refusal) → IsRefused file bytes refusal
refused_hole file bytes tokens here rest place refusal u r h e f =
    let g : record { rule = TEXT_END; place = place } ≡ refusal = cc in
    no_piece u r.cut (rw h (ap Some (ap (λ (x : Place). record { rule = TEXT_END; place = x }) (sym e) ∙ g)))

pub refused_text : {T : Type 0} (file : ℕ) (bytes : List ℕ) (offset : ℕ) (place : Place) (refusal : Refusal) →
    IsValidUpTo bytes offset → place ≡ place_at file bytes offset →
    IsErrOf {T = T} (Err (front.Refused (record { rule = NOT_UTF8; place = place }))) (front.Refused refusal) → IsRefused file bytes refusal
refused_text file bytes offset place refusal v e f =
    let g : record { rule = NOT_UTF8; place = place } ≡ refusal = cc in
    no_text v (sym g ∙ ap (λ (x : Place). record { rule = NOT_UTF8; place = x }) e)
