-- A rule that sticks or leaves toks stops at the first tok with which no whole goes on.
use Rattle.std.proofs.Common.{◌≡◌, ℕ, zero, suc, ◌+◌, ◌-◌, ◌<◌, ◌≤◌, List, [], ◌∷◌, ◌++◌, Some, length, take, ap, subst, arith}
use Rattle.verse_layout.specs.declared.toks.TokKind.{TokKind}
use Rattle.verse_layout.specs.declared.toks.Tok.{Tok}
use Rattle.verse_grammar.specs.Begins.{Whole, IsWhole, is_type, is_phrase, is_program, kinds, Begins}
use Rattle.verse_grammar.specs.Reading.{EatsRule}
use Rattle.verse_grammar.proofs.SpelledLaws.{spelled_eaten, type_eaten, program_eaten}
use Rattle.verse_grammar.specs.Wholes.{rule_of}
use Rattle.verse_grammar.specs.BeginsLaws.{Agree, agree_last, agree_more, StuckStops, LeftStops}
use Rattle.verse_grammar.proofs.Local.{same_rest, not_both, rule_within, sticks_rule_within, stuck_for_good, left_for_good}
use Rattle.verse_grammar.proofs.Completing.{stuck_begins, eaten_begins}

-- every whole is read to its end
pub whole_eaten : {whole : Whole} {ks : List Tok} → IsWhole whole ks → EatsRule (rule_of whole) ks []
whole_eaten (is_type {b = b} {ks = ks} {u = u} h) = type_eaten b ks [] u h
whole_eaten (is_phrase {b = b} {q = q} {ks = ks} {e = e} h) = spelled_eaten b q ks e h
whole_eaten (is_program {b = b} {ks = ks} {is = is} h) = program_eaten b ks is h

heads : {j k : TokKind} {js ks : List TokKind} → j ∷ js ≡ k ∷ ks → k ≡ j
heads e = cc

tails : {j k : TokKind} {js ks : List TokKind} → j ∷ js ≡ k ∷ ks → js ≡ ks
tails e = cc

agree_of : (ks ls : List Tok) (behind : List TokKind) (left n : ℕ) → n + left ≡ length ks → n < length ks →
    kinds ls ≡ kinds (take (suc n) ks) ++ behind → Agree left ks ls
agree_of [] ls behind left n e h i = absurd (omega arith)
agree_of (k ∷ ks) [] behind left zero e h i = absurd (cc)
agree_of (k ∷ ks) [] behind left (suc n) e h i = absurd (cc)
agree_of (k ∷ ks) (l ∷ ls) behind left zero e h i = agree_last (omega arith) (ap Some (heads i))
agree_of (k ∷ ks) (l ∷ ls) behind left (suc n) e h i =
    agree_more (heads i) (agree_of ks ls behind left n (omega arith) (omega arith) (tails i))

-- a whole that the first toks begin, one more than are read, agrees with them
agree_beyond : (whole : Whole) (ks : List Tok) (left : ℕ) → left ≤ length ks → length ks - left < length ks →
    (begun : Begins whole (take (length ks - left + 1) ks)) → Agree left ks begun.all
agree_beyond whole ks left h i begun =
    let e : length ks - left + 1 ≡ suc (length ks - left) = omega arith in
    agree_of ks begun.all begun.behind left (length ks - left) (omega arith) i
    (subst (λ (n : ℕ). kinds begun.all ≡ kinds (take n ks) ++ begun.behind) e begun.begins)

pub stuck_stops : StuckStops
stuck_stops whole ks left x = record {
  before = stuck_begins whole ks left x;
  beyond = λ h begun. stuck_for_good (rule_of whole) ks begun.all left x (agree_beyond whole ks left (sticks_rule_within x) h begun)
      (whole_eaten begun.is_whole);
  ended = λ h whole_is. not_both (whole_eaten whole_is) x;
}

none_left : {k : Tok} {rest : List Tok} → k ∷ rest ≡ [] → ⊥
none_left h = cc

pub left_stops : LeftStops
left_stops whole k ks rest x = record {
  before = eaten_begins whole ks (k ∷ rest) x;
  beyond = λ h begun. left_for_good (rule_of whole) ks begun.all k rest x
      (agree_beyond whole ks (length (k ∷ rest)) (rule_within x) h begun) (whole_eaten begun.is_whole);
  ended = λ h whole_is. none_left (same_rest x (whole_eaten whole_is));
}
