-- The values of a domain, as the meaning and as the locals have them.
use Rattle.std.proofs.Common.{◌≡◌, ℕ, ℤ, zero, suc, [], Option, Some, None, Bool, true, false, cond, refl, sym, subst}
use Rattle.verse_value.specs.Val.{Val, unit, int, Vals, no_vals, more_vals, Pairs, no_pairs, more_pairs, array, mapping}
use Rattle.verse_value.specs.Answer.{fails, given_or}
use Rattle.std.specs.Prelude.{pos, ◌+ℤ◌, int_le, option_map}
use Rattle.std.specs.Ordering.{int_eq}
use Rattle.verse_value.specs.Keys.{key_val}
use Rattle.verse_value.specs.Places as pl
use Rattle.verse_value.specs.Operations.{nth_entry}
use Rattle.verse_meaning.specs.Residuals.{Values, listed, between}
use Rattle.verse_meaning.specs.Forms.{next_value, elements_from, entries_in}
use Rattle.verse_code_machine.specs.Acts.{Taken, ended, takes, unfit, taken_at, taken_from}

-- the elements and entries from a place on
abbrev pub vals_from : ℕ → Vals → Vals
vals_from zero us = us
vals_from (suc i) no_vals = no_vals
vals_from (suc i) (more_vals u us) = vals_from i us

abbrev pub pairs_from : ℕ → Pairs → Pairs
pairs_from zero ps = ps
pairs_from (suc i) no_pairs = no_pairs
pairs_from (suc i) (more_pairs k u ps) = pairs_from i ps

-- the values not yet taken, as the two locals of a domain hold them
pub data Domain : Values → Val → Val → Type 0 where
  of_array : (i : ℕ) (us : Vals) → Domain (listed (elements_from i (vals_from i us))) (array us) (int (pos i))
  of_map : (i : ℕ) (ps : Pairs) → Domain (listed (entries_in (pairs_from i ps))) (mapping ps) (int (pos i))
  of_range : (a b : ℤ) → Domain (between a b) (int a) (int b)
  of_none : (b : ℤ) → Domain (listed []) unit (int b)

-- what the machine takes is the next value
abbrev pub Takes_next : Option ((Val × Val) × Values) → Val → Val → Taken → Type 0
Takes_next None a b ended = Unit {0}
Takes_next None a b (takes u v n x) = ⊥
Takes_next None a b unfit = ⊥
Takes_next (Some x) a b ended = ⊥
Takes_next (Some x) a b (takes u v zero y) = (x.0 ≡ (u, v)) × Domain x.1 y b
Takes_next (Some x) a b (takes u v (suc zero) y) = (x.0 ≡ (u, v)) × Domain x.1 a y
Takes_next (Some x) a b (takes u v (suc (suc n)) y) = ⊥
Takes_next (Some x) a b unfit = ⊥

abbrev first_val : Vals → Option Val
first_val no_vals = None
first_val (more_vals u us) = Some u

abbrev rest_vals : Vals → Vals
rest_vals no_vals = no_vals
rest_vals (more_vals u us) = us

nth_from : (i : ℕ) (us : Vals) → pl.nth us i ≡ first_val (vals_from i us)
nth_from zero no_vals = refl
nth_from zero (more_vals u us) = refl
nth_from (suc i) no_vals = refl
nth_from (suc i) (more_vals u us) = nth_from i us

next_from : (i : ℕ) (us : Vals) → rest_vals (vals_from i us) ≡ vals_from (suc i) us
next_from zero no_vals = refl
next_from zero (more_vals u us) = refl
next_from (suc i) no_vals = refl
next_from (suc i) (more_vals u us) = next_from i us

abbrev first_pair : Pairs → Option (Val × Val)
first_pair no_pairs = None
first_pair (more_pairs k u ps) = Some (u, key_val k)

abbrev rest_pairs : Pairs → Pairs
rest_pairs no_pairs = no_pairs
rest_pairs (more_pairs k u ps) = ps

entry_from : (i : ℕ) (ps : Pairs) → nth_entry ps i ≡ first_pair (pairs_from i ps)
entry_from zero no_pairs = refl
entry_from zero (more_pairs k u ps) = refl
entry_from (suc i) no_pairs = refl
entry_from (suc i) (more_pairs k u ps) = entry_from i ps

later_from : (i : ℕ) (ps : Pairs) → rest_pairs (pairs_from i ps) ≡ pairs_from (suc i) ps
later_from zero no_pairs = refl
later_from zero (more_pairs k u ps) = refl
later_from (suc i) no_pairs = refl
later_from (suc i) (more_pairs k u ps) = later_from i ps

array_next : (i : ℕ) (us vs : Vals) → rest_vals vs ≡ vals_from (suc i) us → Takes_next (next_value (listed (elements_from i vs)))
    (array us) (int (pos i)) (taken_at i (given_or fails (option_map (λ v. (v, int (pos i))) (first_val vs))))
array_next i us no_vals h = tt
array_next i us (more_vals u vs) h = (
  refl,
  subst (λ x. Domain (listed (elements_from (suc i) x)) (array us) (int (pos (suc i)))) (sym h)
      (of_array (suc i) us),
)

map_next : (i : ℕ) (ps qs : Pairs) → rest_pairs qs ≡ pairs_from (suc i) ps →
    Takes_next (next_value (listed (entries_in qs))) (mapping ps) (int (pos i)) (taken_at i (given_or fails (first_pair qs)))
map_next i ps no_pairs h = tt
map_next i ps (more_pairs k u qs) h = (
  refl,
  subst (λ x. Domain (listed (entries_in x)) (mapping ps) (int (pos (suc i)))) (sym h)
      (of_map (suc i) ps),
)

range_next : (a b : ℤ) (le eq : Bool) → Takes_next (cond le (Some ((int a, unit), cond eq (listed []) (between (a +ℤ pos 1) b))) None)
    (int a) (int b) (cond le (takes (int a) unit 0 (cond eq unit (int (a +ℤ pos 1)))) ended)
range_next a b false eq = tt
range_next a b true true = (refl, of_none b)
range_next a b true false = (refl, of_range (a +ℤ pos 1) b)

pub domain_next : (vs : Values) (a b : Val) → Domain vs a b → Takes_next (next_value vs) a b (taken_from a b)
domain_next vs a b (of_array i us) = subst (λ x. Takes_next (next_value (listed (elements_from i (vals_from i us)))) (array us)
    (int (pos i)) (taken_at i (given_or fails (option_map (λ v. (v, int (pos i))) x)))) (sym (nth_from i us))
    (array_next i us (vals_from i us) (next_from i us))
domain_next vs a b (of_map i ps) = subst (λ x. Takes_next (next_value (listed (entries_in (pairs_from i ps)))) (mapping ps) (int (pos i))
    (taken_at i (given_or fails x))) (sym (entry_from i ps)) (map_next i ps (pairs_from i ps) (later_from i ps))
domain_next vs a b (of_range x y) = range_next x y (int_le x y) (int_eq x y)
domain_next vs a b (of_none y) = tt
