-- The array of the inputs of a run is neither too heavy nor too deep.
use Rattle.std.proofs.Common.{◌≡◌, ◌≤◌, ◌+◌, ℕ, List, [], ◌∷◌, length, map, true, refl, arith}
use Rattle.std.specs.Prelude.{ℤ, nat_le, max}
use Rattle.std.proofs.lemmas.Bool.Decides.{nat_tests}
use Rattle.std.proofs.lemmas.Bool.{and_from}
use Rattle.verse_value.specs.Val.{int, vals}
use Rattle.verse_value.specs.Sizes.{weights, most_levels}
use Rattle.run_save_premises.specs.Inputs.{FewInputsFit}

weight_is : (ns : List ℤ) → weights (vals (map int ns)) ≡ length ns
weight_is [] = refl
weight_is (n ∷ ns) = let a = weight_is ns in omega (arith, a)

levels_are : (ns : List ℤ) → most_levels (vals (map int ns)) ≤ 1
levels_are [] = omega arith
levels_are (n ∷ ns) = most 1 (most_levels (vals (map int ns))) (omega arith) (levels_are ns)
  where
    most : (a b : ℕ) → a ≤ 1 → b ≤ 1 → max a b ≤ 1
    most a b e f = grind (arith, e, f)

light : (w n : ℕ) → w ≡ n → n ≤ 1000 → nat_le (1 + w) 4000000 ≡ true
light w n e f = grind (arith, nat_tests, e, f)

flat : (l : ℕ) → l ≤ 1 → nat_le (1 + l) 200 ≡ true
flat l e = grind (arith, nat_tests, e)

pub few_inputs_fit : FewInputsFit
few_inputs_fit ns few = and_from (nat_le (1 + weights (vals (map int ns))) 4000000) (nat_le (1 + most_levels (vals (map int ns))) 200)
    (light (weights (vals (map int ns))) (length ns) (weight_is ns) few) (flat (most_levels (vals (map int ns))) (levels_are ns))
