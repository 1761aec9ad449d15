-- The next number stays above those of all waits.
use Rattle.std.proofs.Common.{◌≡◌, ℕ, ltb, eqb, ◌<◌, ◌+◌, Bool, true, false, IsTrue, ◌&&◌, if◌then◌else◌, List, [], ◌∷◌, ◌++◌, map, refl}
use Rattle.std.proofs.Common.{ap, arith}
use mathlib.Core.Bool.{false≢true}
use Rattle.std.proofs.lemmas.Bool.Decides.{nat_tests}
use Rattle.sim_clock.specs.declared.waits.Wait.{Wait}
use Rattle.sim_clock.specs.declared.waits.Wake.{Wake}
use Rattle.sim_clock.specs.declared.waits.WaitKind.{WaitKind}
use Rattle.sim_clock.specs.declared.waits.Pending.{Pending}
use Rattle.sim_clock.specs.Pending.{IsAboveAll, added, given, removed, woken, woken_one, waits_alike}
use Rattle.sim_clock_tests.specs.Above.{is_above_all}

split : (a b : Bool) → IsTrue (a && b) → IsTrue a × IsTrue b
split true b h = (refl, h)
split false b h = absurd (false≢true h)

pub above_all : (n : ℕ) (ps : List Pending) → IsTrue (is_above_all n ps) → IsAboveAll n ps
above_all n [] h = tt
above_all n (p ∷ ps) h =
    let both = split (ltb p.wait.number n) (is_above_all n ps) h in
    let below : p.wait.number < n = let first = both.0 in grind (arith, nat_tests) in
    (below, above_all n ps both.1)

pub above_added : (n : ℕ) (ps : List Pending) (wait : Wait) → wait.number ≡ n → IsTrue (is_above_all n ps) →
    IsTrue (is_above_all (n + 1) (added ps wait))
above_added n [] wait same h = grind (arith, nat_tests)
above_added n (p ∷ ps) wait same h = let rest : IsTrue (is_above_all n ps) → IsTrue (is_above_all (n + 1) (added ps wait)) =
    above_added n ps wait same in grind (arith, nat_tests, rest)

pub above_removed : (n k : ℕ) (ps : List Pending) → IsTrue (is_above_all n ps) → IsTrue (is_above_all n (removed k ps))
above_removed n k [] h = h
above_removed n k (p ∷ ps) h = let rest : IsTrue (is_above_all n ps) → IsTrue (is_above_all n (removed k ps)) = above_removed n k ps in
    grind (arith, nat_tests, rest)

pub above_woken : (n : ℕ) (kind : WaitKind) (wake : Wake) (ps : List Pending) → IsTrue (is_above_all n ps) →
    IsTrue (is_above_all n (woken kind wake ps))
above_woken n kind wake [] h = h
above_woken n kind wake (p ∷ ps) h = let rest : IsTrue (is_above_all n ps) → IsTrue (is_above_all n (woken kind wake ps)) =
    above_woken n kind wake ps in grind (arith, nat_tests, rest)
