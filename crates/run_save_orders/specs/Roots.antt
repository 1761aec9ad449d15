-- Runs from trees of tasks with other numbers, where those of tasks without a parent are only kept
-- apart.
use Rattle.std.specs.Prelude.{◌≡◌, ◌<◌, ℕ, List, [], ◌∷◌}
use Rattle.verse_code.specs.declared.codes.Code.{Code}
use Rattle.verse_meaning_state.specs.State.{State}
use Rattle.verse_code_machine.specs.Runs.{Forest}
use Rattle.verse_code_machine_parents.specs.Parents.{TreesRooted}
use Rattle.verse_code_machine_saved.specs.Horizons.{run_from}
use Rattle.verse_code_machine_saved.specs.Numbers.{Numbering, Fixed, trees_as, renumbered, Pairs}
use Rattle.verse_code_machine_saved.specs.Numbers.{Rising, NoneBelow}
use Rattle.verse_code_machine_saved.specs.Pairing.{TreesPaired, Entry, pairs_at, path_at}
use Rattle.verse_code_machine_saved.specs.Pairing.{AreOrdered}
use Rattle.run_save_shots.specs.Lists.{EachTwo}

-- the numbers of tasks without a parent stay apart, and those beneath a task keep their order
pub record Sorts (r : Numbering) : Type 0 where
  pub apart : (n k : ℕ) → r [] n ≡ r [] k → n ≡ k
  pub rises : (i : ℕ) (a : List ℕ) (n k : ℕ) → n < k → r (i ∷ a) n < r (i ∷ a) k

-- both come to the same under two such numberings, which leave numbers to come as they are
pub record SameButRoots (s : State) (tss uss : Forest) : Type 0 where
  pub own : Numbering
  pub other : Numbering
  pub own_sorts : Sorts own
  pub own_fixed : Fixed own s.clock.left
  pub other_sorts : Sorts other
  pub other_fixed : Fixed other s.clock.left
  pub meet : trees_as (renumbered own s) tss ≡ trees_as (renumbered other s) uss

-- from such trees a run is the same
abbrev pub RunSorted : Type 0
RunSorted = (c : Code) (steps until : ℕ) (s : State) (tss uss : Forest) →
    TreesRooted s.clock.left tss → TreesRooted s.clock.left uss → SameButRoots s tss uss →
    run_from c steps until s tss ≡ run_from c steps until s uss

-- no number stands twice, on either side
abbrev pub AreApart : Pairs → Type 0
AreApart = EachTwo (λ p q. (p.0 ≡ q.0 → ⊥) × (p.1 ≡ q.1 → ⊥))

-- trees whose numbers are paired, in one order beneath each task
abbrev pub TreesSorted : Type 0
TreesSorted = (f : List ℕ → Pairs) (first : List ℕ → List ℕ) (s : State) (tss uss : Forest) →
    first [] ≡ [] → AreApart (f []) → ((i : ℕ) (a : List ℕ) → Rising (f (i ∷ a))) →
    ((a : List ℕ) → NoneBelow s.clock.left (f a)) → TreesPaired f first tss uss →
    SameButRoots s tss uss

-- beneath no task the pairs of tasks without a parent
abbrev pub with_roots : Pairs → List Entry → List Entry
with_roots roots es = record { path = []; other = []; pairs = roots } ∷ es

-- and by a table
abbrev pub TableSorts : Type 0
TableSorts = (roots : Pairs) (es : List Entry) (s : State) (tss uss : Forest) → AreApart roots →
    NoneBelow s.clock.left roots → AreOrdered s.clock.left es →
    TreesPaired (pairs_at (with_roots roots es)) (path_at (with_roots roots es)) tss uss →
    SameButRoots s tss uss
