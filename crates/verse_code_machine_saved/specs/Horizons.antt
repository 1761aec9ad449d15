-- What a run that has ended at its horizon is with a later one.
use Rattle.std.specs.Prelude.{◌≡◌, ◌≤◌, ℕ, suc, ℤ, List, [], ◌∷◌, Option, Some, None}
use Rattle.verse_code.specs.declared.codes.Code.{Code}
use Rattle.verse_code.specs.Validity.{Valid}
use Rattle.verse_value.specs.Runs.{Run}
use Rattle.verse_value.specs.declared.runs.Ending.TheVariants as ending
use Rattle.verse_meaning_state.specs.State.{State, Given, Signal}
use Rattle.verse_meaning_state.specs.Waits.{Wait, done, heard, first_signal, nth, given_by, Due}
use Rattle.verse_meaning_state.specs.Turns.{Stage, going, closed, turn, turns, run_of}
use Rattle.verse_code_machine.specs.Tasks.{tree_waits}
use Rattle.verse_code_machine.specs.Runs.{Forest, mach_after, mach, turn_taken}
use Rattle.verse_code_machine.specs.Laws.{IsOver}

-- the run of a code from a state between two turns
abbrev pub after_from : Code → (steps until : ℕ) → State → Forest → Stage Forest
after_from c steps until s tss = turns (turn_taken c steps until) (suc steps) (going s tss)

abbrev pub run_from : Code → (steps until : ℕ) → State → Forest → Run
run_from c steps until s tss = run_of tree_waits (after_from c steps until s tss)

-- the run of so many steps ended at its horizon in this state
abbrev pub Stopped : Code → List ℤ → (steps until : ℕ) → State → Forest → Type 0
Stopped c ns steps until s tss = mach_after c ns steps until (suc steps) ≡ closed ending.Until s tss

-- a run that goes on from where it stood at a horizon is the run to a later one
abbrev pub HorizonMoves : Type 0
HorizonMoves = (c : Code) (ns : List ℤ) (steps u v : ℕ) (s : State) (tss : Forest) → Valid c →
    u ≤ v → Stopped c ns steps u s tss →
    run_from c steps v s tss ≡ mach c ns steps v

-- and so one that had gone on from a state before
abbrev pub HorizonMovesAgain : Type 0
HorizonMovesAgain = (c : Code) (steps u v : ℕ) (s t : State) (tss uss : Forest) → u ≤ v →
    IsOver (after_from c steps v s tss) →
    after_from c steps u s tss ≡ closed ending.Until t uss →
    run_from c steps v t uss ≡ run_from c steps v s tss

-- of no wait of the list is a signal behind it
abbrev pub Unheard : List Signal → List Wait → Type 0
Unheard gs [] = Unit {0}
Unheard gs (w ∷ ws) =
    ((event : ℕ) → w.cause ≡ heard event → first_signal gs event w.number ≡ None) × Unheard gs ws

-- none of them came behind the moment
abbrev pub NoLater : ℕ → List Signal → Type 0
NoLater m [] = Unit {0}
NoLater m (g ∷ gs) = (g.given.moment ≤ m) × NoLater m gs

abbrev pub NoResultLater : ℕ → List (Option Given) → Type 0
NoResultLater m [] = Unit {0}
NoResultLater m (None ∷ rs) = NoResultLater m rs
NoResultLater m (Some g ∷ rs) = (g.moment ≤ m) × NoResultLater m rs

-- none of them was sent behind the wait of the number
abbrev pub NoneNewer : ℕ → List Signal → Type 0
NoneNewer n [] = Unit {0}
NoneNewer n (g ∷ gs) = (g.next ≤ n) × NoneNewer n gs

-- of no wait of the list is the task over
abbrev pub Undone : List (Option Given) → List Wait → Type 0
Undone rs [] = Unit {0}
Undone rs (w ∷ ws) = ((entry : ℕ) → w.cause ≡ done entry → given_by (nth rs entry) ≡ None) ×
    Undone rs ws

-- where a run stopped at its horizon, no signal reaches a wait that is left, and none waits for a
-- task that is over
abbrev pub NoneReached : Type 0
NoneReached = (until : ℕ) (s t : State) (tss uss : Forest) (go : Due → State → Stage Forest) →
    ((d : Due) (s : State) → go d s ≡ closed ending.Until t uss → ⊥) →
    NoLater until s.clock.signals →
    NoResultLater until s.clock.results →
    turn until (tree_waits tss) s tss go ≡ closed ending.Until t uss →
    Unheard s.clock.signals (tree_waits tss) × Undone s.clock.results (tree_waits tss)
