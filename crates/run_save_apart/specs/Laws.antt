-- No two tasks of a run have one number.
use Rattle.std.specs.Prelude.{ℕ, ℤ, List}
use Rattle.verse_code.specs.declared.codes.Code.{Code}
use Rattle.verse_code.specs.Validity.{Valid}
use Rattle.verse_meaning_state.specs.State.{State}
use Rattle.verse_meaning_state.specs.Turns.{Stage, going, closed, broken, amiss, turns}
use Rattle.verse_code_machine.specs.Runs.{Forest, mach_after, turn_taken}
use Rattle.verse_code_machine_parents.specs.Parents.{TreesRooted}
use Rattle.run_save_moves.specs.Fine.{TextsAreBytes}
use Rattle.run_save_apart.specs.Numbers.{NumbersApart}

abbrev pub StageIsApart : Stage Forest → Type 0
StageIsApart (going s tss) = NumbersApart tss
StageIsApart (closed e s tss) = NumbersApart tss
StageIsApart (broken e s) = Unit {0}
StageIsApart (amiss s) = Unit {0}

-- in every state of a run between two turns
abbrev pub RunIsApart : Type 0
RunIsApart = (c : Code) (ns : List ℤ) (steps until k : ℕ) → Valid c → TextsAreBytes c →
    StageIsApart (mach_after c ns steps until k)

-- and of one that goes on from such a state, where no task has a number below the steps left
abbrev pub ApartGoesOn : Type 0
ApartGoesOn = (c : Code) (steps until k : ℕ) (s : State) (tss : Forest) → Valid c →
    TextsAreBytes c → TreesRooted s.clock.left tss → NumbersApart tss →
    StageIsApart (turns (turn_taken c steps until) k (going s tss))
