-- What holds of every run.
use Rattle.std.specs.Prelude.{◌≡◌, ℕ, suc, ◌+◌, ℤ, List}
use Rattle.verse_code.specs.declared.codes.Code.{Code}
use Rattle.verse_code.specs.Validity.{Valid}
use Rattle.verse_meaning_state.specs.Turns.{Stage, going, closed, broken, amiss}
use Rattle.verse_code_machine.specs.Runs.{Forest, mach_after}

-- it stands between two turns, or has ended: operations were never cut off
abbrev pub IsWhole : Stage Forest → Type 0
IsWhole (going s tss) = Unit {0}
IsWhole (closed e s tss) = Unit {0}
IsWhole (broken e s) = Unit {0}
IsWhole (amiss s) = ⊥

abbrev pub IsOver : Stage Forest → Type 0
IsOver (going s tss) = ⊥
IsOver (closed e s tss) = Unit {0}
IsOver (broken e s) = Unit {0}
IsOver (amiss s) = ⊥

-- the operations of each turn come to an end, and the run does
pub record RunEnds (c : Code) (ns : List ℤ) (steps until : ℕ) : Type 0 where
  pub whole : (k : ℕ) → IsWhole (mach_after c ns steps until k)
  pub over : IsOver (mach_after c ns steps until (suc steps))

abbrev pub RunsEnd : Type 0
RunsEnd = (c : Code) (ns : List ℤ) (steps until : ℕ) → Valid c → RunEnds c ns steps until

-- a run that is over stays over
abbrev pub StaysOver : Type 0
StaysOver = (c : Code) (ns : List ℤ) (steps until k j : ℕ) →
    IsOver (mach_after c ns steps until k) →
    mach_after c ns steps until (k + j) ≡ mach_after c ns steps until k
