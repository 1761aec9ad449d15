-- With which endings a run is over before a turn, and with which within one.
use Rattle.std.specs.Prelude.{ℕ, ℤ, List}
use Rattle.verse_code.specs.declared.codes.Code.{Code}
use Rattle.verse_value.specs.declared.runs.Ending.{Ending}
use Rattle.verse_value.specs.declared.runs.Ending.TheVariants as ending
use Rattle.verse_meaning_state.specs.State.{State}
use Rattle.verse_meaning_state.specs.Turns.{Stage, going, closed, broken, amiss}
use Rattle.verse_code_machine.specs.Runs.{Forest, mach_after}
use Rattle.verse_code_machine.specs.Goings.{gone_from}

-- before a turn: no task is left, none waits for a moment, the next moment is above the horizon, or
-- no step is left
abbrev pub IsOuter : Ending → Type 0
IsOuter ending.Done = Unit {0}
IsOuter ending.Waiting = Unit {0}
IsOuter ending.Until = Unit {0}
IsOuter ending.Steps = Unit {0}
IsOuter (ending.Error k p) = ⊥
IsOuter ending.Stuck = ⊥

-- within a turn: no step is left, an error, or stuck
abbrev pub IsInner : Ending → Type 0
IsInner ending.Done = ⊥
IsInner ending.Waiting = ⊥
IsInner ending.Until = ⊥
IsInner ending.Steps = Unit {0}
IsInner (ending.Error k p) = Unit {0}
IsInner ending.Stuck = Unit {0}

abbrev pub EndsSo : Stage Forest → Type 0
EndsSo (going s tss) = Unit {0}
EndsSo (closed e s tss) = IsOuter e
EndsSo (broken e s) = IsInner e
EndsSo (amiss s) = Unit {0}

-- every run from inputs
abbrev pub RunsEndSo : Type 0
RunsEndSo = (c : Code) (ns : List ℤ) (steps until k : ℕ) → EndsSo (mach_after c ns steps until k)

-- and every run that goes on from a state between two turns
abbrev pub RunsEndSoFrom : Type 0
RunsEndSoFrom = (c : Code) (steps until k : ℕ) (s : State) (tss : Forest) →
    EndsSo (gone_from c steps until k s tss)
