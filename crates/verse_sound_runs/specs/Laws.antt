-- Soundness of types.
use Rattle.std.specs.Prelude.{◌≢◌, ℕ, ℤ, List}
use Rattle.verse_value.specs.declared.runs.Ending.TheVariants as ending
use Rattle.verse_meaning_state.specs.Turns.{Stage, going, closed, broken, amiss}
use Rattle.verse_meaning.specs.Programs.{Program}
use Rattle.verse_meaning.specs.Runs.{Forest, after, mean}
use Rattle.verse_sound_rules.specs.Programs.{FineProgram}
use Rattle.verse_sound_runs.specs.Example.{small}

-- no operand is of a wrong kind, and nothing comes that no sound program comes to
abbrev pub GoesRight : Stage Forest → Type 0
GoesRight (going st fs) = Unit {0}
GoesRight (closed e st fs) = e ≢ ending.Stuck
GoesRight (broken e st) = e ≢ ending.Stuck
GoesRight (amiss st) = ⊥

-- a program for which the checker has found sorts goes right in each turn
abbrev pub TurnsGoRight : Type 0
TurnsGoRight = (p : Program) → FineProgram p → (ns : List ℤ) (steps until k : ℕ) →
    GoesRight (after p ns steps until k)

-- and its run is never stuck, for all inputs, bounds of steps and horizons
abbrev pub NeverStuck : Type 0
NeverStuck = (p : Program) → FineProgram p → (ns : List ℤ) (steps until : ℕ) → (mean p ns steps until).ending ≢ ending.Stuck

-- there is such a program
abbrev pub SmallIsFine : Type 0
SmallIsFine = FineProgram small
