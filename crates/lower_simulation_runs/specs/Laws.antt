-- The law of lowering: the code of a program does what the program means.
use Rattle.std.specs.Prelude.{◌≡◌, ℕ, ℤ, List, Bool}
use Rattle.verse_meaning.specs.Programs.{Program}
use Rattle.verse_meaning.specs.Runs.{mean, after, forest_leaves}
use Rattle.verse_code_machine.specs.Tasks.{tree_waits}
use Rattle.verse_code_machine.specs.Runs.{mach, mach_after}
use Rattle.lower_code.specs.Programs.{code_of}
use Rattle.lower_simulation.specs.Seen.{seen_of}
use Rattle.lower_simulation_runs.specs.Programs.{CanBeFollowed}

-- for all inputs and bounds the run of the code is the run that the program means
abbrev pub CodeMeansTheSame : Type 0
CodeMeansTheSame = (p : Program) (differ : ℕ → ℕ → Bool) (files : ℕ) → CanBeFollowed p files →
    (ns : List ℤ) (steps until : ℕ) →
    mach (code_of p differ files) ns steps until ≡ mean p ns steps until

-- and after each number of turns both stand alike: store, trace, steps, moment, next number,
-- results and signals, and the waits that are live, number and cause, in order
abbrev pub TurnsAreTheSame : Type 0
TurnsAreTheSame = (p : Program) (differ : ℕ → ℕ → Bool) (files : ℕ) → CanBeFollowed p files →
    (ns : List ℤ) (steps until k : ℕ) →
    seen_of tree_waits (mach_after (code_of p differ files) ns steps until k) ≡
    seen_of forest_leaves (after p ns steps until k)
