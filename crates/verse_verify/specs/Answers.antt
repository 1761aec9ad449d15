-- What a verifier answers.
use Rattle.std.specs.Prelude.{◌≡◌, ◌≢◌, ℕ, ℤ, List, Option, Some, None, Result, Ok, Err}
use Rattle.verse_value.specs.declared.runs.Ending.TheVariants as ending
use Rattle.verse_code.specs.declared.codes.Code.{Code}
use Rattle.verse_code_machine.specs.Runs.{mach}
use Rattle.verse_verify.specs.declared.faults.VerifyFault.{VerifyFault}
use Rattle.verse_verify.specs.declared.faults.VerifyFault.TheVariants as f

-- an answer is that of the rules: none is broken, or this one is the first, at this place; nothing
-- is known where memory ran out
abbrev pub Answers : {A : Type 0} → Result A VerifyFault → Option (ℕ × ℕ) → Type 0
Answers (Ok x) broken = broken ≡ None
Answers (Err f.Memory) broken = Unit {0}
Answers (Err (f.Bad rule at)) broken = broken ≡ Some (rule, at)

-- for all inputs, bounds of steps and horizons
abbrev pub NeverStuck : Code → Type 0
NeverStuck c = (ns : List ℤ) (steps until : ℕ) → (mach c ns steps until).ending ≢ ending.Stuck
