-- What a code gains by notes that fulfil the rules.
use Rattle.std.specs.Prelude.{◌≢◌, ℕ, ℤ, List}
use Rattle.verse_code.specs.declared.codes.Code.{Code}
use Rattle.verse_code.specs.Validity.{Valid}
use Rattle.verse_value.specs.declared.runs.Ending.TheVariants as ending
use Rattle.verse_code_machine.specs.Runs.{mach}
use Rattle.verse_verify_kept.specs.Notes.{Notes}
use Rattle.verse_verify_kept.specs.Rules.{Verified}

-- a run of the code is never stuck, for all inputs, bounds and horizons
abbrev pub NeverStuck : Type 0
NeverStuck = (c : Code) (n : Notes) → Valid c → Verified c n → (ns : List ℤ) (steps until : ℕ) →
    (mach c ns steps until).ending ≢ ending.Stuck
