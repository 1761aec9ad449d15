-- What a code gains by bytes that pass as notes of it.
use Rattle.std.specs.Prelude.{◌≡◌, ◌≢◌, ℕ, ℤ, List, length, slice_get, Some, None}
use Rattle.verse_code.specs.declared.codes.Func.{Func}
use Rattle.verse_code.specs.declared.codes.Code.{Code}
use Rattle.verse_code.specs.Validity.{Valid}
use Rattle.verse_value.specs.declared.runs.Ending.TheVariants as ending
use Rattle.verse_code_machine.specs.Runs.{mach}
use Rattle.verse_verify_kept.specs.Notes.{FuncNote}
use Rattle.verse_verify_kept.specs.Rules.{Verified}
use Rattle.verse_verify_faults.specs.Spots.{Table, notes_of}
use Rattle.verse_verify_faults.specs.Faults.{notes_fault}
use Rattle.verse_verify_faults.specs.Reading.{verdict}

-- as many notes as the code has classes, functions, parameters and operations: so are those that
-- bytes give
pub record Formed (c : Code) (t : Table) : Type 0 where
  pub classes : length t.classes ≡ length c.classes
  pub functions : length t.functions ≡ length c.functions
  pub params : (k : ℕ) (f : Func) (g : FuncNote) → slice_get c.functions k ≡ Some f →
      slice_get t.functions k ≡ Some g → length g.params ≡ f.params
  pub spots : length t.spots ≡ length c.ops

-- notes that break none of V2 to V9 fulfil the rules
abbrev pub CleanNotes : Type 0
CleanNotes = (c : Code) (t : Table) → Valid c → Formed c t → notes_fault c t ≡ None → Verified c (notes_of t)

-- where bytes break no rule, no run of the code is stuck, for all inputs, bounds and horizons
abbrev pub PassingNotes : Type 0
PassingNotes = (c : Code) (bytes : List ℕ) → Valid c → verdict c bytes ≡ None → (ns : List ℤ) (steps until : ℕ) →
    (mach c ns steps until).ending ≢ ending.Stuck
