-- What an answer tells.
use Rattle.std.proofs.Common.{◌≡◌, ℕ, length, ◌-◌, subst, sym, ap, ◌∙◌}
use Rattle.std.specs.Prelude.{List, Option, Some, None, Result, Ok, Err, OnOk}
use Rattle.verse_code.specs.declared.codes.Code.{Code}
use Rattle.verse_image.specs.declared.faults.Flaw.{Flaw}
use Rattle.verse_verify_faults.specs.Spots.{Table}
use Rattle.verse_verify_faults.specs.Faults.{notes_fault}
use Rattle.verse_verify_faults.specs.Reading.{notes_at, fault_in, verdict}
use Rattle.verse_verify.specs.declared.faults.VerifyFault.{VerifyFault}
use Rattle.verse_verify.specs.declared.faults.VerifyFault.TheVariants as f
use Rattle.verse_verify.specs.Answers.{Answers}

-- what follows where no rule is broken holds of a code that is accepted
pub if_none : {A P : Type 0} (r : Result A VerifyFault) (broken : Option (ℕ × ℕ)) → Answers r broken → (broken ≡ None → P) → OnOk r P
if_none (Ok x) broken a go = go a
if_none (Err f.Memory) broken a go = tt
if_none (Err (f.Bad rule at)) broken a go = tt

-- of bytes that are read as notes, and of others
pub read_so : (c : Code) (bytes : List ℕ) (t : Table) → notes_at c bytes ≡ Ok t → notes_fault c t ≡ verdict c bytes
read_so c bytes t e = sym (ap (fault_in c (length bytes)) e)

pub not_read : (c : Code) (bytes : List ℕ) (f : Flaw) → notes_at c bytes ≡ Err f → verdict c bytes ≡ Some (1, length bytes - f.left)
not_read c bytes f e = ap (fault_in c (length bytes)) e
