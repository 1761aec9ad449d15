-- What is read is listed so, and the other way round.
use Rattle.std.proofs.Common.{◌≡◌, Result, Ok, Err, sym, ◌∙◌}
use Rattle.verse_code.specs.declared.codes.Code.{Code}
use Rattle.verse_listing.specs.declared.faults.Flaw.{Flaw}
use Rattle.verse_listing.specs.Reading.{listing_at}
use Rattle.verse_listing.proofs.StageLaws.{listing_is}
use Rattle.verse_listing.proofs.StageAgain.{listing_again}
use Rattle.verse_listing.proofs.Fronts.{none_before}
use Rattle.verse_listing.proofs.assembling.assemble.Goals as goal

abbrev fine : Code → Result Code Flaw
fine code = Ok code

pub returns-in-Ok-clause-found : goal.returns-in-Ok-clause-found
returns-in-Ok-clause-found c = listing_is c.args.bytes.now c.in-Ok.code c.in-Ok.ensures

pub returns-in-Ok-clause-only : goal.returns-in-Ok-clause-only
returns-in-Ok-clause-only c = λ code i. sym (listing_again code c.args.bytes.now i) ∙ c.in-Ok.ensures

-- an answer is not a fault as well
not_both : (r : Result Code Flaw) (code : Code) (f : Flaw) → r ≡ Ok code → r ≡ Err f → ⊥
not_both r code f h k = let e : fine code ≡ Err f = sym h ∙ k in cc

pub returns-in-Err-Bad-clause-only : goal.returns-in-Err-Bad-clause-only
returns-in-Err-Bad-clause-only c = λ code i.
    absurd (not_both (listing_at c.args.bytes.now) code c.in-Err-Bad.flaw (listing_again code c.args.bytes.now i)
    (rw c.in-Err-Bad.field-0-is at c.in-Err-Bad.ensures))

pub returns-in-Err-Bad-clause-exact : goal.returns-in-Err-Bad-clause-exact
returns-in-Err-Bad-clause-exact c = rw c.in-Err-Bad.field-0-is at c.in-Err-Bad.ensures

pub returns-in-Err-Bad-clause-before : goal.returns-in-Err-Bad-clause-before
returns-in-Err-Bad-clause-before c = λ front behind n split line are.
    none_before c.args.bytes.now c.in-Err-Bad.flaw (rw c.in-Err-Bad.field-0-is at c.in-Err-Bad.ensures) front behind n split line are
