use Rattle.std.proofs.Common.{◌≡◌, Result, Ok, Err, arith, sym, ◌∙◌}
use Rattle.verse_code.specs.declared.codes.Code.{Code}
use Rattle.verse_image.specs.declared.faults.Flaw.{Flaw}
use Rattle.verse_image.specs.Reading.{image_at}
use Rattle.verse_image.proofs.ImageLaws.{image_take, image_again}
use Rattle.verse_image.proofs.Fronts.{none_before}
use Rattle.verse_image.proofs.decoding.decode.Goals as goal

abbrev fine : Code → Result Code Flaw
fine code = Ok code

pub returns-in-Ok-clause-found : goal.returns-in-Ok-clause-found
returns-in-Ok-clause-found c = image_take c.args.bytes.now c.in-Ok.code (λ i. omega (arith, c.type_inv.bytes i)) c.in-Ok.ensures

pub returns-in-Ok-clause-only : goal.returns-in-Ok-clause-only
returns-in-Ok-clause-only c = λ version code i. sym (image_again version code c.args.bytes.now i) ∙ c.in-Ok.ensures

-- an answer is not a fault as well
not_both : (r : Result Code Flaw) (code : Code) (f : Flaw) → r ≡ Ok code → r ≡ Err f → ⊥
not_both r code f h k = let e : fine code ≡ Err f = sym h ∙ k in cc

pub returns-in-Err-Bad-clause-only : goal.returns-in-Err-Bad-clause-only
returns-in-Err-Bad-clause-only c = λ version code i.
    absurd (not_both (image_at c.args.bytes.now) code c.in-Err-Bad.flaw (image_again version code c.args.bytes.now i)
    (rw c.in-Err-Bad.field-0-is at c.in-Err-Bad.ensures))

pub returns-in-Err-Bad-clause-exact : goal.returns-in-Err-Bad-clause-exact
returns-in-Err-Bad-clause-exact c = (c.in-Err-Bad.flaw.left, rw c.in-Err-Bad.field-0-is at c.in-Err-Bad.ensures, c.saturating_sub.ensures)

pub returns-in-Err-Bad-clause-before : goal.returns-in-Err-Bad-clause-before
returns-in-Err-Bad-clause-before c = none_before c.args.bytes.now c.in-Err-Bad.flaw c.saturating_sub.result
    (rw c.in-Err-Bad.field-0-is at c.in-Err-Bad.ensures) c.saturating_sub.ensures
