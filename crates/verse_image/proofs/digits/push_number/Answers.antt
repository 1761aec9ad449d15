use Rattle.std.proofs.Common.{arith}
use Rattle.verse_image.specs.Format.{number, Spelled}
use Rattle.verse_image.proofs.WritingLemmas.{writes_as}
use Rattle.verse_image.proofs.digits.push_number.Goals as goal

pub returns : goal.returns
returns c = writes_as (Spelled c.args.value) (number c.args.value) _ _ (λ x z h. (omega arith, h)) c.in_ok-push_unsigned.ensures
