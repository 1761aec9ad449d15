use Rattle.std.proofs.Common.{arith}
use Rattle.verse_image.specs.Format.{Spelled}
use Rattle.verse_image.proofs.WritingLemmas.{writes_as}
use Rattle.run_save_format.specs.Format.{wide}
use Rattle.run_save_writer.proofs.numbers.push_wide.Goals as goal

pub returns : goal.returns
returns c = writes_as (Spelled c.args.value) (wide c.args.value) _ _ (λ x z h. (omega arith, h)) c.in_ok-push_unsigned.ensures
