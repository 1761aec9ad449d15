use Rattle.verse_image.specs.Format.{byte, number}
use Rattle.verse_image.proofs.WritingLemmas.{writes_three}
use Rattle.run_save_writer.proofs.keys.push_enum.Goals as goal

pub returns : goal.returns
returns c =
    writes_three (byte c.args.form) (number c.args.of) (number c.args.at) _ _ _ _ c.in_ok-push_byte.ensures c.in_ok-push_number.ensures
    c.in_ok-push_number-2.ensures
