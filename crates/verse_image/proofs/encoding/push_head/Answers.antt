use Rattle.verse_image.specs.Format.{plain, byte, number, mark}
use Rattle.verse_image.proofs.WritingLemmas.{writes_four}
use Rattle.verse_image.proofs.encoding.push_head.Goals as goal

pub returns : goal.returns
returns c =
    writes_four (plain mark) (byte c.args.version) (number c.args.files) (number c.args.ops) _ _ _ _ _
    c.in_ok-push_bytes.ensures c.in_ok-push_byte.ensures c.in_ok-push_number.ensures c.in_ok-push_count.ensures
