use Rattle.verse_image.specs.Format.{number}
use Rattle.verse_image.proofs.WritingLemmas.{writes_three}
use Rattle.verse_image.proofs.pieces.push_place.Goals as goal

pub returns : goal.returns
returns c =
    writes_three (number c.args.value.file) (number c.args.value.line) (number c.args.value.col) _ _ _ _
    c.in_ok-push_number.ensures c.in_ok-push_number-2.ensures c.in_ok-push_number-3.ensures
