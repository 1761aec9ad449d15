use Rattle.verse_image.specs.Format.{operand}
use Rattle.verse_image.proofs.WritingLemmas.{writes_three, writes_four}
use Rattle.verse_image.proofs.pieces.push_operands.Goals as goal

pub returns-in_ok-push_operand-in-Three-3 : goal.returns-in_ok-push_operand-in-Three-3
returns-in_ok-push_operand-in-Three-3 c =
    rw c.in-Three.is (writes_three (operand c.in-Three.a) (operand c.in-Three.b) (operand c.in-Three.c) _ _ _ _
    c.in_ok-push_operand-in-Three.ensures c.in_ok-push_operand-in-Three-2.ensures c.in_ok-push_operand-in-Three-3.ensures)

pub returns-in_ok-push_operand-in-Four-4 : goal.returns-in_ok-push_operand-in-Four-4
returns-in_ok-push_operand-in-Four-4 c =
    rw c.in-Four.is (writes_four (operand c.in-Four.a) (operand c.in-Four.b) (operand c.in-Four.c) (operand c.in-Four.d) _ _ _ _ _
    c.in_ok-push_operand-in-Four.ensures c.in_ok-push_operand-in-Four-2.ensures c.in_ok-push_operand-in-Four-3.ensures
    c.in_ok-push_operand-in-Four-4.ensures)
