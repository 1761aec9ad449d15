use Rattle.std.proofs.Common.{◌∙◌}
use Rattle.note_stretches.specs.Noted.{noted}
use Rattle.note_applied.proofs.Steps.{dropped_next, dropped_none}
use Rattle.note_applied.proofs.applied.dropping.Goals as goal

pub operands-preserved : goal.operands-preserved
operands-preserved c =
    dropped_next c.args.count c.operands._operand (noted c.operands.noting) _ _ c.operands-test.true
    c.in_ok-drop_values.ensures c.operands.invariant

pub returns : goal.returns
returns c =
    c.in_ok-last.ensures
    ∙ dropped_none c.args.count c.operands._operand (noted c.operands.noting) _ c.operands-test.false c.operands.invariant
