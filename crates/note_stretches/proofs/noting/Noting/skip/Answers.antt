use Rattle.note_stretches.specs.Noted.{noted}
use Rattle.note_stretches.proofs.Steps.{skip_next, skip_done}
use Rattle.note_stretches.proofs.noting.Noting.skip.Goals as goal

pub skipped-preserved : goal.skipped-preserved
skipped-preserved c =
    skip_next c.args.count c.skipped._operation (noted c.skipped.self) _ _ c.skipped-test.true
    c.in_ok-skip_one.ensures c.skipped.invariant

pub returns : goal.returns
returns c =
    skip_done c.args.count c.skipped._operation (noted c.skipped.self) _ c.skipped-test.false c.skipped.invariant
