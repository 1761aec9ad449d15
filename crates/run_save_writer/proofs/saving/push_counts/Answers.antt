use Rattle.run_save_format.specs.Format.{wide}
use Rattle.run_save_writer.proofs.WholeRuns.{writes_six}
use Rattle.run_save_writer.proofs.saving.push_counts.Goals as goal

pub returns : goal.returns
returns c =
    writes_six (wide c.args.shot.now.left) (wide c.args.shot.now.spent) (wide c.args.shot.now.now) (wide c.args.shot.now.next)
    (wide c.args.shot.now.bytes) (wide c.args.shot.now.lines) _ _ _ _ _ _ _ c.in_ok-push_wide.ensures c.in_ok-push_wide-2.ensures
    c.in_ok-push_wide-3.ensures c.in_ok-push_wide-4.ensures c.in_ok-push_wide-5.ensures c.in_ok-push_wide-6.ensures
