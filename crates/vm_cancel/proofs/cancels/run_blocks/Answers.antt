use Rattle.vm_cancel.proofs.Cancelling.{blocks_run}
use Rattle.vm_cancel.proofs.cancels.run_blocks.Goals as goal

pub returns-clause-blocks : goal.returns-clause-blocks
returns-clause-blocks g c = blocks_run g.W.Waits.pending _ _ _ _ _ _ _ c.clear.ensures.blocks
