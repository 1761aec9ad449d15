use Rattle.vm_return.proofs.Following.{cleared_unguarded, cleared_steps, ended, then_follows, blocks_run}
use Rattle.vm_return.proofs.follows.unwind.Goals as goal

pub run_blocks-requires-clause-unguarded : goal.run_blocks-requires-clause-unguarded
run_blocks-requires-clause-unguarded g c = cleared_unguarded g.W.Waits.pending c.args.id c.args.after _ c.args.tasks.now c.requires

pub run_blocks-requires-clause-steps : goal.run_blocks-requires-clause-steps
run_blocks-requires-clause-steps g c = cleared_steps g.W.Waits.pending c.args.id c.args.after _ c.args.tasks.now c.requires

pub follow-requires : goal.follow-requires
follow-requires g c = ended g.W.Waits.pending c.args.id c.args.after c.run_blocks.result _ _ c.args.tasks.now _ c.in-Down.is
    c.run_blocks.ensures.blocks c.requires

pub returns-in-Down : goal.returns-in-Down
returns-in-Down g c = then_follows g.W.Waits.pending c.follow.result c.args.id c.args.after c.run_blocks.result _ _ _ c.args.tasks.now _ _
    c.in-Down.is c.run_blocks.ensures.blocks c.follow.ensures

pub returns-in_default : goal.returns-in_default
returns-in_default g c = blocks_run g.W.Waits.pending c.args.id c.args.after _ _ _ c.args.tasks.now _ c.in_default.not-Down
    c.run_blocks.ensures.blocks
