use Rattle.verse_value.specs.View.{val_of}
use Rattle.vm_complete.proofs.RootEnds.{root_live, off_root, over_of, still_off, gives_leaves, main_leaves, main_alone, part_alone}
use Rattle.vm_complete.proofs.roots.root_over.Goals as goal

pub root_of-root-requires : goal.root_of-root-requires
root_of-root-requires g c = root_live g.W.Waits.pending _ _ c.is_nested.ensures c.requires

pub finish-requires-clause-live : goal.finish-requires-clause-live
finish-requires-clause-live g c = root_live g.W.Waits.pending _ _ c.is_nested.ensures c.requires

pub finish-requires-clause-childless : goal.finish-requires-clause-childless
finish-requires-clause-childless g c = c.requires.here.childless

pub give-requires : goal.give-requires
give-requires g c =
    over_of g.W.Waits.pending c.args.tasks.now c.finish.new.tree c.is_nested.ensures c.finish.ensures.ended c.finish.ensures.left
    c.root_of-root.result c.in-Spawned.entry _ c.root_of-root.ensures c.in-Spawned.is c.requires

pub leave_root-requires : goal.leave_root-requires
leave_root-requires g c =
    still_off g.W.Waits.pending c.in-Spawned.entry (val_of c.args.value) _ _ _ c.give.ensures
    (off_root g.W.Waits.pending c.args.tasks.now c.finish.new.tree c.is_nested.ensures c.finish.ensures.ended c.finish.ensures.left _
    c.requires)

pub leave_root-requires-in-Main : goal.leave_root-requires-in-Main
leave_root-requires-in-Main g c = off_root g.W.Waits.pending c.args.tasks.now c.finish.new.tree c.is_nested.ensures c.finish.ensures.ended
    c.finish.ensures.left _ c.requires

pub leave_root-requires-in-Part : goal.leave_root-requires-in-Part
leave_root-requires-in-Part g c = off_root g.W.Waits.pending c.args.tasks.now c.finish.new.tree c.is_nested.ensures c.finish.ensures.ended
    c.finish.ensures.left _ c.requires

pub returns-in-Spawned : goal.returns-in-Spawned
returns-in-Spawned g c =
    gives_leaves g.W.Waits.pending c.args.tasks.now c.finish.new.tree c.is_nested.ensures c.finish.ensures.ended c.finish.ensures.left
    c.leave_root.result c.root_of-root.result c.in-Spawned.entry (val_of c.args.value) _ _ _ _ c.root_of-root.ensures c.in-Spawned.is
    c.give.ensures c.leave_root.ensures

pub returns-in-Main : goal.returns-in-Main
returns-in-Main g c =
    main_leaves g.W.Waits.pending c.args.tasks.now c.finish.new.tree c.is_nested.ensures c.finish.ensures.ended c.finish.ensures.left
    c.leave_root-in-Main.result c.root_of-root.result (val_of c.args.value) _ _ _ c.root_of-root.ensures
    (main_alone c.root_of-root.result c.in-Main.is) c.leave_root-in-Main.ensures

pub returns-in-Part : goal.returns-in-Part
returns-in-Part g c =
    main_leaves g.W.Waits.pending c.args.tasks.now c.finish.new.tree c.is_nested.ensures c.finish.ensures.ended c.finish.ensures.left
    c.leave_root-in-Part.result c.root_of-root.result (val_of c.args.value) _ _ _ c.root_of-root.ensures
    (part_alone c.root_of-root.result c.in-Part.is) c.leave_root-in-Part.ensures
