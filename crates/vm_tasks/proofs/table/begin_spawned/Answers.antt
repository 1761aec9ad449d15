use Rattle.vm_tasks.proofs.Meaning.{spawns_so}
use Rattle.vm_tasks.proofs.table.begin_spawned.Goals as goal

pub returns-clause-spawned : goal.returns-clause-spawned
returns-clause-spawned g c = spawns_so c.args.tree.now c.begin_root.new.tree c.in_ok-id.id c.args.number c.args.entry
    c.in_ok-id.ensures.begun
