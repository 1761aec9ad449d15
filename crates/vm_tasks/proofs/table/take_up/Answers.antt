use Rattle.vm_tasks.proofs.Endings.{wakes_so}
use Rattle.vm_tasks.proofs.table.take_up.Goals as goal

pub returns-clause-wakes : goal.returns-clause-wakes
returns-clause-wakes g c = wakes_so c.args.tree.now c.take.new.tree c.args.id c.take.result c.is_nested.ensures c.take.ensures.taken
    c.take.ensures.value
