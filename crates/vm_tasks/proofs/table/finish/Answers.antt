use Rattle.vm_tasks.proofs.Endings.{ended_so}
use Rattle.vm_tasks.proofs.table.finish.Goals as goal

pub returns-clause-ended : goal.returns-clause-ended
returns-clause-ended g c = ended_so c.args.tree.now c.finish.new.self c.args.id c.is_nested.ensures c.is_nested-2.ensures
    c.finish.ensures.left c.requires.childless
