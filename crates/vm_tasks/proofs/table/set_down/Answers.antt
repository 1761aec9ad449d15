use Rattle.vm_tasks.proofs.Meaning.{sets_down_so}
use Rattle.vm_tasks.proofs.table.set_down.Goals as goal

pub returns-clause-down : goal.returns-clause-down
returns-clause-down g c = sets_down_so c.args.tree.now c.put.new.tree c.args.id c.args.held c.is_nested.ensures c.put.ensures
