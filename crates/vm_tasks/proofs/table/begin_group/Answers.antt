use Rattle.vm_tasks.proofs.Meaning.{begins_group_so}
use Rattle.vm_tasks.proofs.table.begin_group.Goals as goal

pub returns-clause-group : goal.returns-clause-group
returns-clause-group g c = begins_group_so c.args.tree.now c.mark_group.new.tree c.args.id c.args.left c.is_nested.ensures
    c.mark_group.ensures
