use Rattle.vm_tasks.proofs.Meaning.{branches_so, begins_arm_so}
use Rattle.vm_tasks.proofs.table.begin_part.Goals as goal

pub returns-clause-branch : goal.returns-clause-branch
returns-clause-branch g c = branches_so c.args.tree.now c.add_part.new.tree c.args.parent c.in_ok-id.id c.args.number c.is_nested.ensures
    c.in_ok-id.ensures.begun

pub returns-clause-arm : goal.returns-clause-arm
returns-clause-arm g c = begins_arm_so c.args.tree.now c.add_part.new.tree c.args.parent c.in_ok-id.id c.args.number c.is_nested.ensures
    c.in_ok-id.ensures.begun
