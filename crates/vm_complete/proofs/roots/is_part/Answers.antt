use Rattle.std.proofs.Common.{ap}
use Rattle.vm_complete.specs.Overs.{is_part}
use Rattle.vm_complete.proofs.RootEnds.{role_there}
use Rattle.vm_complete.proofs.roots.is_part.Goals as goal

pub returns-in-Part : goal.returns-in-Part
returns-in-Part c = λ t at. ap (λ r. is_part r)
    (role_there c.args.id c.args.tree.now t c.root_of.result _ c.root_of.ensures at c.in-Part.is)

pub returns-in-Main : goal.returns-in-Main
returns-in-Main c = λ t at. ap (λ r. is_part r)
    (role_there c.args.id c.args.tree.now t c.root_of.result _ c.root_of.ensures at c.in-Main.is)

pub returns-in-Spawned : goal.returns-in-Spawned
returns-in-Spawned c = λ t at. ap (λ r. is_part r)
    (role_there c.args.id c.args.tree.now t c.root_of.result _ c.root_of.ensures at c.in-Spawned.is)
