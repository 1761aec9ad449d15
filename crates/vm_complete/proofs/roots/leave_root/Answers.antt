use Rattle.std.proofs.Common.{◌≡◌, [], rules}
use Rattle.vm_complete.proofs.RootEnds.{gone_root, leaves_up, leaves_none}
use Rattle.vm_complete.proofs.roots.leave_root.Goals as goal

pub root_gone-requires : goal.root_gone-requires
root_gone-requires g c = gone_root g.W.Waits.pending c.args.tasks.now c.pop.new.self c.in-Some.up _ c.in-Some.ensures.items c.requires

pub returns-in-Some : goal.returns-in-Some
returns-in-Some g c = leaves_up g.W.Waits.pending c.args.tasks.now c.pop.new.self c.root_gone.result c.in-Some.up _ _ _
    c.in-Some.ensures.items c.root_gone.ensures

pub returns-in-None : goal.returns-in-None
returns-in-None g c =
    let none : c.args.tasks.now.ups.items ≡ [] = search rules in
    let left : c.pop.new.self.items ≡ [] = search rules in
    leaves_none g.W.Waits.pending c.args.tasks.now c.pop.new.self _ none left
