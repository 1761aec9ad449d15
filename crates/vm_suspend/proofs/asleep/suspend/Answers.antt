use Rattle.std.proofs.Common.{◌≡◌, ◌+◌, suc, ◌∙◌, arith, rules}
use Rattle.vm_scheduler.proofs.Seated.{live_here}
use Rattle.vm_suspend.proofs.Sleeping.{next_above, idle_so, comes_so}
use Rattle.vm_suspend.proofs.asleep.suspend.Goals as goal

pub add-requires : goal.add-requires
add-requires g c = next_above g.W.Waits.pending _ _ c.requires.there c.requires.free

pub set_down-requires : goal.set_down-requires
set_down-requires g c = live_here g.W.Waits.pending _ _ c.is_nested.ensures c.requires.there c.requires.free

pub rest-requires : goal.rest-requires
rest-requires g c =
    let more : c.in-Some.next ≡ c.args.tasks.now.next + 1 = search (rules, arith) in
    let up_one : c.in-Some.next ≡ suc c.args.tasks.now.next = omega (arith, more) in
    idle_so g.W.Waits.pending _ c.args.tasks.now c.args.kind c.set_down.new.tree c.add.new.self c.in-Some.next _ _ c.is_nested.ensures
    c.set_down.ensures.put c.set_down.ensures.down c.replace-thread.ensures.value
    (c.replace-thread.ensures.after ∙ c.empty.ensures) c.in_ok-add.ensures.ok
    up_one c.requires.untold c.requires.free c.requires.there

pub returns : goal.returns
returns g c =
    let more : c.in-Some.next ≡ c.args.tasks.now.next + 1 = search (rules, arith) in
    let up_one : c.in-Some.next ≡ suc c.args.tasks.now.next = omega (arith, more) in
    comes_so g.W.Waits.pending c.rest.result _ _ c.args.tasks.now _ c.args.kind c.set_down.new.tree c.add.new.self c.in-Some.next _ _
    c.is_nested.ensures c.set_down.ensures.put c.set_down.ensures.down c.replace-thread.ensures.value
    (c.replace-thread.ensures.after ∙ c.empty.ensures)
    c.in_ok-add.ensures.ok up_one c.requires.untold c.requires.free c.rest.ensures
