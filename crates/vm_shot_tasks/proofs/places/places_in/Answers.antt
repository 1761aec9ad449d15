-- The next task is none of those so far, and then come those behind it.
use Rattle.std.proofs.Common.{◌≡◌, ◌<◌, Some, subst, sym}
use Rattle.task_tree.specs.Tasks.{after}
use Rattle.vm_shot_tasks.proofs.Standing.{Walk, left_from, is_new, falls, goes_on}
use Rattle.vm_shot_tasks.proofs.places.places_in.Goals as goal

pub add-requires : goal.add-requires
add-requires c =
    is_new c.args.tree.now c.is_nested.ensures c.in-Some.id c.tasks.places
    (subst (λ o. Walk c.args.tree.now o c.tasks.places) c.in-Some.is c.tasks.invariant)

pub tasks-smaller : goal.tasks-smaller
tasks-smaller c =
    let walk = subst (λ o. Walk c.args.tree.now o c.tasks.places) c.in-Some.is c.tasks.invariant in
    let less = falls c.args.tree.now c.is_nested.ensures c.in-Some.id c.tasks.places walk in
    subst (λ o. left_from o c.args.tree.now < left_from c.tasks.next c.args.tree.now) (sym c.after-next.ensures)
    (subst (λ o. left_from (after c.in-Some.id c.args.tree.now) c.args.tree.now < left_from o c.args.tree.now) (sym c.in-Some.is) less)

pub tasks-preserved : goal.tasks-preserved
tasks-preserved c =
    let walk = subst (λ o. Walk c.args.tree.now o c.tasks.places) c.in-Some.is c.tasks.invariant in
    subst (λ o. Walk c.args.tree.now o c.add.new.self) (sym c.after-next.ensures)
    (goes_on c.args.tree.now c.is_nested.ensures c.in-Some.id c.tasks.places walk c.add.new.self c.in_ok-add.ensures)
