use Rattle.std.proofs.Common.{rules, ◌≡◌, []}
use Rattle.vm_cancel.proofs.All.{none_left, one_gone, not_down, next_unguarded, still_same, steps_still}
use Rattle.vm_cancel.proofs.clears.clear.Goals as goal

pub clear_frames-requires-clause-unguarded : goal.clear_frames-requires-clause-unguarded
clear_frames-requires-clause-unguarded g c =
    (next_unguarded c.tasks.tasks c.in-Some.thread c.pop.new.self c.in-Some.ensures.items c.tasks.invariant.1).1

pub tasks-preserved : goal.tasks-preserved
tasks-preserved g c =
    let down = still_same c.in-Some.thread _ _ _ c.in-Down.is c.clear_frames.ensures in (
      c.tasks.invariant.0,
      (next_unguarded c.tasks.tasks c.in-Some.thread c.pop.new.self c.in-Some.ensures.items c.tasks.invariant.1).0,
      steps_still c.in-Some.thread _ _ down c.tasks.invariant.2,
      λ r u s more. c.tasks.invariant.3 r u s (one_gone _ c.tasks.tasks c.in-Some.thread c.pop.new.self c.in-Some.ensures.items
          c.tasks.invariant.1 r _ u s down more),
    )

pub returns-in_default-clear_frames-clause-blocks : goal.returns-in_default-clear_frames-clause-blocks
returns-in_default-clear_frames-clause-blocks g c =
    c.tasks.invariant.3 _ _ _ (not_down _ c.tasks.tasks c.in-Some.thread c.pop.new.self c.in-Some.ensures.items c.tasks.invariant.1 _ _
    c.in_default-clear_frames.not-Down c.clear_frames.ensures)

pub returns-clause-blocks : goal.returns-clause-blocks
returns-clause-blocks g c =
    let were : c.tasks.tasks.gone.frames.items ≡ [] = search rules in
    let are : c.pop.new.self.items ≡ [] = search rules in
    c.tasks.invariant.3 _ _ _ (none_left _ c.tasks.tasks c.pop.new.self were are)
