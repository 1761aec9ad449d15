use Rattle.std.proofs.Common.{◌≡◌, [], rules}
use Rattle.vm_running.specs.Runners.{view_of}
use Rattle.vm_suspend.proofs.Above.{above_of, still_idle, one_up, goes_on, fewer, turn_ends}
use Rattle.vm_suspend.proofs.idle.rest.Goals as goal

pub go_up-requires : goal.go_up-requires
go_up-requires g c = above_of g.W.Waits.pending _ c.above.tasks c.in-Some.up c.pop.new.self c.in-Some.ensures.items c.above.invariant.0

pub above-smaller : goal.above-smaller
above-smaller g c = fewer g.W.Waits.pending (view_of g.H.Heap.state c.above.run) c.above.tasks c.in-Some.up c.pop.new.self
    c.in-Some.ensures.items c.go_up.new.tasks (c.in_ok-went.ensures.above c.in-Down.is)

pub above-preserved : goal.above-preserved
above-preserved g c = (
  still_idle g.W.Waits.pending _ c.above.tasks c.in-Some.up c.pop.new.self c.in-Some.ensures.items _ _ _ c.in-Down.is
      c.in_ok-went.ensures.goes c.above.invariant.0,
  λ r u s more. c.above.invariant.1 r u s (one_up g.W.Waits.pending _ c.above.tasks c.in-Some.up c.pop.new.self c.in-Some.ensures.items _ _
      _ r u s c.in-Down.is c.in_ok-went.ensures.goes more),
)

pub returns-in_default-2 : goal.returns-in_default-2
returns-in_default-2 g c = c.above.invariant.1 _ _ _
    (goes_on g.W.Waits.pending _ c.above.tasks c.in-Some.up c.pop.new.self c.in-Some.ensures.items _ _ _ c.in_default-2.not-Down
    c.in_ok-went.ensures.goes)

pub returns : goal.returns
returns g c =
    let none : c.above.tasks.ups.items ≡ [] = search rules in
    let still : c.pop.new.self.items ≡ [] = search rules in
    c.above.invariant.1 _ _ _ (turn_ends g.W.Waits.pending _ c.above.tasks c.pop.new.self none still)
