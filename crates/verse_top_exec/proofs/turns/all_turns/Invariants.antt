-- The machine stands after so many calls, and their lines are written.
use Rattle.std.proofs.Common.{◌≡◌, ◌≤◌, []}
use Rattle.vm_run.specs.Standing.{Belongs}
use Rattle.verse_top_exec.specs.Courses.{Course}
use Rattle.verse_top_exec.specs.Turns.{Reached, StandsAt}
use Rattle.verse_top_exec.proofs.turns.all_turns.Given as goal

abbrev pub invariant-turns : goal.invariant-turns
invariant-turns g l =
    Belongs g.H.Heap.state g.W.Waits.pending l.code l.vm
    × ((w : Course) → w.steps ≡ l.steps → StandsAt g.H.Heap.state g.W.Waits.pending l.code w 0 [] l.fn.vm
    → Reached g.H.Heap.state g.W.Waits.pending l.code w l._turn (g.S.Sink.taken l.fn.out) (g.S.Sink.taken l.out) l.vm)
    × (g.S.Sink.faults l.fn.out ≤ g.S.Sink.faults l.out)
