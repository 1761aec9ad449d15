use Rattle.std.proofs.Common.{refl}
use Rattle.sim_clock_tests.proofs.Above.{above_added}
use Rattle.sim_clock_tests.proofs.numbered.Numbered.add.Goals as goal

pub invariant_of-self-2 : goal.invariant_of-self-2
invariant_of-self-2 g c = record {
  above =
      rw (c.in_ok-add.ensures.ok, c.in-Some.ensures.1)
      (above_added c.args.self.now.next (g.W.Waits.pending c.args.self.now.waits)
      (record { number = c.args.self.now.next; task = c.saturating_add-task.result; kind = c.args.kind }) refl c.args.self.now.above);
}
