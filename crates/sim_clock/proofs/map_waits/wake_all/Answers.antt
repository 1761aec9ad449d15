use Rattle.std.proofs.Common.{sym, ◌∙◌}
use Rattle.sim_clock.proofs.Waking.{none_woken, next_left, next_indexed}
use Rattle.sim_clock.proofs.map_waits.wake_all.Goals as goal

pub loop-number-preserved : goal.loop-number-preserved
loop-number-preserved c =
    let indexed = c.loop-number.invariant.indexed in
    record {
      indexed = next_indexed _ c.stir.new.pending _ c.wake.new.self c.args.place c.in-Some.number c.args.wake indexed c.requires.asleep
          c.in-Some.ensures.there c.stir.ensures.entries c.stir.ensures.changed c.stir.ensures.ordered c.wake.ensures.moved;
      left = next_left _ c.stir.new.pending _ c.wake.new.self c.args.place c.in-Some.number c.args.wake indexed c.requires.asleep
          c.in-Some.ensures.there c.stir.ensures.entries c.stir.ensures.changed ∙ c.loop-number.invariant.left;
    }

pub returns : goal.returns
returns c =
    let indexed = c.loop-number.invariant.indexed in
    record {
      woken = sym (none_woken _ _ c.args.place c.args.wake indexed c.requires.asleep (λ n. sym (indexed.placed c.args.place n) ∙
          c.in_default.ensures.none n)) ∙ c.loop-number.invariant.left;
      indexed = indexed;
    }
