use Rattle.std.proofs.Common.{arith, None}
use Rattle.run_save_whole.proofs.TaskSteps.{as_long, counts_long, stops, goes_on, few_frames}
use Rattle.run_save_whole.proofs.tasks.first_wrong.Goals as goal

pub bounds-arms-i : goal.bounds-arms-i
bounds-arms-i c = omega (arith, as_long c.args.arms.now c.args.tasks.now c.tasks.invariant.arms, c.tasks-test.true)

pub breaks-requires-clause-arms : goal.breaks-requires-clause-arms
breaks-requires-clause-arms c = counts_long c.args.arms.now c.args.tasks.now c.tasks.i c.index-arms-i.result c.index-tasks-i.result
    c.tasks.invariant.arms c.tasks-test.true c.index-arms-i.is c.index-tasks-i.is

pub returns-then-breaks : goal.returns-then-breaks
returns-then-breaks c = stops c.args.code.now c.args.spent c.args.arms.now c.args.tasks.now c.tasks.i c.index-arms-i.result
    c.index-tasks-i.result c.tasks.seen.has_main c.tasks.seen.floors.items c.tasks.seen.frames _ c.breaks.result c.tasks.invariant.arms
    c.tasks-test.true c.index-arms-i.is c.index-tasks-i.is c.breaks.ensures c.if-breaks.true c.tasks.invariant.rest

pub tasks-preserved : goal.tasks-preserved
tasks-preserved c = record {
  arms = c.tasks.invariant.arms;
  frames = omega (
    arith,
    c.add.ensures.frames,
    few_frames c.args.code.now c.args.spent c.args.arms.now c.args.tasks.now c.tasks.i
        c.index-arms-i.result c.index-tasks-i.result c.tasks.seen.has_main c.tasks.seen.floors.items c.tasks.seen.frames None
        c.breaks.result c.breaks.ensures c.if-breaks.false,
  );
  rest = goes_on c.args.code.now c.args.spent c.args.arms.now c.args.tasks.now c.tasks.i c.index-arms-i.result
      c.index-tasks-i.result c.tasks.seen.has_main c.tasks.seen.floors.items c.tasks.seen.frames _ c.breaks.result
      c.tasks.invariant.arms c.tasks-test.true c.index-arms-i.is c.index-tasks-i.is c.breaks.ensures c.if-breaks.false
      c.tasks.invariant.rest c.add.new.seen.has_main c.add.new.seen.floors.items c.add.new.seen.frames c.add.ensures.main
      c.add.ensures.floors c.add.ensures.frames;
}
