use Rattle.run_save_shots.specs.View.{shot_of}
use Rattle.run_save_trees.proofs.Suiting.{countable}
use Rattle.run_save_machine.proofs.Standing.{rests_in, are_of}
use Rattle.run_save_machine.proofs.machines.from_shot.Goals as goal

pub numbers-requires : goal.numbers-requires
numbers-requires g c = countable c.args.code.now (shot_of c.args.shot) c.requires.fits

pub put_all-requires-clause-shot : goal.put_all-requires-clause-shot
put_all-requires-clause-shot g c = (
  shot_of c.args.shot,
  are_of c.args.code.now c.args.shot c.deref.result.now c.in_ok-numbers.numbers.items c.requires.fits c.in_ok-numbers.ensures
      c.deref.ensures.value,
)

pub with_waits-requires-clause-distinct : goal.with_waits-requires-clause-distinct
with_waits-requires-clause-distinct g c =
    (c.in_ok-suspended.ensures (shot_of c.args.shot) (are_of c.args.code.now c.args.shot c.deref.result.now
    c.in_ok-numbers.numbers.items c.requires.fits c.in_ok-numbers.ensures c.deref.ensures.value)).distinct

pub returns : goal.returns
returns g c =
    rests_in g.W.Waits.pending c.args.code.now (shot_of c.args.shot) _ c.in_ok-tasks.tasks c.in_ok-suspended.suspended
    c.in_ok-results.results.items c.requires.fits c.in_ok-run.ensures
    (c.in_ok-suspended.ensures (shot_of c.args.shot) (are_of c.args.code.now c.args.shot c.deref.result.now
    c.in_ok-numbers.numbers.items c.requires.fits c.in_ok-numbers.ensures c.deref.ensures.value))
    c.in_ok-tasks.ensures c.in_ok-results.ensures
