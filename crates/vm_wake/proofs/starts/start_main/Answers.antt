use Rattle.std.proofs.Common.{◌≡◌, ◌-◌, suc, refl, arith}
use Rattle.verse_value.specs.View.{vals_of}
use Rattle.vm_wake.proofs.Starting.{out_of_steps, main_on}
use Rattle.vm_wake.proofs.starts.start_main.Goals as goal

pub returns-then-run-eq0 : goal.returns-then-run-eq0
returns-then-run-eq0 g c = λ ns value. out_of_steps g.W.Waits.pending c.args.func.now ns _ _ c.requires.fresh c.if-run-eq0.true

pub returns : goal.returns
returns g c =
    let next : c.args.run.now.left ≡ suc (c.args.run.now.left - 1) = omega arith in λ ns value.
    main_on g.W.Waits.pending c.args.func.now ns _ _ (vals_of c.in_ok-args.args.items) _ c.in_ok-id.id _ c.requires.fresh c.requires.new
    next (c.in_ok-args.ensures.args ns value) c.in_ok-id.ensures.begun _ _ c.in_ok-thread.ensures refl
