use Rattle.std.proofs.Common.{◌≡◌, ◌≤◌, ◌-◌, suc, None, refl, sym, ◌∙◌, rules, arith}
use Rattle.sim_clock.specs.Pending.{first_due}
use Rattle.vm_wake.proofs.Turning.{done_here, waiting_here, until_here, steps_here, can_wake, turn_goes}
use Rattle.vm_wake.proofs.turns.take_turn.Goals as goal

pub returns-then-len-eq0 : goal.returns-then-len-eq0
returns-then-len-eq0 g c = done_here g.W.Waits.pending c.args.until _ _ (sym c.len.ensures ∙ c.if-len-eq0.true)

pub returns-in_default : goal.returns-in_default
returns-in_default g c =
    let none : first_due (g.W.Waits.pending c.args.tasks.now.gone.waits) ≡ None = search rules in
    waiting_here g.W.Waits.pending c.args.until _ c.args.tasks.now (λ e. c.if-len-eq0.false (c.len.ensures ∙ e)) none

pub returns-then-until-due : goal.returns-then-until-due
returns-then-until-due g c =
    until_here g.W.Waits.pending c.args.until _ c.args.tasks.now c.in-Some.due (λ e. c.if-len-eq0.false (c.len.ensures ∙ e))
    (sym c.next.ensures ∙ c.in-Some.is) c.if-until-due.true

pub returns-then-run-eq0 : goal.returns-then-run-eq0
returns-then-run-eq0 g c =
    let soon : c.in-Some.due.at ≤ c.args.until = omega arith in
    steps_here g.W.Waits.pending c.args.until _ c.args.tasks.now c.in-Some.due (λ e. c.if-len-eq0.false (c.len.ensures ∙ e))
    (sym c.next.ensures ∙ c.in-Some.is) soon c.if-run-eq0.true

pub wake-requires : goal.wake-requires
wake-requires g c =
    let soon : c.in-Some.due.at ≤ c.args.until = omega arith in
    let next : c.args.run.now.left ≡ suc (c.args.run.now.left - 1) = omega arith in
    can_wake g.W.Waits.pending c.args.until _ c.args.tasks.now c.in-Some.due (λ e. c.if-len-eq0.false (c.len.ensures ∙ e))
    (sym c.next.ensures ∙ c.in-Some.is) soon _ _ next refl c.requires

pub returns : goal.returns
returns g c =
    let soon : c.in-Some.due.at ≤ c.args.until = omega arith in
    let next : c.args.run.now.left ≡ suc (c.args.run.now.left - 1) = omega arith in
    turn_goes g.W.Waits.pending c.args.until _ c.args.tasks.now c.in-Some.due (λ e. c.if-len-eq0.false (c.len.ensures ∙ e))
    (sym c.next.ensures ∙ c.in-Some.is) soon _ _ next refl c.wake.result _ _ c.wake.ensures
