use Rattle.std.proofs.Common.{◌≡◌, length, ap, ◌∙◌}
use Rattle.sim_clock.specs.declared.waits.WaitKind.TheVariants.{Event}
use Rattle.sim_clock.specs.Pending.{woken}
use Rattle.vm_wake.proofs.Signalling.{signal_told}
use Rattle.vm_wake.proofs.signals.signal.Goals as goal

pub returns : goal.returns
returns g c =
    let count : c.len-number.result ≡ length c.args.tasks.now.signals.items = c.len-number.ensures ∙ c.args.tasks.now.signals.ok.0 in
    signal_told g.W.Waits.pending _ _ c.args.event c.args.value c.push.new.self c.wake_event.new.self c.in_ok-push.ensures.items
    (c.wake_event.ensures ∙ ap (λ n. woken (Event c.args.event) (record { at = c.args.run.now.moment; cause = n })
    (g.W.Waits.pending c.args.tasks.now.gone.waits)) count)
