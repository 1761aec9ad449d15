use Rattle.std.proofs.Common.{◌≡◌, subst}
use Rattle.std.specs.Result.{OnOk}
use Rattle.run_save_slots.proofs.Steps.{same_frame}
use Rattle.run_save_slots.proofs.threads.add.Goals as goal

pub returns : goal.returns
returns c = subst (λ fs. OnOk c.add_frame.result (c.add_frame.new.self ≡ fs))
    (same_frame c.args.born c.args.frame.place c.args.arms _ c.args.frame.stack.items c.args.frame.defers.items c.args.thread.now)
    c.add_frame.ensures.ok
