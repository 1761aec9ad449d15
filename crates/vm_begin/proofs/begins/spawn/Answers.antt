use Rattle.std.proofs.Common.{◌≡◌, ◌-◌, suc, refl, ◌∙◌, arith}
use Rattle.verse_value.specs.View.{vals_of}
use Rattle.vm_begin.proofs.Coming.{spawn_out, spawn_on}
use Rattle.vm_begin.proofs.begins.spawn.Goals as goal

pub overflow_add-run : goal.overflow_add-run
overflow_add-run g c = let bound = c.requires.there.going.ready.clock in omega arith

pub returns-then-run-eq0 : goal.returns-then-run-eq0
returns-then-run-eq0 g c = spawn_out g.W.Waits.pending _ _ c.args.func.now (vals_of c.args.args.items) c.requires.free c.if-run-eq0.true

pub returns : goal.returns
returns g c =
    let next : c.args.run.now.left ≡ suc (c.args.run.now.left - 1) = omega arith in
    spawn_on g.W.Waits.pending _ _ _ _ _ _ c.args.func.now (vals_of c.args.args.items) _ _ _ _ _ c.requires.free next refl
    (c.replace-parent.ensures.after ∙ c.in_ok-thread.ensures) (c.len-entry.ensures ∙ c.args.tasks.now.results.ok.0)
    c.in_ok-id.ensures.begun
    c.in_ok-id.ensures.spawned c.replace-parent.ensures.value c.in_ok-push-2.ensures c.in_ok-push.ensures.items
