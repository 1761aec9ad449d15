use Rattle.std.proofs.Common.{◌≡◌, ◌-◌, suc, refl, ◌∙◌, arith}
use Rattle.vm_scheduler.proofs.Seated.{live_here}
use Rattle.vm_begin.proofs.Coming.{branch_out, branch_on}
use Rattle.vm_begin.proofs.begins.branch.Goals as goal

pub overflow_add-run : goal.overflow_add-run
overflow_add-run g c = let bound = c.requires.there.going.ready.clock in omega arith

pub begin_part-requires : goal.begin_part-requires
begin_part-requires g c = live_here g.W.Waits.pending _ _ c.is_nested.ensures c.requires.there c.requires.free

pub copy_at-requires : goal.copy_at-requires
copy_at-requires g c = c.requires.there.going.ready.some

pub returns-then-run-eq0 : goal.returns-then-run-eq0
returns-then-run-eq0 g c = branch_out g.W.Waits.pending _ _ _ c.requires.free c.if-run-eq0.true

pub returns : goal.returns
returns g c =
    let next : c.args.run.now.left ≡ suc (c.args.run.now.left - 1) = omega arith in
    branch_on g.W.Waits.pending _ _ _ _ _ _ _ _ _ _ c.requires.free next refl (c.replace-parent.ensures.after ∙ c.in_ok-thread.ensures)
    c.in_ok-id.ensures.begun c.in_ok-id.ensures.branch c.replace-parent.ensures.value c.in_ok-push.ensures
