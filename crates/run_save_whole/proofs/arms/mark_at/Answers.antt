use Rattle.std.proofs.Common.{◌∙◌, sym, ap}
use Rattle.run_save_whole.specs.declared.arms.Arms.{Arms}
use Rattle.run_save_whole.specs.Tallies.{marked}
use Rattle.run_save_whole.specs.View.{marks_of}
use Rattle.run_save_whole.proofs.TaskSteps.{one_marked}
use Rattle.run_save_whole.proofs.arms.mark_at.Goals as goal

pub returns-then-parent-all : goal.returns-then-parent-all
returns-then-parent-all c = one_marked c.args.all.now c.args.parent c.args.place c.index-all-parent.result c.mark.new.arms
    c.if-parent-all.true c.index-all-parent.is
    (c.mark.ensures ∙ ap (λ (a : Arms). marked (marks_of a) c.args.place) (sym c.index-all-parent.is))
