use Rattle.std.proofs.Common.{◌∙◌, sym, ap}
use Rattle.run_save_numbers.specs.declared.tables.TaskNumbers.{TaskNumbers}
use Rattle.run_save_numbers.specs.Marking.{marked}
use Rattle.run_save_numbers.specs.View.{numbers_of}
use Rattle.run_save_numbers.proofs.Steps.{one_marked}
use Rattle.run_save_numbers.proofs.marks.mark_at.Goals as goal

pub returns-then-parent-all : goal.returns-then-parent-all
returns-then-parent-all c = one_marked c.args.all.now c.args.parent c.args.role c.args.number c.index-all-parent.result c.mark.new.marks
    c.if-parent-all.true c.index-all-parent.is
    (c.mark.ensures ∙ ap (λ (a : TaskNumbers). marked c.args.number c.args.role (numbers_of a)) (sym c.index-all-parent.is))
