use Rattle.std.proofs.Common.{sym, ap, ◌∙◌}
use Rattle.std.specs.Prelude.{◌&&◌}
use Rattle.verse_verify_notes.specs.View.{func_of, classes_of, table_of}
use Rattle.verse_verify_faults.specs.Fitting.{fit}
use Rattle.verse_verify_tables.proofs.methods.do_sorts_fit.Goals as goal

pub returns-then-do_params_agree : goal.returns-then-do_params_agree
returns-then-do_params_agree c =
    let a = (func_of c.args.func.now).result in
    let b = (func_of c.args.other.now).result in
    c.does_fit.ensures ∙ ap (λ cs. fit (classes_of cs) a b) c.deref.ensures.value ∙ ap (λ x. x && fit (table_of c.args.table.now).classes a
    b) (sym c.if-do_params_agree.true ∙ c.do_params_agree.ensures)
