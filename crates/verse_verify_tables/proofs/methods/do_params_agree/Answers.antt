use Rattle.std.proofs.Common.{ap, ◌∙◌}
use Rattle.verse_verify_kept.specs.Rules.{rest_of}
use Rattle.verse_verify_notes.specs.View.{sorts_of, func_of, table_of}
use Rattle.verse_verify_faults.specs.Faults.{same_each}
use Rattle.verse_verify_tables.proofs.methods.do_params_agree.Goals as goal

pub returns : goal.returns
returns c =
    let same = same_each c.args.code.now (table_of c.args.table.now) in
    c.are_same.ensures ∙ ap (λ xs. same xs (sorts_of c.behind-2.result.now)) c.behind.ensures ∙ ap (same (rest_of (func_of
    c.args.func.now).params)) c.behind-2.ensures
