use Rattle.std.proofs.Common.{sym, ap, ◌∙◌}
use Rattle.std.specs.Global.{Vec}
use Rattle.verse_verify_faults.specs.Fitting.{any_never}
use Rattle.verse_verify_notes.specs.declared.sorts.Sort.{Sort}
use Rattle.verse_verify_notes.specs.View.{sorts_of, spot_of}
use Rattle.verse_verify_pass.proofs.Firsts.{lacks_operand, lacks_local}
use Rattle.verse_verify_pass.proofs.states.lacks_values.Goals as goal

pub returns-then-any_never : goal.returns-then-any_never
returns-then-any_never c =
    sym (lacks_operand (spot_of c.args.spot.now) c.above.result.now c.above.ensures
    (sym c.any_never.ensures ∙ c.if-any_never.true))

pub returns : goal.returns
returns c =
    c.any_never-2.ensures ∙ ap (λ xs. any_never (sorts_of xs))
    (c.deref-2.ensures.value ∙ ap (λ (v : Vec Sort). v.items) c.deref.ensures)
    ∙ sym (lacks_local (spot_of c.args.spot.now) c.above.result.now c.above.ensures
    (sym c.any_never.ensures ∙ c.if-any_never.false))
