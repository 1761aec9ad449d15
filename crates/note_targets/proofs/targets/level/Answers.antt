use Rattle.std.proofs.Common.{sym, ap, ◌∙◌, ◌+◌, map}
use Rattle.verse_tree.specs.View.{tree_of, trees, applied_of}
use Rattle.verse_meaning.specs.Evaluating as e
use Rattle.lower_code.specs.Arounds.{up}
use Rattle.lower_code.specs.Lowering.{how_many}
use Rattle.lower_expr.specs.Locals.{scope_of}
use Rattle.lower_calls.specs.Aims.{aim_view, operands_to}
use Rattle.note_sorts.specs.Tabled.{found_of}
use Rattle.note_stretches.specs.Noted.{noted, walked}
use Rattle.note_members.specs.Reads.{indices_walk}
use Rattle.note_targets.specs.Targets.{level_walk}
use Rattle.note_targets.proofs.Halves.{callee_by, args_by}
use Rattle.note_targets.proofs.targets.level.Goals as goal

pub returns-in_ok-sum_of-in-Index-clause-states : goal.returns-in_ok-sum_of-in-Index-clause-states
returns-in_ok-sum_of-in-Index-clause-states g c =
    let p = c.args.noter.now.tables.now.program.now in
    let b = noted c.args.noting.now in
    let sc = scope_of c.args.scopes.now in
    let ts = trees (applied_of c.in-Index.parts.now).1 in
    let ks = trees (map tree_of c.as_slice-args.result.now) in
    let q = (found_of p).sort (e.number_of (applied_of c.in-Index.parts.now).0) in
    c.in_ok-indices-in-Index.ensures.states
    ∙ ap (λ n. walked (indices_walk p ((found_of p).sort n) ks sc c.in_ok-above-in-Index.above) b)
    (c.number_of-of.ensures ∙ ap e.number_of (callee_by c.in-Index.parts.now _ c.get.ensures))
    ∙ ap (λ k. walked (indices_walk p q k sc c.in_ok-above-in-Index.above) b) (args_by c.in-Index.parts.now _ c.as_slice-args.ensures)
    ∙ ap (λ k. walked (indices_walk p q ts sc k) b) (c.in_ok-above-in-Index.ensures ∙ ap up c.in_ok-raised-in-Index.ensures)
    ∙ ap (λ m. walked (level_walk p c.args.beneath m sc c.args.around) b) (sym (ap aim_view c.in-Index.is) ∙ c.aim_of.ensures)

pub returns-in_ok-sum_of-in-Index-clause-count : goal.returns-in_ok-sum_of-in-Index-clause-count
returns-in_ok-sum_of-in-Index-clause-count g c =
    c.in_ok-sum_of-in-Index.ensures
    ∙ ap (λ n. n + c.args.beneath) (c.how_many.ensures ∙ ap how_many (args_by c.in-Index.parts.now _ c.as_slice-args.ensures))
    ∙ ap (operands_to c.args.beneath) (sym (ap aim_view c.in-Index.is) ∙ c.aim_of.ensures)
