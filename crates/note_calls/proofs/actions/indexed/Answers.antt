use Rattle.std.proofs.Common.{ap, ◌∙◌, map, true}
use Rattle.verse_tree.specs.View.{tree_of, trees}
use Rattle.verse_meaning.specs.Evaluating.{number_of}
use Rattle.lower_code.specs.Arounds.{up}
use Rattle.lower_code.specs.Lowering.{how_many}
use Rattle.lower_lookup.specs.Actions.{form_of}
use Rattle.lower_expr.specs.Locals.{scope_of}
use Rattle.lower_notes.specs.Applied.{finish}
use Rattle.note_sorts.specs.Tabled.{found_of}
use Rattle.note_stretches.specs.Noted.{noted, walked}
use Rattle.note_applied.proofs.Steps.{three_steps}
use Rattle.note_parts.specs.Parts.{tree_walk}
use Rattle.note_members.specs.Reads.{indices_walk}
use Rattle.note_members.proofs.Steps.{same_walked}
use Rattle.note_calls.proofs.actions.indexed.Goals as goal

pub returns-clause-states : goal.returns-clause-states
returns-clause-states g c =
    let p = c.args.noter.now.tables.now.program.now in
    let sc = scope_of c.args.scopes.now in
    let e = tree_of c.args.callee.now in
    let ts = trees (map tree_of c.args.args.now) in
    let f = form_of c.args.action in
    let q = (found_of p).sort (number_of e) in
    three_steps (tree_walk p e sc c.args.around) (indices_walk p q ts sc (up c.args.around)) (finish f (how_many ts) true)
    (noted c.args.noting.now) _ _ _ c.in_ok-part.ensures.states
    (same_walked _ (indices_walk p q ts sc (up c.args.around)) _ _ c.in_ok-indices.ensures.states
    (ap (λ n. indices_walk p ((found_of p).sort n) ts (scope_of c.part.new.scopes) c.in_ok-up.field-0) c.number_of-2.ensures
    ∙ ap (λ s. indices_walk p q ts s c.in_ok-up.field-0) c.in_ok-part.ensures.scopes
    ∙ ap (indices_walk p q ts sc) c.in_ok-up.ensures))
    (c.in_ok-applied.ensures
    ∙ ap (λ n. walked (finish f n true) (noted c.indices.new.noting)) (c.in_ok-count.ensures ∙ c.how_many.ensures))
