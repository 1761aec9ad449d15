use Rattle.std.proofs.Common.{ap, sym, ◌∙◌, map}
use Rattle.verse_tree.specs.View.{tree_of, trees}
use Rattle.verse_meaning.specs.Programs.{program_of}
use Rattle.verse_meaning.specs.Residuals as form
use Rattle.verse_meaning.specs.Evaluating.{callee_of}
use Rattle.lower_lookup.specs.Actions.{form_of}
use Rattle.lower_lookup.specs.Callees.{called}
use Rattle.lower_expr.specs.Locals.{scope_of}
use Rattle.note_stretches.specs.Noted.{noted}
use Rattle.note_calls.specs.Calls.{alone_walk, member_walk, indexed_walk, quotient_walk}
use Rattle.note_calls.proofs.Objects.{with_object}
use Rattle.note_calls.proofs.Steps.{by_alone, by_object, by_value, by_quotient, by_none}
use Rattle.note_calls.proofs.calls.read_at.Goals as goal

pub returns-in_ok-alone-in-Alone-clause-states : goal.returns-in_ok-alone-in-Alone-clause-states
returns-in_ok-alone-in-Alone-clause-states g c =
    let p = c.args.noter.now.tables.now.program.now in
    let sc = scope_of c.args.scopes.now in
    let t = tree_of c.args.callee.now in
    let ts = trees (map tree_of c.args.args.now) in
    let x = noted c.args.noting.now in
    let known = c.callee_of-found.ensures in
    by_alone (alone_walk p ts sc c.args.around) (member_walk p t ts sc c.args.around)
    (indexed_walk p t ts sc c.args.around) (quotient_walk p ts sc c.args.around) x _
    (callee_of (program_of p) t form.indexing c.args.place) (form_of c.in-Alone.action)
    (sym (ap called c.in-Alone.is) ∙ known) c.in_ok-alone-in-Alone.ensures.states

pub returns-in_ok-of_object-in-OfObject-clause-states : goal.returns-in_ok-of_object-in-OfObject-clause-states
returns-in_ok-of_object-in-OfObject-clause-states g c =
    let p = c.args.noter.now.tables.now.program.now in
    let sc = scope_of c.args.scopes.now in
    let t = tree_of c.args.callee.now in
    let ts = trees (map tree_of c.args.args.now) in
    let x = noted c.args.noting.now in
    let known = c.callee_of-found.ensures in
    by_object (alone_walk p ts sc c.args.around) (member_walk p t ts sc c.args.around)
    (indexed_walk p t ts sc c.args.around) (quotient_walk p ts sc c.args.around) x _
    (callee_of (program_of p) t form.indexing c.args.place) (form_of c.in-OfObject.action)
    (sym (ap called c.in-OfObject.is) ∙ known)
    (with_object p t ts sc c.args.around (form_of c.in-OfObject.action) form.indexing c.args.place x _
    (sym (ap called c.in-OfObject.is) ∙ known) c.in_ok-of_object-in-OfObject.ensures.states)

pub returns-in_ok-indexed-in-OfValue-clause-states : goal.returns-in_ok-indexed-in-OfValue-clause-states
returns-in_ok-indexed-in-OfValue-clause-states g c =
    let p = c.args.noter.now.tables.now.program.now in
    let sc = scope_of c.args.scopes.now in
    let t = tree_of c.args.callee.now in
    let ts = trees (map tree_of c.args.args.now) in
    let x = noted c.args.noting.now in
    let known = c.callee_of-found.ensures in
    by_value (alone_walk p ts sc c.args.around) (member_walk p t ts sc c.args.around)
    (indexed_walk p t ts sc c.args.around) (quotient_walk p ts sc c.args.around) x _
    (callee_of (program_of p) t form.indexing c.args.place) (form_of c.in-OfValue.action)
    (sym (ap called c.in-OfValue.is) ∙ known) c.in_ok-indexed-in-OfValue.ensures.states

pub returns-in_ok-of_quotient-in-OfQuotient-clause-states : goal.returns-in_ok-of_quotient-in-OfQuotient-clause-states
returns-in_ok-of_quotient-in-OfQuotient-clause-states g c =
    let p = c.args.noter.now.tables.now.program.now in
    let sc = scope_of c.args.scopes.now in
    let t = tree_of c.args.callee.now in
    let ts = trees (map tree_of c.args.args.now) in
    let x = noted c.args.noting.now in
    let known = c.callee_of-found.ensures in
    by_quotient (alone_walk p ts sc c.args.around) (member_walk p t ts sc c.args.around)
    (indexed_walk p t ts sc c.args.around) (quotient_walk p ts sc c.args.around) x _
    (callee_of (program_of p) t form.indexing c.args.place) (form_of c.in-OfQuotient.action)
    (sym (ap called c.in-OfQuotient.is) ∙ known) c.in_ok-of_quotient-in-OfQuotient.ensures.states

pub returns-in_ok-ends-in-None-clause-states : goal.returns-in_ok-ends-in-None-clause-states
returns-in_ok-ends-in-None-clause-states g c =
    let p = c.args.noter.now.tables.now.program.now in
    let sc = scope_of c.args.scopes.now in
    let t = tree_of c.args.callee.now in
    let ts = trees (map tree_of c.args.args.now) in
    let x = noted c.args.noting.now in
    let known = c.callee_of-found.ensures in
    by_none (alone_walk p ts sc c.args.around) (member_walk p t ts sc c.args.around)
    (indexed_walk p t ts sc c.args.around) (quotient_walk p ts sc c.args.around) x _
    (callee_of (program_of p) t form.indexing c.args.place)
    (sym (ap called c.in-None.is) ∙ known) c.in_ok-ends-in-None.ensures
