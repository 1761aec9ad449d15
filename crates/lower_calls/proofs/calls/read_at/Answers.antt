use Rattle.std.proofs.Common.{ap, sym, ◌∙◌, map}
use Rattle.verse_tree.specs.View.{tree_of, trees}
use Rattle.verse_meaning.specs.Programs.{program_of}
use Rattle.verse_meaning.specs.Residuals as form
use Rattle.verse_meaning.specs.Evaluating.{callee_of}
use Rattle.lower_lookup.specs.Actions.{form_of}
use Rattle.lower_lookup.specs.Callees.{called}
use Rattle.lower_expr.specs.Building.{built}
use Rattle.lower_expr.specs.Locals.{scope_of}
use Rattle.lower_calls.specs.Calls.{alone_code, member_code, indexed_code, quotient_code}
use Rattle.lower_calls.proofs.Objects.{with_object}
use Rattle.lower_calls.proofs.Steps.{by_alone, by_object, by_value, by_quotient, by_none}
use Rattle.lower_calls.proofs.calls.read_at.Goals as goal

pub returns-in_ok-alone-in-Alone-clause-code : goal.returns-in_ok-alone-in-Alone-clause-code
returns-in_ok-alone-in-Alone-clause-code g c =
    let p = c.args.lowering.now.tables.now.program.now in
    let sc = scope_of c.args.scopes.now in
    let t = tree_of c.args.callee.now in
    let ts = trees (map tree_of c.args.args.now) in
    let x = built c.args.builder.now in
    let known = c.callee_of-found.ensures in
    by_alone (alone_code p ts sc c.args.around) (member_code p t ts sc c.args.around)
    (indexed_code p t ts sc c.args.around) (quotient_code p ts sc c.args.around) x _
    (callee_of (program_of p) t form.indexing c.args.place) (form_of c.in-Alone.action)
    (sym (ap called c.in-Alone.is) ∙ known) c.in_ok-alone-in-Alone.ensures.code

pub returns-in_ok-of_object-in-OfObject-clause-code : goal.returns-in_ok-of_object-in-OfObject-clause-code
returns-in_ok-of_object-in-OfObject-clause-code g c =
    let p = c.args.lowering.now.tables.now.program.now in
    let sc = scope_of c.args.scopes.now in
    let t = tree_of c.args.callee.now in
    let ts = trees (map tree_of c.args.args.now) in
    let x = built c.args.builder.now in
    let known = c.callee_of-found.ensures in
    by_object (alone_code p ts sc c.args.around) (member_code p t ts sc c.args.around)
    (indexed_code p t ts sc c.args.around) (quotient_code p ts sc c.args.around) x _
    (callee_of (program_of p) t form.indexing c.args.place) (form_of c.in-OfObject.action)
    (sym (ap called c.in-OfObject.is) ∙ known)
    (with_object p t ts sc c.args.around (form_of c.in-OfObject.action) form.indexing c.args.place x _
    (sym (ap called c.in-OfObject.is) ∙ known) c.in_ok-of_object-in-OfObject.ensures.code)

pub returns-in_ok-indexed-in-OfValue-clause-code : goal.returns-in_ok-indexed-in-OfValue-clause-code
returns-in_ok-indexed-in-OfValue-clause-code g c =
    let p = c.args.lowering.now.tables.now.program.now in
    let sc = scope_of c.args.scopes.now in
    let t = tree_of c.args.callee.now in
    let ts = trees (map tree_of c.args.args.now) in
    let x = built c.args.builder.now in
    let known = c.callee_of-found.ensures in
    by_value (alone_code p ts sc c.args.around) (member_code p t ts sc c.args.around)
    (indexed_code p t ts sc c.args.around) (quotient_code p ts sc c.args.around) x _
    (callee_of (program_of p) t form.indexing c.args.place) (form_of c.in-OfValue.action)
    (sym (ap called c.in-OfValue.is) ∙ known) c.in_ok-indexed-in-OfValue.ensures.code

pub returns-in_ok-of_quotient-in-OfQuotient-clause-code : goal.returns-in_ok-of_quotient-in-OfQuotient-clause-code
returns-in_ok-of_quotient-in-OfQuotient-clause-code g c =
    let p = c.args.lowering.now.tables.now.program.now in
    let sc = scope_of c.args.scopes.now in
    let t = tree_of c.args.callee.now in
    let ts = trees (map tree_of c.args.args.now) in
    let x = built c.args.builder.now in
    let known = c.callee_of-found.ensures in
    by_quotient (alone_code p ts sc c.args.around) (member_code p t ts sc c.args.around)
    (indexed_code p t ts sc c.args.around) (quotient_code p ts sc c.args.around) x _
    (callee_of (program_of p) t form.indexing c.args.place) (form_of c.in-OfQuotient.action)
    (sym (ap called c.in-OfQuotient.is) ∙ known) c.in_ok-of_quotient-in-OfQuotient.ensures.code

pub returns-in_ok-stuck-in-None-clause-code : goal.returns-in_ok-stuck-in-None-clause-code
returns-in_ok-stuck-in-None-clause-code g c =
    let p = c.args.lowering.now.tables.now.program.now in
    let sc = scope_of c.args.scopes.now in
    let t = tree_of c.args.callee.now in
    let ts = trees (map tree_of c.args.args.now) in
    let x = built c.args.builder.now in
    let known = c.callee_of-found.ensures in
    by_none (alone_code p ts sc c.args.around) (member_code p t ts sc c.args.around)
    (indexed_code p t ts sc c.args.around) (quotient_code p ts sc c.args.around) x _
    (callee_of (program_of p) t form.indexing c.args.place)
    (sym (ap called c.in-None.is) ∙ known) c.in_ok-stuck-in-None.ensures
