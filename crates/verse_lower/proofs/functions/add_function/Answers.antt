use Rattle.std.proofs.Common.{◌∙◌, ap, refl, length}
use Rattle.lower_expr.specs.Building.{built}
use Rattle.lower_items.specs.Views.{body_view}
use Rattle.verse_lower.proofs.Wholes.{function_done}
use Rattle.verse_lower.proofs.functions.add_function.Goals as goal

pub returns-clause-function : goal.returns-clause-function
returns-clause-function c =
    function_done c.args.tables.now.program.now (body_view c.args.body) c.args.body.suspends
    (built c.args.builder.now) (built c.add_body.new.builder)
    c.in_ok-params.params c.in_ok-entry.entry c.locals.result c.most.result
    (c.in_ok-params.ensures ∙ ap length c.in_ok-scopes.ensures)
    c.in_ok-entry.ensures refl c.in_ok-add_body.ensures c.locals.ensures c.most.ensures
