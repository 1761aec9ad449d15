use Rattle.std.proofs.Common.{◌∙◌}
use Rattle.lower_expr.specs.Building.{built}
use Rattle.lower_expr.specs.Locals.{scope_of}
use Rattle.lower_items.specs.Views.{body_view}
use Rattle.verse_lower.proofs.Wholes.{body_done}
use Rattle.verse_lower.proofs.functions.add_body.Goals as goal

pub returns : goal.returns
returns c =
    body_done c.args.tables.now.program.now (body_view c.args.body) (scope_of c.args.scopes.now) c.fresh.result
    (built c.args.builder.now)
    (built c.count_locals.new.self) (built c.lower_tree.new.builder) (built c.one.new.self)
    c.count_locals.ensures c.requires
    c.fresh.ensures
    c.in_ok-lower_tree.ensures.code c.in_ok-one.ensures
