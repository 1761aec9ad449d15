use Rattle.std.proofs.Common.{ap}
use Rattle.lower_expr.specs.Building.{built, made}
use Rattle.lower_expr.specs.Locals.{scope_of}
use Rattle.lower_parts.specs.Parts.{tree_code}
use Rattle.verse_tree.proofs.Shapes.{tree_is}
use Rattle.verse_lower.proofs.forms.expression.Goals as goal

pub returns-clause-code : goal.returns-clause-code
returns-clause-code g c = rw (tree_is c.args.expr.now) c.form.ensures.code
