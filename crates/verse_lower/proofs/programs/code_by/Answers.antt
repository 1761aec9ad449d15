use Rattle.std.proofs.Common.{map, ◌∙◌}
use Rattle.lower_expr.specs.Building.{built}
use Rattle.lower_items.specs.Views.{body_view}
use Rattle.verse_lower.proofs.Wholes.{code_done}
use Rattle.verse_lower.proofs.programs.code_by.Goals as goal

pub returns : goal.returns
returns c =
    code_done c.args.tables.now.program.now (map body_view c.deref.result.now) (built c.add_functions.new.builder)
    c.in_ok-functions.functions
    c.in_ok-classes.classes c.in_ok-main.main c.finish-ops.result.0 c.finish-ops.result.1 c.finish-ops.result.2
    (search (c.deref.ensures.value, c.in_ok-bodies.ensures, c.as_slice-items.ensures)) c.in_ok-functions.ensures.code
    c.in_ok-functions.ensures.functions
    (search (c.in_ok-classes.ensures, c.as_slice.ensures)) (search (c.in_ok-main.ensures, c.as_slice-items.ensures))
    c.finish-ops.ensures.ops
    c.finish-ops.ensures.places c.finish-ops.ensures.texts
