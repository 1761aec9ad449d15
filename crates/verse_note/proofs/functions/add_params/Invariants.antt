use Rattle.std.proofs.Common.{◌≡◌, map, drop}
use Rattle.verse_tree.specs.ItemView.{param_of}
use Rattle.lower_code.specs.Programs.{params_scope}
use Rattle.lower_expr.specs.Locals.{scope_of}
use Rattle.verse_note.proofs.functions.add_params.Given as goal

-- what is left, from here on, ends as all does from the start
abbrev pub invariant-params : goal.invariant-params
invariant-params l =
    params_scope (map param_of (drop l.param-index l.params)) (scope_of l.scopes) ≡
    params_scope (map param_of l.params) (scope_of l.fn.scopes)
