use Rattle.std.proofs.Common.{◌≡◌, ◌++◌, drop, map}
use Rattle.lower_code.specs.Programs.{default_bodies}
use Rattle.lower_declared.specs.Views.{field_now}
use Rattle.lower_items.specs.Views.{body_view}
use Rattle.lower_items.proofs.bodies.add_defaults.Given as goal

-- what is done and what is left are all
abbrev pub invariant-fields : goal.invariant-fields
invariant-fields l = map body_view l.found.items ++ default_bodies (map field_now (drop l.field-index l.fields)) ≡
    map body_view l.fn.found.items ++ default_bodies (map field_now l.fields)
