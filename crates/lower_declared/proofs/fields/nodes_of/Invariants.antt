use Rattle.std.proofs.Common.{◌≡◌, ◌++◌, drop, map}
use Rattle.lower_declared.specs.Views.{field_now}
use Rattle.lower_declared.specs.Fields.{number_of_field}
use Rattle.lower_declared.proofs.fields.nodes_of.Given as goal

-- what is done and what is left are all
abbrev pub invariant-fields : goal.invariant-fields
invariant-fields l = l.found.items ++ map number_of_field (map field_now (drop l.field-index l.fields)) ≡
    map number_of_field (map field_now l.fields)
