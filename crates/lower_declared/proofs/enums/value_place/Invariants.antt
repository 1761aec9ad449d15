use Rattle.std.proofs.Common.{◌≡◌, drop}
use Rattle.lower_declared.specs.Enums.{place_from}
use Rattle.lower_declared.proofs.enums.value_place.Given as goal

-- what is done and what is left are all
abbrev pub invariant-values : goal.invariant-values
invariant-values l = place_from l.name (drop l.value-index l.values) l.at ≡ place_from l.name l.values 0
