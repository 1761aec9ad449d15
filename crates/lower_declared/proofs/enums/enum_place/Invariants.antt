use Rattle.std.proofs.Common.{◌≡◌, drop, map}
use Rattle.verse_meaning.specs.Programs.{enum_names}
use Rattle.lower_declared.specs.Enums.{place_from}
use Rattle.lower_declared.specs.Views.{enum_now}
use Rattle.lower_declared.proofs.enums.enum_place.Given as goal

-- what is done and what is left are all
abbrev pub invariant-enums : goal.invariant-enums
invariant-enums l = place_from l.name (enum_names (map enum_now (drop l.item-index l.enums))) l.at ≡
    place_from l.name (enum_names (map enum_now l.enums)) 0
