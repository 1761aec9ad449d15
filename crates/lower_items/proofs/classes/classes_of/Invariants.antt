use Rattle.std.proofs.Common.{◌≡◌, ◌++◌, drop, map}
use Rattle.lower_code.specs.Programs.{class_of}
use Rattle.lower_items.proofs.classes.classes_of.Given as goal

-- what is done and what is left are all
abbrev pub invariant-infos : goal.invariant-infos
invariant-infos l = l.found ++ map class_of (drop l.info-index l.infos) ≡ map class_of l.infos
