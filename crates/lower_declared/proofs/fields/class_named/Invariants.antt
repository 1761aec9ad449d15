use Rattle.std.proofs.Common.{◌≡◌, drop, map}
use Rattle.verse_meaning.specs.Programs.{class_named}
use Rattle.lower_declared.specs.Views.{class_now}
use Rattle.lower_declared.proofs.fields.class_named.Given as goal

-- what is done and what is left are all
abbrev pub invariant-classes : goal.invariant-classes
invariant-classes l = class_named l.name (map class_now (drop l.class-index l.classes)) ≡ class_named l.name (map class_now l.classes)
