use Rattle.std.proofs.Common.{◌≡◌, ◌++◌, ◌-◌, length, map}
use Rattle.std.specs.Option.{option_map}
use Rattle.lower_declared.specs.Fields.{line}
use Rattle.lower_declared.specs.Views.{class_now}
use Rattle.lower_declared.proofs.fields.line_of.Given as goal

-- what is done and what is left are all
abbrev pub invariant-steps : goal.invariant-steps
invariant-steps l = map class_now l.found.items ++ line (length l.classes - l._i) (map class_now l.classes) (option_map class_now l.at) ≡
    line (length l.classes) (map class_now l.classes) (option_map class_now l.class)
