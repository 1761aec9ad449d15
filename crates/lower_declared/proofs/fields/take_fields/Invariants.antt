use Rattle.std.proofs.Common.{◌≡◌, ◌++◌, length, map}
use Rattle.lower_declared.specs.Views.{field_now, all_taken}
use Rattle.lower_declared.proofs.fields.take_fields.Given as goal

-- what is done and what is left are all
abbrev pub invariant-classes : goal.invariant-classes
invariant-classes l = map field_now l.found.items ++ all_taken l.line ≡ all_taken l.fn.line

abbrev pub decreases-classes : goal.decreases-classes
decreases-classes l = length l.line
