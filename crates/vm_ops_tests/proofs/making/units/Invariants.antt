use Rattle.std.proofs.Common.{◌≡◌}
use Rattle.verse_value.specs.View.{vals_of}
use Rattle.verse_value.specs.Val.{vals}
use Rattle.verse_value.specs.Sizes.{weights}
use Rattle.vm_ops_tests.proofs.making.units.Given as goal

abbrev pub invariant-units : goal.invariant-units
invariant-units l = weights (vals (vals_of l.items.items)) ≡ l.counter
