use Rattle.std.proofs.Common.{◌≡◌, ◌+◌}
use Rattle.verse_value.specs.View.{val_of}
use Rattle.verse_value.specs.Sizes.{levels_of}
use Rattle.vm_ops_tests.proofs.making.nested.Given as goal

abbrev pub invariant-options : goal.invariant-options
invariant-options l = levels_of (val_of l.nested) ≡ 1 + l.counter
