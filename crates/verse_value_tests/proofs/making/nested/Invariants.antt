use Rattle.std.proofs.Common.{◌≡◌, ◌+◌}
use Rattle.verse_value.specs.View.{val_of}
use Rattle.verse_value.specs.Sizes.{levels_of}
use Rattle.verse_value_tests.specs.Nested.{in_options}
use Rattle.verse_value_tests.proofs.making.nested.Given as goal

abbrev pub invariant-options : goal.invariant-options
invariant-options l =
    (val_of l.nested ≡ in_options l.counter (val_of l.fn.value)) × (levels_of (val_of l.nested) ≡ l.counter + levels_of (val_of l.fn.value))
