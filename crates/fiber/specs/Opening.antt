-- The locals of a frame that begins.
use Rattle.std.specs.Prelude.{ℕ, zero, suc, List, [], ◌∷◌}
use Rattle.verse_value.specs.declared.values.Value.{Value}
use Rattle.verse_value.specs.declared.values.Value.TheVariants as value

abbrev pub unit_values : ℕ → List Value
unit_values zero = []
unit_values (suc n) = value.Unit ∷ unit_values n
