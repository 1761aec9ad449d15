-- A value in so many options.
use Rattle.std.specs.Prelude.{ℕ, zero, suc}
use Rattle.verse_value.specs.Val.{Val, some}

abbrev pub in_options : ℕ → Val → Val
in_options zero v = v
in_options (suc n) v = some (in_options n v)
