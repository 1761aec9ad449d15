-- What a call is given in a list.
use Rattle.std.specs.Prelude.{List, map}
use Rattle.verse_value.specs.Val.{Val}
use Rattle.verse_value.specs.View.{val_of}
use Rattle.verse_value.specs.declared.values.Value.{Value}

-- keys with their values
abbrev pub pairs_of : List (Value × Value) → List (Val × Val)
pairs_of = map (λ p. (val_of p.0, val_of p.1))
