-- Keys and values that come in turn.
use Rattle.std.specs.Prelude.{◌≡◌, List, [], ◌∷◌, ◌++◌, Option, Some, None}
use Rattle.verse_value.specs.declared.values.Value.{Value}

-- a value is the next key, or it belongs to the key before it
abbrev pub Turns : List (Value × Value) → List (Value × Value) → Option Value → Value →
    Option Value → Type 0
Turns old new (Some key) value next = (new ≡ old ++ (key, value) ∷ []) × (next ≡ None)
Turns old new None value next = (new ≡ old) × (next ≡ Some value)
