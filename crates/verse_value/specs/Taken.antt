-- What is taken off the end of a map.
use Rattle.std.specs.Prelude.{◌≡◌, ◌+◌, List, [], ◌∷◌, ◌++◌}
use Rattle.verse_value.specs.Sizes.{key_weight, weight_of, levels_of}
use Rattle.verse_value.specs.View.{val_of}
use Rattle.verse_value.specs.Kept.{Measures}
use Rattle.verse_value.specs.declared.kept.Size.{Size}
use Rattle.verse_value.specs.declared.keys.Key.{Key}
use Rattle.verse_value.specs.declared.values.Value.{Value}

-- a key and a value were taken off the end, and have this size
pub record TakenOff (ks ls : List Key) (vs ws : List Value) (taken : Size) : Type 0 where
  pub key : Key
  pub value : Value
  pub keys : ks ≡ ls ++ key ∷ []
  pub values : vs ≡ ws ++ value ∷ []
  pub measures : Measures taken (key_weight key + weight_of (val_of value))
      (levels_of (val_of value))
