-- The size that is kept with a value.
use Rattle.std.specs.Prelude.{◌≡◌, ℕ, ◌+◌, ◌≤◌, min, max}
use Rattle.verse_value.specs.declared.kept.Size.{Size}

-- the weight, and a number that the levels do not pass; each stands at 18446744073709551615 where
-- it is more
pub record Measures (size : Size) (weight levels : ℕ) : Type 0 where
  pub exact : size.weight ≡ min weight 18446744073709551615
  pub bound : min levels 18446744073709551615 ≤ size.levels

-- the size of a whole after one of its parts changed: `now` and `deep` are the parts' weight and
-- their levels afterwards
abbrev pub Resizes : Size → Size → Size → ℕ → ℕ → Size → Type 0
Resizes whole before after now deep size =
    (all old new high low top : ℕ) → Measures whole (1 + all) (1 + high) → Measures before old low →
    Measures after new top → now + old ≡ all + new → old ≤ all → deep ≤ max high top →
    Measures size (1 + now) (1 + deep)
