-- Cells with the sum of their weights.
use Rattle.std.specs.Prelude.{◌≡◌, ◌≤◌, ℕ}
use Rattle.verse_value.specs.Store.{Store, store_weight}
use Rattle.verse_value.specs.declared.sizes.TheConstants.{MOST_STORE_WEIGHT}

pub record IsWeighed (weight : ℕ) (cells : Store) : Type 0 where
  pub sum : weight ≡ store_weight cells
  pub light : weight ≤ MOST_STORE_WEIGHT
