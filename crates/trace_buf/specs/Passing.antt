-- Bytes that pass to a sink through a piece that is held back.
use Rattle.std.specs.Prelude.{◌≡◌, ℕ, List, Option, ◌++◌}
use Rattle.verse_outside.specs.Held.{with_more}

-- what was sent and is held now is what was held before, and more
pub record Passed (old : Option (List ℕ)) (held more : List ℕ) (new : Option (List ℕ))
    (left : List ℕ) : Type 0 where
  pub sent : List ℕ
  pub taken : new ≡ with_more old sent
  pub same : sent ++ left ≡ held ++ more

-- of what was held before, and more, a prefix was sent
pub record Stopped (old : Option (List ℕ)) (held more : List ℕ) (new : Option (List ℕ)) :
    Type 0 where
  pub sent : List ℕ
  pub unsent : List ℕ
  pub taken : new ≡ with_more old sent
  pub same : sent ++ unsent ≡ held ++ more
