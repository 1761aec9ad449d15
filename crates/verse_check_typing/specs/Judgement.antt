-- What is found at a node of its type.
use Rattle.std.specs.Prelude.{ℕ, Option}
use Rattle.verse_rules_types.specs.Types.{Ty}

-- a type, and the least code of a rule that is broken
pub record Judgement : Type 0 where
  pub ty : Ty
  pub code : Option ℕ
