-- Classes above a class, and methods that stand for others.
use Rattle.std.specs.Prelude.{◌≡◌, ℕ, true, List, Some, slice_get}
use Rattle.verse_rules_types.specs.Types.{Class}
use Rattle.verse_rules_types.specs.Fitting.{parent_of}
use Rattle.verse_names_declarations.specs.Known.{Known}
use Rattle.verse_names_items.specs.Rules.{can_override}

-- the second class is the first one, or one of its ancestors
pub data Above (os : List Class) : ℕ → ℕ → Type 0 where
  itself : {c : ℕ} → Above os c c
  further : {c d e : ℕ} → parent_of os c ≡ Some d → Above os d e → Above os c e

-- the second function is the first one, or overrides one that stands for it
pub data Over (k : Known) : ℕ → ℕ → Type 0 where
  same : {g : ℕ} → Over k g g
  overrides : {g h n : ℕ} → Over k g h →
      can_override k.outline (slice_get k.functions n) (slice_get k.functions h) ≡ true → Over k g n
