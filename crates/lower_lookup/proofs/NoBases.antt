-- What is no place to write to.
use Rattle.std.proofs.Common.{◌≡◌, ℕ, Option, Some, None, refl}
use Rattle.verse_tree.specs.Tree.{Tree, Trees}
use Rattle.verse_tree.specs.View.{return_shape, if_shape, event_shape, sleep_shape}
use Rattle.verse_tree.specs.declared.types.TyExpr.{TyExpr}
use Rattle.verse_meaning.specs.Programs.{Program}
use Rattle.verse_meaning.specs.Residuals.{nowhere}
use Rattle.verse_meaning.specs.Evaluating.{base_of_shape}

module _ (p : Program) (n : ℕ) where
  pub base_returns : (o : Option Tree) → base_of_shape p n (return_shape o) ≡ nowhere
  base_returns None = refl
  base_returns (Some a) = refl

  pub base_chooses : (cs : Trees) (a : Tree) (o : Option Tree) → base_of_shape p n (if_shape cs a o) ≡ nowhere
  base_chooses cs a None = refl
  base_chooses cs a (Some b) = refl

  pub base_sleeps : (o : Option ℕ) → base_of_shape p n (sleep_shape o) ≡ nowhere
  base_sleeps None = refl
  base_sleeps (Some d) = refl

  pub base_event : (o : Option TyExpr) → base_of_shape p n (event_shape o) ≡ nowhere
  base_event None = refl
  base_event (Some w) = refl
