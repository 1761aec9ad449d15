-- What callees that are no names or members stand for.
use Rattle.std.proofs.Common.{◌≡◌, ◌≢◌, ℕ, zero, suc, Option, Some, None, refl}
use Rattle.verse_base.specs.declared.places.Place.{Place}
use Rattle.verse_tree.specs.Tree.{Tree, Trees}
use Rattle.verse_tree.specs.View.{return_shape, if_shape, event_shape, sleep_shape}
use Rattle.verse_tree.specs.declared.types.TyExpr.{TyExpr}
use Rattle.verse_meaning.specs.Programs.{Program}
use Rattle.verse_meaning.specs.Residuals as form
use Rattle.verse_meaning.specs.Residuals.{Form}
use Rattle.verse_meaning.specs.Evaluating.{builtin, alone, of_value, callee_of_shape}

pub modulo_is : (n : ℕ) (pl : Place) → n ≢ 0 → n ≢ 1 → n ≢ 2 → builtin n pl ≡ alone form.taking_modulo
modulo_is zero pl a b c = absurd (a refl)
modulo_is (suc zero) pl a b c = absurd (b refl)
modulo_is (suc (suc zero)) pl a b c = absurd (c refl)
modulo_is (suc (suc (suc n))) pl a b c = refl

module _ (p : Program) (n : ℕ) (whole : Form) (pl : Place) where
  pub callee_returns : (o : Option Tree) → callee_of_shape p n (return_shape o) whole pl ≡ of_value whole
  callee_returns None = refl
  callee_returns (Some a) = refl

  pub callee_chooses : (cs : Trees) (a : Tree) (o : Option Tree) → callee_of_shape p n (if_shape cs a o) whole pl ≡ of_value whole
  callee_chooses cs a None = refl
  callee_chooses cs a (Some b) = refl

  pub callee_sleeps : (o : Option ℕ) → callee_of_shape p n (sleep_shape o) whole pl ≡ of_value whole
  callee_sleeps None = refl
  callee_sleeps (Some d) = refl

  pub callee_event : (o : Option TyExpr) → callee_of_shape p n (event_shape o) whole pl ≡ of_value whole
  callee_event None = refl
  callee_event (Some w) = refl
