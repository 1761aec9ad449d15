-- Forms of two shapes are no arms and no patterns.
use Rattle.std.proofs.Common.{◌≡◌, ℕ, Option, Some, None, refl}
use Rattle.verse_tree.specs.Tree.{Tree, Trees}
use Rattle.verse_tree.specs.View.{return_shape, if_shape, event_shape, sleep_shape}
use Rattle.verse_tree.specs.declared.types.TyExpr.{TyExpr}
use Rattle.verse_tree.specs.declared.programs.Program.{Program}
use Rattle.lower_notes.specs.Stretches.{ends}
use Rattle.note_cases.specs.Arms.{shape_pattern}

module _ (p : Program) where
  pub no_pattern_returned : (o : Option Tree) → shape_pattern p (return_shape o) ≡ ends
  no_pattern_returned None = refl
  no_pattern_returned (Some e) = refl

  pub no_pattern_chosen : (cs : Trees) (e : Tree) (o : Option Tree) → shape_pattern p (if_shape cs e o) ≡ ends
  no_pattern_chosen cs e None = refl
  no_pattern_chosen cs e (Some f) = refl

  pub no_pattern_slept : (o : Option ℕ) → shape_pattern p (sleep_shape o) ≡ ends
  no_pattern_slept None = refl
  no_pattern_slept (Some d) = refl

  pub no_pattern_awaited : (o : Option TyExpr) → shape_pattern p (event_shape o) ≡ ends
  no_pattern_awaited None = refl
  no_pattern_awaited (Some w) = refl
