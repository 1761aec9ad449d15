-- What the code of a form does not look at.
use Rattle.std.proofs.Common.{◌≡◌, ℕ, Option, Some, None, refl}
use Rattle.verse_base.specs.declared.places.Place.{Place}
use Rattle.verse_tree.specs.Tree.{Tree, Trees}
use Rattle.verse_tree.specs.View.{return_shape, if_shape, event_shape, sleep_shape}
use Rattle.verse_tree.specs.declared.types.TyExpr.{TyExpr}
use Rattle.verse_tree.specs.declared.programs.Program.{Program}
use Rattle.verse_code.specs.declared.operations.Op.TheVariants as o
use Rattle.lower_code.specs.Pieces.{one, placed}
use Rattle.lower_code.specs.Scopes.{Scope}
use Rattle.lower_code.specs.declared.arounds.Around.{Around}
use Rattle.lower_parts.specs.Parts.{form_code, no_place}
use Rattle.lower_task.specs.Tasks.{sleep_op}

-- the code of these forms is the same wherever they stand
module _ (p : Program) (n : ℕ) (pl : Place) (sc : Scope) (a : Around) where
  pub return_code : (o : Option Tree) →
      form_code p (return_shape o) n pl sc a ≡ form_code p (return_shape o) 0 no_place sc a
  return_code None = refl
  return_code (Some b) = refl

  pub if_code : (cs : Trees) (b : Tree) (o : Option Tree) →
      form_code p (if_shape cs b o) n pl sc a ≡ form_code p (if_shape cs b o) 0 no_place sc a
  if_code cs b None = refl
  if_code cs b (Some c) = refl

  pub event_code : (x : Option TyExpr) → form_code p (event_shape x) n pl sc a ≡ placed pl o.Event
  event_code None = refl
  event_code (Some w) = refl

  pub sleep_code : (x : Option ℕ) → form_code p (sleep_shape x) n pl sc a ≡ one (sleep_op x)
  sleep_code None = refl
  sleep_code (Some d) = refl
