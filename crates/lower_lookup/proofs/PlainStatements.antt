-- Forms of two shapes are plain statements; and how many parts a list has.
use Rattle.std.proofs.Common.{◌≡◌, ℕ, suc, false, List, [], ◌∷◌, map, length, Option, Some, None, refl, ap}
use Rattle.verse_base.specs.declared.places.Place.{Place}
use Rattle.verse_tree.specs.Tree.{Tree, Trees}
use Rattle.verse_tree.specs.View.{tree_of, trees, return_shape, if_shape, event_shape, sleep_shape}
use Rattle.verse_tree.specs.declared.types.TyExpr.{TyExpr}
use Rattle.verse_tree.specs.declared.exprs.Expr.{Expr}
use Rattle.verse_meaning.specs.Evaluating.{statement_of_shape, plain}
use Rattle.lower_code.specs.Lowering.{is_defer_shape, how_many}

module _ (pl : Place) where
  pub returns_plainly : (o : Option Tree) → statement_of_shape (return_shape o) pl ≡ plain
  returns_plainly None = refl
  returns_plainly (Some a) = refl

  pub chooses_plainly : (cs : Trees) (a : Tree) (o : Option Tree) → statement_of_shape (if_shape cs a o) pl ≡ plain
  chooses_plainly cs a None = refl
  chooses_plainly cs a (Some b) = refl

  pub sleeps_plainly : (o : Option ℕ) → statement_of_shape (sleep_shape o) pl ≡ plain
  sleeps_plainly None = refl
  sleeps_plainly (Some d) = refl

  pub event_plainly : (o : Option TyExpr) → statement_of_shape (event_shape o) pl ≡ plain
  event_plainly None = refl
  event_plainly (Some w) = refl

pub returns_at_once : (o : Option Tree) → is_defer_shape (return_shape o) ≡ false
returns_at_once None = refl
returns_at_once (Some a) = refl

pub chooses_at_once : (cs : Trees) (a : Tree) (o : Option Tree) → is_defer_shape (if_shape cs a o) ≡ false
chooses_at_once cs a None = refl
chooses_at_once cs a (Some b) = refl

pub sleeps_at_once : (o : Option ℕ) → is_defer_shape (sleep_shape o) ≡ false
sleeps_at_once None = refl
sleeps_at_once (Some d) = refl

pub event_at_once : (o : Option TyExpr) → is_defer_shape (event_shape o) ≡ false
event_at_once None = refl
event_at_once (Some w) = refl

pub how_many_is : (es : List Expr) → how_many (trees (map tree_of es)) ≡ length es
how_many_is [] = refl
how_many_is (e ∷ es) = ap suc (how_many_is es)
