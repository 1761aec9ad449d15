-- What the states of a form do not depend on.
use Rattle.std.proofs.Common.{◌≡◌, ℕ, Option, Some, None, refl, ap, ◌∙◌, rules}
use Rattle.verse_base.specs.declared.places.Place.{Place}
use Rattle.verse_tree.specs.Tree.{Tree, Trees}
use Rattle.verse_tree.specs.Tree as t
use Rattle.verse_tree.specs.View.{shape_of, return_shape, if_shape, event_shape, sleep_shape}
use Rattle.verse_tree.specs.declared.exprs.Expr.{the_lemmas}
use Rattle.verse_tree.specs.declared.exprs.Form as form
use Rattle.verse_tree.specs.declared.exprs.Form.{Form}
use Rattle.verse_tree.specs.declared.exprs.Operator.{Operator}
use Rattle.verse_tree.specs.declared.exprs.Operator.TheVariants as op
use Rattle.verse_tree.specs.declared.types.TyExpr.{TyExpr}
use Rattle.verse_tree.specs.declared.programs.Program.{Program}
use Rattle.lower_code.specs.Scopes.{Scope}
use Rattle.lower_code.specs.declared.arounds.Around.{Around}
use Rattle.lower_notes.specs.Stretches.{last}
use Rattle.note_parts.specs.Parts.{form_walk, no_place}

shape_break : shape_of form.Break ≡ t.Shape.break_form
shape_break = search (rules, the_lemmas)

pub is_break : (f : Form) → f ≡ form.Break → shape_of f ≡ t.Shape.break_form
is_break f h = ap shape_of h ∙ shape_break

-- these forms have the same states whatever their node and place are
module _ (p : Program) (n : ℕ) (pl : Place) (sc : Scope) (a : Around) where
  pub return_walk : (o : Option Tree) → form_walk p (return_shape o) n pl sc a ≡ form_walk p (return_shape o) 0 no_place sc a
  return_walk None = refl
  return_walk (Some b) = refl

  pub if_walk : (cs : Trees) (b : Tree) (o : Option Tree) →
      form_walk p (if_shape cs b o) n pl sc a ≡ form_walk p (if_shape cs b o) 0 no_place sc a
  if_walk cs b None = refl
  if_walk cs b (Some c) = refl

  pub event_walk : (x : Option TyExpr) → form_walk p (event_shape x) n pl sc a ≡ last
  event_walk None = refl
  event_walk (Some w) = refl

  pub sleep_walk : (x : Option ℕ) → form_walk p (sleep_shape x) n pl sc a ≡ last
  sleep_walk None = refl
  sleep_walk (Some d) = refl

  pub chain_walk : (o : Operator) (b c : Tree) →
      form_walk p (t.Shape.chained o b c) n pl sc a ≡ form_walk p (t.Shape.chained o b c) 0 no_place sc a
  chain_walk op.Or b c = refl
  chain_walk op.And b c = refl
  chain_walk op.Add b c = refl
  chain_walk op.Sub b c = refl
  chain_walk op.Mul b c = refl
  chain_walk op.Div b c = refl
