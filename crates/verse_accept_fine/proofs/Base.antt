-- What is found at an expression, by its form.
use Rattle.std.proofs.Common.{◌≡◌, ℕ, List, Option, refl, sym, subst, ap}
use Rattle.std.specs.Prelude.{Some, None}
use Rattle.verse_base.specs.declared.places.Place.{Place}
use Rattle.verse_tree.specs.Tree.{Tree, tree, Shape}
use Rattle.verse_tree.specs.ItemTree.{ItemTree}
use Rattle.verse_tree.specs.declared.tables.Ref.{Ref}
use Rattle.verse_rules_types.specs.Types.{Ty}
use Rattle.verse_rules_walk.specs.Around.{Around}
use Rattle.verse_rules_walk.specs.Nodes.{number_of_tree}
use Rattle.verse_names_tables.specs.Names.{Table}
use Rattle.verse_names_scopes.specs.Visible.{World}
use Rattle.verse_check_typing.specs.Refs as refs
use Rattle.verse_check_typing.specs.Rows.{row}
use Rattle.verse_rules.specs.Sound.{completed}
use Rattle.verse_effects.specs.Callees as callees
use Rattle.verse_meaning.specs.Programs as programs
use Rattle.verse_sorts.specs.Sorts.{Sort, Fits}
use Rattle.verse_sorts.proofs.Fitting.{fits_itself}
use Rattle.verse_sorts_types.specs.SortOf.{sort_of}
use Rattle.verse_accept_rows.specs.Found.{final}
use Rattle.verse_accept_fine.specs.Sorted.{At, ty_at, up}
use Rattle.verse_accept_fine.proofs.Rules.{TypesKept, types_kept, EffectsKept, effects_kept}

-- what a number refers to, for the checker, for its effects and for the meaning
pub same_known : (o : Option (Option Ref)) → programs.known o ≡ refs.referred o
same_known None = refl
same_known (Some o) = refl

pub same_referred : (o : Option (Option Ref)) → callees.referred o ≡ refs.referred o
same_referred None = refl
same_referred (Some o) = refl

pub same_number : (e : Tree) → Rattle.verse_meaning.specs.Evaluating.number_of e ≡ number_of_tree e
same_number (tree n p x) = refl

module _ (is : List ItemTree) where
  module _ (w : World) (a : Around) (xs : Table) (n : ℕ) (p : Place) (x : Shape) (h : At is w a xs n p x) where
    pub types : TypesKept (final is) a n x
    types = types_kept (final is) a n x h.types

    pub effects : EffectsKept (completed is) (final is).vars a n x
    effects = effects_kept (completed is) (final is).vars a n x h.effects

    pub its_row : ty_at is n ≡ row (final is) n x
    its_row = h.type

    pub its_sort : sort_of (ty_at is n) ≡ sort_of (row (final is) n x)
    its_sort = ap sort_of h.type

  -- a value of the sort of a node's row is of the node's sort
  pub of_row : (n : ℕ) (q : Sort) (u : Ty) → ty_at is n ≡ u → Fits (up is) q (sort_of u) → Fits (up is) q (sort_of (ty_at is n))
  of_row n q u e h = subst (λ v. Fits (up is) q (sort_of v)) (sym e) h

  pub is_row : (n : ℕ) (u : Ty) → ty_at is n ≡ u → Fits (up is) (sort_of u) (sort_of (ty_at is n))
  is_row n u e = of_row n (sort_of u) u e (fits_itself (up is) (sort_of u))
