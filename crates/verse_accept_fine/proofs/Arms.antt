-- Arms of groups and of `case`: each gives what the whole gives.
use Rattle.std.proofs.Common.{◌≡◌, ℕ, Bool, cond, List, sym, subst}
use Rattle.verse_base.specs.declared.places.Place.{Place}
use Rattle.verse_tree.specs.Tree.{Tree, Trees, no_trees, more_trees}
use Rattle.verse_tree.specs.Tree as t
use Rattle.verse_tree.specs.ItemTree.{ItemTree}
use Rattle.verse_rules_types.specs.Types.{Ty}
use Rattle.verse_rules_types.specs.Types as ty
use Rattle.verse_rules_types.specs.Fitting.{join}
use Rattle.verse_rules_walk.specs.Around.{Around}
use Rattle.verse_names_tables.specs.Names.{Table}
use Rattle.verse_names_scopes.specs.Visible.{World}
use Rattle.verse_check_typing.specs.Facts.{Facts, type_of}
use Rattle.verse_check_typing.specs.Parts.{joined_from, is_never}
use Rattle.verse_sorts.specs.Sorts.{Sort, Fits}
use Rattle.verse_sorts.specs.Sorts as s
use Rattle.verse_sorts.proofs.Fitting.{fits_on, fits_itself}
use Rattle.verse_sorts_types.specs.SortOf.{sort_of}
use Rattle.verse_sorts_types.proofs.Joining.{join_both}
use Rattle.verse_sound_rules.specs.Fine.{arm_fits, no_subject}
use Rattle.verse_accept_rows.specs.Found.{final}
use Rattle.verse_accept_fine.specs.Needs.{EachFits, ArmsFit}
use Rattle.verse_accept_fine.specs.Sorted.{At, ty_at, all_classes, up}
use Rattle.verse_accept_fine.proofs.Base.{its_row}

module _ (is : List ItemTree) (arrays events : ℕ → Bool) where
  abbrev F : Facts
  F = final is

  grows : (u : Ty) (es : Trees) → Fits (up is) (sort_of u) (sort_of (joined_from F u es))
  grows u no_trees = fits_itself (up is) (sort_of u)
  grows u (more_trees e es) =
      fits_on (up is) (join_both (all_classes is) u (type_of F e)).0 (grows (join (all_classes is) u (type_of F e)) es)

  each_joined : (u : Ty) (es : Trees) → EachFits is arrays events (sort_of (joined_from F u es)) es
  each_joined u no_trees = tt
  each_joined u (more_trees e es) =
      let v = join (all_classes is) u (type_of F e) in
      (fits_on (up is) (join_both (all_classes is) u (type_of F e)).1 (grows v es), each_joined v es)

  module _ (w : World) (a : Around) (xs : Table) (n : ℕ) (p : Place) where
    given : (ts : Trees) → ty_at is n ≡ joined_from F ty.never ts → EachFits is arrays events (sort_of (ty_at is n)) ts
    given ts r = subst (λ u. EachFits is arrays events (sort_of u) ts) (sym r) (each_joined ty.never ts)

    pub race_fits : (ts : Trees) → At is w a xs n p (t.Shape.race ts) → EachFits is arrays events (sort_of (ty_at is n)) ts
    race_fits ts h = given ts (its_row is w a xs n p (t.Shape.race ts) h)

    pub rush_fits : (ts : Trees) → At is w a xs n p (t.Shape.rush ts) → EachFits is arrays events (sort_of (ty_at is n)) ts
    rush_fits ts h = given ts (its_row is w a xs n p (t.Shape.rush ts) h)

    arms_of : (q : Sort) (ts : Trees) → EachFits is arrays events (sort_of (ty_at is n)) ts →
        ArmsFit is arrays events q (sort_of (ty_at is n)) ts
    arms_of q no_trees h = tt
    arms_of q (more_trees e es) h = (arm_fits h.0, arms_of q es h.1)

    none_of : (ts : Trees) → ArmsFit is arrays events s.never (sort_of (ty_at is n)) ts
    none_of no_trees = tt
    none_of (more_trees e es) = (no_subject, none_of es)

    pub case_fits : (e : Tree) (ts : Trees) → At is w a xs n p (t.Shape.cases e ts) → ArmsFit is arrays events (sort_of (type_of F e))
        (sort_of (ty_at is n)) ts
    case_fits e ts h = by (type_of F e) (its_row is w a xs n p (t.Shape.cases e ts) h)
      where
        by : (u : Ty) → ty_at is n ≡ cond (is_never u) ty.never (joined_from F ty.never ts) →
            ArmsFit is arrays events (sort_of u) (sort_of (ty_at is n)) ts
        by ty.never r = none_of ts
        by u r = arms_of (sort_of u) ts (given ts r)
