-- What `set` needs.
use Rattle.std.proofs.Common.{◌≡◌, ℕ, Bool, true, not, List, [], ◌∷◌, ◌++◌, refl, sym, ap, subst}
use Rattle.std.proofs.lemmas.Bool.{not-false}
use Rattle.verse_base.specs.declared.places.Place.{Place}
use Rattle.verse_base.proofs.Facts.{guarded}
use Rattle.verse_tree.specs.Tree.{Tree}
use Rattle.verse_tree.specs.Tree as t
use Rattle.verse_tree.specs.ItemTree.{ItemTree}
use Rattle.verse_tree.specs.declared.exprs.Assign.{Assign}
use Rattle.verse_rules_walk.specs.Around.{Around, used_as}
use Rattle.verse_rules_walk.specs.Around as around
use Rattle.verse_names_tables.specs.Names.{Table}
use Rattle.verse_names_scopes.specs.Visible.{World}
use Rattle.verse_check_typing.specs.Facts.{Facts, type_of}
use Rattle.verse_check_typing.specs.Parts.{can_assign}
use Rattle.verse_check_typing.specs.TypeRules.{can_be_set, is_item}
use Rattle.verse_meaning.specs.Programs.{Program}
use Rattle.verse_meaning.specs.Residuals as form
use Rattle.verse_meaning.specs.Evaluating.{base_of, mode_of}
use Rattle.verse_sorts_types.specs.SortOf.{sort_of}
use Rattle.verse_sound_rules.specs.Found.{Allowed}
use Rattle.verse_sound_rules.specs.Forms.{Gives}
use Rattle.verse_sound_rules.specs.Fine.{sort_at, target_sorts, Settled, Stores}
use Rattle.verse_accept_scopes.specs.Holding.{OnPart}
use Rattle.verse_accept_rows.specs.Found.{final, Found}
use Rattle.verse_accept_classes.specs.Referring.{Names}
use Rattle.verse_accept_classes.specs.Laws.{Quiet}
use Rattle.verse_accept_fine.specs.Sorted.{At, ty_at, all_classes, sorted, program, Allows}
use Rattle.verse_accept_fine.proofs.Base.{its_row}
use Rattle.verse_accept_fine.proofs.Base as base
use Rattle.verse_accept_fine.proofs.Operators.{caught, part_sort}
use Rattle.verse_accept_trees.specs.Targets.{HasObject, TargetsNeed}
use Rattle.verse_accept_trees.proofs.Aims.{Aim, aim}
use Rattle.verse_accept_trees.proofs.Writes.{stored_by, stored_gives}

module _ (is : List ItemTree) (arrays events : ℕ → Bool) (w : World) (a : Around) (xs : Table) (b : Allowed) (n : ℕ) (p : Place)
    (quiet : Quiet is) (allows : Allows is w a b) (names : Names is w) where
  abbrev F : Facts
  F = final is

  abbrev whole : Program
  whole = program is arrays events

  module _ (m : Assign) (e f : Tree) (h : At is w a xs n p (t.Shape.assignment m e f)) where
    abbrev On : Type 0
    On = OnPart (Found is) w n (used_as around.target a) xs e

    stands : can_be_set F e ≡ true
    stands = not-false _ (base.types is w a xs n p (t.Shape.assignment m e f) h).settable

    aimed : On → Aim is arrays events b xs e
    aimed o = aim is arrays events b xs w a quiet allows names (used_as around.target a) n e o stands

    has_object : On → HasObject is e
    has_object o = (aimed o).object

    is_settled : On → Settled whole (sorted is) b xs e
    is_settled o = (aimed o).settled (λ i. caught is arrays events w a xs b allows n p (t.Shape.assignment m e f) h i)

    stores : Aim is arrays events b xs e →
        Stores whole (sorted is) (mode_of m) (sort_of (type_of F f)) (sort_of (type_of F e)) (sort_of (ty_at is n))
    stores place =
        stored_by is arrays events b xs n p e m (type_of F e) (type_of F f) refl
        (guarded (not (is_item F e)) (can_assign (all_classes is) m (type_of F e) (type_of F f))
        (base.types is w a xs n p (t.Shape.assignment m e f) h).matched (ap not place.no_item))
        (its_row is w a xs n p (t.Shape.assignment m e f) h)

    is_stored : On → Stores whole (sorted is) (mode_of m) (sort_of (type_of F f)) (sort_at whole (sorted is) e) (sort_of (ty_at is n))
    is_stored o =
        subst (λ q. Stores whole (sorted is) (mode_of m) (sort_of (type_of F f)) q (sort_of (ty_at is n)))
        (sym (part_sort is arrays events e)) (stores (aimed o))

    gives : Aim is arrays events b xs e →
        Gives whole (sorted is) b xs (form.storing (base_of whole e) (mode_of m) p)
        (target_sorts whole (sorted is) e ++ sort_of (type_of F f) ∷ []) (sort_of (ty_at is n))
    gives place =
        stored_gives is arrays events b xs n p m e (sort_of (type_of F f)) place
        (λ some. caught is arrays events w a xs b allows n p (t.Shape.assignment m e f) h (place.ends some)) (stores place)

pub targets_need : TargetsNeed
targets_need is quiet r v w a xs b h names n p = record {
  settable = stands is r v w a xs b n p quiet h names;
  object = has_object is r v w a xs b n p quiet h names;
  settled = is_settled is r v w a xs b n p quiet h names;
  stored = is_stored is r v w a xs b n p quiet h names;
  assignment = λ m e f at on. gives is r v w a xs b n p quiet h names m e f at (aimed is r v w a xs b n p quiet h names m e f at on);
}
