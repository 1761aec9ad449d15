-- What `set` needs: where it writes, along indices, and that the value goes there.
use Rattle.std.specs.Prelude.{◌≡◌, ℕ, Bool, true, List, [], ◌∷◌, ◌++◌}
use Rattle.verse_base.specs.declared.places.Place.{Place}
use Rattle.verse_tree.specs.Tree.{Tree, tree, Shape}
use Rattle.verse_tree.specs.Tree as t
use Rattle.verse_tree.specs.ItemTree.{ItemTree}
use Rattle.verse_tree.specs.declared.exprs.Assign.{Assign}
use Rattle.verse_rules_walk.specs.Around.{Around, used_as}
use Rattle.verse_rules_walk.specs.Around as around
use Rattle.verse_names_tables.specs.Names.{Table}
use Rattle.verse_names_scopes.specs.Visible.{World}
use Rattle.verse_rules_walk.specs.Nodes.{number_of_tree}
use Rattle.verse_check_typing.specs.Refs as refs
use Rattle.verse_check_typing.specs.TypeRules.{can_be_set}
use Rattle.verse_meaning.specs.Residuals as form
use Rattle.verse_meaning.specs.Evaluating.{base_of, mode_of}
use Rattle.verse_sound_rules.specs.Found.{Allowed}
use Rattle.verse_sound_rules.specs.Fine.{sort_at, target_sorts, Settled, Stores}
use Rattle.verse_accept_scopes.specs.Holding.{OnPart}
use Rattle.verse_accept_rows.specs.Found.{final, Found}
use Rattle.verse_accept_classes.specs.Referring.{Names}
use Rattle.verse_accept_classes.specs.Laws.{Quiet}
use Rattle.verse_accept_fine.specs.Sorted.{sorted, program, Allows}
use Rattle.verse_accept_fine.specs.Needs.{Is, Give, own, part, NoEnum}

module _ (is : List ItemTree) where
  abbrev mutual
    -- what stands before the dot of a target is not the name of an enum
    pub HasObject : Tree → Type 0
    HasObject (tree m q x) = HasObjectIn x

    pub HasObjectIn : Shape → Type 0
    HasObjectIn (t.Shape.member e x) = NoEnum (refs.ref_at (final is).refs (number_of_tree e))
    HasObjectIn (t.Shape.index e ts) = HasObject e
    HasObjectIn x = Unit {0}

module _ (is : List ItemTree) (arrays events : ℕ → Bool) (w : World) (a : Around) (xs : Table)
    (b : Allowed) (n : ℕ) (p : Place) where
  pub record Targets : Type 0 where
    -- a name, a member, or indices behind one
    pub settable : (m : Assign) (e f : Tree) →
        Is is arrays events w a xs b n p (t.Shape.assignment m e f) → can_be_set (final is) e ≡ true
    pub object : (m : Assign) (e f : Tree) →
        Is is arrays events w a xs b n p (t.Shape.assignment m e f) →
        OnPart (Found is) w n (used_as around.target a) xs e → HasObject is e
    pub settled : (m : Assign) (e f : Tree) →
        Is is arrays events w a xs b n p (t.Shape.assignment m e f) →
        OnPart (Found is) w n (used_as around.target a) xs e →
        Settled (program is arrays events) (sorted is) b xs e
    pub stored : (m : Assign) (e f : Tree) →
        Is is arrays events w a xs b n p (t.Shape.assignment m e f) →
        OnPart (Found is) w n (used_as around.target a) xs e →
        Stores (program is arrays events) (sorted is) (mode_of m) (part is arrays events f)
        (sort_at (program is arrays events) (sorted is) e) (own is arrays events w a xs b n p)
    pub assignment : (m : Assign) (e f : Tree) →
        Is is arrays events w a xs b n p (t.Shape.assignment m e f) →
        OnPart (Found is) w n (used_as around.target a) xs e →
        Give is arrays events w a xs b n p (form.storing (base_of (program is arrays events) e) (mode_of m) p)
        (target_sorts (program is arrays events) (sorted is) e ++ part is arrays events f ∷ [])

abbrev pub TargetsNeed : Type 0
TargetsNeed = (is : List ItemTree) → Quiet is →
    (arrays events : ℕ → Bool) (w : World) (a : Around) (xs : Table) (b : Allowed) →
    Allows is w a b → Names is w → (n : ℕ) (p : Place) → Targets is arrays events w a xs b n p
