-- What calls, indices and spawned calls need, by what their callees stand for.
use Rattle.std.specs.Prelude.{◌≡◌, ℕ, Bool, true, false, List, [], ◌∷◌, None}
use Rattle.verse_base.specs.declared.places.Place.{Place}
use Rattle.verse_tree.specs.Tree.{Bytes, Tree, tree, Shape, Trees, no_trees, more_trees}
use Rattle.verse_tree.specs.Tree as t
use Rattle.verse_tree.specs.ItemTree.{ItemTree}
use Rattle.verse_tree.specs.declared.exprs.Operator.TheVariants as op
use Rattle.verse_rules_walk.specs.Around.{Around, used_as, indexed}
use Rattle.verse_rules_walk.specs.Around as around
use Rattle.verse_rules_walk.specs.Nodes.{number_of_tree}
use Rattle.verse_names_tables.specs.Names.{Table}
use Rattle.verse_names_scopes.specs.Visible.{World, visible}
use Rattle.verse_check_typing.specs.Refs as refs
use Rattle.verse_check_typing.specs.TypeRules.{has_value}
use Rattle.verse_effects.specs.Forms.{is_on_path, is_spawned}
use Rattle.verse_meaning.specs.Programs.{Program, ref_at}
use Rattle.verse_meaning.specs.Residuals as form
use Rattle.verse_meaning.specs.Residuals.{Form}
use Rattle.verse_meaning.specs.Evaluating.{of_value, callee_of, spawned_callee, picked, member_form}
use Rattle.verse_sorts.specs.Sorts.{Sort}
use Rattle.verse_sound_rules.specs.Found.{Allowed}
use Rattle.verse_sound_rules.specs.Found as rules
use Rattle.verse_sound_rules.specs.Fine.{sorts_at, object_sort, on_callee, Reaches}
use Rattle.verse_accept_scopes.specs.Holding.{OnPart, OnArguments}
use Rattle.verse_accept_rows.specs.Found.{final, Found}
use Rattle.verse_accept_classes.specs.Referring.{Names}
use Rattle.verse_accept_classes.specs.Laws.{Quiet, FunctionsStand}
use Rattle.verse_accept_fine.specs.Needs as needs
use Rattle.verse_accept_fine.specs.Needs.{NoEnum}
use Rattle.verse_accept_fine.specs.Sorted.{ty_at, sorted, program, Allows, is_event_type}

module _ (is : List ItemTree) where
  -- what stands before the dot of what is called is not the name of an enum
  abbrev pub HasObject : Tree → Type 0
  HasObject (tree m q (t.Shape.member e x)) =
      NoEnum (refs.ref_at (final is).refs (number_of_tree e))
  HasObject e = ⊥

module _ (is : List ItemTree) (arrays events : ℕ → Bool) (w : World) (a : Around) (xs : Table)
    (b : Allowed) (n : ℕ) (p : Place) where
  abbrev pub whole : Program
  whole = program is arrays events

  abbrev pub found : rules.Found
  found = sorted is

  abbrev pub Is : Shape → Type 0
  Is x = needs.Is is arrays events w a xs b n p x

  abbrev pub Give : Form → List Sort → Type 0
  Give x qs = needs.Give is arrays events w a xs b n p x qs

  abbrev pub part : Tree → Sort
  part e = needs.part is arrays events e

  -- what is called or indexed as a value has one, where it is a name
  abbrev pub HasValue : Tree → Type 0
  HasValue (tree m q (t.Shape.name x)) = has_value (visible w xs x) ≡ true
  HasValue e = Unit {0}

  -- the one argument of Floor and Ceil is a quotient of ints
  abbrev pub Rounds : Form → Trees → Type 0
  Rounds x (more_trees (tree m q (t.Shape.chained op.Div e f)) no_trees) =
      Give x (part e ∷ part f ∷ [])
  Rounds x ts = ⊥

  -- what a `spawn` starts is a call of a function or a method
  abbrev pub Starts : Tree → Type 0
  Starts (tree m q (t.Shape.call e ts)) =
      on_callee (spawned_callee (callee_of whole e (form.picking None) q))
      (λ x. Give x (sorts_at whole found ts))
      (λ x. HasObject is e × Give x (object_sort whole found e ∷ sorts_at whole found ts)) (λ x. ⊥)
      (λ x. ⊥)
  Starts e = ⊥

  pub record Callees : Type 0 where
    -- round brackets
    pub call : (e : Tree) (ts : Trees) → Is (t.Shape.call e ts) → is_spawned a.used ≡ false →
        OnPart (Found is) w n (used_as around.callee a) xs e →
        OnArguments (Found is) w n a xs (number_of_tree e) 0 ts →
        on_callee (callee_of whole e (picked ts) p) (λ x. Give x (sorts_at whole found ts))
        (λ x. HasObject is e × Give x (object_sort whole found e ∷ sorts_at whole found ts))
        (λ x. HasValue e × Give x (part e ∷ []))
        (λ x. Rounds x ts)
    -- square brackets, but for what `set` writes to
    pub index : (e : Tree) (ts : Trees) → Is (t.Shape.index e ts) → is_spawned a.used ≡ false →
        is_on_path a.used ≡ false → OnPart (Found is) w n (indexed a) xs e →
        OnArguments (Found is) w n a xs (number_of_tree e) 0 ts →
        on_callee (callee_of whole e form.indexing p) (λ x. Give x (sorts_at whole found ts))
        (λ x. HasObject is e × Give x (object_sort whole found e ∷ sorts_at whole found ts))
        (λ x. HasValue e × Reaches whole found (part e) (sorts_at whole found ts)
        (needs.own is arrays events w a xs b n p) × Give x (part e ∷ sorts_at whole found ts))
        (λ x. ⊥)
    pub spawn : (e : Tree) → Is (t.Shape.spawn e) →
        OnPart (Found is) w n (used_as around.spawned a) xs e → Starts e
    -- a member that is called or indexed as a value, of what is no enum
    pub member : (e : Tree) (x : Bytes) → Is (t.Shape.member e x) →
        NoEnum (refs.ref_at (final is).refs (number_of_tree e)) → (y z : Form) (q : Place) →
        callee_of whole (tree n p (t.Shape.member e x)) y q ≡ of_value z →
        Give (member_form (ref_at whole n) x) (part e ∷ [])

-- where names stand for what is there, and a table tells which nodes are events
abbrev pub CalleesNeed : Type 0
CalleesNeed = (is : List ItemTree) → FunctionsStand is → Quiet is → (arrays events : ℕ → Bool) →
    ((m : ℕ) → events m ≡ is_event_type (ty_at is m)) →
    (w : World) (a : Around) (xs : Table) (b : Allowed) → Allows is w a b → Names is w →
    (n : ℕ) (p : Place) → Callees is arrays events w a xs b n p
