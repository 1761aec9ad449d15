-- What a form needs that asks only for its type and for what is allowed at it.
use Rattle.std.specs.Prelude.{◌≡◌, ℕ, ℤ, Bool, true, false, List, [], ◌∷◌}
use Rattle.verse_base.specs.declared.places.Place.{Place}
use Rattle.verse_tree.specs.Tree.{Bytes, Written, Tree, Shape, Trees}
use Rattle.verse_tree.specs.Tree as t
use Rattle.verse_tree.specs.ItemTree.{ItemTree}
use Rattle.verse_tree.specs.declared.exprs.Operator.TheVariants as op
use Rattle.verse_rules_types.specs.Fitting.{fits}
use Rattle.verse_rules_walk.specs.Around.{Around}
use Rattle.verse_names_tables.specs.Names.{Table}
use Rattle.verse_names_scopes.specs.Visible.{World, visible}
use Rattle.verse_check_typing.specs.Facts.{type_of}
use Rattle.verse_check_typing.specs.Rows.{spelled}
use Rattle.verse_check_typing.specs.TypeRules.{has_value, takes_item, is_rounded}
use Rattle.verse_meaning.specs.Residuals as form
use Rattle.verse_meaning.specs.Residuals.{Form}
use Rattle.verse_sorts.specs.Sorts as s
use Rattle.verse_sorts.specs.Sorts.{Sort, Fits}
use Rattle.verse_sound_rules.specs.Found.{Allowed}
use Rattle.verse_accept_rows.specs.Found.{final}
use Rattle.verse_accept_fine.specs.Sorted.{all_classes, up, Allows}
use Rattle.verse_accept_fine.specs.Needs as needs

module _ (is : List ItemTree) (arrays events : ℕ → Bool) (w : World) (a : Around) (xs : Table)
    (b : Allowed) (n : ℕ) (p : Place) where
  abbrev pub own : Sort
  own = needs.own is arrays events w a xs b n p

  abbrev pub part : Tree → Sort
  part e = needs.part is arrays events e

  abbrev pub Is : Shape → Type 0
  Is x = needs.Is is arrays events w a xs b n p x

  abbrev pub Give : Form → List Sort → Type 0
  Give x qs = needs.Give is arrays events w a xs b n p x qs

  pub record Plain : Type 0 where
    -- literals
    pub integer : (z : ℤ) → Is (t.Shape.integer z) → Fits (up is) s.int own
    pub character : (c : ℕ) → Is (t.Shape.character c) → Fits (up is) s.char own
    pub text : (x : Bytes) → Is (t.Shape.text x) → Fits (up is) (s.list s.char) own
    pub truth : Is t.Shape.truth → Fits (up is) s.logic own
    pub falsehood : Is t.Shape.falsehood → Fits (up is) s.nil own
    -- statements: what is defined, and what is left
    pub defer : (e : Tree) → Is (t.Shape.defer e) → Fits (up is) s.unit own
    pub constant : (x : Bytes) (e : Tree) → Is (t.Shape.definition x e) → Fits (up is) (part e) own
    pub typed : (x : Bytes) (v : Written) (e : Tree) → Is (t.Shape.typed x v e) →
        fits (all_classes is) (type_of (final is) e) (spelled (final is) v) ≡ true →
        Give form.defining (part e ∷ [])
    pub variable : (x : Bytes) (v : Written) (e : Tree) → Is (t.Shape.variable x v e) →
        fits (all_classes is) (type_of (final is) e) (spelled (final is) v) ≡ true →
        Give (form.varying p) (part e ∷ [])
    pub returned : (e : Tree) → Is (t.Shape.returned e) → a.may_return ≡ true
    pub returned_unit : Is t.Shape.returned_unit → a.may_return ≡ true
    -- failure contexts
    pub if_alone : (ts : Trees) (e : Tree) → Is (t.Shape.if_alone ts e) →
        Fits (up is) (part e) own × Fits (up is) s.unit own
    pub negation : (e : Tree) → Is (t.Shape.negation e) → (b.fails ≡ true) × Fits (up is) s.unit own
    pub logic : (ts : Trees) → Is (t.Shape.logic ts) → Fits (up is) s.logic own
    -- a quotient stands as the argument of Floor or Ceil alone, where its failure is taken
    pub quotient : (e f : Tree) → Is (t.Shape.chained op.Div e f) →
        (is_rounded (final is) a.used ≡ true) × (b.fails ≡ true)
    -- a name that may not stand here for a function, a class or an enum has a value
    pub named : (x : Bytes) → Is (t.Shape.name x) → takes_item a.used (visible w xs x) ≡ false →
        has_value (visible w xs x) ≡ true
    -- events, loops and blocks
    pub event : (v : Written) → Is (t.Shape.event v) → (q : Sort) × Fits (up is) (s.event q) own
    pub bare_event : Is t.Shape.bare_event → (q : Sort) × Fits (up is) (s.event q) own
    pub for_form : (ts : Trees) (e : Tree) → Is (t.Shape.for_form ts e) →
        (q : Sort) × (own ≡ s.list q) × Fits (up is) (part e) q
    pub block_form : (e : Tree) → Is (t.Shape.block_form e) → Fits (up is) (part e) own
    -- tasks
    pub branch : (e : Tree) → Is (t.Shape.branch e) → (b.waits ≡ true) × Fits (up is) s.unit own
    pub sleep : (d : ℕ) → Is (t.Shape.sleep d) → (b.waits ≡ true) × Fits (up is) s.unit own
    pub sleep_forever : Is t.Shape.sleep_forever → (b.waits ≡ true) × Fits (up is) s.unit own

abbrev pub PlainNeeds : Type 0
PlainNeeds = (is : List ItemTree) (arrays events : ℕ → Bool) (w : World) (a : Around) (xs : Table)
    (b : Allowed) → Allows is w a b → (n : ℕ) (p : Place) → Plain is arrays events w a xs b n p
