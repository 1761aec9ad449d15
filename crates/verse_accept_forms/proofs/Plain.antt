-- Literals, statements, failure contexts, events, blocks and waits: what their forms need.
use Rattle.std.proofs.Common.{◌≡◌, ℕ, ℤ, Bool, true, false, not, ◌&&◌, List, [], ◌∷◌, Option, refl, subst}
use Rattle.std.proofs.lemmas.Bool.{not-false}
use Rattle.verse_base.specs.declared.places.Place.{Place}
use Rattle.verse_base.proofs.Facts.{guarded}
use Rattle.verse_tree.specs.Tree.{Bytes, Written, Tree, Shape, Trees}
use Rattle.verse_tree.specs.Tree as t
use Rattle.verse_tree.specs.ItemTree.{ItemTree}
use Rattle.verse_tree.specs.declared.exprs.Operator.TheVariants as op
use Rattle.verse_tree.specs.declared.tables.Ref.{Ref}
use Rattle.verse_rules_types.specs.Types as ty
use Rattle.verse_rules_types.specs.Fitting.{fits}
use Rattle.verse_rules_walk.specs.Around.{Around}
use Rattle.verse_names_tables.specs.Names.{Table}
use Rattle.verse_names_scopes.specs.Visible.{World, visible}
use Rattle.verse_check_typing.specs.Facts.{Facts, type_of}
use Rattle.verse_check_typing.specs.Rows.{spelled}
use Rattle.verse_check_typing.specs.TypeRules.{has_value, takes_item, is_rounded}
use Rattle.verse_meaning.specs.Residuals as form
use Rattle.verse_sorts.specs.Sorts as s
use Rattle.verse_sorts.specs.Sorts.{Sort, Fits}
use Rattle.verse_sorts.proofs.Fitting.{fits_itself, all_itself}
use Rattle.verse_sorts_types.specs.SortOf.{sort_of}
use Rattle.verse_sorts_types.proofs.Fitting as fitting
use Rattle.verse_sound_rules.specs.Found.{Allowed}
use Rattle.verse_sound_rules.specs.Forms.{Gives}
use Rattle.verse_sound_rules.specs.Forms as takes
use Rattle.verse_accept_rows.specs.Found.{final}
use Rattle.verse_accept_fine.specs.Sorted.{At, ty_at, all_classes, up, sorted, program, Allows}
use Rattle.verse_accept_fine.proofs.Base.{types, effects, its_row, its_sort, of_row, is_row}
use Rattle.verse_accept_fine.proofs.Operators.{caught}
use Rattle.verse_accept_fine.proofs.Control.{async_waits}

has_one : (q r : Bool) → (not q && not r) ≡ false → r ≡ false → q ≡ true
has_one true r h e = refl
has_one false true h e = cc
has_one false false h e = cc

module _ (is : List ItemTree) (arrays events : ℕ → Bool) (w : World) (a : Around) (xs : Table) (b : Allowed) (allows : Allows is w a b)
    (n : ℕ) (p : Place) where
  abbrev F : Facts
  F = final is

  abbrev own : Sort
  own = sort_of (ty_at is n)

  abbrev part : Tree → Sort
  part e = sort_of (type_of F e)

  abbrev Is : Shape → Type 0
  Is x = At is w a xs n p x

  abbrev Give : form.Form → List Sort → Type 0
  Give x qs = Gives (program is arrays events) (sorted is) b xs x qs own

  -- ---- literals

  pub integer_fits : (z : ℤ) → Is (t.Shape.integer z) → Fits (up is) s.int own
  integer_fits z h = is_row is n ty.int (its_row is w a xs n p (t.Shape.integer z) h)

  pub character_fits : (c : ℕ) → Is (t.Shape.character c) → Fits (up is) s.char own
  character_fits c h = is_row is n ty.char (its_row is w a xs n p (t.Shape.character c) h)

  pub text_fits : (x : Bytes) → Is (t.Shape.text x) → Fits (up is) (s.list s.char) own
  text_fits x h = is_row is n ty.string (its_row is w a xs n p (t.Shape.text x) h)

  pub truth_fits : Is t.Shape.truth → Fits (up is) s.logic own
  truth_fits h = is_row is n ty.logic (its_row is w a xs n p t.Shape.truth h)

  pub falsehood_fits : Is t.Shape.falsehood → Fits (up is) s.nil own
  falsehood_fits h = is_row is n ty.nil (its_row is w a xs n p t.Shape.falsehood h)

  -- ---- statements

  -- unit is of what is void
  void_fits : ty_at is n ≡ ty.void → Fits (up is) s.unit own
  void_fits r = of_row is n s.unit ty.void r (s.to_any tt)

  pub defer_fits : (e : Tree) → Is (t.Shape.defer e) → Fits (up is) s.unit own
  defer_fits e h = void_fits (its_row is w a xs n p (t.Shape.defer e) h)

  pub constant_fits : (x : Bytes) (e : Tree) → Is (t.Shape.definition x e) → Fits (up is) (part e) own
  constant_fits x e h = is_row is n (type_of F e) (its_row is w a xs n p (t.Shape.definition x e) h)

  pub typed_gives : (x : Bytes) (v : Written) (e : Tree) → Is (t.Shape.typed x v e) →
      fits (all_classes is) (type_of F e) (spelled F v) ≡ true → Give form.defining (part e ∷ [])
  typed_gives x v e h f = record {
    no_case = tt;
    taken = part e ∷ [];
    given = part e;
    operands = all_itself (up is) (part e ∷ []);
    takes = takes.takes_defined;
    value = of_row is n (part e) (spelled F v) (its_row is w a xs n p (t.Shape.typed x v e) h)
        (fitting.fits_sort (all_classes is) (type_of F e) (spelled F v) f);
  }

  pub variable_gives : (x : Bytes) (v : Written) (e : Tree) → Is (t.Shape.variable x v e) →
      fits (all_classes is) (type_of F e) (spelled F v) ≡ true → Give (form.varying p) (part e ∷ [])
  variable_gives x v e h f = record {
    no_case = tt;
    taken = part e ∷ [];
    given = part e;
    operands = all_itself (up is) (part e ∷ []);
    takes = takes.takes_varying;
    value = of_row is n (part e) (spelled F v) (its_row is w a xs n p (t.Shape.variable x v e) h)
        (fitting.fits_sort (all_classes is) (type_of F e) (spelled F v) f);
  }

  pub may_return : (e : Tree) → Is (t.Shape.returned e) → a.may_return ≡ true
  may_return e h = not-false a.may_return (effects is w a xs n p (t.Shape.returned e) h).stays

  pub may_return_unit : Is t.Shape.returned_unit → a.may_return ≡ true
  may_return_unit h = not-false a.may_return (effects is w a xs n p t.Shape.returned_unit h).stays

  -- ---- failure contexts

  pub if_fits : (ts : Trees) (e : Tree) → Is (t.Shape.if_alone ts e) → Fits (up is) (part e) own × Fits (up is) s.unit own
  if_fits ts e h =
      let r : ty_at is n ≡ ty.void = its_row is w a xs n p (t.Shape.if_alone ts e) h in
      (of_row is n (part e) ty.void r (s.to_any (fitting.sort_known (type_of F e))), void_fits r)

  pub negation_fits : (e : Tree) → Is (t.Shape.negation e) → (b.fails ≡ true) × Fits (up is) s.unit own
  negation_fits e h = (
    caught is arrays events w a xs b allows n p (t.Shape.negation e) h refl,
    void_fits (its_row is w a xs n p (t.Shape.negation e) h),
  )

  pub logic_fits : (ts : Trees) → Is (t.Shape.logic ts) → Fits (up is) s.logic own
  logic_fits ts h = is_row is n ty.logic (its_row is w a xs n p (t.Shape.logic ts) h)

  pub quotient_stands : (e f : Tree) → Is (t.Shape.chained op.Div e f) → (is_rounded F a.used ≡ true) × (b.fails ≡ true)
  quotient_stands e f h = (
    guarded true (is_rounded F a.used) (types is w a xs n p (t.Shape.chained op.Div e f) h).rounded refl,
    caught is arrays events w a xs b allows n p (t.Shape.chained op.Div e f) h refl,
  )

  pub name_stands : (x : Bytes) → Is (t.Shape.name x) → takes_item a.used (visible w xs x) ≡ false → has_value (visible w xs x) ≡ true
  name_stands x h e =
      has_one (has_value (visible w xs x)) (takes_item a.used (visible w xs x))
      (subst (λ (o : Option Ref). (not (has_value o) && not (takes_item a.used o)) ≡ false) h.named
      (types is w a xs n p (t.Shape.name x) h).callable)
      e

  -- ---- events, loops and blocks

  pub event_fits : (v : Written) → Is (t.Shape.event v) → (q : Sort) × Fits (up is) (s.event q) own
  event_fits v h = (sort_of (spelled F v), is_row is n (ty.event (spelled F v)) (its_row is w a xs n p (t.Shape.event v) h))

  pub bare_event_fits : Is t.Shape.bare_event → (q : Sort) × Fits (up is) (s.event q) own
  bare_event_fits h = (s.any, is_row is n (ty.event ty.void) (its_row is w a xs n p t.Shape.bare_event h))

  pub for_fits : (ts : Trees) (e : Tree) → Is (t.Shape.for_form ts e) → (q : Sort) × (own ≡ s.list q) × Fits (up is) (part e) q
  for_fits ts e h = (part e, its_sort is w a xs n p (t.Shape.for_form ts e) h, fits_itself (up is) (part e))

  pub block_fits : (e : Tree) → Is (t.Shape.block_form e) → Fits (up is) (part e) own
  block_fits e h = is_row is n (type_of F e) (its_row is w a xs n p (t.Shape.block_form e) h)

  -- ---- tasks

  pub branch_fits : (e : Tree) → Is (t.Shape.branch e) → (b.waits ≡ true) × Fits (up is) s.unit own
  branch_fits e h = (
    async_waits is arrays events w a xs b allows n p (t.Shape.branch e) h refl,
    void_fits (its_row is w a xs n p (t.Shape.branch e) h),
  )

  pub sleep_fits : (d : ℕ) → Is (t.Shape.sleep d) → (b.waits ≡ true) × Fits (up is) s.unit own
  sleep_fits d h = (
    async_waits is arrays events w a xs b allows n p (t.Shape.sleep d) h refl,
    void_fits (its_row is w a xs n p (t.Shape.sleep d) h),
  )

  pub sleep_forever_fits : Is t.Shape.sleep_forever → (b.waits ≡ true) × Fits (up is) s.unit own
  sleep_forever_fits h = (
    async_waits is arrays events w a xs b allows n p t.Shape.sleep_forever h refl,
    void_fits (its_row is w a xs n p t.Shape.sleep_forever h),
  )
