-- What each form needs, from what is found at its node, where this is allowed.
use Rattle.std.specs.Prelude.{◌≡◌, ℕ, ◌-◌, Bool, true, false, List, [], ◌∷◌, Option, Some}
use Rattle.verse_base.specs.declared.places.Place.{Place}
use Rattle.verse_tree.specs.Tree.{Bytes, Written, Tree, tree, Shape, Trees, Holes, Pairs, Givens}
use Rattle.verse_tree.specs.Tree as t
use Rattle.verse_tree.specs.ItemTree.{ItemTree}
use Rattle.verse_tree.specs.declared.exprs.Operator.TheVariants as op
use Rattle.verse_tree.specs.declared.exprs.Comparison.{Comparison}
use Rattle.verse_tree.specs.declared.tables.Ref.{Ref}
use Rattle.verse_tree.specs.declared.tables.Ref.TheVariants as ref
use Rattle.verse_rules_types.specs.Types as ty
use Rattle.verse_rules_types.specs.Fitting.{fits}
use Rattle.verse_rules_walk.specs.Around.{Around}
use Rattle.verse_rules_walk.specs.Around as around
use Rattle.verse_rules_walk.specs.Nodes.{number_of_tree}
use Rattle.verse_names_tables.specs.Names.{Table}
use Rattle.verse_names_scopes.specs.Visible.{World, visible}
use Rattle.verse_check_typing.specs.Sets.{has_number}
use Rattle.verse_check_typing.specs.Facts.{type_of}
use Rattle.verse_check_typing.specs.Parts.{are_ints}
use Rattle.verse_check_typing.specs.Loops.{is_domain}
use Rattle.verse_check_typing.specs.Rows.{spelled}
use Rattle.verse_check_typing.specs.Refs as refs
use Rattle.verse_check_typing.specs.TypeRules.{has_value, is_called, alone, is_alone}
use Rattle.verse_effects.specs.Forms.{is_async, is_spawned}
use Rattle.verse_rules.specs.Sound.{completed}
use Rattle.verse_value.specs.Val as v
use Rattle.verse_meaning.specs.Programs.{same_name, ref_at, pieces, given_names}
use Rattle.verse_meaning.specs.Residuals as form
use Rattle.verse_meaning.specs.Residuals.{Form, a_constant, a_variable, of_elements, of_entries}
use Rattle.verse_meaning.specs.Residuals.{of_range}
use Rattle.verse_meaning.specs.Forms.{this_name}
use Rattle.verse_meaning.specs.Evaluating.{member_form, class_ref, enum_member}
use Rattle.verse_sorts.specs.Sorts as s
use Rattle.verse_sorts.specs.Sorts.{Sort, Fits}
use Rattle.verse_sorts_types.specs.SortOf.{sort_of}
use Rattle.verse_sorts_values.specs.Operands.{sorts}
use Rattle.verse_sound_rules.specs.Found.{Allowed}
use Rattle.verse_sound_rules.specs.Found as allowed
use Rattle.verse_sound_rules.specs.Forms.{NameIs, Gives}
use Rattle.verse_sound_rules.specs.Fine.{sorts_at, hole_sorts, pair_sorts, given_sorts, last_sort}
use Rattle.verse_sound_rules.specs.Fine.{Several, IsMap, ArmFits, Defines, Generates}
use Rattle.verse_accept_scopes.specs.Holding.{OnArguments}
use Rattle.verse_accept_rows.specs.Found.{final, Found}
use Rattle.verse_accept_classes.specs.Referring.{Names, IsFunction, IsMethod}
use Rattle.verse_accept_classes.specs.Laws.{Quiet, FunctionsStand}
use Rattle.verse_accept_fine.specs.Sorted.{ty_at, all_classes, up, sorted, program, At, Allows}
use Rattle.verse_accept_fine.specs.Sorted.{is_array_type}

-- not the name of an enum
abbrev pub NoEnum : Option Ref → Type 0
NoEnum (Some (ref.Enum e)) = ⊥
NoEnum o = Unit {0}

module _ (is : List ItemTree) where
  -- what is allowed round the parts of a node
  pub record Inner (w : World) (a : Around) (b : Allowed) : Type 0 where
    pub freely : Allows is w (around.freely a) b
    pub repeated : Allows is w (around.repeated a) b
    pub caught : Allows is w (around.caught a) (allowed.tried b)
    pub armed : a.is_tried ≡ false → Allows is w (around.armed a) (allowed.armed b)
    pub deferred : Allows is w (around.deferred a) (allowed.deferred b)
    pub looped : (n : ℕ) → Allows is w (around.looped n a)
        (allowed.looped (has_number n (final is).left) b)

module _ (is : List ItemTree) (arrays events : ℕ → Bool) where
  -- the sort of the type of a part
  abbrev pub part : Tree → Sort
  part e = sort_of (type_of (final is) e)

  -- the sort of each of several fits this one
  abbrev pub EachFits : Sort → Trees → Type 0
  EachFits r t.Trees.no_trees = Unit {0}
  EachFits r (t.Trees.more_trees e es) = Fits (up is) (part e) r × EachFits r es

  -- what each arm of a `case` gives fits what the `case` gives, or the subject gives no value
  abbrev pub ArmsFit : (subject wanted : Sort) → Trees → Type 0
  ArmsFit q r t.Trees.no_trees = Unit {0}
  ArmsFit q r (t.Trees.more_trees e es) =
      ArmFits (program is arrays events) (sorted is) q (part e) r × ArmsFit q r es

  module _ (w : World) (a : Around) (xs : Table) (b : Allowed) (n : ℕ) (p : Place) where
    -- the sort of the node, and a form whose value is of it
    abbrev pub own : Sort
    own = sort_of (ty_at is n)

    abbrev pub Give : Form → List Sort → Type 0
    Give x qs = Gives (program is arrays events) (sorted is) b xs x qs own

    abbrev pub Is : Shape → Type 0
    Is x = At is w a xs n p x

    -- operators, literals and values that are made
    pub record Values : Type 0 where
      pub block : (ts : Trees) → Is (t.Shape.block ts) →
          Fits (up is) (last_sort (program is arrays events) (sorted is) s.any ts) own
      pub option : (ts : Trees) → Is (t.Shape.option ts) →
          Fits (up is) (s.opt (last_sort (program is arrays events) (sorted is) s.any ts)) own
      pub definition : (x : Bytes) (e : Tree) → Is (t.Shape.definition x e) →
          Give form.defining (part e ∷ [])
      pub tuple : (ts : Trees) → Is (t.Shape.tuple ts) →
          Give (form.making_tuple p) (sorts_at (program is arrays events) (sorted is) ts)
      pub array : (ts : Trees) → Is (t.Shape.array ts) →
          Give (form.making_array p) (sorts_at (program is arrays events) (sorted is) ts)
      pub mapping : (ps : Pairs) → Is (t.Shape.mapping ps) →
          Give (form.making_map p) (pair_sorts (program is arrays events) (sorted is) ps)
      pub is_map : (ps : Pairs) → Is (t.Shape.mapping ps) →
          IsMap (program is arrays events) (sorted is) own ps
      pub holes : (x : Bytes) (hs : Holes) → Is (t.Shape.holes x hs) →
          Give (form.joining (x ∷ pieces hs) p)
          (hole_sorts (program is arrays events) (sorted is) hs)
      pub minus : (e : Tree) → Is (t.Shape.minus e) → Give (form.negating p) (part e ∷ [])
      pub query : (e : Tree) → Is (t.Shape.query e) → Give form.querying (part e ∷ [])
      pub both : (e f : Tree) → Is (t.Shape.chained op.And e f) → Fits (up is) (part f) own
      pub sum : (e f : Tree) → Is (t.Shape.chained op.Add e f) →
          arrays n ≡ is_array_type (ty_at is n) →
          Give (form.computing op.Add (arrays n) p) (part e ∷ part f ∷ [])
      pub difference : (v : Bool) (e f : Tree) → Is (t.Shape.chained op.Sub e f) →
          Give (form.computing op.Sub v p) (part e ∷ part f ∷ [])
      pub product : (v : Bool) (e f : Tree) → Is (t.Shape.chained op.Mul e f) →
          Give (form.computing op.Mul v p) (part e ∷ part f ∷ [])
      pub compared : (o : Comparison) (e f : Tree) → Is (t.Shape.compared o e f) →
          Give (form.comparing o) (part e ∷ part f ∷ [])

    -- conditions, loops, groups, and what leaves a body
    pub record Control : Type 0 where
      pub choice : (ts : Trees) (e f : Tree) → Is (t.Shape.if_else ts e f) → Fits (up is) (part e) own × Fits (up is) (part f) own
      pub either : (e f : Tree) → Is (t.Shape.chained op.Or e f) → Fits (up is) (part e) own ×
          Fits (up is) (part f) own
      pub returned : (v : Written) (e : Tree) → Is (t.Shape.returned e) → a.owner.result ≡ Some v →
          Give form.returning (part e ∷ [])
      pub returned_unit : (v : Written) → Is t.Shape.returned_unit → a.owner.result ≡ Some v →
          (r : Sort) × (b.result ≡ Some r) × Fits (up is) s.unit r
      pub break_form : Is t.Shape.break_form → b.breaks ≡ true
      pub loop_form : (e : Tree) → Is (t.Shape.loop_form e) → has_number n (final is).left ≡ true →
          Fits (up is) s.unit own
      pub waits : (x : Shape) → Is x → is_async (completed is) a x ≡ true → b.waits ≡ true
      pub untried : (x : Shape) → Is x → is_async (completed is) a x ≡ true → a.is_tried ≡ false
      -- a group, whose arms are these
      pub several : (x : Shape) (ts : Trees) → Is x → alone x ≡ is_alone ts → Several ts
      pub sync : (ts : Trees) → Is (t.Shape.sync ts) →
          Fits (up is) (s.tuple (sorts (sorts_at (program is arrays events) (sorted is) ts))) own
      pub race : (ts : Trees) → Is (t.Shape.race ts) → EachFits own ts
      pub rush : (ts : Trees) → Is (t.Shape.rush ts) → EachFits own ts
      pub cases : (e : Tree) (ts : Trees) → Is (t.Shape.cases e ts) → ArmsFit (part e) own ts

    -- names, definitions, generators and members that are values
    pub record Naming : Type 0 where
      pub name : (x : Bytes) → Is (t.Shape.name x) → has_value (visible w xs x) ≡ true →
          (q : Sort) × NameIs (program is arrays events) (sorted is) b xs x
          (ref_at (program is arrays events) n) q × Fits (up is) q own
      pub this : Is t.Shape.this → (c : ℕ) × (b.this ≡ Some c) × Fits (up is) (s.obj c) own
      pub constant : (x : Bytes) (e : Tree) → Is (t.Shape.definition x e) →
          same_name this_name x ≡ false →
          Defines (program is arrays events) (sorted is) (a_constant x) n xs
      pub typed : (x : Bytes) (v : Written) (e : Tree) → Is (t.Shape.typed x v e) →
          same_name this_name x ≡ false →
          Defines (program is arrays events) (sorted is) (a_constant x) n xs
      pub variable : (x : Bytes) (v : Written) (e : Tree) → Is (t.Shape.variable x v e) →
          same_name this_name x ≡ false →
          Defines (program is arrays events) (sorted is) (a_variable x p) n xs
      pub typed_value : (x : Bytes) (v : Written) (e : Tree) → Is (t.Shape.typed x v e) →
          fits (all_classes is) (type_of (final is) e) (spelled (final is) v) ≡ true →
          Fits (up is) (part e) own
      pub variable_value : (x : Bytes) (v : Written) (e : Tree) → Is (t.Shape.variable x v e) →
          fits (all_classes is) (type_of (final is) e) (spelled (final is) v) ≡ true →
          Fits (up is) (part e) own
      pub elements : (x : Bytes) (e : Tree) → Is (t.Shape.elements x e) →
          same_name this_name x ≡ false → is_domain (type_of (final is) e) ≡ true →
          Generates (program is arrays events) (sorted is) n xs (part e) (of_elements x)
      pub entries : (k x : Bytes) (e : Tree) → Is (t.Shape.entries k x e) →
          same_name this_name k ≡ false → same_name this_name x ≡ false →
          is_domain (type_of (final is) e) ≡ true → number_of_tree e ≡ n - 1 →
          Generates (program is arrays events) (sorted is) n xs (part e) (of_entries k x)
      pub range : (x : Bytes) (e f : Tree) → Is (t.Shape.range x e f) →
          same_name this_name x ≡ false →
          are_ints (type_of (final is) e) (type_of (final is) f) ≡ true →
          Generates (program is arrays events) (sorted is) n xs
          (s.tuple (sorts (part e ∷ part f ∷ []))) (of_range x)
      pub member : (e : Tree) (x : Bytes) → Is (t.Shape.member e x) → is_called a.used ≡ false →
          NoEnum (refs.ref_at (final is).refs (number_of_tree e)) →
          Give (member_form (ref_at (program is arrays events) n) x) (part e ∷ [])
      pub enum_value : (m : ℕ) (o : Place) (z : Shape) (x : Bytes) (e : ℕ) →
          Is (t.Shape.member (tree m o z) x) → refs.ref_at (final is).refs m ≡ Some (ref.Enum e) →
          (i : ℕ) × (enum_member (program is arrays events) (tree m o z) x ≡ Some (v.enum e i)) ×
          Fits (up is) (s.enum e) own
      pub instance : (x : Bytes) (gs : Givens) → Is (t.Shape.instance x gs) →
          (c : ℕ) × (class_ref (program is arrays events) (ref_at (program is arrays events) n) ≡
          Some c) × Give (form.instancing c (given_names gs) p)
          (given_sorts (program is arrays events) (sorted is) gs)

-- where nothing else is asked
abbrev pub InnerAllowed : Type 0
InnerAllowed = (is : List ItemTree) (w : World) (a : Around) (b : Allowed) → Allows is w a b →
    Inner is w a b

abbrev pub ValuesNeed : Type 0
ValuesNeed = (is : List ItemTree) (arrays events : ℕ → Bool) (w : World) (a : Around) (xs : Table)
    (b : Allowed) → Allows is w a b → (n : ℕ) (p : Place) → Values is arrays events w a xs b n p

abbrev pub ControlNeeds : Type 0
ControlNeeds = (is : List ItemTree) (arrays events : ℕ → Bool) (w : World) (a : Around) (xs : Table)
    (b : Allowed) → Allows is w a b → (n : ℕ) (p : Place) → Control is arrays events w a xs b n p

-- where no rule of items is broken, and names stand for what is there
abbrev pub NamingNeeds : Type 0
NamingNeeds = (is : List ItemTree) → Quiet is →
    (arrays events : ℕ → Bool) (w : World) (a : Around) (xs : Table) (b : Allowed) →
    Allows is w a b → Names is w → (n : ℕ) (p : Place) → Naming is arrays events w a xs b n p

-- round brackets behind the name of a function, where the call is not spawned
abbrev pub CallsNeed : Type 0
CallsNeed = (is : List ItemTree) → FunctionsStand is →
    (arrays events : ℕ → Bool) (w : World) (a : Around) (xs : Table) (b : Allowed) →
    Allows is w a b → (n : ℕ) (p : Place) (m : ℕ) (q : Place) (z : Bytes) (g : ℕ) (ts : Trees) →
    At is w a xs n p (t.Shape.call (tree m q (t.Shape.name z)) ts) →
    refs.ref_at (final is).refs m ≡ Some (ref.Fun g) → IsFunction is g → is_spawned a.used ≡ false →
    OnArguments (Found is) w n a xs m 0 ts →
    Give is arrays events w a xs b n p (form.calling g)
    (sorts_at (program is arrays events) (sorted is) ts)

-- round brackets behind the name of a method of the class that the name stands in
abbrev pub OwnCallsNeed : Type 0
OwnCallsNeed = (is : List ItemTree) → FunctionsStand is → Quiet is →
    (arrays events : ℕ → Bool) (w : World) (a : Around) (xs : Table) (b : Allowed) →
    Allows is w a b → (n : ℕ) (p : Place) (m : ℕ) (q : Place) (z : Bytes) (c i : ℕ) (ts : Trees) →
    At is w a xs n p (t.Shape.call (tree m q (t.Shape.name z)) ts) →
    refs.ref_at (final is).refs m ≡ Some (ref.Method c i) → w.class ≡ Some c → IsMethod is c i →
    is_spawned a.used ≡ false → OnArguments (Found is) w n a xs m 0 ts →
    Give is arrays events w a xs b n p (form.calling_own i)
    (sorts_at (program is arrays events) (sorted is) ts)

-- and behind a dot and the name of a method, where the object is of the class of the method
abbrev pub MethodCallsNeed : Type 0
MethodCallsNeed = (is : List ItemTree) → FunctionsStand is → Quiet is →
    (arrays events : ℕ → Bool) (w : World) (a : Around) (xs : Table) (b : Allowed) →
    Allows is w a b → (n : ℕ) (p : Place) (m : ℕ) (q : Place) (e : Tree) (x : Bytes) (c i : ℕ)
    (ts : Trees) → At is w a xs n p (t.Shape.call (tree m q (t.Shape.member e x)) ts) →
    refs.ref_at (final is).refs m ≡ Some (ref.Method c i) →
    type_of (final is) e ≡ ty.class c → IsMethod is c i → is_spawned a.used ≡ false → OnArguments (Found is) w n a xs m 0 ts →
    Give is arrays events w a xs b n p (form.calling_method i)
    (sort_of (type_of (final is) e) ∷ sorts_at (program is arrays events) (sorted is) ts)
