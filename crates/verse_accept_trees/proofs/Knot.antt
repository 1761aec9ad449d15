-- Each tree of a program that breaks no rule is fine: by recursion on it, with a law for each form.
use Rattle.std.proofs.Common.{◌≡◌, ℕ, ◌+◌, Bool, true, false, List, [], ◌∷◌, Option, refl, sym, ap, ◌∙◌, subst}
use Rattle.std.specs.Prelude.{Some, None, slice_get}
use Rattle.std.proofs.lemmas.Bool.{not-false}
use Rattle.verse_base.specs.declared.places.Place.{Place}
use Rattle.verse_base.proofs.Facts.{and_first, and_second, clash}
use Rattle.verse_tree.specs.Tree.{Bytes, Written, Tree, tree, Shape, Trees, no_trees, more_trees, Holes, no_holes, more_holes, Givens}
use Rattle.verse_tree.specs.Tree.{no_givens, more_givens}
use Rattle.verse_tree.specs.Tree as t
use Rattle.verse_tree.specs.ItemTree.{ItemTree}
use Rattle.verse_tree.specs.PostOrder.{expression}
use Rattle.verse_tree.specs.Shapes.{Stand, as_block, as_statement, as_body, as_expression, as_clause, as_arm}
use Rattle.verse_tree.specs.Shapes.{Shaped, PartsShaped, AllShaped, SomeShaped, AllHoles, PairsShaped, GivensShaped}
use Rattle.verse_tree.specs.declared.exprs.Operator.TheVariants as op
use Rattle.verse_tree.specs.declared.tables.Ref.{Ref}
use Rattle.verse_tree.specs.declared.tables.Ref.TheVariants as ref
use Rattle.verse_rules_walk.specs.Around.{Used, free, value, argument, callee, object, target, spawned, Around, used_as}
use Rattle.verse_rules_walk.specs.Around as around
use Rattle.verse_rules_walk.specs.Nodes.{number_of_tree}
use Rattle.verse_names_tables.specs.Names.{Table}
use Rattle.verse_names_scopes.specs.Visible.{World, visible}
use Rattle.verse_names_scopes.specs.Subjects.{subject}
use Rattle.verse_check_typing.specs.Refs as refs
use Rattle.verse_check_typing.specs.Sets.{has_number}
use Rattle.verse_check_typing.specs.Loops.{takes, all_take}
use Rattle.verse_check_typing.specs.TypeRules.{has_value, takes_item, is_called, is_enum, is_round, is_rounded, can_be_set}
use Rattle.verse_effects.specs.Forms.{is_on_path, is_spawned}
use Rattle.verse_meaning.specs.Programs.{Program, ref_at}
use Rattle.verse_meaning.specs.Residuals as form
use Rattle.verse_meaning.specs.Residuals.{Form}
use Rattle.verse_meaning.specs.Evaluating.{Callee, alone, of_object, of_value, of_quotient, no_callee, callee_of, spawned_callee, picked}
use Rattle.verse_meaning.specs.Evaluating.{member_form}
use Rattle.verse_meaning.specs.Evaluating as meaning
use Rattle.verse_sorts.specs.Sorts.{Sort}
use Rattle.verse_sorts_types.specs.SortOf.{sort_of}
use Rattle.verse_sound_rules.specs.Found.{Allowed}
use Rattle.verse_sound_rules.specs.Found as allowed
use Rattle.verse_sound_rules.specs.Fine.{on_callee, on_member, sort_at, sorts_at, object_sort, Reaches, ArmFits, IsEnumValue}
use Rattle.verse_sound_rules.specs.Fine.{is_enum_value, Fine, FineShape, FineAll, FineClauses, FineObject, FineObjectOf, FineTrees}
use Rattle.verse_sound_rules.specs.Fine.{FineHoles, FinePairs}
use Rattle.verse_sound_rules.specs.Fine.{FineGivens, FineEach, FineArms, FineMoreArms, FineArm, FineQuotient, FineTarget, FineSpawned}
use Rattle.verse_accept_scopes.specs.Sites.{site, behind, all_behind}
use Rattle.verse_accept_scopes.specs.Holding.{On, OnShape, OnPart, OnAll, OnEach, OnArguments, OnHoles, OnPairs, OnGivens}
use Rattle.verse_accept_rows.specs.Found.{final, Found}
use Rattle.verse_accept_classes.specs.Referring.{Names}
use Rattle.verse_accept_classes.specs.Laws.{Quiet, FunctionsStand}
use Rattle.verse_accept_fine.specs.Needs.{NoEnum, EachFits, ArmsFit, Values, Control, Naming}
use Rattle.verse_accept_fine.specs.Needs as needs
use Rattle.verse_accept_fine.specs.Sorted.{At, ty_at, sorted, program, Allows, is_event_type, is_array_type}
use Rattle.verse_accept_fine.proofs.Base.{types, same_known}
use Rattle.verse_accept_forms.specs.Plain.{Plain}
use Rattle.verse_accept_forms.specs.Callees.{Callees, HasValue, HasObject, Rounds, Starts}
use Rattle.verse_accept_trees.specs.Targets.{Targets}
use Rattle.verse_accept_trees.specs.Targets as targets
use Rattle.verse_accept_trees.specs.Names.{Named}
use Rattle.verse_accept_trees.specs.Needs.{Needs}
use Rattle.verse_accept_trees.proofs.Nodes.{no, IsForm, TakesForms, form_stands, stand_in, may_defer, no_generator}
use Rattle.verse_accept_trees.proofs.Nodes.{statement_stands, clause_stands, clauses_all, some_all, two_all, holes_all, behind_is}
use Rattle.verse_accept_trees.proofs.Nodes.{all_behind_is}
use Rattle.verse_accept_trees.proofs.Rounding.{NoQuotient, callee_rounds, target_rounds, indexed_rounds, indexed_starts, indexed_path}

module _ (is : List ItemTree) (arrays events : ℕ → Bool) (quiet : Quiet is) (functions : FunctionsStand is) (laws : Needs)
    (telling : (m : ℕ) → events m ≡ is_event_type (ty_at is m))
    (counting : (m : ℕ) → arrays m ≡ is_array_type (ty_at is m)) (w : World) (names : Names is w) where
  abbrev pub whole : Program
  whole = program is arrays events

  abbrev pub found : allowed.Found
  found = sorted is

  -- ---- what stands round the parts of a node, and what is allowed at them

  pub record Here (a : Around) (b : Allowed) : Type 0 where
    pub allows : Allows is w a b
    -- where `return` may stand there is a result
    pub result : a.may_return ≡ true → (v : Written) × (a.owner.result ≡ Some v)

  module _ {a : Around} {b : Allowed} (c : Here a b) where
    pub freely : Here (around.freely a) b
    freely = record { allows = (laws.inner is w a b c.allows).freely; result = c.result }

    pub repeated : Here (around.repeated a) b
    repeated = record { allows = (laws.inner is w a b c.allows).repeated; result = c.result }

    pub caught : Here (around.caught a) (allowed.tried b)
    caught = record { allows = (laws.inner is w a b c.allows).caught; result = λ e. no e }

    pub armed : a.is_tried ≡ false → Here (around.armed a) (allowed.armed b)
    armed h = record { allows = (laws.inner is w a b c.allows).armed h; result = λ e. no e }

    pub deferred : Here (around.deferred a) (allowed.deferred b)
    deferred = record { allows = (laws.inner is w a b c.allows).deferred; result = λ e. no e }

    pub looped : (n : ℕ) → Here (around.looped n a) (allowed.looped (has_number n (final is).left) b)
    looped n = record { allows = (laws.inner is w a b c.allows).looped n; result = c.result }

    pub used : (u : Used) → Here (used_as u a) b
    used u = record {
      allows = record {
        fails = c.allows.fails;
        tried = c.allows.tried;
        result = c.allows.result;
        loop = c.allows.loop;
        breaks = c.allows.breaks;
        waits = c.allows.waits;
        this = c.allows.this;
      };
      result = c.result;
    }

    -- ---- the laws at a node

    module _ (xs : Table) (n : ℕ) (p : Place) where
      pub values_at : Values is arrays events w a xs b n p
      values_at = laws.values is arrays events w a xs b c.allows n p

      pub control_at : Control is arrays events w a xs b n p
      control_at = laws.control is arrays events w a xs b c.allows n p

      pub naming_at : Naming is arrays events w a xs b n p
      naming_at = laws.naming is quiet arrays events w a xs b c.allows names n p

      pub plain_at : Plain is arrays events w a xs b n p
      plain_at = laws.plain is arrays events w a xs b c.allows n p

      pub callees_at : Callees is arrays events w a xs b n p
      callees_at = laws.callees is functions quiet arrays events telling w a xs b c.allows names n p

      pub targets_at : Targets is arrays events w a xs b n p
      targets_at = laws.targets is quiet arrays events w a xs b c.allows names n p

  -- ---- where values stand

  -- what a form that gives a value needs to know of how it is used
  abbrev pub ShapeValued : Around → Allowed → Table → ℕ → Place → Shape → Type 0
  ShapeValued a b xs n p (t.Shape.name x) = has_value (visible w xs x) ≡ true
  ShapeValued a b xs n p (t.Shape.member e x) = NoEnum (refs.ref_at (final is).refs (number_of_tree e)) →
      needs.Give is arrays events w a xs b n p (member_form (ref_at whole n) x) (needs.part is arrays events e ∷ [])
  ShapeValued a b xs n p (t.Shape.call e ts) = is_spawned a.used ≡ false
  ShapeValued a b xs n p (t.Shape.index e ts) = (is_spawned a.used ≡ false) × (is_on_path a.used ≡ false)
  ShapeValued a b xs n p (t.Shape.chained op.Div e f) = ⊥
  ShapeValued a b xs n p s = Unit {0}

  pub record Use (a : Around) : Type 0 where
    pub called : is_called a.used ≡ false
    pub rounded : is_rounded (final is) a.used ≡ false
    pub spawned : is_spawned a.used ≡ false
    pub path : is_on_path a.used ≡ false

  -- a name there stands for no function, class or enum
  abbrev pub NoItem : Around → Table → Shape → Type 0
  NoItem a xs (t.Shape.name x) = takes_item a.used (visible w xs x) ≡ false
  NoItem a xs s = Unit {0}

  pub used_valued : (a : Around) (b : Allowed) (c : Here a b) → Use a → (xs : Table) (n : ℕ) (p : Place) (s : Shape) → NoItem a xs s →
      At is w a xs n p s → ShapeValued a b xs n p s
  used_valued a b c u xs n p (t.Shape.name x) i h = (plain_at c xs n p).named x h i
  used_valued a b c u xs n p (t.Shape.member e x) i h = λ plain. (naming_at c xs n p).member e x h u.called plain
  used_valued a b c u xs n p (t.Shape.call e ts) i h = u.spawned
  used_valued a b c u xs n p (t.Shape.index e ts) i h = (u.spawned, u.path)
  used_valued a b c u xs n p (t.Shape.chained op.Div e f) i h =
      clash (is_rounded (final is) a.used) ((plain_at c xs n p).quotient e f h).0 u.rounded
  used_valued a b c u xs n p (t.Shape.chained op.Or e f) i h = tt
  used_valued a b c u xs n p (t.Shape.chained op.And e f) i h = tt
  used_valued a b c u xs n p (t.Shape.chained op.Add e f) i h = tt
  used_valued a b c u xs n p (t.Shape.chained op.Sub e f) i h = tt
  used_valued a b c u xs n p (t.Shape.chained op.Mul e f) i h = tt
  used_valued a b c u xs n p s i h = tt

  -- a value that is used in these ways
  pub data Serves : Used → Type 0 where
    serves_free : Serves free
    serves_value : {v : Written} → Serves (value v)
    serves_argument : {c i : ℕ} → is_round (refs.ref_at (final is).refs c) ≡ false → Serves (argument c i)

  pub use_of : (a : Around) {u : Used} → a.used ≡ u → Serves u → Use a
  use_of a e serves_free = record {
    called = ap is_called e;
    rounded = ap (is_rounded (final is)) e;
    spawned = ap is_spawned e;
    path = ap is_on_path e;
  }
  use_of a e serves_value = record {
    called = ap is_called e;
    rounded = ap (is_rounded (final is)) e;
    spawned = ap is_spawned e;
    path = ap is_on_path e;
  }
  use_of a e (serves_argument h) = record {
    called = ap is_called e;
    rounded = ap (is_rounded (final is)) e ∙ h;
    spawned = ap is_spawned e;
    path = ap is_on_path e;
  }

  item_of : {u : Used} → Serves u → (r : Option Ref) → takes_item u r ≡ false
  item_of serves_free r = refl
  item_of serves_value r = refl
  item_of (serves_argument h) r = refl

  no_item : (a : Around) {u : Used} → a.used ≡ u → Serves u → (xs : Table) (s : Shape) → NoItem a xs s
  no_item a e u xs (t.Shape.name x) = ap (λ v. takes_item v (visible w xs x)) e ∙ item_of u (visible w xs x)
  no_item a e u xs s = tt

  pub serves_valued : (a : Around) (b : Allowed) (c : Here a b) {u : Used} → a.used ≡ u → Serves u → (xs : Table) (n : ℕ) (p : Place)
      (s : Shape) → At is w a xs n p s → ShapeValued a b xs n p s
  serves_valued a b c e u xs n p s h = used_valued a b c (use_of a e u) xs n p s (no_item a e u xs s) h

  -- an object
  not_enum : (r : Option Ref) → NoEnum r → is_enum r ≡ false
  not_enum None h = refl
  not_enum (Some (ref.Enum e)) h = absurd h
  not_enum (Some r) h = refl

  object_item : (a : Around) → a.used ≡ object → (xs : Table) (n : ℕ) (p : Place) (s : Shape) → At is w a xs n p s →
      NoEnum (refs.ref_at (final is).refs n) → NoItem a xs s
  object_item a e xs n p (t.Shape.name x) h g =
      ap (λ v. takes_item v (visible w xs x)) e ∙ not_enum (visible w xs x) (subst NoEnum (h.ref ∙ h.named) g)
  object_item a e xs n p s h g = tt

  pub object_valued : (a : Around) (b : Allowed) (c : Here a b) → a.used ≡ object → (xs : Table) (n : ℕ) (p : Place) (s : Shape) →
      At is w a xs n p s → NoEnum (refs.ref_at (final is).refs n) → ShapeValued a b xs n p s
  object_valued a b c e xs n p s h g =
      used_valued a b c (record {
        called = ap is_called e;
        rounded = ap (is_rounded (final is)) e;
        spawned = ap is_spawned e;
        path = ap is_on_path e;
      }) xs n p s (object_item a e xs n p s h g) h

  -- what is called or indexed as a value; `l`, `q` and `d` are of the node that it is called at
  pub callee_valued : (d a : Around) (b : Allowed) (l : ℕ) (q : Place) (c : Here a b) → is_rounded (final is) a.used ≡ false →
      is_spawned a.used ≡ false → is_on_path a.used ≡ false → (xs : Table) (n : ℕ) (p : Place) (s : Shape) →
      HasValue is arrays events w d xs b l q (tree n p s) → (y z : Form) (o : Place) → callee_of whole (tree n p s) y o ≡ of_value z →
      At is w a xs n p s → ShapeValued a b xs n p s
  callee_valued d a b l q c r u v xs n p (t.Shape.name x) g y z o e h = g
  callee_valued d a b l q c r u v xs n p (t.Shape.member m x) g y z o e h = λ plain. (callees_at c xs n p).member m x h plain y z o e
  callee_valued d a b l q c r u v xs n p (t.Shape.call m ts) g y z o e h = u
  callee_valued d a b l q c r u v xs n p (t.Shape.index m ts) g y z o e h = (u, v)
  callee_valued d a b l q c r u v xs n p (t.Shape.chained op.Div m f) g y z o e h =
      clash (is_rounded (final is) a.used) ((plain_at c xs n p).quotient m f h).0 r
  callee_valued d a b l q c r u v xs n p (t.Shape.chained op.Or m f) g y z o e h = tt
  callee_valued d a b l q c r u v xs n p (t.Shape.chained op.And m f) g y z o e h = tt
  callee_valued d a b l q c r u v xs n p (t.Shape.chained op.Add m f) g y z o e h = tt
  callee_valued d a b l q c r u v xs n p (t.Shape.chained op.Sub m f) g y z o e h = tt
  callee_valued d a b l q c r u v xs n p (t.Shape.chained op.Mul m f) g y z o e h = tt
  callee_valued d a b l q c r u v xs n p s g y z o e h = tt

  -- ---- callees and clauses

  abbrev GiveAt : Around → Allowed → Table → ℕ → Place → Form → List Sort → Type 0
  GiveAt a b xs n p x qs = needs.Give is arrays events w a xs b n p x qs

  form_at : (e : Tree) → Shaped as_expression e → (m : ℕ) (p : Place) (s : Shape) → e ≡ tree m p s → IsForm s
  form_at (tree i o z) g m p s e =
      let same : z ≡ s = cc in
      subst IsForm same (form_stands as_expression tt z g.0)

  round_of : (a : Around) (xs : Table) (n : ℕ) (e : Tree) (y : Form) (p : Place) (k : Callee) → Shaped as_expression e →
      OnPart (Found is) w n (used_as callee a) xs e → callee_of whole e y p ≡ k → NoQuotient k →
      is_round (refs.ref_at (final is).refs (number_of_tree e)) ≡ false
  round_of a xs n e y p k g h d f = callee_rounds is arrays events w (used_as callee a) xs n e y p k h (form_at e g) d f

  index_round : (a : Around) (xs : Table) (n : ℕ) (e : Tree) (y : Form) (p : Place) (k : Callee) → Shaped as_expression e →
      OnPart (Found is) w n (around.indexed a) xs e → callee_of whole e y p ≡ k → NoQuotient k →
      is_round (refs.ref_at (final is).refs (number_of_tree e)) ≡ false
  index_round a xs n e y p k g h d f = callee_rounds is arrays events w (around.indexed a) xs n e y p k h (form_at e g) d f

  takes_first : (e : Tree) (ts : Trees) → all_take (final is) (more_trees e ts) ≡ true → takes (final is) e ≡ true
  takes_first e ts h = and_first (takes (final is) e) (all_take (final is) ts) h

  takes_rest : (e : Tree) (ts : Trees) → all_take (final is) (more_trees e ts) ≡ true → all_take (final is) ts ≡ true
  takes_rest e ts h = and_second (takes (final is) e) (all_take (final is) ts) h

  takes_of : (a : Around) (xs : Table) (n : ℕ) (p : Place) (ts : Trees) (e : Tree) → At is w a xs n p (t.Shape.for_form ts e) →
      all_take (final is) ts ≡ true
  takes_of a xs n p ts e h = not-false _ (types is w a xs n p (t.Shape.for_form ts e) h).matched

  -- ---- what the checker finds is fine, form by form

  abbrev P : ℕ → Around → Table → Tree → Type 0
  P n a xs e = OnPart (Found is) w n a xs e

  abbrev N : ℕ → Around → Table → Tree → Type 0
  N n a xs e = OnPart Named w n a xs e

  -- the type of an arm is that of its body
  arm_type : (n : ℕ) (p : Place) (a : Around) (xs : Table) (e : Tree) (m : ℕ) (o : Place) (s : Shape) →
      At is w a xs n p (t.Shape.arm e (tree m o s)) → (q r : Sort) →
      ArmFits whole found q (needs.part is arrays events (tree n p (t.Shape.arm e (tree m o s)))) r →
      ArmFits whole found q (needs.part is arrays events (tree m o s)) r
  arm_type n p a xs e m o s h q r f = subst (λ u. ArmFits whole found q (sort_of u) r) h.type f

  -- a member, by what its object refers to
  member_made : (a : Around) (b : Allowed) (c : Here a b) (xs : Table) (n : ℕ) (p : Place) (m : ℕ) (q : Place) (s : Shape) (x : Bytes) →
      At is w a xs n p (t.Shape.member (tree m q s) x) → ShapeValued a b xs n p (t.Shape.member (tree m q s) x) → (r : Option Ref) →
      refs.ref_at (final is).refs m ≡ r → (NoEnum (refs.ref_at (final is).refs m) → Fine whole found b xs (tree m q s)) →
      FineShape whole found b xs n p (t.Shape.member (tree m q s) x)
  member_made a b c xs n p m q s x o v (Some (ref.Enum e)) f fine =
      let d = (naming_at c xs n p).enum_value m q s x e o f in
      subst (λ z. on_member z (λ y. IsEnumValue whole found (needs.own is arrays events w a xs b n p) y)
      (Fine whole found b xs (tree m q s) × GiveAt a b xs n p (member_form (ref_at whole n) x)
      (needs.part is arrays events (tree m q s) ∷ []))) (sym d.1) (is_enum_value d.2)
  member_made a b c xs n p m q s x o v r f fine =
      let plain : NoEnum (refs.ref_at (final is).refs m) = subst NoEnum (sym f) tt in
      subst (λ z. on_member z (λ y. IsEnumValue whole found (needs.own is arrays events w a xs b n p) y)
      (Fine whole found b xs (tree m q s) × GiveAt a b xs n p (member_form (ref_at whole n) x)
      (needs.part is arrays events (tree m q s) ∷ [])))
      (sym (ap (λ y. meaning.is_enum whole y x) (same_known (slice_get (final is).refs m) ∙ f))) (fine plain, v plain)

  -- a call, an index and a call that is spawned, by what the callee stands for and what its parts are
  module _ (a : Around) (b : Allowed) (xs : Table) (n : ℕ) (p : Place) (m : ℕ) (q : Place) (s : Shape) (ts : Trees) where
    abbrev operands : List Sort
    operands = sorts_at whole found ts

    abbrev with_object : List Sort
    with_object = object_sort whole found (tree m q s) ∷ operands

    call_made : (f : Callee) → (NoQuotient f → FineTrees whole found b xs ts) →
        (HasObject is (tree m q s) → FineObject whole found b xs (tree m q s)) →
        ((z : Form) → f ≡ of_value z → HasValue is arrays events w a xs b n p (tree m q s) → Fine whole found b xs (tree m q s)) →
        ((z : Form) → Rounds is arrays events w a xs b n p z ts → FineQuotient whole found b xs n z ts) →
        on_callee f (λ x. GiveAt a b xs n p x operands)
        (λ x. HasObject is (tree m q s) × GiveAt a b xs n p x with_object)
        (λ x. HasValue is arrays events w a xs b n p (tree m q s) × GiveAt a b xs n p x (needs.part is arrays events (tree m q s) ∷ []))
        (λ x. Rounds is arrays events w a xs b n p x ts) →
        on_callee f (λ x. FineTrees whole found b xs ts × GiveAt a b xs n p x operands)
        (λ x. FineObject whole found b xs (tree m q s) × FineTrees whole found b xs ts × GiveAt a b xs n p x with_object)
        (λ x. Fine whole found b xs (tree m q s) × GiveAt a b xs n p x (sort_at whole found (tree m q s) ∷ []))
        (λ x. FineQuotient whole found b xs n x ts)
    call_made (alone f) args whose val quo r = (args tt, r)
    call_made (of_object f) args whose val quo r = (whose r.0, args tt, r.1)
    call_made (of_value f) args whose val quo r = (val f refl r.0, r.1)
    call_made (of_quotient f) args whose val quo r = quo f r
    call_made no_callee args whose val quo r = r

    index_made : (f : Callee) → (NoQuotient f → FineTrees whole found b xs ts) →
        (HasObject is (tree m q s) → FineObject whole found b xs (tree m q s)) →
        ((z : Form) → f ≡ of_value z → HasValue is arrays events w a xs b n p (tree m q s) → Fine whole found b xs (tree m q s)) →
        on_callee f (λ x. GiveAt a b xs n p x operands)
        (λ x. HasObject is (tree m q s) × GiveAt a b xs n p x with_object)
        (λ x. HasValue is arrays events w a xs b n p (tree m q s) ×
        Reaches whole found (needs.part is arrays events (tree m q s)) operands (needs.own is arrays events w a xs b n p) ×
        GiveAt a b xs n p x (needs.part is arrays events (tree m q s) ∷ operands)) (λ x. ⊥) →
        on_callee f (λ x. FineTrees whole found b xs ts × GiveAt a b xs n p x operands)
        (λ x. FineObject whole found b xs (tree m q s) × FineTrees whole found b xs ts × GiveAt a b xs n p x with_object)
        (λ x. (Fine whole found b xs (tree m q s) ×
        Reaches whole found (sort_at whole found (tree m q s)) operands (needs.own is arrays events w a xs b n p)) ×
        FineTrees whole found b xs ts × GiveAt a b xs n p x (sort_at whole found (tree m q s) ∷ operands))
        (λ x. FineQuotient whole found b xs n x ts)
    index_made (alone f) args whose val r = (args tt, r)
    index_made (of_object f) args whose val r = (whose r.0, args tt, r.1)
    index_made (of_value f) args whose val r = ((val f refl r.0, r.1), args tt, r.2)
    index_made (of_quotient f) args whose val r = absurd r
    index_made no_callee args whose val r = r

    started_made : (f : Callee) → (NoQuotient f → FineTrees whole found b xs ts) →
        (HasObject is (tree m q s) → FineObject whole found b xs (tree m q s)) →
        on_callee (spawned_callee f) (λ x. GiveAt a b xs n p x operands)
        (λ x. HasObject is (tree m q s) × GiveAt a b xs n p x with_object) (λ x. ⊥) (λ x. ⊥) →
        on_callee (spawned_callee f) (λ x. FineTrees whole found b xs ts × GiveAt a b xs n p x operands)
        (λ x. FineObject whole found b xs (tree m q s) × FineTrees whole found b xs ts × GiveAt a b xs n p x with_object) (λ x. ⊥) (λ x. ⊥)
    started_made (alone f) args whose r = (args tt, r)
    started_made (of_object f) args whose r = (whose r.0, args tt, r.1)
    started_made (of_value f) args whose r = absurd r
    started_made (of_quotient f) args whose r = absurd r
    started_made no_callee args whose r = absurd r

  must_return : (a : Around) (b : Allowed) (c : Here a b) → a.may_return ≡ true → (v : Written) × (a.owner.result ≡ Some v)
  must_return a b c e = c.result e

  mutual
    shape_fine : (a : Around) (b : Allowed) (c : Here a b) (xs : Table) (n : ℕ) (p : Place) (s : Shape) → PartsShaped s → IsForm s →
        ShapeValued a b xs n p s → OnShape (Found is) w n a xs s → OnShape Named w n a xs s → At is w a xs n p s → Named (site w n p a xs
        (expression s) (subject n s)) → FineShape whole found b xs n p s
    -- blocks and statements
    shape_fine a b c xs n p (t.Shape.block ts) g i v h k o l =
        (all_fine true (around.freely a) b (freely c) refl xs n ts g h k, (values_at c xs n p).block ts o)
    shape_fine a b c xs n p (t.Shape.definition x (tree m q s)) g i v h k o l = (
      part_fine as_expression tt (around.freely a) b (freely c) refl serves_free xs n (tree m q s) g h k,
      (values_at c xs n p).definition x (tree m q s) o,
    )
    shape_fine a b c xs n p (t.Shape.typed x u (tree m q s)) g i v h k o l = (
      part_fine as_expression tt (used_as (value u) a) b (used c (value u)) refl serves_value xs n (tree m q s) g.1 h.1 k.1,
      (plain_at c xs n p).typed x u (tree m q s) o h.1.2.serves,
    )
    shape_fine a b c xs n p (t.Shape.variable x u (tree m q s)) g i v h k o l = (
      part_fine as_expression tt (used_as (value u) a) b (used c (value u)) refl serves_value xs n (tree m q s) g.1 h.1 k.1,
      (plain_at c xs n p).variable x u (tree m q s) o h.1.2.serves,
    )
    shape_fine a b c xs n p (t.Shape.assignment m e (tree j q s)) g i v h k o l = (
      (
        target_fine (used_as target a) b (used c target) xs n e g.0 ((targets_at c xs n p).settable m e (tree j q s) o)
            ((targets_at c xs n p).object m e (tree j q s) o h.0) h.0 k.0,
        (targets_at c xs n p).settled m e (tree j q s) o h.0,
        (targets_at c xs n p).stored m e (tree j q s) o h.0,
      ),
      part_fine as_expression tt (around.freely a) b (freely c) refl serves_free xs n (tree j q s) g.1 h.1 k.1,
      (targets_at c xs n p).assignment m e (tree j q s) o h.0,
    )
    shape_fine a b c xs n p (t.Shape.returned (tree m q s)) g i v h k o l =
        let r = must_return a b c ((plain_at c xs n p).returned (tree m q s) o) in (
          part_fine as_expression tt (around.freely a) b (freely c) refl serves_free xs n (tree m q s) g h k,
          (control_at c xs n p).returned r.0 (tree m q s) o r.1,
        )
    shape_fine a b c xs n p t.Shape.returned_unit g i v h k o l =
        let r = must_return a b c ((plain_at c xs n p).returned_unit o) in
        (control_at c xs n p).returned_unit r.0 o r.1
    shape_fine a b c xs n p t.Shape.break_form g i v h k o l = (control_at c xs n p).break_form o
    -- failure contexts
    shape_fine a b c xs n p (t.Shape.if_else ts (tree m q s) (tree j r z)) g i v h k o l =
        let f = (control_at c xs n p).choice ts (tree m q s) (tree j r z) o in (
          all_fine false (around.caught a) (allowed.tried b) (caught c) refl xs n ts (some_all as_statement ts g.0) h.0 k.0,
          subst (λ ys. Fine whole found b ys (tree m q s)) (all_behind_is is w n (around.caught a) xs ts h.0)
              (part_fine as_body tt (around.freely a) b (freely c) refl serves_free (all_behind w ts xs) n (tree m q s) g.1 h.1 k.1),
          part_fine as_body tt (around.freely a) b (freely c) refl serves_free xs n (tree j r z) g.2 h.2 k.2,
          f.0,
          f.1,
        )
    shape_fine a b c xs n p (t.Shape.if_alone ts (tree m q s)) g i v h k o l =
        let f = (plain_at c xs n p).if_alone ts (tree m q s) o in (
          all_fine false (around.caught a) (allowed.tried b) (caught c) refl xs n ts (some_all as_statement ts g.0) h.0 k.0,
          subst (λ ys. Fine whole found b ys (tree m q s)) (all_behind_is is w n (around.caught a) xs ts h.0)
              (part_fine as_body tt (around.freely a) b (freely c) refl serves_free (all_behind w ts xs) n (tree m q s) g.1 h.1 k.1),
          f.0,
          f.1,
        )
    shape_fine a b c xs n p (t.Shape.negation (tree m q s)) g i v h k o l =
        let f = (plain_at c xs n p).negation (tree m q s) o in (
          part_fine as_expression tt (around.caught a) (allowed.tried b) (caught c) refl serves_free xs n (tree m q s) g h k,
          f.0,
          f.1,
        )
    shape_fine a b c xs n p (t.Shape.option ts) g i v h k o l = (
      all_fine false (around.caught a) (allowed.tried b) (caught c) refl xs n ts (some_all as_statement ts g) h k,
      (values_at c xs n p).option ts o,
    )
    shape_fine a b c xs n p (t.Shape.logic ts) g i v h k o l = (
      all_fine false (around.caught a) (allowed.tried b) (caught c) refl xs n ts (some_all as_statement ts g) h k,
      (plain_at c xs n p).logic ts o,
    )
    shape_fine a b c xs n p (t.Shape.chained op.Or (tree m q s) (tree j r z)) g i v h k o l =
        let f = (control_at c xs n p).either (tree m q s) (tree j r z) o in (
          part_fine as_expression tt (around.caught a) (allowed.tried b) (caught c) refl serves_free xs n (tree m q s) g.0 h.0 k.0,
          part_fine as_expression tt (around.freely a) b (freely c) refl serves_free xs n (tree j r z) g.1 h.1 k.1,
          f.0,
          f.1,
        )
    shape_fine a b c xs n p (t.Shape.for_form ts (tree m q s)) g i v h k o l =
        let f = (plain_at c xs n p).for_form ts (tree m q s) o in (
          clauses_fine (around.caught a) (allowed.tried b) (caught c) refl xs n ts (clauses_all ts g.0)
              (takes_of a xs n p ts (tree m q s) o) h.0 k.0,
          subst (λ ys. Fine whole found b ys (tree m q s)) (all_behind_is is w n (around.caught a) xs ts h.0)
              (part_fine as_block tt (around.repeated a) b (repeated c) refl serves_free (all_behind w ts xs) n (tree m q s) g.1 h.1 k.1),
          f.0,
          f.1,
          f.2,
        )
    -- operators
    shape_fine a b c xs n p (t.Shape.chained op.Div e f) g i v h k o l = absurd v
    shape_fine a b c xs n p (t.Shape.chained op.And (tree m q s) (tree j r z)) g i v h k o l = (
      part_fine as_expression tt (around.freely a) b (freely c) refl serves_free xs n (tree m q s) g.0 h.0 k.0,
      part_fine as_expression tt (around.freely a) b (freely c) refl serves_free xs n (tree j r z) g.1 h.1 k.1,
      (values_at c xs n p).both (tree m q s) (tree j r z) o,
    )
    shape_fine a b c xs n p (t.Shape.chained op.Add (tree m q s) (tree j r z)) g i v h k o l = (
      part_fine as_expression tt (around.freely a) b (freely c) refl serves_free xs n (tree m q s) g.0 h.0 k.0,
      part_fine as_expression tt (around.freely a) b (freely c) refl serves_free xs n (tree j r z) g.1 h.1 k.1,
      (values_at c xs n p).sum (tree m q s) (tree j r z) o (counting n),
    )
    shape_fine a b c xs n p (t.Shape.chained op.Sub (tree m q s) (tree j r z)) g i v h k o l = (
      part_fine as_expression tt (around.freely a) b (freely c) refl serves_free xs n (tree m q s) g.0 h.0 k.0,
      part_fine as_expression tt (around.freely a) b (freely c) refl serves_free xs n (tree j r z) g.1 h.1 k.1,
      (values_at c xs n p).difference (arrays n) (tree m q s) (tree j r z) o,
    )
    shape_fine a b c xs n p (t.Shape.chained op.Mul (tree m q s) (tree j r z)) g i v h k o l = (
      part_fine as_expression tt (around.freely a) b (freely c) refl serves_free xs n (tree m q s) g.0 h.0 k.0,
      part_fine as_expression tt (around.freely a) b (freely c) refl serves_free xs n (tree j r z) g.1 h.1 k.1,
      (values_at c xs n p).product (arrays n) (tree m q s) (tree j r z) o,
    )
    shape_fine a b c xs n p (t.Shape.compared x (tree m q s) (tree j r z)) g i v h k o l = (
      part_fine as_expression tt (around.freely a) b (freely c) refl serves_free xs n (tree m q s) g.0 h.0 k.0,
      part_fine as_expression tt (around.freely a) b (freely c) refl serves_free xs n (tree j r z) g.1 h.1 k.1,
      (values_at c xs n p).compared x (tree m q s) (tree j r z) o,
    )
    shape_fine a b c xs n p (t.Shape.minus (tree m q s)) g i v h k o l = (
      part_fine as_expression tt (around.freely a) b (freely c) refl serves_free xs n (tree m q s) g h k,
      (values_at c xs n p).minus (tree m q s) o,
    )
    shape_fine a b c xs n p (t.Shape.query (tree m q s)) g i v h k o l = (
      part_fine as_expression tt (around.freely a) b (freely c) refl serves_free xs n (tree m q s) g h k,
      (values_at c xs n p).query (tree m q s) o,
    )
    -- members, calls, indices
    shape_fine a b c xs n p (t.Shape.member (tree m q s) x) g i v h k o l =
        member_made a b c xs n p m q s x o v (refs.ref_at (final is).refs m) refl
        (λ e. shape_fine (used_as object a) b (used c object) xs m q s g.1 (form_stands as_expression tt s g.0)
        (object_valued (used_as object a) b (used c object) refl xs m q s h.2 e) h.1 k.1 h.2 k.2)
    shape_fine a b c xs n p (t.Shape.call (tree m q s) ts) g i v h k o l =
        call_made a b xs n p m q s ts (callee_of whole (tree m q s) (picked ts) p)
        (λ d. arguments_fine a b c xs n m 0 (round_of a xs n (tree m q s) (picked ts) p _ g.0 h.0 refl d) ts g.1 h.1 k.1)
        (λ d. object_in (used_as callee a) b (used c callee) xs m q s g.0.1 d h.0.1 k.0.1)
        (λ z e d. shape_fine (used_as callee a) b (used c callee) xs m q s g.0.1 (form_stands as_expression tt s g.0.0)
        (callee_valued a (used_as callee a) b n p (used c callee) refl refl refl xs m q s d (picked ts) z p e h.0.2) h.0.1 k.0.1 h.0.2
        k.0.2) (λ z d. quotient_fine a b c xs n p m ts z g.1 d h.1 k.1)
        ((callees_at c xs n p).call (tree m q s) ts o v h.0 h.1)
    shape_fine a b c xs n p (t.Shape.index (tree m q s) ts) g i v h k o l =
        index_made a b xs n p m q s ts (callee_of whole (tree m q s) form.indexing p)
        (λ d. arguments_fine a b c xs n m 0 (index_round a xs n (tree m q s) form.indexing p _ g.0 h.0 refl d) ts g.1 h.1 k.1)
        (λ d. object_in (around.indexed a) b (used c (around.indexed_use a.used)) xs m q s g.0.1 d h.0.1 k.0.1)
        (λ z e d. shape_fine (around.indexed a) b (used c (around.indexed_use a.used)) xs m q s g.0.1
        (form_stands as_expression tt s g.0.0)
        (callee_valued a (around.indexed a) b n p (used c (around.indexed_use a.used)) (indexed_rounds is a.used) (indexed_starts a.used)
        (indexed_path a.used v.1) xs m q s d form.indexing z p e h.0.2) h.0.1 k.0.1 h.0.2 k.0.2)
        ((callees_at c xs n p).index (tree m q s) ts o v.0 v.1 h.0 h.1)
    -- literals and names
    shape_fine a b c xs n p (t.Shape.integer x) g i v h k o l = (plain_at c xs n p).integer x o
    shape_fine a b c xs n p (t.Shape.character x) g i v h k o l = (plain_at c xs n p).character x o
    shape_fine a b c xs n p (t.Shape.text x) g i v h k o l = (plain_at c xs n p).text x o
    shape_fine a b c xs n p (t.Shape.holes x hs) g i v h k o l =
        (holes_fine a b c xs n hs (holes_all hs g) h k, (values_at c xs n p).holes x hs o)
    shape_fine a b c xs n p t.Shape.truth g i v h k o l = (plain_at c xs n p).truth o
    shape_fine a b c xs n p t.Shape.falsehood g i v h k o l = (plain_at c xs n p).falsehood o
    shape_fine a b c xs n p t.Shape.this g i v h k o l = (naming_at c xs n p).this o
    shape_fine a b c xs n p (t.Shape.name x) g i v h k o l = (naming_at c xs n p).name x o v
    -- values that are made
    shape_fine a b c xs n p (t.Shape.tuple ts) g i v h k o l = (
      trees_fine as_expression tt (around.freely a) b (freely c) refl xs n ts (two_all ts g) h k,
      (values_at c xs n p).tuple ts o,
    )
    shape_fine a b c xs n p (t.Shape.array ts) g i v h k o l =
        (trees_fine as_expression tt (around.freely a) b (freely c) refl xs n ts g h k, (values_at c xs n p).array ts o)
    shape_fine a b c xs n p (t.Shape.mapping ps) g i v h k o l =
        let f = values_at c xs n p in ((pairs_fine a b c xs n ps g h k, f.is_map ps o), f.mapping ps o)
    shape_fine a b c xs n p (t.Shape.instance x gs) g i v h k o l =
        let f = (naming_at c xs n p).instance x gs o in (f.0, f.1, givens_fine a b c xs n gs g h k, f.2)
    shape_fine a b c xs n p (t.Shape.event u) g i v h k o l = (plain_at c xs n p).event u o
    shape_fine a b c xs n p t.Shape.bare_event g i v h k o l = (plain_at c xs n p).bare_event o
    -- loops and blocks
    shape_fine a b c xs n p (t.Shape.loop_form (tree m q s)) g i v h k o l = (
      has_number n (final is).left,
      part_fine as_block tt (around.looped n a) (allowed.looped (has_number n (final is).left) b) (looped c n) refl serves_free xs n
          (tree m q s) g h k,
      λ e. (control_at c xs n p).loop_form (tree m q s) o e,
    )
    shape_fine a b c xs n p (t.Shape.block_form (tree m q s)) g i v h k o l = (
      part_fine as_block tt (around.freely a) b (freely c) refl serves_free xs n (tree m q s) g h k,
      (plain_at c xs n p).block_form (tree m q s) o,
    )
    shape_fine a b c xs n p (t.Shape.cases (tree m q s) ts) g i v h k o l = (
      part_fine as_expression tt (around.freely a) b (freely c) refl serves_free xs n (tree m q s) g.0 h.0 k.0,
      arms_fine a b c xs n ts g.1 (needs.part is arrays events (tree m q s)) (needs.own is arrays events w a xs b n p)
          ((control_at c xs n p).cases (tree m q s) ts o) h.1 k.1,
    )
    -- tasks
    shape_fine a b c xs n p (t.Shape.branch (tree m q s)) g i v h k o l =
        let f = (plain_at c xs n p).branch (tree m q s) o in (
          f.0,
          part_fine as_block tt (around.armed a) (allowed.armed b)
              (armed c ((control_at c xs n p).untried (t.Shape.branch (tree m q s)) o refl))
              refl serves_free xs n (tree m q s) g h k,
          f.1,
        )
    shape_fine a b c xs n p (t.Shape.sync ts) g i v h k o l =
        let f = control_at c xs n p in (
          (f.waits (t.Shape.sync ts) o refl, f.several (t.Shape.sync ts) ts o refl),
          trees_fine as_statement tt (around.armed a) (allowed.armed b) (armed c (f.untried (t.Shape.sync ts) o refl)) refl xs n ts g h k,
          f.sync ts o,
        )
    shape_fine a b c xs n p (t.Shape.race ts) g i v h k o l =
        let f = control_at c xs n p in (
          (f.waits (t.Shape.race ts) o refl, f.several (t.Shape.race ts) ts o refl),
          each_fine (around.armed a) (allowed.armed b) (armed c (f.untried (t.Shape.race ts) o refl)) refl xs n ts g
              (needs.own is arrays events w a
              xs b n p) (f.race ts o) h k,
        )
    shape_fine a b c xs n p (t.Shape.rush ts) g i v h k o l =
        let f = control_at c xs n p in (
          (f.waits (t.Shape.rush ts) o refl, f.several (t.Shape.rush ts) ts o refl),
          each_fine (around.armed a) (allowed.armed b) (armed c (f.untried (t.Shape.rush ts) o refl)) refl xs n ts g
              (needs.own is arrays events w a
              xs b n p) (f.rush ts o) h k,
        )
    shape_fine a b c xs n p (t.Shape.spawn e) g i v h k o l =
        spawned_fine a b c xs n p e g h k ((callees_at c xs n p).spawn e o h)
    shape_fine a b c xs n p (t.Shape.sleep d) g i v h k o l = (plain_at c xs n p).sleep d o
    shape_fine a b c xs n p t.Shape.sleep_forever g i v h k o l = (plain_at c xs n p).sleep_forever o
    shape_fine a b c xs n p s g i v h k o l = absurd i

    -- ---- parts that give values

    part_fine : (st : Stand) → TakesForms st → (a : Around) (b : Allowed) (c : Here a b) {u : Used} → a.used ≡ u → Serves u → (xs : Table)
        (n : ℕ) (e : Tree) → Shaped st e → P n a xs e → N n a xs e → Fine whole found b xs e
    part_fine st f a b c e u xs n (tree m q s) g h k =
        shape_fine a b c xs m q s g.1 (form_stands st f s g.0) (serves_valued a b c e u xs m q s h.2) h.1 k.1 h.2 k.2

    -- ---- statements

    all_fine : (m : Bool) (a : Around) (b : Allowed) (c : Here a b) → a.used ≡ free → (xs : Table) (n : ℕ) (ts : Trees) →
        AllShaped (stand_in m) ts → OnAll (Found is) w n a xs ts → OnAll Named w n a xs ts → FineAll whole found m b xs ts
    all_fine m a b c u xs n no_trees g h k = tt
    all_fine m a b c u xs n (more_trees (tree j q (t.Shape.definition x (tree i r z))) ts) g h k = (
      (
        part_fine as_expression tt (around.freely a) b (freely c) refl serves_free xs j (tree i r z) g.0.1 h.0.1 k.0.1,
        (plain_at c xs j q).constant x (tree i r z) h.0.2,
        (naming_at c xs j q).constant x (tree i r z) h.0.2 k.0.2,
      ),
      subst (λ ys. FineAll whole found m b ys ts) (behind_is is w n a xs (tree j q (t.Shape.definition x (tree i r z))) h.0)
          (all_fine m a b c u (behind w (tree j q (t.Shape.definition x (tree i r z))) xs) n ts g.1 h.1 k.1),
    )
    all_fine m a b c u xs n (more_trees (tree j q (t.Shape.typed x y (tree i r z))) ts) g h k = (
      (
        part_fine as_expression tt (used_as (value y) a) b (used c (value y)) refl serves_value xs j (tree i r z) g.0.1.1 h.0.1.1 k.0.1.1,
        (naming_at c xs j q).typed_value x y (tree i r z) h.0.2 h.0.1.1.2.serves,
        (naming_at c xs j q).typed x y (tree i r z) h.0.2 k.0.2,
      ),
      subst (λ ys. FineAll whole found m b ys ts) (behind_is is w n a xs (tree j q (t.Shape.typed x y (tree i r z))) h.0)
          (all_fine m a b c u (behind w (tree j q (t.Shape.typed x y (tree i r z))) xs) n ts g.1 h.1 k.1),
    )
    all_fine m a b c u xs n (more_trees (tree j q (t.Shape.variable x y (tree i r z))) ts) g h k = (
      (
        part_fine as_expression tt (used_as (value y) a) b (used c (value y)) refl serves_value xs j (tree i r z) g.0.1.1 h.0.1.1 k.0.1.1,
        (naming_at c xs j q).variable_value x y (tree i r z) h.0.2 h.0.1.1.2.serves,
        (naming_at c xs j q).variable x y (tree i r z) h.0.2 k.0.2,
      ),
      subst (λ ys. FineAll whole found m b ys ts) (behind_is is w n a xs (tree j q (t.Shape.variable x y (tree i r z))) h.0)
          (all_fine m a b c u (behind w (tree j q (t.Shape.variable x y (tree i r z))) xs) n ts g.1 h.1 k.1),
    )
    all_fine m a b c u xs n (more_trees (tree j q (t.Shape.defer (tree i r z))) ts) g h k = (
      (
        may_defer m g.0.0,
        part_fine as_block tt (around.deferred a) (allowed.deferred b) (deferred c) refl serves_free xs j (tree i r z) g.0.1 h.0.1 k.0.1,
        (plain_at c xs j q).defer (tree i r z) h.0.2,
      ),
      subst (λ ys. FineAll whole found m b ys ts) (behind_is is w n a xs (tree j q (t.Shape.defer (tree i r z))) h.0)
          (all_fine m a b c u (behind w (tree j q (t.Shape.defer (tree i r z))) xs) n ts g.1 h.1 k.1),
    )
    all_fine m a b c u xs n (more_trees (tree j q (t.Shape.elements x e)) ts) g h k = no_generator m g.0.0
    all_fine m a b c u xs n (more_trees (tree j q (t.Shape.entries x y e)) ts) g h k = no_generator m g.0.0
    all_fine m a b c u xs n (more_trees (tree j q (t.Shape.range x e f)) ts) g h k = no_generator m g.0.0
    all_fine m a b c u xs n (more_trees (tree j q s) ts) g h k = (
      shape_fine a b c xs j q s g.0.1 (statement_stands m s g.0.0 refl) (serves_valued a b c u serves_free xs j q s h.0.2) h.0.1 k.0.1 h.0.2
          k.0.2,
      subst (λ ys. FineAll whole found m b ys ts) (behind_is is w n a xs (tree j q s) h.0)
          (all_fine m a b c u (behind w (tree j q s) xs) n ts g.1 h.1 k.1),
    )

    -- ---- the clauses of a `for`

    clauses_fine : (a : Around) (b : Allowed) (c : Here a b) → a.used ≡ free → (xs : Table) (n : ℕ) (ts : Trees) → AllShaped as_clause ts →
        all_take (final is) ts ≡ true → OnAll (Found is) w n a xs ts → OnAll Named w n a xs ts → FineClauses whole found b xs ts
    clauses_fine a b c u xs n no_trees g d h k = tt
    clauses_fine a b c u xs n (more_trees (tree j q (t.Shape.definition x (tree i r z))) ts) g d h k = (
      (
        part_fine as_expression tt (around.freely a) b (freely c) refl serves_free xs j (tree i r z) g.0.1 h.0.1 k.0.1,
        (plain_at c xs j q).constant x (tree i r z) h.0.2,
        (naming_at c xs j q).constant x (tree i r z) h.0.2 k.0.2,
      ),
      subst (λ ys. FineClauses whole found b ys ts) (behind_is is w n a xs (tree j q (t.Shape.definition x (tree i r z))) h.0)
          (clauses_fine a b c u (behind w (tree j q (t.Shape.definition x (tree i r z))) xs) n ts g.1
          (takes_rest (tree j q (t.Shape.definition x (tree i r z))) ts d) h.1 k.1),
    )
    clauses_fine a b c u xs n (more_trees (tree j q (t.Shape.typed x y e)) ts) g d h k = no g.0.0
    clauses_fine a b c u xs n (more_trees (tree j q (t.Shape.variable x y e)) ts) g d h k = no g.0.0
    clauses_fine a b c u xs n (more_trees (tree j q (t.Shape.defer e)) ts) g d h k = no g.0.0
    clauses_fine a b c u xs n (more_trees (tree j q (t.Shape.elements x (tree i r z))) ts) g d h k = (
      (
        part_fine as_expression tt (around.freely a) b (freely c) refl serves_free xs j (tree i r z) g.0.1 h.0.1 k.0.1,
        (naming_at c xs j q).elements x (tree i r z) h.0.2 k.0.2 (takes_first (tree j q (t.Shape.elements x (tree i r z))) ts d),
      ),
      subst (λ ys. FineClauses whole found b ys ts) (behind_is is w n a xs (tree j q (t.Shape.elements x (tree i r z))) h.0)
          (clauses_fine a b c u (behind w (tree j q (t.Shape.elements x (tree i r z))) xs) n ts g.1
          (takes_rest (tree j q (t.Shape.elements x (tree i r z))) ts d) h.1 k.1),
    )
    clauses_fine a b c u xs n (more_trees (tree j q (t.Shape.entries x y (tree i r z))) ts) g d h k = (
      (
        part_fine as_expression tt (around.freely a) b (freely c) refl serves_free xs j (tree i r z) g.0.1 h.0.1 k.0.1,
        (naming_at c xs j q).entries x y (tree i r z) h.0.2 k.0.2.0 k.0.2.1 (takes_first (tree j q (t.Shape.entries x y (tree i r z))) ts d)
            k.0.2.2,
      ),
      subst (λ ys. FineClauses whole found b ys ts) (behind_is is w n a xs (tree j q (t.Shape.entries x y (tree i r z))) h.0)
          (clauses_fine a b c u (behind w (tree j q (t.Shape.entries x y (tree i r z))) xs) n ts g.1
          (takes_rest (tree j q (t.Shape.entries x y (tree i r z))) ts d) h.1 k.1),
    )
    clauses_fine a b c u xs n (more_trees (tree j q (t.Shape.range x (tree i r z) (tree l y s))) ts) g d h k = (
      (
        (
          part_fine as_expression tt (around.freely a) b (freely c) refl serves_free xs j (tree i r z) g.0.1.0 h.0.1.0 k.0.1.0,
          part_fine as_expression tt (around.freely a) b (freely c) refl serves_free xs j (tree l y s) g.0.1.1 h.0.1.1 k.0.1.1,
        ),
        (naming_at c xs j q).range x (tree i r z) (tree l y s) h.0.2 k.0.2
            (takes_first (tree j q (t.Shape.range x (tree i r z) (tree l y s))) ts d),
      ),
      subst (λ ys. FineClauses whole found b ys ts) (behind_is is w n a xs (tree j q (t.Shape.range x (tree i r z) (tree l y s))) h.0)
          (clauses_fine a b c u (behind w (tree j q (t.Shape.range x (tree i r z) (tree l y s))) xs) n ts g.1
          (takes_rest (tree j q (t.Shape.range x (tree i r z) (tree l y s))) ts d) h.1 k.1),
    )
    clauses_fine a b c u xs n (more_trees (tree j q s) ts) g d h k = (
      shape_fine a b c xs j q s g.0.1 (clause_stands s g.0.0 refl) (serves_valued a b c u serves_free xs j q s h.0.2) h.0.1 k.0.1 h.0.2
          k.0.2,
      subst (λ ys. FineClauses whole found b ys ts) (behind_is is w n a xs (tree j q s) h.0)
          (clauses_fine a b c u (behind w (tree j q s) xs) n ts g.1 (takes_rest (tree j q s) ts d) h.1 k.1),
    )

    -- ---- operands

    trees_fine : (st : Stand) → TakesForms st → (a : Around) (b : Allowed) (c : Here a b) → a.used ≡ free → (xs : Table) (n : ℕ)
        (ts : Trees) → AllShaped st ts → OnEach (Found is) w n a xs ts → OnEach Named w n a xs ts → FineTrees whole found b xs ts
    trees_fine st f a b c u xs n no_trees g h k = tt
    trees_fine st f a b c u xs n (more_trees e ts) g h k =
        (part_fine st f a b c u serves_free xs n e g.0 h.0 k.0, trees_fine st f a b c u xs n ts g.1 h.1 k.1)

    each_fine : (a : Around) (b : Allowed) (c : Here a b) → a.used ≡ free → (xs : Table) (n : ℕ) (ts : Trees) → AllShaped as_statement ts →
        (r : Sort) → EachFits is arrays events r ts → OnEach (Found is) w n a xs ts → OnEach Named w n a xs ts →
        FineEach whole found b xs r ts
    each_fine a b c u xs n no_trees g r f h k = tt
    each_fine a b c u xs n (more_trees (tree j q s) ts) g r f h k = (
      part_fine as_statement tt a b c u serves_free xs n (tree j q s) g.0 h.0 k.0,
      f.0,
      each_fine a b c u xs n ts g.1 r f.1 h.1 k.1,
    )

    holes_fine : (a : Around) (b : Allowed) (c : Here a b) (xs : Table) (n : ℕ) (hs : Holes) → AllHoles hs →
        OnHoles (Found is) w n (around.freely a) xs hs → OnHoles Named w n (around.freely a) xs hs → FineHoles whole found b xs hs
    holes_fine a b c xs n no_holes g h k = tt
    holes_fine a b c xs n (more_holes e x hs) g h k = (
      part_fine as_expression tt (around.freely a) b (freely c) refl serves_free xs n e g.0 h.0 k.0,
      holes_fine a b c xs n hs g.1 h.1 k.1,
    )

    pairs_fine : (a : Around) (b : Allowed) (c : Here a b) (xs : Table) (n : ℕ) (ps : t.Pairs) → PairsShaped ps →
        OnPairs (Found is) w n (around.freely a) xs ps → OnPairs Named w n (around.freely a) xs ps → FinePairs whole found b xs ps
    pairs_fine a b c xs n t.Pairs.no_pairs g h k = tt
    pairs_fine a b c xs n (t.Pairs.more_pairs e f ps) g h k = (
      part_fine as_expression tt (around.freely a) b (freely c) refl serves_free xs n e g.0 h.0 k.0,
      part_fine as_expression tt (around.freely a) b (freely c) refl serves_free xs n f g.1 h.1 k.1,
      pairs_fine a b c xs n ps g.2 h.2 k.2,
    )

    givens_fine : (a : Around) (b : Allowed) (c : Here a b) (xs : Table) (n : ℕ) (gs : Givens) → GivensShaped gs →
        OnGivens (Found is) w n (around.freely a) xs gs → OnGivens Named w n (around.freely a) xs gs → FineGivens whole found b xs gs
    givens_fine a b c xs n no_givens g h k = tt
    givens_fine a b c xs n (more_givens x e gs) g h k = (
      part_fine as_expression tt (around.freely a) b (freely c) refl serves_free xs n e g.0 h.0 k.0,
      givens_fine a b c xs n gs g.1 h.1 k.1,
    )

    -- the arguments of a callee that is neither Floor nor Ceil
    arguments_fine : (a : Around) (b : Allowed) (c : Here a b) (xs : Table) (n f i : ℕ) →
        is_round (refs.ref_at (final is).refs f) ≡ false → (ts : Trees) → AllShaped as_expression ts →
        OnArguments (Found is) w n a xs f i ts → OnArguments Named w n a xs f i ts → FineTrees whole found b xs ts
    arguments_fine a b c xs n f i r no_trees g h k = tt
    arguments_fine a b c xs n f i r (more_trees e ts) g h k = (
      part_fine as_expression tt (used_as (argument f i) a) b (used c (argument f i)) refl (serves_argument r) xs n e g.0 h.0 k.0,
      arguments_fine a b c xs n f (i + 1) r ts g.1 h.1 k.1,
    )

    -- ---- the arms of a `case`

    arms_fine : (a : Around) (b : Allowed) (c : Here a b) (xs : Table) (n : ℕ) (ts : Trees) → SomeShaped as_arm ts → (q r : Sort) →
        ArmsFit is arrays events q r ts → OnEach (Found is) w n (around.freely a) xs ts → OnEach Named w n (around.freely a) xs ts →
        FineArms whole found b xs q r ts
    arms_fine a b c xs n no_trees g q r f h k = absurd g
    arms_fine a b c xs n (more_trees e ts) g q r f h k =
        (arm_fine a b c xs n e g.0 q r f.0 h.0 k.0, more_arms_fine a b c xs n ts g.1 q r f.1 h.1 k.1)

    more_arms_fine : (a : Around) (b : Allowed) (c : Here a b) (xs : Table) (n : ℕ) (ts : Trees) → AllShaped as_arm ts → (q r : Sort) →
        ArmsFit is arrays events q r ts → OnEach (Found is) w n (around.freely a) xs ts → OnEach Named w n (around.freely a) xs ts →
        FineMoreArms whole found b xs q r ts
    more_arms_fine a b c xs n no_trees g q r f h k = tt
    more_arms_fine a b c xs n (more_trees e ts) g q r f h k =
        (arm_fine a b c xs n e g.0 q r f.0 h.0 k.0, more_arms_fine a b c xs n ts g.1 q r f.1 h.1 k.1)

    arm_fine : (a : Around) (b : Allowed) (c : Here a b) (xs : Table) (n : ℕ) (e : Tree) → Shaped as_arm e → (q r : Sort) →
        ArmFits whole found q (needs.part is arrays events e) r → P n (around.freely a) xs e → N n (around.freely a) xs e →
        FineArm whole found b xs q r e
    arm_fine a b c xs n (tree j o (t.Shape.arm e (tree m l s))) g q r f h k = (
      part_fine as_body tt (around.freely (around.freely a)) b (freely (freely c)) refl serves_free xs j (tree m l s) g.1.1 h.1.1 k.1.1,
      arm_type j o (around.freely a) xs e m l s h.2 q r f,
    )
    arm_fine a b c xs n (tree j o s) g q r f h k = no g.0

    -- ---- objects, quotients, and the call that a `spawn` starts

    -- what stands before the dot of what is called
    object_in : (a : Around) (b : Allowed) (c : Here a b) (xs : Table) (m : ℕ) (q : Place) (s : Shape) →
        PartsShaped s → HasObject is (tree m q s) → OnShape (Found is) w m a xs s → OnShape Named w m a xs s →
        FineObjectOf whole found b xs s
    object_in a b c xs m q (t.Shape.member (tree i r z) x) g e h k =
        shape_fine (used_as object a) b (used c object) xs i r z g.1 (form_stands as_expression tt z g.0)
        (object_valued (used_as object a) b (used c object) refl xs i r z h.2 e) h.1 k.1 h.2 k.2
    object_in a b c xs m q s g e h k = absurd e

    quotient_fine : (a : Around) (b : Allowed) (c : Here a b) (xs : Table) (n : ℕ) (p : Place) (m : ℕ) (ts : Trees) (f : Form) →
        AllShaped as_expression ts → Rounds is arrays events w a xs b n p f ts → OnArguments (Found is) w n a xs m 0 ts →
        OnArguments Named w n a xs m 0 ts → FineQuotient whole found b xs n f ts
    quotient_fine a b c xs n p m (more_trees (tree j o (t.Shape.chained op.Div (tree l q s) (tree i r z))) no_trees) f g d h k =
        let here = used c (argument m 0) in (
          part_fine as_expression tt (around.freely (used_as (argument m 0) a)) b (freely here) refl serves_free xs j (tree l q s) g.0.1.0
              h.0.1.0 k.0.1.0,
          part_fine as_expression tt (around.freely (used_as (argument m 0) a)) b (freely here) refl serves_free xs j (tree i r z) g.0.1.1
              h.0.1.1 k.0.1.1,
          d,
        )
    quotient_fine a b c xs n p m ts f g d h k = absurd d

    spawned_fine : (a : Around) (b : Allowed) (c : Here a b) (xs : Table) (n : ℕ) (p : Place) (e : Tree) → Shaped as_expression e →
        P n (used_as spawned a) xs e → N n (used_as spawned a) xs e → Starts is arrays events w a xs b n p e →
        FineSpawned whole found b xs n e
    spawned_fine a b c xs n p (tree m q (t.Shape.call (tree i y z) ts)) g h k r =
        started_made a b xs n p i y z ts (callee_of whole (tree i y z) (form.picking None) q)
        (λ d. arguments_fine (used_as spawned a) b (used c spawned) xs m i 0
        (round_of (used_as spawned a) xs m (tree i y z) (form.picking None) q _ g.1.0 h.1.0 refl d) ts g.1.1 h.1.1 k.1.1)
        (λ d. object_in (used_as callee (used_as spawned a)) b (used (used c spawned) callee) xs i y z g.1.0.1 d h.1.0.1 k.1.0.1) r
    spawned_fine a b c xs n p (tree m q s) g h k r = absurd r

    -- ---- what `set` writes to

    target_fine : (a : Around) (b : Allowed) (c : Here a b) (xs : Table) (n : ℕ) (e : Tree) →
        Shaped as_expression e → can_be_set (final is) e ≡ true → targets.HasObject is e → P n a xs e →
        N n a xs e → FineTarget whole found b xs e
    target_fine a b c xs n (tree m q (t.Shape.name x)) g e f h k = tt
    target_fine a b c xs n (tree m q (t.Shape.member (tree i r z) x)) g e f h k =
        shape_fine (used_as object a) b (used c object) xs i r z g.1.1 (form_stands as_expression tt z g.1.0)
        (object_valued (used_as object a) b (used c object) refl xs i r z h.1.2 f) h.1.1 k.1.1 h.1.2 k.1.2
    target_fine a b c xs n (tree m q (t.Shape.index e ts)) g s f h k = (
      target_fine (around.indexed a) b (used c (around.indexed_use a.used)) xs m e g.1.0 s f h.1.0 k.1.0,
      arguments_fine a b c xs m (number_of_tree e) 0 (target_rounds is arrays events w (around.indexed a) xs m e h.1.0 s) ts g.1.1 h.1.1
          k.1.1,
    )
    target_fine a b c xs n (tree m q s) g e f h k = no e

  -- ---- a whole tree

  pub tree_fine : (st : Stand) → TakesForms st → (a : Around) (b : Allowed) (c : Here a b) {u : Used} → a.used ≡ u → Serves u → (xs : Table)
      (e : Tree) → Shaped st e → On (Found is) w a xs e → On Named w a xs e → Fine whole found b xs e
  tree_fine st f a b c e u xs (tree m q s) g h k =
      shape_fine a b c xs m q s g.1 (form_stands st f s g.0) (serves_valued a b c e u xs m q s h.1) h.0 k.0 h.1 k.1
