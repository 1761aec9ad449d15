-- What stands for no tree of its own: operands that are applied, callees, names, statements, patterns and fields.
use Rattle.std.proofs.Common.{◌≡◌, ℕ, zero, suc, nat_eq, nat_lt, List, [], ◌∷◌, length, Bool, true, false}
use Rattle.std.proofs.Common.{cond, Option, Some, None}
use Rattle.std.proofs.Common.{refl, sym, ap, ◌∙◌, arith, subst, neg_ℤ}
use Rattle.std.proofs.lemmas.Bool.Decides.{nat_tests}
use Rattle.std.proofs.lemmas.Option.{none-some, same_Some}
use Rattle.verse_base.specs.declared.places.Place.{Place}
use Rattle.verse_tree.specs.Tree.{Bytes, Tree, tree, Shape, Trees, no_trees, more_trees, Givens, no_givens}
use Rattle.verse_tree.specs.Tree.{more_givens}
use Rattle.verse_tree.specs.Tree as t
use Rattle.verse_tree.specs.ItemTree.{EnumTree, FieldTree, FunTree}
use Rattle.verse_tree.specs.declared.exprs.Comparison.{Comparison}
use Rattle.verse_tree.specs.declared.exprs.Comparison.TheVariants as c
use Rattle.verse_tree.specs.declared.tables.Ref.{Ref}
use Rattle.verse_tree.specs.declared.tables.Ref.TheVariants as ref
use Rattle.verse_names_tables.specs.Names.{Table}
use Rattle.verse_code.specs.declared.operations.Op.TheVariants as o
use Rattle.verse_value.specs.Val.{Val}
use Rattle.verse_sorts.specs.Sorts.{Sort}
use Rattle.verse_meaning.specs.Programs.{Program, same_name, ref_at, fun_at, fields_of, given_names, place_of, enums}
use Rattle.verse_meaning.specs.Programs.{enum_names}
use Rattle.verse_meaning.specs.Programs.{enum_val, value_in, named_value}
use Rattle.verse_meaning_state.specs.Waits.{nth}
use Rattle.verse_meaning.specs.Forms.{place_in}
use Rattle.verse_meaning.specs.Residuals as form
use Rattle.verse_meaning.specs.Residuals.{Form, Base, in_variable, in_self, in_object, nowhere, Binder, no_name}
use Rattle.verse_meaning.specs.Residuals.{a_constant, a_variable}
use Rattle.verse_meaning.specs.Residuals.{Generator, of_elements, of_entries, of_range}
use Rattle.verse_meaning.specs.Evaluating.{base_of_shape}
use Rattle.verse_meaning.specs.Evaluating.{Callee, alone, of_object, of_value, of_quotient, no_callee, picked}
use Rattle.verse_meaning.specs.Evaluating.{literal_of, member_form}
use Rattle.verse_meaning.specs.Evaluating.{Statement, plain, defines, defers, generates, length_name, base_of}
use Rattle.verse_meaning.specs.Evaluating.{base_named, base_member}
use Rattle.verse_sound_rules.specs.Found.{Found, Allowed}
use Rattle.verse_sound_rules.specs.Forms.{Gives, Placed, in_local, in_own, NameIs, is_local, is_key_name}
use Rattle.verse_sound_rules.specs.Forms.{is_field, Filled}
use Rattle.verse_sound_rules.specs.Forms.{filled_no, filled_given, filled_by_default, given_sort}
use Rattle.verse_sound_rules.specs.Fine as fine
use Rattle.verse_sound_rules.specs.Fine.{FineTargetOf}
use Rattle.verse_sound_rules.specs.Fine.{sorts_at, on_callee, on_statement}
use Rattle.verse_sound_rules.specs.Fine.{on_member, FineTarget, Defines}
use Rattle.verse_sound_rules.specs.Fine.{Generates, stated_behind}
use Rattle.verse_sound_rules.specs.Programs.{FineFound}
use Rattle.lower_code.specs.declared.arounds.Around.{Around}
use Rattle.lower_code.specs.Pieces.{Maker, one, turning}
use Rattle.lower_code.specs.Scopes as scopes
use Rattle.lower_code.specs.Scopes.{Scope, fixed, varies, absent, find, this_found, is_fixed, is_varies, push_fixed}
use Rattle.lower_code.specs.Scopes.{push_varies, read_found}
use Rattle.lower_code.specs.Scopes.{read_this, field_of_this}
use Rattle.lower_code.specs.Arounds.{up, raised, returning, breaking, leaving_to}
use Rattle.lower_code.specs.Applied.{finish, start, started, storing, comparing, awaiting, indexing, signalling}
use Rattle.lower_code.specs.Applied.{dropping, with_one, with_two}
use Rattle.lower_code.specs.Applied.{computing}
use Rattle.verse_code.specs.declared.operations.Op.{Op}
use Rattle.verse_tree.specs.declared.exprs.Operator.TheVariants as op
use Rattle.lower_code.specs.Lowering.{how_many, by_callee, bind, with_binder, with_generator, taking, stated, claused}
use Rattle.lower_code.specs.Lowering.{membered, named, enum_op}
use Rattle.lower_code.specs.Lowering.{enum_pattern, pattern_op, is_any, arm_by, arm_of, field_op, field_ops}
use Rattle.lower_code.specs.Lowering.{given_local, instance_of}
use Rattle.lower_code.specs.Lowering.{base_code, named_base, member_base, has_base, has_base_shape, form_fits}
use Rattle.lower_code.specs.Lowering.{takes_params}
use Rattle.lower_code.specs.Defaults.{default_number}
use Rattle.lower_simulation_runs.specs.Programs.{is_some, has_value_shape, has_value}
use Rattle.lower_sound.proofs.Armed.{Orderly, both, none, just, at_place, text, keeps, leaves, if_so}
use Rattle.lower_sound.proofs.Armed.{is_so, before, one_of}
use Rattle.lower_sound.proofs.Armed.{turns}
use Rattle.lower_sound.proofs.Names.{Sees, is_there, sees_defined, sees_generated, params_many}
use Rattle.lower_sound.proofs.Counts.{IsGiven, sorts_many, gives_told, gives_many, IsAlone, IsOfObject, IsOfQuotient}
use Rattle.lower_sound.proofs.Counts.{IsCallee, Called}

-- ---- what may leave a tree

-- where `return` may stand the code returns, and where `break` may stand it is in a loop
pub record Leaves (a : Allowed) (z : Around) : Type 0 where
  pub returns : (r : Sort) → a.result ≡ Some r → z.may_return ≡ true
  pub breaks : a.breaks ≡ true → z.in_loop ≡ true

pub leaves_up : {a : Allowed} {z : Around} → Leaves a z → Leaves a (up z)
leaves_up l = record { returns = λ r e. l.returns r e; breaks = λ e. l.breaks e }

pub leaves_raised : {a : Allowed} {z : Around} (n : ℕ) → Leaves a z → Leaves a (raised n z)
leaves_raised zero l = l
leaves_raised (suc n) l = leaves_raised n (leaves_up l)

pub leaves_started : {a : Allowed} {z : Around} (x : Form) → Leaves a z → Leaves a (started x z)
leaves_started (form.calling_own m) l = leaves_up l
leaves_started (form.spawning_own m) l = leaves_up l
leaves_started x l = l

leaving : (n : ℕ) (z : Around) → Orderly (leaving_to n z)
leaving n z = if_so (nat_lt n z.defers) (λ e. just (o.Leave n) refl)

pub returns : (a : Allowed) (z : Around) (r : Sort) → Leaves a z → a.result ≡ Some r → Orderly (returning z)
returns a z r l e = both (leaving z.base z) (is_so z.may_return (l.returns r e) (just o.Return refl))

pub breaks : (a : Allowed) (z : Around) → Leaves a z → a.breaks ≡ true → Orderly (breaking z)
breaks a z l e = both (leaving z.floor z) (is_so z.in_loop (l.breaks e) (leaves z.height))

-- ---- numbers of operands

drops : {m : Maker} (n : ℕ) → Orderly m → Orderly (dropping n m)
drops zero x = x
drops (suc n) x = both (just o.Drop refl) (drops n x)

with_1 : {m : Maker} (n : ℕ) → n ≡ 1 → Orderly m → Orderly (with_one n m)
with_1 zero e x = absurd (omega (arith, e))
with_1 (suc zero) e x = x
with_1 (suc (suc n)) e x = absurd (omega (arith, e))

with_2 : {m : Maker} (n : ℕ) → n ≡ 2 → Orderly m → Orderly (with_two n m)
with_2 zero e x = absurd (omega (arith, e))
with_2 (suc zero) e x = absurd (omega (arith, e))
with_2 (suc (suc zero)) e x = x
with_2 (suc (suc (suc n))) e x = absurd (omega (arith, e))

indexes : (n : ℕ) → Orderly (indexing n)
indexes zero = none
indexes (suc n) = drops n (just o.At refl)

signals : (n : ℕ) → Orderly (signalling n)
signals zero = both (just o.Unit refl) (just o.Signal refl)
signals (suc n) = drops n (just o.Signal refl)

awaits : (e : Bool) → Orderly (one (awaiting e))
awaits true = just o.AwaitEvent refl
awaits false = just o.AwaitTask refl

pub compares : (x : Comparison) → Orderly (one (comparing x))
compares c.Equal = just o.Eq refl
compares c.Differs = just o.Ne refl
compares c.Below = just o.Lt refl
compares c.AtMost = just o.Le refl
compares c.Above = just o.Gt refl
compares c.AtLeast = just o.Ge refl

pub adds : (pl : Place) (e : Bool) → Orderly (computing op.Add pl e)
adds pl true = at_place pl o.Concat (λ m. refl)
adds pl false = at_place pl o.Add (λ m. refl)

pub stores : (x : Op) (e : Bool) (l : ℕ) → Orderly (one x) → Orderly (storing x e l)
stores x true l y = both (keeps l) (both y (both (just o.Drop refl) (just (o.Get l) refl)))
stores x false l y = y

pub pushes_fixed : (x : scopes.Found) → Orderly (push_fixed x)
pushes_fixed (fixed l) = just (o.Get l) refl
pushes_fixed (varies l) = just o.Unit refl
pushes_fixed absent = just o.Unit refl

pushes_varies : (x : scopes.Found) → Orderly (push_varies x)
pushes_varies (fixed l) = just o.Unit refl
pushes_varies (varies l) = just (o.Get l) refl
pushes_varies absent = just o.Unit refl

pub starts : (x : Form) (sc : Scope) → Orderly (start x sc)
starts (form.calling_own m) sc = pushes_fixed (this_found sc)
starts (form.spawning_own m) sc = pushes_fixed (this_found sc)
starts x sc = none

pub member_finish : (r : Option Ref) (x : Bytes) (fits : Bool) → Orderly (finish (member_form r x) 1 fits)
member_finish (Some (ref.Field c i)) x fits = just (o.Load i) refl
member_finish r x fits = by (same_name x length_name)
  where
    by : (q : Bool) → Orderly (finish (cond q form.measuring form.defining) 1 fits)
    by true = just o.Length refl
    by false = none

-- ---- names

reads_found : (x : scopes.Found) → is_there x ≡ true → Orderly (read_found x)
reads_found (fixed l) e = just (o.Get l) refl
reads_found (varies l) e = both (just (o.Get l) refl) (just (o.Load 0) refl)
reads_found absent e = absurd (cc)

pub reads_this : (x : scopes.Found) → is_fixed x ≡ true → Orderly (read_this x)
reads_this (fixed l) e = just (o.Get l) refl
reads_this (varies l) e = absurd (cc)
reads_this absent e = absurd (cc)

reads_field : (x : scopes.Found) (n : ℕ) → is_fixed x ≡ true → Orderly (field_of_this x n)
reads_field (fixed l) n e = both (just (o.Get l) refl) (just (o.Load n) refl)
reads_field (varies l) n e = absurd (cc)
reads_field absent n e = absurd (cc)

module _ (p : Program) (differ : ℕ → ℕ → Bool) (f : Found) where
  pub reads_name : (a : Allowed) (xs : Table) (sc : Scope) (x : Bytes) (r : Option Ref) (q : Sort) →
      NameIs p f a xs x r q →
      Sees f a.this xs sc → Orderly (named p differ r x sc)
  unfolding named
  reads_name a xs sc x r q (is_local {m = m} e) g = reads_found (find x sc) (g.names x (ref.Local m) e)
  reads_name a xs sc x r q (is_key_name {m = m} e) g = reads_found (find x sc) (g.names x (ref.Key m) e)
  reads_name a xs sc x r q (is_field {c = c} {i = i} d e at) g = reads_field (this_found sc) i (g.own d e)

  -- ---- what `set` writes to

  pub base_reads : (b : Base) (sc : Scope) → Orderly (base_code p differ b sc)
  base_reads (in_variable x) sc = pushes_varies (find x sc)
  base_reads (in_self n) sc = pushes_fixed (this_found sc)
  base_reads (in_object n) sc = just o.Unit refl
  base_reads nowhere sc = just o.Unit refl

  module _ (a : Allowed) (xs : Table) (sc : Scope) (g : Sees f a.this xs sc) where
    variable_there : {os : List Sort} {q : Sort} (x : Bytes) → Placed p f a xs (in_variable x) os q → is_varies
        (find x sc) ≡ true
    variable_there x (in_local {m = m} e v) = g.variables x m e v

    own_there : {os : List Sort} {q : Sort} (n : ℕ) → Placed p f a xs (in_self n) os q → is_fixed
        (this_found sc) ≡ true
    own_there n (in_own c e at) = g.own c e

    not_nowhere : {A : Type 0} {os : List Sort} {q : Sort} → Placed p f a xs nowhere os q → A
    not_nowhere h = elim h [ ]

    name_there : {os : List Sort} {q : Sort} (r : Option Ref) (x : Bytes) → Placed p f a xs (base_named p r x) os q →
        named_base p differ (base_named p r x) sc ≡ true
    name_there (Some (ref.Field c i)) x h = own_there i h
    name_there r x h = variable_there x h

    member_there : {os : List Sort} {q : Sort} (r : Option Ref) → Placed p f a xs (base_member p r) os q →
        member_base p differ (base_member p r) ≡ true
    member_there (Some (ref.Field c i)) h = refl
    member_there r h = not_nowhere h

    mutual
      pub target_there : {os : List Sort} {q : Sort} (b : Tree) → FineTarget p f a xs b → Placed p f a xs
          (base_of p b) os q →
          has_base p differ b (base_of p b) sc ≡ true
      target_there (tree n pl x) h k = target_shape_there x n h k

      target_shape_there : {os : List Sort} {q : Sort} (x : Shape) (n : ℕ) → FineTargetOf p f a xs x →
          Placed p f a xs (base_of_shape p n x) os q →
          has_base_shape p differ x
          (base_of_shape p n x) sc ≡ true
      target_shape_there (t.Shape.name x) n h k = name_there (ref_at p n) x k
      target_shape_there (t.Shape.member b x) n h k = member_there (ref_at p n) k
      target_shape_there (t.Shape.index b ts) n h k = target_there b h.0 k
      target_shape_there x n h k = elim h [ ]

  -- ---- applied forms

  module _ (known : FineFound p f) (a : Allowed) (xs : Table) (sc : Scope) (g : Sees f a.this xs sc) where
    takes_so : (o : Option FunTree) (x : FunTree) (n : ℕ) → o ≡ Some x → length x.params ≡ n →
        takes_params p differ o n ≡ true
    takes_so o x n e many = subst (λ z. takes_params p differ z n ≡ true) (sym e) (let same : nat_eq
        (length x.params) n ≡ true = grind (arith, nat_tests, many) in same)

    called_so : (h : ℕ) (ts : Trees) (taken : List Sort) → Called p f a xs h taken → length
        (sorts_at p f ts) ≡ length taken →
        takes_params p differ (fun_at p h) (how_many ts) ≡ true
    called_so h ts taken c many =
        let own = params_many f p [] c.function.params (f.signature h).params
        (known.functions h c.function c.found).params in
        takes_so (fun_at p h) c.function (how_many ts) c.found
        (sym own ∙ sym (ap length c.operands) ∙ sym many ∙ sorts_many p f ts)

    module _ (ts : Trees) (r : Sort) where
      pub alone_finish : (x : Form) → IsAlone x → Gives p f a xs x (sorts_at p f ts) r →
          Orderly (finish x (how_many ts) (form_fits p differ x (how_many ts) sc))
      alone_finish (form.calling h) i k =
          is_so _ (called_so h ts k.taken (gives_told p f a xs k) (gives_many p f a xs k)) (just (o.Call h) refl)
      alone_finish (form.calling_own m) i k =
          let this = gives_told p f a xs k in is_so _ (g.own this.class this.is) (just (o.Method m (how_many ts)) refl)
      alone_finish (form.printing pl) i k =
          with_1 (how_many ts) (sym (sorts_many p f ts) ∙ gives_many p f a xs k ∙ gives_told p f a xs k)
          (at_place pl o.Print (λ m. refl))
      alone_finish form.taking_modulo i k =
          with_2 (how_many ts) (sym (sorts_many p f ts) ∙ gives_many p f a xs k ∙ gives_told p f a xs k)
          (just o.Mod refl)
      alone_finish (form.spawning h) i k =
          is_so _ (called_so h ts k.taken (gives_told p f a xs k) (gives_many p f a xs k)) (just (o.Spawn h) refl)
      alone_finish (form.spawning_own m) i k =
          let this = gives_told p f a xs k in is_so _ (g.own this.class this.is) (just (o.SpawnMethod m
          (how_many ts)) refl)
      alone_finish x i k = elim i [ ]

  pub object_finish : (x : Form) (n : ℕ) → IsOfObject x → Orderly (finish x n true)
  object_finish (form.calling_method m) n i = just (o.Method m n) refl
  object_finish (form.awaiting e) n i = drops n (awaits e)
  object_finish form.signalling n i = signals n
  object_finish (form.spawning_method m) n i = just (o.SpawnMethod m n) refl
  object_finish x n i = elim i [ ]

  pub index_finish : (x : Form) (n : ℕ) → x ≡ form.indexing → Orderly (finish x n true)
  index_finish x n e = subst (λ y. Orderly (finish y n true)) (sym e) (indexes n)

  picked_finish : (ts : Trees) → Orderly (finish (picked ts) 0 true)
  picked_finish no_trees = just (o.Item 0) refl
  picked_finish (more_trees b no_trees) = just (o.Item (place_in (literal_of b))) refl
  picked_finish (more_trees b (more_trees c ts)) = just (o.Item 0) refl

  pub pick_finish : (x : Form) (ts : Trees) → x ≡ picked ts → Orderly (finish x 0 true)
  pick_finish x ts e = subst (λ y. Orderly (finish y 0 true)) (sym e) (picked_finish ts)

  pub quotient_finish : (x : Form) → IsOfQuotient x → Orderly (finish x 2 true)
  quotient_finish (form.flooring pl) i = at_place pl o.Floor (λ m. refl)
  quotient_finish (form.ceiling pl) i = at_place pl o.Ceil (λ m. refl)
  quotient_finish x i = elim i [ ]

  -- by what a callee is
  pub by_kind : (whole : Form) (k : Callee) {by_none by_object by_value by_quotient : Form → Type 0}
      {on_none on_object on_value on_quotient : Form → Maker} → IsCallee whole k →
      on_callee k by_none by_object by_value by_quotient →
      ((x : Form) → IsAlone x → by_none x → Orderly (on_none x)) →
      ((x : Form) → IsOfObject x → by_object x → Orderly (on_object x)) →
      ((x : Form) → x ≡ whole → by_value x → Orderly (on_value x)) →
      ((x : Form) → IsOfQuotient x → by_quotient x → Orderly (on_quotient x)) → Orderly
      (by_callee k on_none on_object on_value on_quotient)
  unfolding by_callee
  by_kind whole (alone x) i h k l m n = k x i h
  by_kind whole (of_object x) i h k l m n = l x i h
  by_kind whole (of_value x) i h k l m n = m x i h
  by_kind whole (of_quotient x) i h k l m n = n x i h
  by_kind whole no_callee i h k l m n = elim h [ ]

  -- ---- members of enums

  enum_orderly : (q : Sort) (w : Val) → fine.IsEnumValue p f q w → Orderly (enum_op w)
  enum_orderly q w (fine.is_enum_value {e} {i} h) = just (o.Enum e i) refl

  pub by_member : (q : Sort) (w : Option Val) {as_object : Type 0} {m : Maker} →
      on_member w (λ x. fine.IsEnumValue p f q x) as_object → (as_object → Orderly m) → Orderly (membered p differ w m)
  unfolding membered
  by_member q (Some w) h k = enum_orderly q w h
  by_member q None h k = k h

  -- ---- statements

  pub binds : (b : Binder) (l : ℕ) → Orderly (bind b l)
  binds no_name l = none
  binds (a_constant x) l = keeps l
  binds (a_variable x pl) l = both (at_place pl o.New (λ m. refl)) (both (keeps l) (just (o.Load 0) refl))

  pub states : (s : Statement) (sc : Scope) (whole inner : Maker) →
      on_statement s (Orderly whole) (λ y. Orderly inner) (λ d. Orderly inner) (λ y. ⊥) → Orderly
      (stated p differ s sc whole inner)
  unfolding stated
  states plain sc whole inner h = h
  states (defines b) sc whole inner h = both h (binds b _)
  states (defers d) sc whole inner h =
      both (before o.Defer (λ m. refl) (both h (both (just o.Drop refl) (just o.DeferEnd refl)))) (just o.Unit refl)
  states (generates y) sc whole inner h = elim h [ ]

  takes_from : {m : Maker} (y : Generator) (l : ℕ) → Orderly m → Orderly (turning (taking y l) l m)
  takes_from (of_elements x) l h = turns (o.Each l) l refl h
  takes_from (of_entries k x) l h = turns (o.Each l) l refl h
  takes_from (of_range x) l h = turns (o.Range l) l refl h

  -- a clause of a `for`, with what is behind it
  pub clauses_one : {this : Option ℕ} {xs : Table} (s : Statement) (n : ℕ) (sc : Scope)
      (whole inner : Maker) {rest : Scope → Maker} →
      Sees f this xs sc →
      on_statement s (Orderly whole) (λ y. Orderly inner × Defines p f y n xs) (λ d. ⊥)
      (λ y. (q : Sort) × Orderly inner × Generates p f n xs q y) →
      ((sc : Scope) → Sees f this (stated_behind s n xs) sc → Orderly (rest sc)) → Orderly
      (claused p differ s sc whole inner rest)
  unfolding claused
  clauses_one plain n sc whole inner g h k = both h (both (just o.Drop refl) (k sc g))
  clauses_one (defines b) n sc whole inner g h k =
      both h.0 (both (binds b _) (both (just o.Drop refl) (k (with_binder b sc) (sees_defined f p b n h.1 g))))
  clauses_one (defers d) n sc whole inner g h k = elim h [ ]
  clauses_one (generates y) n sc whole inner g h k =
      both h.1 (takes_from y _ (k (with_generator y sc) (sees_generated f p h.2 g)))

  -- ---- arms of a `case`

  -- a value of an enum by its name
  enum_place : (e : ℕ) (i : Option ℕ) → is_some (enum_val e i) ≡ true → Orderly (enum_pattern (enum_val e i))
  enum_place e None h = absurd (cc)
  enum_place e (Some i) h = just (o.Enum e i) refl

  enum_item : (e : ℕ) (x : Bytes) (i : Option EnumTree) → is_some (value_in e x i) ≡ true → Orderly (enum_pattern
      (value_in e x i))
  enum_item e x None h = absurd (cc)
  enum_item e x (Some i) h = enum_place e (place_of x i.values) h

  enum_number : (x : Bytes) (i : Option ℕ) → is_some (named_value p x i) ≡ true → Orderly (enum_pattern
      (named_value p x i))
  enum_number x None h = absurd (cc)
  enum_number x (Some e) h = enum_item e x (nth (enums p.items) e) h

  pub pattern_orderly : (x : Shape) → has_value_shape p x ≡ true → is_any p differ x ≡ false → Orderly
      (pattern_op p differ x)
  pattern_orderly (t.Shape.integer_pattern z) h e = just (o.Int z) refl
  pattern_orderly (t.Shape.minus_pattern z) h e = just (o.Int (neg_ℤ z)) refl
  pattern_orderly (t.Shape.character_pattern c) h e = just (o.Char c) refl
  pattern_orderly (t.Shape.text_pattern bs) h e = text bs
  pattern_orderly t.Shape.truth_pattern h e = just o.True refl
  pattern_orderly t.Shape.falsehood_pattern h e = just o.False refl
  pattern_orderly t.Shape.any_pattern h e = absurd (cc)
  pattern_orderly (t.Shape.enum_pattern x y) h e = enum_number y (place_of x (enum_names (enums p.items))) h
  pattern_orderly x h e = absurd (cc)

  pub last_arm : (b : Tree) (l : ℕ) (body rest : Maker) → Orderly body → Orderly (arm_of p differ b l true body rest)
  unfolding arm_by
  last_arm (tree n pl x) l body rest h = h

  arm_orderly : (x : Shape) (l : ℕ) (any : Bool) {body rest : Maker} → (any ≡ false → Orderly
      (pattern_op p differ x)) →
      Orderly body → Orderly rest → Orderly (arm_by p differ x l false any body rest)
  unfolding arm_by
  arm_orderly x l true k h g = both h (before o.Jump (λ m. refl) g)
  arm_orderly x l false k h g = both (k refl) (both (just (o.Get l) refl) (one_of o.Same (λ m. refl) h g))

  pub one_arm : (b : Tree) (l : ℕ) {body rest : Maker} → has_value p b ≡ true → Orderly body → Orderly rest →
      Orderly (arm_of p differ b l false body rest)
  one_arm (tree n pl x) l k h g = arm_orderly x l (is_any p differ x) (λ e. pattern_orderly x k e) h g

  -- ---- fields of an instance

  given_there : (x : Bytes) (gs : Givens) (l : ℕ) (qs : List Sort) (q : Sort) → given_sort x
      (given_names gs) qs ≡ Some q →
      IsGiven (given_local x gs l)
  given_there x no_givens l qs q e = elim (none-some q e) [ ]
  given_there x (more_givens y b gs) l [] q e = elim (none-some q e) [ ]
  given_there x (more_givens y b gs) l (z ∷ qs) q e = by (same_name x y) e (given_there x gs (suc l) qs q)
    where
      by : (k : Bool) → cond k (Some z) (given_sort x (given_names gs) qs) ≡ Some q →
          (given_sort x (given_names gs) qs ≡ Some q → IsGiven (given_local x gs (suc l))) →
          IsGiven (cond k (Some l) (given_local x gs (suc l)))
      by true e h = tt
      by false e h = h e

  field_given : (i : Option ℕ) (d : Option Tree) (n : ℕ) → IsGiven i → Orderly (field_op p differ i d n)
  field_given None d n h = elim h [ ]
  field_given (Some l) d n h = just (o.Get l) refl

  field_default : (i : Option ℕ) (d : Option Tree) (n : ℕ) (b : Tree) → d ≡ Some b → Orderly (field_op p differ i d n)
  field_default (Some l) d n b e = just (o.Get l) refl
  field_default None (Some c) n b e = just (o.Call (default_number p n)) refl
  field_default None None n b e = elim (none-some b e) [ ]

  pub fields_orderly : (gs : Givens) (l : ℕ) (qs : List Sort) (ds : List FieldTree) (rs : List Sort) →
      Filled p f (given_names gs) qs ds rs → Orderly (field_ops p differ ds gs l)
  fields_orderly gs l qs [] [] filled_no = none
  fields_orderly gs l qs [] (r ∷ rs) h = elim h [ ]
  fields_orderly gs l qs (d ∷ ds) [] h = elim h [ ]
  fields_orderly gs l qs (d ∷ ds) (r ∷ rs) (filled_given q e fit h) =
      both (field_given (given_local d.name gs l) d.default d.number (given_there d.name gs l qs q e))
      (fields_orderly gs l qs ds rs h)
  fields_orderly gs l qs (d ∷ ds) (r ∷ rs) (filled_by_default b e k i h) =
      both (field_default (given_local d.name gs l) d.default d.number b k) (fields_orderly gs l qs ds rs h)

  pub makes : (i : Option ℕ) (c : ℕ) (pl : Place) (gs : Givens) (l : ℕ) (qs rs : List Sort) {given : Maker} →
      i ≡ Some c →
      Filled p f (given_names gs) qs (fields_of p c) rs → Orderly given → Orderly
      (instance_of p differ i pl gs l given)
  unfolding instance_of
  makes None c pl gs l qs rs e h k = elim (none-some c e) [ ]
  makes (Some d) c pl gs l qs rs e h k =
      let same : d ≡ c = same_Some _ _ e in
      both k (both (subst (λ z. Orderly (field_ops p differ (fields_of p z) gs l)) (sym same) (fields_orderly gs l qs
      (fields_of p c) rs h))
      (at_place pl (o.Object d) (λ m. refl)))
