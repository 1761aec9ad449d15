-- What is known of a form by the sorts of its operands: how many they are, and what it names is there.
use Rattle.std.proofs.Common.{◌≡◌, ℕ, zero, suc, List, length, Bool, Option, Some, None, refl, ap}
use Rattle.verse_base.specs.declared.places.Place.{Place}
use Rattle.verse_tree.specs.Tree.{Bytes, Tree, tree, Shape, Trees, no_trees, more_trees}
use Rattle.verse_tree.specs.Tree as t
use Rattle.verse_tree.specs.ItemTree.{FunTree}
use Rattle.verse_tree.specs.declared.tables.Ref.{Ref}
use Rattle.verse_tree.specs.declared.tables.Ref.TheVariants as ref
use Rattle.verse_names_tables.specs.Names.{Table}
use Rattle.verse_sorts.specs.Sorts.{Sort}
use Rattle.verse_sorts.specs.Typing.{AllFit, fit_no, fit_so}
use Rattle.verse_meaning.specs.Programs.{Program, same_name, ref_at, fun_at, fields_of}
use Rattle.verse_meaning.specs.Residuals as form
use Rattle.verse_meaning.specs.Residuals.{Form}
use Rattle.verse_meaning.specs.Evaluating.{Callee, alone, of_object, of_value, of_quotient, no_callee, builtin}
use Rattle.verse_meaning.specs.Evaluating.{named_callee, member_callee}
use Rattle.verse_meaning.specs.Evaluating.{callee_of, callee_of_shape, await_name, signal_name, number_of}
use Rattle.verse_meaning.specs.Evaluating.{spawned_form, spawned_callee}
use Rattle.verse_sound_rules.specs.Found.{Found, Allowed}
use Rattle.verse_sound_rules.specs.Forms as takes
use Rattle.verse_sound_rules.specs.Forms.{Takes, Spared, Gives, Placed, Filled, Callable, CanBeSpawned}
use Rattle.verse_sound_rules.specs.Fine.{sorts_at}
use Rattle.lower_code.specs.Lowering.{how_many}
use Rattle.lower_bounds.proofs.Lists.{on_cond}

abbrev pub IsGiven : {A : Type 0} → Option A → Type 0
IsGiven None = ⊥
IsGiven (Some x) = Unit {0}

module _ {up : ℕ → Option ℕ} where
  pub fit_many : {xs ys : List Sort} → AllFit up xs ys → length xs ≡ length ys
  fit_many fit_no = refl
  fit_many (fit_so f fs) = ap suc (fit_many fs)

pub sorts_many : (p : Program) (f : Found) (ts : Trees) → length (sorts_at p f ts) ≡ how_many ts
sorts_many p f no_trees = refl
sorts_many p f (more_trees b ts) = ap suc (sorts_many p f ts)

module _ (p : Program) (f : Found) (a : Allowed) (xs : Table) where
  -- a function that is there, with the operands that it takes
  pub record Called (g : ℕ) (qs : List Sort) : Type 0 where
    pub function : FunTree
    pub found : fun_at p g ≡ Some function
    pub operands : qs ≡ (f.signature g).params

  pub record HasThis : Type 0 where
    pub class : ℕ
    pub is : a.this ≡ Some class

  abbrev pub Told : Form → List Sort → Type 0
  Told (form.calling g) qs = Called g qs
  Told (form.calling_own m) qs = HasThis
  Told (form.printing pl) qs = length qs ≡ 1
  Told form.taking_modulo qs = length qs ≡ 2
  Told (form.spawning g) qs = Called g qs
  Told (form.spawning_own m) qs = HasThis
  Told (form.storing b x pl) qs = (os : List Sort) × (q : Sort) × Placed p f a xs b os q
  Told (form.instancing c ys pl) qs = Filled p f ys qs (fields_of p c) (f.slots c)
  Told form.returning qs = (r : Sort) × (a.result ≡ Some r)
  Told x qs = Unit {0}

  spared : {x : Form} {qs : List Sort} → Spared p f a xs x qs → Told x qs
  spared (takes.spared_operator h) = tt
  spared (takes.spared_query h) = tt
  spared (takes.spared_length h) = tt
  spared (takes.spared_member h) = tt
  spared (takes.spared_place os q place h) = (os, q, place)
  spared takes.spared_item = tt
  spared takes.spared_index = tt
  spared takes.spared_await = tt
  spared takes.spared_signal = tt

  told : {x : Form} {qs : List Sort} {r : Sort} → Takes p f a xs x qs r → Told x qs
  told (takes.takes_never h) = spared h
  told (takes.takes_arguments c e) = record { function = c.function; found = c.found; operands = refl }
  told (takes.takes_own c g e m k) = record { class = c; is = e }
  told takes.takes_line = refl
  told (takes.takes_modulo h) = refl
  told (takes.takes_spawned c e) = record { function = c.function; found = c.found; operands = refl }
  told (takes.takes_spawned_own c g e m k) = record { class = c; is = e }
  told (takes.takes_place os is q v r place path write fails) = (os, q, place)
  told (takes.takes_fields h) = h
  told (takes.takes_result e) = (_, e)
  told h = tt

  -- of operands that fit those taken
  pub gives_told : {x : Form} {has : List Sort} {r : Sort} (g : Gives p f a xs x has r) → Told x g.taken
  gives_told g = told g.takes

  pub gives_many : {x : Form} {has : List Sort} {r : Sort} (g : Gives p f a xs x has r) → length has ≡ length g.taken
  gives_many g = fit_many g.operands

-- ---- what a callee may stand for

abbrev pub IsAlone : Form → Type 0
IsAlone (form.calling g) = Unit {0}
IsAlone (form.calling_own m) = Unit {0}
IsAlone (form.printing pl) = Unit {0}
IsAlone form.taking_modulo = Unit {0}
IsAlone (form.spawning g) = Unit {0}
IsAlone (form.spawning_own m) = Unit {0}
IsAlone x = ⊥

abbrev pub IsOfObject : Form → Type 0
IsOfObject (form.calling_method m) = Unit {0}
IsOfObject (form.awaiting t) = Unit {0}
IsOfObject form.signalling = Unit {0}
IsOfObject (form.spawning_method m) = Unit {0}
IsOfObject x = ⊥

abbrev pub IsOfQuotient : Form → Type 0
IsOfQuotient (form.flooring pl) = Unit {0}
IsOfQuotient (form.ceiling pl) = Unit {0}
IsOfQuotient x = ⊥

-- `whole` is the form where the callee is a value
abbrev pub IsCallee : (whole : Form) → Callee → Type 0
IsCallee whole (alone x) = IsAlone x
IsCallee whole (of_object x) = IsOfObject x
IsCallee whole (of_value x) = x ≡ whole
IsCallee whole (of_quotient x) = IsOfQuotient x
IsCallee whole no_callee = Unit {0}

builtin_is : (whole : Form) (b : ℕ) (pl : Place) → IsCallee whole (builtin b pl)
builtin_is whole zero pl = tt
builtin_is whole (suc zero) pl = tt
builtin_is whole (suc (suc zero)) pl = tt
builtin_is whole (suc (suc (suc n))) pl = tt

named_is : (r : Option Ref) (whole : Form) (pl : Place) → IsCallee whole (named_callee r whole pl)
named_is (Some (ref.Fun g)) whole pl = tt
named_is (Some (ref.Method c m)) whole pl = tt
named_is (Some (ref.Builtin b)) whole pl = builtin_is whole b pl
named_is r whole pl = refl

member_is : (r : Option Ref) (of_event : Bool) (x : Bytes) (whole : Form) → IsCallee whole
    (member_callee r of_event x whole)
member_is (Some (ref.Method c m)) b x whole = tt
member_is (Some r) b x whole = refl
member_is None b x whole = on_cond (IsCallee whole) (same_name x await_name) tt (on_cond (IsCallee whole)
    (same_name x signal_name) tt refl)

module _ (p : Program) where
  shape_is : (n : ℕ) (b : Shape) (whole : Form) (pl : Place) → IsCallee whole (callee_of_shape p n b whole pl)
  shape_is n (t.Shape.name x) whole pl = named_is (ref_at p n) whole pl
  shape_is n (t.Shape.member b x) whole pl =
      member_is (ref_at p n) (p.is_event (number_of b)) x whole
  shape_is n b whole pl = refl

  pub callee_is : (b : Tree) (whole : Form) (pl : Place) → IsCallee whole (callee_of p b whole pl)
  callee_is (tree n q x) whole pl = shape_is n x whole pl

spawned_alone : (x : Form) → IsAlone x → IsAlone (spawned_form x)
spawned_alone (form.calling g) h = tt
spawned_alone (form.calling_own m) h = tt
spawned_alone (form.printing pl) h = tt
spawned_alone form.taking_modulo h = tt
spawned_alone (form.spawning g) h = tt
spawned_alone (form.spawning_own m) h = tt
spawned_alone x h = elim h [ ]

spawned_object : (x : Form) → IsOfObject x → IsOfObject (spawned_form x)
spawned_object (form.calling_method m) h = tt
spawned_object (form.awaiting t) h = tt
spawned_object form.signalling h = tt
spawned_object (form.spawning_method m) h = tt
spawned_object x h = elim h [ ]

pub spawned_is : (whole : Form) (k : Callee) → IsCallee whole k → IsCallee whole (spawned_callee k)
spawned_is whole (alone x) h = spawned_alone x h
spawned_is whole (of_object x) h = spawned_object x h
spawned_is whole (of_value x) h = tt
spawned_is whole (of_quotient x) h = tt
spawned_is whole no_callee h = tt
