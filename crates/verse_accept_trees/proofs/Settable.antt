-- What types, names and trees must be where a rule of `set` holds.
use Rattle.std.proofs.Common.{◌≡◌, ℕ, true, false, List, Option, refl}
use Rattle.std.specs.Prelude.{Some, None}
use Rattle.verse_base.specs.declared.places.Place.{Place}
use Rattle.verse_tree.specs.Tree.{Bytes, tree, Shape, Trees, no_trees, more_trees}
use Rattle.verse_tree.specs.declared.tables.Ref.{Ref}
use Rattle.verse_tree.specs.declared.tables.Ref.TheVariants as ref
use Rattle.verse_rules_types.specs.Types.{Ty, Class}
use Rattle.verse_rules_types.specs.Types as ty
use Rattle.verse_check_typing.specs.Facts.{Facts}
use Rattle.verse_check_typing.specs.Parts.{count, is_int, sum_of, is_summed}
use Rattle.verse_check_typing.specs.Members.{field_by, method_by, member_ref, member_at}
use Rattle.verse_check_typing.specs.Calls.{are_wanted, can_index, takes_one_index}
use Rattle.verse_check_typing.specs.TypeRules.{is_variable}
use Rattle.verse_accept_forms.proofs.Operands.{not_one}
use Rattle.verse_accept_forms.proofs.CalleeKinds.{OfEnum, of_enum, of_never}

pub untrue : {A : Type 0} → false ≡ true → A
untrue e = absurd (cc)

pub not_enum : (u : Ty) (d : ℕ) → OfEnum u → u ≡ ty.class d → ⊥
not_enum u d of_enum h = cc
not_enum u d of_never h = cc

-- ---- what can be set by its name

pub data Varies : Option Ref → Type 0 where
  by_local : {k : ℕ} → Varies (Some (ref.Local k))
  by_field : {c i : ℕ} → Varies (Some (ref.Field c i))

pub varies : (f : Facts) (o : Option Ref) → is_variable f o ≡ true → Varies o
varies f (Some (ref.Local k)) v = by_local
varies f (Some (ref.Field c i)) v = by_field
varies f (Some r) v = untrue v
varies f None v = untrue v

-- a field behind a dot
pub record FieldOf (f : Facts) (u : Ty) (x : Bytes) : Type 0 where
  pub class : ℕ
  pub place : ℕ
  pub type : u ≡ ty.class class
  pub named : field_by f class x ≡ Some place

in_class : (f : Facts) (c : ℕ) (x : Bytes) (i m : Option ℕ) → field_by f c x ≡ i → is_variable f (member_at c i m) ≡ true →
    FieldOf f (ty.class c) x
in_class f c x (Some i) m e v = record { class = c; place = i; type = refl; named = e }
in_class f c x None (Some m) e v = untrue v
in_class f c x None None e v = untrue v

pub field_of : (f : Facts) (u : Ty) (x : Bytes) → is_variable f (member_ref f u x) ≡ true → FieldOf f u x
field_of f (ty.class c) x v = in_class f c x (field_by f c x) (method_by f c x) refl v
field_of f u x v = untrue v

-- ---- what can be indexed

pub data One : Trees → Type 0 where
  one_tree : {m : ℕ} {q : Place} {x : Shape} → One (more_trees (tree m q x) no_trees)

one : (ts : Trees) → are_wanted (Some 1) (count ts) ≡ true → One ts
one no_trees h = absurd (cc)
one (more_trees (tree m q x) no_trees) h = one_tree
one (more_trees e (more_trees d ts)) h = absurd (not_one e d ts h)

pub data Indexing : Ty → Trees → Type 0 where
  of_nothing : {ts : Trees} → Indexing ty.never ts
  of_array : {u : Ty} {ts : Trees} → One ts → Indexing (ty.array u) ts
  of_map : {l u : Ty} {ts : Trees} → One ts → Indexing (ty.mapping l u) ts

pub indexing : (f : Facts) (u : Ty) (ts : Trees) → can_index f u ts ≡ true → are_wanted (takes_one_index u) (count ts) ≡ true →
    Indexing u ts
indexing f ty.never ts i w = of_nothing
indexing f (ty.array u) ts i w = of_array (one ts w)
indexing f (ty.mapping l u) ts i w = of_map (one ts w)
indexing f u ts i w = untrue i

-- ---- sums, and what counts as an int

pub data Summed : Ty → Ty → Type 0 where
  -- to what gives no value
  to_never : {u : Ty} → Summed ty.never u
  of_ints : Summed ty.int ty.int
  of_arrays : {y u : Ty} → Summed (ty.array y) (ty.array u)
  never_added : {y : Ty} → Summed y ty.never

pub summed : (cs : List Class) (y u : Ty) → is_summed (sum_of cs y u) ≡ true → Summed y u
summed cs ty.never u h = to_never
summed cs ty.int ty.int h = of_ints
summed cs ty.int ty.never h = never_added
summed cs ty.int u h = untrue h
summed cs (ty.array y) (ty.array u) h = of_arrays
summed cs (ty.array y) ty.never h = never_added
summed cs (ty.array y) u h = untrue h
summed cs y u h = untrue h

pub data Counts : Ty → Type 0 where
  an_int : Counts ty.int
  no_int : Counts ty.never

pub counts : (y : Ty) → is_int y ≡ true → Counts y
counts ty.int h = an_int
counts ty.never h = no_int
counts y h = untrue h
