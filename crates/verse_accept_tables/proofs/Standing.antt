-- What the names of a program stand for as functions and classes are functions and classes of its items.
use Rattle.std.proofs.Common.{◌≡◌, ℕ, ◌+◌, List, [], ◌∷◌, ◌++◌, Bool, true, false, cond, bytes_eq, refl, sym, subst}
use Rattle.std.specs.Prelude.{Option, Some, None, slice_get}
use Rattle.verse_tree.specs.Tree.{Bytes}
use Rattle.verse_tree.specs.ItemTree.{FunTree, MemberTree, field, method, ClassTree, ItemTree, using, enumeration, class, function}
use Rattle.verse_tree.specs.declared.tables.Ref.{Ref}
use Rattle.verse_tree.specs.declared.tables.Ref.TheVariants as ref
use Rattle.verse_names_tables.specs.Names.{Table, look, put, put_absent, keep, keep_named}
use Rattle.verse_names_tables.specs.Words.{builtins}
use Rattle.verse_names_tables.specs.Counting.{Counted, counted, counts_after, funs_after, named_as, named_type_as}
use Rattle.verse_names_tables.specs.Counting.{named_class_as, no_counts}
use Rattle.verse_names_tables.specs.declared.counting.Counts.{Counts}
use Rattle.verse_names_tables.specs.Indexing.{Index, indexed, index_all, no_index}
use Rattle.verse_meaning.specs.Programs.{classes}
use Rattle.lower_bounds.proofs.Lists.{Each}
use Rattle.lower_simulation_runs.specs.Programs.{Defined, a_function, methods_defined, defined_in}
use Rattle.verse_accept_classes.proofs.Places.{Placed, all_placed}
use Rattle.verse_accept_classes.proofs.Parents.{all_named, classes_named}

-- ---- tables of names

module _ (P : Ref → Type 0) where
  abbrev pub Stands : Option Ref → Type 0
  Stands None = Unit {0}
  Stands (Some r) = P r

  abbrev pub AllStand : Table → Type 0
  AllStand t = Each (λ (e : Bytes × Ref). P e.1) t

  pub look_stands : (x : Bytes) (t : Table) → AllStand t → Stands (look x t)
  look_stands x [] h = tt
  look_stands x (e ∷ t) h = by (bytes_eq x e.0) (look_stands x t h.1)
    where
      by : (b : Bool) → Stands (look x t) → Stands (cond b (Some e.1) (look x t))
      by true k = h.0
      by false k = k

  pub put_stands : (x : Bytes) (r : Ref) (t : Table) → P r → AllStand t → AllStand (put x r t)
  put_stands x r [] p h = (p, tt)
  put_stands x r (e ∷ t) p h = by (bytes_eq x e.0) (put_stands x r t p h.1)
    where
      by : (b : Bool) → AllStand (put x r t) → AllStand (cond b ((e.0, r) ∷ t) (e ∷ put x r t))
      by true k = (p, h.1)
      by false k = (h.0, k)

  pub keep_stands : (x : Bytes) (r : Ref) (t : Table) → P r → AllStand t → AllStand (keep x r t)
  keep_stands x r t p h = by (look x t)
    where
      by : (o : Option Ref) → AllStand (put_absent o x r t)
      by None = put_stands x r t p h
      by (Some q) = h

  abbrev pub Names : Option (Bytes × Ref) → Type 0
  Names None = Unit {0}
  Names (Some e) = P e.1

  pub named_stands : (o : Option (Bytes × Ref)) (t : Table) → Names o → AllStand t → AllStand (keep_named o t)
  named_stands None t p h = h
  named_stands (Some e) t p h = keep_stands e.0 e.1 t p h

pub items_named : (is : List Counted) (x : Index) → (index_all is x).items ≡ all_named named_as is x.items
items_named [] x = refl
items_named (i ∷ is) x = items_named is (indexed i x)

pub types_named : (is : List Counted) (x : Index) → (index_all is x).types ≡ all_named named_type_as is x.types
types_named [] x = refl
types_named (i ∷ is) x = types_named is (indexed i x)

-- ---- items

-- these items are the last ones of a program, behind so many functions and classes
pub record Last (all is : List ItemTree) (n : Counts) : Type 0 where
  pub functions : Placed (defined_in all) n.funs (defined_in is)
  pub classes : Placed (classes all) n.classes (classes is)

methods_last : (all : List Defined) (ms : List MemberTree) (ds : List Defined) (n : ℕ) → Placed all n (methods_defined ms ++ ds) →
    Placed all (funs_after ms n) ds
methods_last all [] ds n h = h
methods_last all (field f ∷ ms) ds n h = methods_last all ms ds n h
methods_last all (method f ∷ ms) ds n h = methods_last all ms ds (n + 1) h.1

pub next : (all is : List ItemTree) (i : ItemTree) (n : Counts) → Last all (i ∷ is) n → Last all is (counts_after i n)
next all is (using u) n h = record { functions = h.functions; classes = h.classes }
next all is (enumeration e) n h = record { functions = h.functions; classes = h.classes }
next all is (class c) n h = record {
  functions = methods_last (defined_in all) c.members (defined_in is) n.funs h.functions;
  classes = h.classes.1;
}
next all is (function f) n h = record { functions = h.functions.1; classes = h.classes }

pub whole : (is : List ItemTree) → Last is is no_counts
whole is = record { functions = all_placed (defined_in is); classes = all_placed (classes is) }

module _ (all : List ItemTree) where
  -- a function is one, and a class is one
  abbrev pub IsThere : Ref → Type 0
  IsThere (ref.Local n) = Unit {0}
  IsThere (ref.Key n) = Unit {0}
  IsThere (ref.Field c i) = Unit {0}
  IsThere (ref.Method c m) = Unit {0}
  IsThere (ref.Fun f) = (fn : FunTree) × (slice_get (defined_in all) f ≡ Some (a_function fn))
  IsThere (ref.Class c) = (cl : ClassTree) × (slice_get (classes all) c ≡ Some cl)
  IsThere (ref.Enum e) = Unit {0}
  IsThere (ref.Builtin b) = Unit {0}

  item_stands : (i : ItemTree) (is : List ItemTree) (n : Counts) → Last all (i ∷ is) n → Names IsThere (named_as i n)
  item_stands (using u) is n h = tt
  item_stands (enumeration e) is n h = tt
  item_stands (class c) is n h = (c, h.classes.0)
  item_stands (function f) is n h = (f, h.functions.0)

  type_stands : (i : ItemTree) (is : List ItemTree) (n : Counts) → Last all (i ∷ is) n → Names IsThere (named_type_as i n)
  type_stands (using u) is n h = tt
  type_stands (enumeration e) is n h = tt
  type_stands (class c) is n h = (c, h.classes.0)
  type_stands (function f) is n h = tt

  class_stands : (i : ItemTree) (is : List ItemTree) (n : Counts) → Last all (i ∷ is) n → Names IsThere (named_class_as i n)
  class_stands (using u) is n h = tt
  class_stands (enumeration e) is n h = tt
  class_stands (class c) is n h = (c, h.classes.0)
  class_stands (function f) is n h = tt

  all_stand : (as1 : ItemTree → Counts → Option (Bytes × Ref)) →
      ((i : ItemTree) (is : List ItemTree) (n : Counts) → Last all (i ∷ is) n → Names IsThere (as1 i n)) →
      (is : List ItemTree) (n : Counts) (t : Table) → Last all is n → AllStand IsThere t →
      AllStand IsThere (all_named as1 (counted n is) t)
  all_stand as1 p [] n t l h = h
  all_stand as1 p (i ∷ is) n t l h = all_stand as1 p is (counts_after i n) (keep_named (as1 i n) t) (next all is i n l)
      (named_stands IsThere (as1 i n) t (p i is n l) h)

pub items_stand : (is : List ItemTree) → AllStand (IsThere is) (index_all (counted no_counts is) no_index).items
items_stand is = subst (AllStand (IsThere is)) (sym (items_named (counted no_counts is) no_index))
    (all_stand is named_as (item_stands is) is no_counts [] (whole is) tt)

pub types_stand : (is : List ItemTree) → AllStand (IsThere is) (index_all (counted no_counts is) no_index).types
types_stand is = subst (AllStand (IsThere is)) (sym (types_named (counted no_counts is) no_index))
    (all_stand is named_type_as (type_stands is) is no_counts [] (whole is) tt)

pub classes_stand : (is : List ItemTree) → AllStand (IsThere is) (index_all (counted no_counts is) no_index).classes
classes_stand is = subst (AllStand (IsThere is)) (sym (classes_named (counted no_counts is) no_index))
    (all_stand is named_class_as (class_stands is) is no_counts [] (whole is) tt)

pub builtins_stand : (is : List ItemTree) → AllStand (IsThere is) builtins
builtins_stand is = (tt, (tt, (tt, (tt, tt))))
