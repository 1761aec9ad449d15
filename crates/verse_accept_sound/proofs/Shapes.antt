-- The bodies and the defaults of a program have the shapes of those that are spelled.
use Rattle.std.proofs.Common.{◌≡◌, ℕ, zero, suc, Bool, true, false, cond, List, [], ◌∷◌, ◌++◌, length, Option, refl, subst}
use Rattle.std.specs.Prelude.{Some, None, slice_get}
use Rattle.verse_tree.specs.Tree.{Bytes, tree, Tree}
use Rattle.verse_tree.specs.ItemTree.{FieldTree, ClassTree, MemberTree, field, method, ItemTree, using, enumeration, class, function}
use Rattle.verse_tree.specs.Shapes as shape
use Rattle.verse_tree.specs.Shapes.{Shaped, as_body, as_expression, may_stand, AllOf, FieldShaped, FunShaped, MemberShaped, ItemShaped}
use Rattle.verse_tree.specs.Shapes.{ItemsShaped}
use Rattle.verse_names_tables.specs.Counting.{counted, counts_after}
use Rattle.verse_names_tables.specs.declared.counting.Counts.{Counts}
use Rattle.verse_meaning.specs.Programs.{classes, own_fields, class_named, parent_of, fields_from, same_name}
use Rattle.verse_meaning_state.specs.Waits.{nth}
use Rattle.verse_accept_scopes.specs.Lists.{Each}
use Rattle.verse_accept_scopes.proofs.Rows.{each_joined}
use Rattle.verse_accept_classes.specs.Owners.{Owned, methods_owned, owned}
use Rattle.verse_accept_classes.specs.Referring as items

pub get_each : {A : Type 0} (P : A → Type 0) (xs : List A) (i : ℕ) (x : A) → Each P xs → slice_get xs i ≡ Some x → P x
get_each P [] i x h e = absurd (cc)
get_each P (y ∷ xs) zero x h e = let same : y ≡ x = cc in subst P same h.0
get_each P (y ∷ xs) (suc i) x h e = get_each P xs i x h.1 e

body_sort : (q : shape.Sort) → may_stand as_expression q ≡ true → may_stand as_body q ≡ true
body_sort shape.expression_sort h = refl
body_sort q h = cc

pub as_a_body : (e : Tree) → Shaped as_expression e → Shaped as_body e
as_a_body (tree n p s) h = (body_sort (shape.sort s) h.0, h.1)

-- ---- bodies

abbrev BodyShaped : Owned → Type 0
BodyShaped o = FunShaped o.tree

methods_shaped : (c : ℕ) (ms : List MemberTree) → AllOf MemberShaped ms → Each BodyShaped (methods_owned c ms)
methods_shaped c [] h = tt
methods_shaped c (field d ∷ ms) h = methods_shaped c ms h.1
methods_shaped c (method f ∷ ms) h = (h.0, methods_shaped c ms h.1)

pub all_owned_shaped : (is : List ItemTree) (n : Counts) → ItemsShaped is → Each BodyShaped (owned (counted n is))
all_owned_shaped [] n h = tt
all_owned_shaped (using u ∷ is) n h = all_owned_shaped is (counts_after (using u) n) h.1
all_owned_shaped (enumeration e ∷ is) n h = all_owned_shaped is (counts_after (enumeration e) n) h.1
all_owned_shaped (class c ∷ is) n h =
    each_joined BodyShaped (methods_owned n.classes c.members) (owned (counted (counts_after (class c) n) is))
    (methods_shaped n.classes c.members h.0) (all_owned_shaped is (counts_after (class c) n) h.1)
all_owned_shaped (function f ∷ is) n h = (h.0, all_owned_shaped is (counts_after (function f) n) h.1)

-- ---- fields

abbrev ClassShaped : ClassTree → Type 0
ClassShaped c = AllOf MemberShaped c.members

abbrev OneShaped : Option ClassTree → Type 0
OneShaped None = Unit {0}
OneShaped (Some c) = ClassShaped c

classes_shaped : (is : List ItemTree) → ItemsShaped is → Each ClassShaped (classes is)
classes_shaped [] h = tt
classes_shaped (using u ∷ is) h = classes_shaped is h.1
classes_shaped (enumeration e ∷ is) h = classes_shaped is h.1
classes_shaped (class c ∷ is) h = (h.0, classes_shaped is h.1)
classes_shaped (function f ∷ is) h = classes_shaped is h.1

own_shaped : (ms : List MemberTree) → AllOf MemberShaped ms → Each FieldShaped (own_fields ms)
own_shaped [] h = tt
own_shaped (field d ∷ ms) h = (h.0, own_shaped ms h.1)
own_shaped (method f ∷ ms) h = own_shaped ms h.1

either_shaped : (b : Bool) (o q : Option ClassTree) → OneShaped o → OneShaped q → OneShaped (cond b o q)
either_shaped true o q h k = h
either_shaped false o q h k = k

named_shaped : (x : Bytes) (cs : List ClassTree) → Each ClassShaped cs → OneShaped (class_named x cs)
named_shaped x [] h = tt
named_shaped x (c ∷ cs) h = either_shaped (same_name x c.name) (Some c) (class_named x cs) h.0 (named_shaped x cs h.1)

parent_shaped : (cs : List ClassTree) (o : Option Bytes) → Each ClassShaped cs → OneShaped (parent_of cs o)
parent_shaped cs None h = tt
parent_shaped cs (Some x) h = named_shaped x cs h

nth_shaped : (cs : List ClassTree) (n : ℕ) → Each ClassShaped cs → OneShaped (nth cs n)
nth_shaped [] n h = tt
nth_shaped (c ∷ cs) zero h = h.0
nth_shaped (c ∷ cs) (suc n) h = nth_shaped cs n h.1

none_shaped : (n : ℕ) (cs : List ClassTree) → Each FieldShaped (fields_from n cs None)
none_shaped zero cs = tt
none_shaped (suc n) cs = tt

from_shaped : (n : ℕ) (cs : List ClassTree) → Each ClassShaped cs → (o : Option ClassTree) → OneShaped o →
    Each FieldShaped (fields_from n cs o)
from_shaped n cs h None k = none_shaped n cs
from_shaped zero cs h (Some c) k = own_shaped c.members k
from_shaped (suc n) cs h (Some c) k =
    each_joined FieldShaped (fields_from n cs (parent_of cs c.parent)) (own_fields c.members)
    (from_shaped n cs h (parent_of cs c.parent) (parent_shaped cs c.parent h)) (own_shaped c.members k)

pub fields_shaped : (is : List ItemTree) → ItemsShaped is → (c : ℕ) → Each FieldShaped (items.fields_of is c)
fields_shaped is h c =
    let all = classes_shaped is h in
    from_shaped (length (classes is)) (classes is) all (nth (classes is) c) (nth_shaped (classes is) c all)
