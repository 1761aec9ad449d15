-- The functions and methods of items by their numbers, each with its class: those of the code.
use Rattle.std.proofs.Common.{◌≡◌, ℕ, suc, ◌+◌, List, [], ◌∷◌, ◌++◌, length, map, Option, Some, None, Bool, true, false, cond}
use Rattle.std.proofs.Common.{refl, sym, ap, ◌∙◌, arith}
use Rattle.std.specs.Prelude.{slice_get}
use Rattle.std.proofs.lemmas.List.{map-append}
use Rattle.std.proofs.lemmas.Option.{same_Some, none-some}
use Rattle.verse_base.proofs.Facts.{mapped_get, get_rest}
use Rattle.verse_tree.specs.ItemTree.{FunTree, MemberTree, field, method, ItemTree, using, enumeration, class, function}
use Rattle.verse_names_tables.specs.Counting.{counted, counts_after, no_counts}
use Rattle.verse_names_tables.specs.declared.counting.Counts.{Counts}
use Rattle.verse_names_declarations.specs.Known.{known}
use Rattle.verse_meaning.specs.Programs.{main_in, main_name, same_name}
use Rattle.lower_code.specs.Programs.{methods_in, main_from}
use Rattle.lower_simulation_runs.specs.Programs.{Defined, a_function, a_method, methods_defined, defined_in}
use Rattle.lower_pass_programs.proofs.Numbers.{methods_many}
use Rattle.lower_pass_programs.proofs.Telling.{HasThis}
use Rattle.verse_accept_classes.specs.Owners.{Owned, methods_owned, owned}

abbrev pub of_class : Option ℕ → FunTree → Defined
of_class None f = a_function f
of_class (Some c) f = a_method f

abbrev pub defined : Owned → Defined
defined o = of_class o.class o.tree

methods_are : (c : ℕ) (ms : List MemberTree) → map defined (methods_owned c ms) ≡ methods_defined ms
methods_are c [] = refl
methods_are c (field d ∷ ms) = methods_are c ms
methods_are c (method f ∷ ms) = ap (λ xs. a_method f ∷ xs) (methods_are c ms)

owned_are : (is : List ItemTree) (n : Counts) → map defined (owned (counted n is)) ≡ defined_in is
owned_are [] n = refl
owned_are (using u ∷ is) n = owned_are is (counts_after (using u) n)
owned_are (enumeration e ∷ is) n = owned_are is (counts_after (enumeration e) n)
owned_are (class k ∷ is) n =
    map-append defined (methods_owned n.classes k.members) (owned (counted (counts_after (class k) n) is))
    ∙ ap (λ xs. xs ++ map defined (owned (counted (counts_after (class k) n) is))) (methods_are n.classes k.members)
    ∙ ap (λ xs. methods_defined k.members ++ xs) (owned_are is (counts_after (class k) n))
owned_are (function f ∷ is) n = ap (λ xs. a_function f ∷ xs) (owned_are is (counts_after (function f) n))

-- the function or method of a number
pub owner_of : (is : List ItemTree) (g : ℕ) (d : Defined) → slice_get (defined_in is) g ≡ Some d →
    (o : Owned) × (slice_get (owned (known is).items) g ≡ Some o) × (defined o ≡ d)
owner_of is g d e = mapped_get defined (owned (known is).items) g d (ap (λ xs. slice_get xs g) (owned_are is no_counts) ∙ e)

-- the object that it has
pub has_this : (c : Option ℕ) (f : FunTree) (t : Option ℕ) → t ≡ c → HasThis (of_class c f) t
has_this None f t e = e
has_this (Some c) f t e = (c, e)

-- what is a function stands in no class
pub alone : (o : Owned) (f : FunTree) → defined o ≡ a_function f → (o.class ≡ None) × (o.tree ≡ f)
alone o f e = by o.class refl
  where
    tree_in : Defined → FunTree
    tree_in (a_function f) = f
    tree_in (a_method f) = f

    none : (c : ℕ) → a_method o.tree ≡ a_function f → ⊥
    none c h = cc

    by : (c : Option ℕ) → o.class ≡ c → (o.class ≡ None) × (o.tree ≡ f)
    by None h = (h, ap tree_in (ap (λ c. of_class c o.tree) (sym h) ∙ e))
    by (Some c) h = absurd (none c (ap (λ c. of_class c o.tree) (sym h) ∙ e))

-- ---- Main

abbrev MainIn : ℕ → List Defined → (main : ℕ) → FunTree → Type 0
MainIn k ds main f = (m : ℕ) × ((main ≡ m + k) × (slice_get ds m ≡ Some (a_function f)))

main_in_is : (is : List ItemTree) (k : ℕ) (f : FunTree) → main_in is ≡ Some f → MainIn k (defined_in is) (main_from k is) f
main_in_is [] k f e = elim (none-some f e) [ ]
main_in_is (using u ∷ is) k f e = main_in_is is k f e
main_in_is (enumeration x ∷ is) k f e = main_in_is is k f e
main_in_is (class d ∷ is) k f e =
    let x = main_in_is is (k + length (methods_in d.members)) f e in
    let ms : List Defined = methods_defined d.members in
    (x.0 + length ms, (behind _ _ _ _ _ x.1.0 (methods_many d.members), get_rest ms (defined_in is) x.0 ∙ x.1.1))
  where
    behind : (a m k i j : ℕ) → a ≡ m + (k + i) → i ≡ j → a ≡ (m + j) + k
    behind a m k i j e h = omega (arith, e, h)
main_in_is (function g ∷ is) k f e = by (same_name g.name main_name) e (λ h. main_in_is is (suc k) f h)
  where
    here : (k : ℕ) → k ≡ 0 + k
    here k = omega arith

    next : (a m k : ℕ) → a ≡ m + suc k → a ≡ suc m + k
    next a m k e = omega (arith, e)

    by : (b : Bool) → cond b (Some g) (main_in is) ≡ Some f →
        (main_in is ≡ Some f → MainIn (suc k) (defined_in is) (main_from (suc k) is) f) →
        MainIn k (a_function g ∷ defined_in is) (cond b k (main_from (suc k) is)) f
    by true e h = (0, (here k, ap (λ (z : FunTree). Some (a_function z)) (same_Some _ _ e)))
    by false e h = let x = h e in (suc x.0, (next _ _ _ x.1.0, x.1.1))

-- the number of Main is that of a function
pub main_there : (is : List ItemTree) (f : FunTree) → main_in is ≡ Some f →
    slice_get (defined_in is) (main_from 0 is) ≡ Some (a_function f)
main_there is f e =
    let d = main_in_is is 0 f e in ap (slice_get (defined_in is)) (d.1.0 ∙ self d.0) ∙ d.1.1
  where
    self : (i : ℕ) → i + 0 ≡ i
    self i = omega arith
