-- The table of functions finds the function of a number.
use Rattle.std.proofs.Common.{◌≡◌, ℕ, zero, suc, ◌+◌, ◌<◌, ◌≤◌, Bool, true, false, cond, List, [], ◌∷◌, ◌++◌, map, Option, refl}
use Rattle.std.proofs.Common.{sym, ap, ◌∙◌, subst, arith}
use Rattle.std.proofs.lemmas.List.{map-append}
use Rattle.std.specs.Prelude.{Some, None, slice_get, ◌==◌}
use Rattle.verse_base.proofs.Facts.{get_mapped, mapped_get}
use Rattle.verse_tree.specs.ItemTree.{FunTree, MemberTree, field, method, ItemTree, using, enumeration, class, function}
use Rattle.verse_tree.specs.Numbering.{list_nodes, list_numbered, field_nodes}
use Rattle.verse_tree.specs.Numbering.{fun_nodes, fun_numbered, member_nodes, member_numbered, class_nodes}
use Rattle.verse_tree.specs.Numbering.{items_nodes, items_numbered}
use Rattle.verse_tree.specs.declared.tables.FunInfo.{FunInfo}
use Rattle.verse_names_tables.specs.Names.{Table}
use Rattle.verse_names_tables.specs.Functions.{Function, fun_function}
use Rattle.verse_names_tables.specs.Counting.{Counted, counted, counts_after, no_counts}
use Rattle.verse_names_tables.specs.declared.counting.Counts.{Counts}
use Rattle.verse_names_declarations.specs.Known.{Known, known, members_functions, functions}
use Rattle.verse_names_scopes.specs.Visible.{inside, outside}
use Rattle.verse_rules_walk.specs.Order.{AreNumbered}
use Rattle.verse_rules.specs.Naming.{made_function}
use Rattle.verse_rules.specs.Sound.{completed}
use Rattle.verse_meaning.specs.Programs.{or_else, method_numbered, fun_of_info}
use Rattle.verse_meaning.specs.Programs as programs
use Rattle.verse_meaning.proofs.Names.{or_cond}
use Rattle.verse_accept_scopes.specs.Sites.{Site}
use Rattle.verse_accept_scopes.specs.Holding.{OnFun, OnMembers, OnItem, OnItems}
use Rattle.verse_accept_classes.specs.Owners.{Owned, methods_owned, item_owned, owned, world_in}
use Rattle.verse_accept_classes.proofs.Sums.{Absent, Distinct}

-- ---- the table

abbrev as_function : Table → Owned → Function
as_function ts o = fun_function ts o.tree

methods_are : (ts : Table) (c : ℕ) (ms : List MemberTree) → members_functions ts ms ≡ map (as_function ts) (methods_owned c ms)
methods_are ts c [] = refl
methods_are ts c (field f ∷ ms) = methods_are ts c ms
methods_are ts c (method f ∷ ms) = ap (λ fs. fun_function ts f ∷ fs) (methods_are ts c ms)

pub functions_are : (ts : Table) (is : List ItemTree) (n : Counts) →
    functions ts (counted n is) ≡ map (as_function ts) (owned (counted n is))
functions_are ts [] n = refl
functions_are ts (using u ∷ is) n = functions_are ts is (counts_after (using u) n)
functions_are ts (enumeration e ∷ is) n = functions_are ts is (counts_after (enumeration e) n)
functions_are ts (class c ∷ is) n =
    ap (λ fs. fs ++ functions ts (counted (counts_after (class c) n) is)) (methods_are ts n.classes c.members) ∙
    ap (λ fs. map (as_function ts) (methods_owned n.classes c.members) ++ fs) (functions_are ts is (counts_after (class c) n)) ∙
    sym (map-append (as_function ts) (methods_owned n.classes c.members) (owned (counted (counts_after (class c) n) is)))
functions_are ts (function f ∷ is) n = ap (λ fs. fun_function ts f ∷ fs) (functions_are ts is (counts_after (function f) n))

-- ---- their nodes have distinct numbers

abbrev number_in : Owned → ℕ
number_in o = o.tree.number

-- numbers that rise, from the first one on and below the last one
abbrev pub Rise : ℕ → List ℕ → ℕ → Type 0
Rise n [] m = n ≤ m
Rise n (x ∷ xs) m = (n ≤ x) × Rise (suc x) xs m

pub lower : (k n m : ℕ) (xs : List ℕ) → k ≤ n → Rise n xs m → Rise k xs m
lower k n m [] h r = omega (arith, h, r)
lower k n m (x ∷ xs) h r = (omega (arith, h, r.0), r.1)

pub both : (n k m : ℕ) (xs ys : List ℕ) → Rise n xs k → Rise k ys m → Rise n (xs ++ ys) m
both n k m [] ys h r = lower n k m ys h r
both n k m (x ∷ xs) ys h r = (h.0, both (suc x) k m xs ys h.1 r)

pub absent : (x n m : ℕ) (xs : List ℕ) → x < n → Rise n xs m → Absent x xs
absent x n m [] h r = tt
absent x n m (y ∷ ys) h r = ((λ e. omega (arith, h, r.0, e)), absent x (suc y) m ys (omega (arith, h, r.0)) r.1)

pub distinct : (n m : ℕ) (xs : List ℕ) → Rise n xs m → Distinct xs
distinct n m [] r = tt
distinct n m (x ∷ xs) r = (absent x (suc x) m xs (omega arith) r.1, distinct (suc x) m xs r.1)

pub joined : {A : Type 0} (f : A → ℕ) (n k m : ℕ) (xs ys : List A) → Rise n (map f xs) k → Rise k (map f ys) m → Rise n (map f (xs ++ ys)) m
joined f n k m xs ys h r = subst (λ l. Rise n l m) (sym (map-append f xs ys)) (both n k m (map f xs) (map f ys) h r)

-- members numbered from n on
abbrev pub members_from : List MemberTree → ℕ → List MemberTree
members_from ms n = list_numbered member_numbered member_nodes ms n

methods_rise : (c : ℕ) (ms : List MemberTree) (n : ℕ) → Rise n (map number_in (methods_owned c (members_from ms n)))
    (n + list_nodes member_nodes ms)
methods_rise c [] n = omega arith
methods_rise c (field f ∷ ms) n =
    let rest = methods_rise c ms (n + field_nodes f) in
    subst (λ m. Rise n (map number_in (methods_owned c (members_from ms (n + field_nodes f)))) m) (omega arith)
    (lower n (n + field_nodes f) _ _ (omega arith) rest)
methods_rise c (method f ∷ ms) n =
    let rest = methods_rise c ms (n + fun_nodes f) in (
      omega arith,
      subst (λ m. Rise (suc (fun_numbered f n).number) (map number_in (methods_owned c (members_from ms (n + fun_nodes f)))) m)
          (omega arith) (lower (suc (fun_numbered f n).number) (n + fun_nodes f) _ _ (omega arith) rest),
    )

abbrev all_owned : List ItemTree → Counts → List Owned
all_owned is c = owned (counted c is)

items_rise : (is : List ItemTree) (c : Counts) (n : ℕ) → Rise n (map number_in (all_owned (items_numbered is n) c)) (n + items_nodes is)
items_rise [] c n = omega arith
items_rise (using u ∷ is) c n =
    subst (λ m. Rise n (map number_in (all_owned (items_numbered (using u ∷ is) n) c)) m) (omega arith)
    (lower n (n + 1) _ _ (omega arith) (items_rise is _ (n + 1)))
items_rise (enumeration e ∷ is) c n =
    subst (λ m. Rise n (map number_in (all_owned (items_numbered (enumeration e ∷ is) n) c)) m) (omega arith)
    (lower n (n + 1) _ _ (omega arith) (items_rise is _ (n + 1)))
items_rise (class d ∷ is) c n =
    let middle = n + list_nodes member_nodes d.members in
    subst (λ m. Rise n (map number_in (all_owned (items_numbered (class d ∷ is) n) c)) m) (omega arith)
    (joined number_in n middle (n + class_nodes d + items_nodes is) (methods_owned c.classes (members_from d.members n)) _
    (methods_rise c.classes d.members n)
    (lower middle (n + class_nodes d) _ _ (omega arith) (items_rise is _ (n + class_nodes d))))
items_rise (function f ∷ is) c n =
    let rest = items_rise is (counts_after (function (fun_numbered f n)) c) (n + fun_nodes f) in (
      omega arith,
      subst (λ m. Rise (suc (fun_numbered f n).number) (map number_in (all_owned (items_numbered is (n + fun_nodes f))
          (counts_after (function (fun_numbered f n)) c))) m)
          (omega arith) (lower (suc (fun_numbered f n).number) (n + fun_nodes f) _ _ (omega arith) rest),
    )

numbers_apart : (is : List ItemTree) → AreNumbered is → Distinct (map number_in (all_owned is no_counts))
numbers_apart is h = subst (λ l. Distinct (map number_in (all_owned l no_counts))) (sym h.1) (distinct 0 _ _ (items_rise h.0 no_counts 0))

-- ---- the function of a number

abbrev numbered_in : ℕ → List Owned → Option FunTree
numbered_in n [] = None
numbered_in n (o ∷ os) = cond (o.tree.number == n) (Some o.tree) (numbered_in n os)

numbered_both : (n : ℕ) (xs ys : List Owned) → numbered_in n (xs ++ ys) ≡ or_else (numbered_in n xs) (numbered_in n ys)
numbered_both n [] ys = refl
numbered_both n (x ∷ xs) ys = ap (λ r. cond (x.tree.number == n) (Some x.tree) r) (numbered_both n xs ys) ∙
    or_cond (x.tree.number == n) x.tree (numbered_in n xs) (numbered_in n ys)

numbered_method : (n c : ℕ) (ms : List MemberTree) → method_numbered n ms ≡ numbered_in n (methods_owned c ms)
numbered_method n c [] = refl
numbered_method n c (field f ∷ ms) = numbered_method n c ms
numbered_method n c (method f ∷ ms) = ap (λ r. cond (f.number == n) (Some f) r) (numbered_method n c ms)

numbered_fun : (n : ℕ) (is : List ItemTree) (c : Counts) → programs.fun_numbered n is ≡ numbered_in n (all_owned is c)
numbered_fun n [] c = refl
numbered_fun n (using u ∷ is) c = numbered_fun n is (counts_after (using u) c)
numbered_fun n (enumeration e ∷ is) c = numbered_fun n is (counts_after (enumeration e) c)
numbered_fun n (class d ∷ is) c = ap (λ r. or_else r (programs.fun_numbered n is)) (numbered_method n c.classes d.members) ∙
    ap (λ r. or_else (numbered_in n (methods_owned c.classes d.members)) r) (numbered_fun n is (counts_after (class d) c)) ∙
    sym (numbered_both n (methods_owned c.classes d.members) (all_owned is (counts_after (class d) c)))
numbered_fun n (function f ∷ is) c = ap (λ r. cond (f.number == n) (Some f) r) (numbered_fun n is (counts_after (function f) c))

absent_at : (n : ℕ) (xs : List Owned) (i : ℕ) (x : Owned) → Absent n (map number_in xs) → slice_get xs i ≡ Some x → n ≡ number_in x → ⊥
absent_at n [] i x h e q = cc
absent_at n (y ∷ xs) zero x h e q = let same : y ≡ x = cc in h.0 (q ∙ ap number_in (sym same))
absent_at n (y ∷ xs) (suc i) x h e q = absent_at n xs i x h.1 e q

numbered_at : (os : List Owned) (i : ℕ) (o : Owned) → Distinct (map number_in os) → slice_get os i ≡ Some o →
    numbered_in (number_in o) os ≡ Some o.tree
numbered_at [] i o h e = cc
numbered_at (x ∷ os) zero o h e = by (x.tree.number == number_in o) refl
  where
    same : x ≡ o
    same = cc

    by : (b : Bool) → (x.tree.number == number_in o) ≡ b → cond b (Some x.tree) (numbered_in (number_in o) os) ≡ Some o.tree
    by true q = ap (λ (y : Owned). Some y.tree) same
    by false q = absurd (grind (arith, ap number_in same, q))
numbered_at (x ∷ os) (suc i) o h e = by (x.tree.number == number_in o) refl (numbered_at os i o h.1 e)
  where
    by : (b : Bool) → (x.tree.number == number_in o) ≡ b → numbered_in (number_in o) os ≡ Some o.tree →
        cond b (Some x.tree) (numbered_in (number_in o) os) ≡ Some o.tree
    by true q r = absurd (absent_at (number_in x) os i o h.0 e (grind (arith, q)))
    by false q r = r

module _ (is : List ItemTree) where
  abbrev k : Known
  k = known is

  abbrev all : List Owned
  all = owned k.items

  -- what the table has for the function of a number
  pub info_at : (g : ℕ) (o : Owned) → slice_get all g ≡ Some o →
      slice_get (completed is).funs g ≡ Some (made_function (fun_function k.index.types o.tree))
  info_at g o e =
      get_mapped made_function (functions k.index.types k.items) g (fun_function k.index.types o.tree)
      (ap (λ fs. slice_get fs g) (functions_are k.index.types is no_counts) ∙ get_mapped (as_function k.index.types) all g o e)

  pub owner_of : (g : ℕ) (info : FunInfo) → slice_get (completed is).funs g ≡ Some info →
      (o : Owned) × (slice_get all g ≡ Some o) × (made_function (fun_function k.index.types o.tree) ≡ info)
  owner_of g info e =
      let f = mapped_get made_function (functions k.index.types k.items) g info e in
      let o = mapped_get (as_function k.index.types) all g f.0 (ap (λ fs. slice_get fs g) (sym (functions_are k.index.types is no_counts))
      ∙ f.1) in
      (o.0, o.1, ap made_function o.2 ∙ f.2)

  -- and which function that is
  pub function_at : AreNumbered is → (g : ℕ) (o : Owned) → slice_get all g ≡ Some o →
      fun_of_info is (slice_get (completed is).funs g) ≡ Some o.tree
  function_at h g o e =
      ap (fun_of_info is) (info_at g o e) ∙ numbered_fun o.tree.number is no_counts ∙ numbered_at all g o (numbers_apart is h) e

  pub number_of : AreNumbered is → (g : ℕ) (f : FunTree) → fun_of_info is (slice_get (completed is).funs g) ≡ Some f →
      (o : Owned) × (slice_get all g ≡ Some o) × (o.tree ≡ f)
  number_of h g f e = by (slice_get (completed is).funs g) refl
    where
      by : (o : Option FunInfo) → slice_get (completed is).funs g ≡ o → (o : Owned) × (slice_get all g ≡ Some o) × (o.tree ≡ f)
      by None q = let no : fun_of_info is None ≡ Some f = ap (fun_of_info is) (sym q) ∙ e in cc
      by (Some info) q =
          let o = owner_of g info q in
          let both : Some o.0.tree ≡ Some f = sym (function_at h g o.0 o.1) ∙ e in
          let same : o.0.tree ≡ f = cc in
          (o.0, o.1, same)

-- ---- what holds on the items holds on each function

get_both : {A : Type 0} (P : A → Type 0) (xs ys : List A) → ((i : ℕ) (x : A) → slice_get xs i ≡ Some x → P x) →
    ((i : ℕ) (x : A) → slice_get ys i ≡ Some x → P x) → (i : ℕ) (x : A) → slice_get (xs ++ ys) i ≡ Some x → P x
get_both P [] ys f g i x e = g i x e
get_both P (z ∷ xs) ys f g zero x e = f zero x e
get_both P (z ∷ xs) ys f g (suc i) x e = get_both P xs ys (λ j. f (suc j)) g i x e

module _ (P : Site → Type 0) (k : Known) where
  abbrev OnOwned : Owned → Type 0
  OnOwned o = OnFun P (world_in k o.class) [] o.tree

  on_methods : (c : ℕ) (ms : List MemberTree) → OnMembers P (outside k) (inside k c) [] ms → (i : ℕ) (o : Owned) →
      slice_get (methods_owned c ms) i ≡ Some o → OnOwned o
  on_methods c [] h i o e = cc
  on_methods c (field d ∷ ms) h i o e = on_methods c ms h.1 i o e
  on_methods c (method f ∷ ms) h zero o e =
      let own : Owned = record { class = Some c; tree = f } in
      let same : own ≡ o = cc in subst OnOwned same h.0.0
  on_methods c (method f ∷ ms) h (suc i) o e = on_methods c ms h.1 i o e

  on_item : (x : ItemTree) (c : Counts) → OnItem P k [] x c → (i : ℕ) (o : Owned) → slice_get (item_owned x c) i ≡ Some o → OnOwned o
  on_item (using u) c h i o e = cc
  on_item (enumeration d) c h i o e = cc
  on_item (class d) c h i o e = on_methods c.classes d.members h.0 i o e
  on_item (function f) c h zero o e =
      let own : Owned = record { class = None; tree = f } in
      let same : own ≡ o = cc in subst OnOwned same h.0
  on_item (function f) c h (suc i) o e = cc

  -- on the body of each
  pub on_owned : (is : List Counted) → OnItems P k [] is → (i : ℕ) (o : Owned) → slice_get (owned is) i ≡ Some o → OnOwned o
  on_owned [] h i o e = cc
  on_owned (i ∷ is) h j o e =
      get_both OnOwned (item_owned i.item i.before) (owned is) (on_item i.item i.before h.0) (on_owned is h.1) j o e
