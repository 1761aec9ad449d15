-- What names stand for is there.
use Rattle.std.proofs.Common.{◌≡◌, ℕ, zero, suc, ◌+◌, ◌<◌, Bool, true, false, cond, bytes_eq, List, [], ◌∷◌, ◌++◌, length}
use Rattle.std.proofs.Common.{Option, refl, sym, ap, ◌∙◌, subst, arith}
use Rattle.std.specs.Prelude.{Some, None, slice_get}
use Rattle.std.proofs.lemmas.List.{length-map}
use Rattle.verse_tree.specs.Tree.{Bytes}
use Rattle.verse_tree.specs.ItemTree.{MemberTree, field, method, ItemTree, using, enumeration}
use Rattle.verse_tree.specs.ItemTree.{class, function}
use Rattle.verse_tree.specs.declared.tables.Ref.{Ref}
use Rattle.verse_tree.specs.declared.tables.Ref.TheVariants as ref
use Rattle.verse_names_tables.specs.Names.{Table, look, put, put_absent, keep, keep_named, names, meanings}
use Rattle.verse_names_tables.specs.Words.{builtins}
use Rattle.verse_names_tables.specs.Counting.{Counted, counted, counts_after, funs_after, named_as, named_type_as, no_counts}
use Rattle.verse_names_tables.specs.declared.counting.Counts.{Counts}
use Rattle.verse_names_tables.specs.Notes.{notes}
use Rattle.verse_names_tables.specs.Indexing.{Index, indexed, index_all, no_index}
use Rattle.verse_names_declarations.specs.Known.{Known, known}
use Rattle.verse_names_declarations.specs.Lines.{line_of, all_members}
use Rattle.verse_names_items.specs.Nodes.{ItemsBreak}
use Rattle.verse_names_items.specs.Tables.{fun_numbers}
use Rattle.verse_names_scopes.specs.Visible.{World, with_methods, bare_members, inside, outside, either, visible, visible_throughout}
use Rattle.verse_meaning.specs.Programs.{classes, enums}
use Rattle.verse_accept_scopes.specs.Lists.{Each}
use Rattle.verse_accept_scopes.specs.Laws.{LocalBelow}
use Rattle.verse_accept_classes.specs.Owners.{Owned, methods_owned, owned}
use Rattle.verse_accept_classes.specs.Referring.{IsMethod, IsThere, Names}
use Rattle.verse_accept_classes.proofs.Places.{Placed, all_placed}
use Rattle.verse_accept_classes.proofs.Circles.{no_circle}
use Rattle.verse_accept_classes.proofs.Lines.{NoCircle}
use Rattle.verse_accept_classes.proofs.Parents.{or_else, look_keep}
use Rattle.verse_accept_classes.proofs.Fields.{class_fields, fields_agree, look_fields, find_field}
use Rattle.verse_accept_classes.proofs.Methods as m
use Rattle.verse_accept_classes.proofs.Methods.{class_methods, members_are, methods_there}

-- ---- tables of names

module _ (P : Ref → Type 0) where
  abbrev Holds : Option Ref → Type 0
  Holds None = Unit {0}
  Holds (Some r) = P r

  abbrev All : Table → Type 0
  All t = Each (λ (e : Bytes × Ref). P e.1) t

  look_all : (x : Bytes) (t : Table) → All t → Holds (look x t)
  look_all x [] h = tt
  look_all x (e ∷ t) h = by (bytes_eq x e.0) (look_all x t h.1)
    where
      by : (b : Bool) → Holds (look x t) → Holds (cond b (Some e.1) (look x t))
      by true k = h.0
      by false k = k

  put_all : (x : Bytes) (r : Ref) (t : Table) → P r → All t → All (put x r t)
  put_all x r [] p h = (p, tt)
  put_all x r (e ∷ t) p h = by (bytes_eq x e.0) (put_all x r t p h.1)
    where
      by : (b : Bool) → All (put x r t) → All (cond b ((e.0, r) ∷ t) (e ∷ put x r t))
      by true k = (p, h.1)
      by false k = (h.0, k)

  keep_all : (x : Bytes) (r : Ref) (t : Table) → P r → All t → All (keep x r t)
  keep_all x r t p h = by (look x t)
    where
      by : (o : Option Ref) → All (put_absent o x r t)
      by None = put_all x r t p h
      by (Some q) = h

  either_holds : (o p : Option Ref) → Holds o → Holds p → Holds (either o p)
  either_holds None p h g = g
  either_holds (Some r) p h g = h

-- ---- items

-- these items are the last ones of a program
record Last (all is : List ItemTree) (n : Counts) : Type 0 where
  functions : Placed (owned (known all).items) n.funs (owned (counted n is))
  classes : Placed (known all).notes n.classes (notes (counted n is))
  enums : Placed (enums all) n.enums (enums is)

behind_methods : (all : List Owned) (c n : ℕ) (ms : List MemberTree) (os : List Owned) → Placed all n (methods_owned c ms ++ os) →
    Placed all (funs_after ms n) os
behind_methods all c n [] os h = h
behind_methods all c n (field d ∷ ms) os h = behind_methods all c n ms os h
behind_methods all c n (method f ∷ ms) os h = behind_methods all c (n + 1) ms os h.1

next : (all is : List ItemTree) (i : ItemTree) (n : Counts) → Last all (i ∷ is) n → Last all is (counts_after i n)
next all is (using u) n l = record { functions = l.functions; classes = l.classes; enums = l.enums }
next all is (enumeration e) n l = record { functions = l.functions; classes = l.classes; enums = l.enums.1 }
next all is (class c) n l = record {
  functions = behind_methods (owned (known all).items) n.classes n.funs c.members (owned (counted (counts_after
      (class c) n) is)) l.functions;
  classes = l.classes.1;
  enums = l.enums;
}
next all is (function f) n l = record { functions = l.functions.1; classes = l.classes; enums = l.enums }

whole : (is : List ItemTree) → Last is is no_counts
whole is = record {
  functions = all_placed (owned (known is).items);
  classes = all_placed (known is).notes;
  enums = all_placed (enums is);
}

module _ (all : List ItemTree) (this : Option ℕ) where
  abbrev There : Table → Type 0
  There t = All (IsThere all this) t

  named_there : (i : ItemTree) (is : List ItemTree) (n : Counts) (t : Table) → Last all (i ∷ is) n → There t →
      There (keep_named (named_as i n) t)
  named_there (using u) is n t l h = h
  named_there (enumeration e) is n t l h =
      keep_all (IsThere all this) e.name (ref.Enum n.enums) t (record { tree = e; there = l.enums.0 }) h
  named_there (class c) is n t l h =
      keep_all (IsThere all this) c.name (ref.Class n.classes) t
      (record { note = record { item = c; first = n.funs }; there = l.classes.0 }) h
  named_there (function f) is n t l h =
      keep_all (IsThere all this) f.name (ref.Fun n.funs) t (record { tree = f; there = l.functions.0 }) h

  items_there : (is : List ItemTree) (n : Counts) (x : Index) → Last all is n → There x.items → There (index_all (counted n is) x).items
  items_there [] n x l h = h
  items_there (i ∷ is) n x l h =
      items_there is (counts_after i n) (indexed record { item = i; before = n } x) (next all is i n l) (named_there i is n x.items l h)

  -- those that are classes or enums
  typed_there : (i : ItemTree) (is : List ItemTree) (n : Counts) (t : Table) → Last all (i ∷ is) n → There t →
      There (keep_named (named_type_as i n) t)
  typed_there (using u) is n t l h = h
  typed_there (enumeration e) is n t l h =
      keep_all (IsThere all this) e.name (ref.Enum n.enums) t (record { tree = e; there = l.enums.0 }) h
  typed_there (class c) is n t l h =
      keep_all (IsThere all this) c.name (ref.Class n.classes) t
      (record { note = record { item = c; first = n.funs }; there = l.classes.0 }) h
  typed_there (function f) is n t l h = h

  types_there : (is : List ItemTree) (n : Counts) (x : Index) → Last all is n → There x.types → There (index_all (counted n is) x).types
  types_there [] n x l h = h
  types_there (i ∷ is) n x l h =
      types_there is (counts_after i n) (indexed record { item = i; before = n } x) (next all is i n l) (typed_there i is n x.types l h)

  builtins_there : There builtins
  builtins_there = (omega arith, (omega arith, (omega arith, (omega arith, tt))))

pub type_there : (is : List ItemTree) (x : Bytes) (r : Ref) → look x (known is).index.types ≡ Some r → IsThere is None r
type_there is x r e =
    subst (Holds (IsThere is None)) e
    (look_all (IsThere is None) x (known is).index.types (types_there is None is no_counts no_index (whole is) tt))

-- ---- members by their bare names

abbrev find_method : ℕ → Bytes → ℕ → List Bytes → Option Ref
find_method c x i [] = None
find_method c x i (y ∷ ys) = cond (bytes_eq x y) (Some (ref.Method c i)) (find_method c x (i + 1) ys)

ended : (o : Option Ref) → o ≡ or_else o None
ended None = refl
ended (Some r) = refl

joined : (o m : Option Ref) (b : Bool) (r : Ref) → or_else (or_else o (cond b (Some r) None)) m ≡ or_else o (cond b (Some r) m)
joined None m true r = refl
joined None m false r = refl
joined (Some q) m b r = refl

look_methods : (c : ℕ) (x : Bytes) (i : ℕ) (ys : List Bytes) (t : Table) →
    look x (with_methods c i ys t) ≡ or_else (look x t) (find_method c x i ys)
look_methods c x i [] t = ended (look x t)
look_methods c x i (y ∷ ys) t =
    look_methods c x (i + 1) ys (keep y (ref.Method c i) t)
    ∙ ap (λ o. or_else o (find_method c x (i + 1) ys)) (look_keep x y (ref.Method c i) t)
    ∙ joined (look x t) (find_method c x (i + 1) ys) (bytes_eq x y) (ref.Method c i)

record Found (c i : ℕ) (ys : List Bytes) (r : Ref) : Type 0 where
  place : ℕ
  is : r ≡ ref.Method c (i + place)
  within : place < length ys

found_method : (c : ℕ) (x : Bytes) (i : ℕ) (ys : List Bytes) (r : Ref) → find_method c x i ys ≡ Some r → Found c i ys r
found_method c x i [] r e = absurd (cc)
found_method c x i (y ∷ ys) r e = by (bytes_eq x y) e (found_method c x (i + 1) ys r)
  where
    by : (b : Bool) → cond b (Some (ref.Method c i)) (find_method c x (i + 1) ys) ≡ Some r →
        (find_method c x (i + 1) ys ≡ Some r → Found c (i + 1) ys r) → Found c i (y ∷ ys) r
    by true e f =
        let same : ref.Method c i ≡ r = cc in
        record { place = 0; is = sym same ∙ ap (ref.Method c) (omega arith); within = omega arith }
    by false e f =
        let g = f e in
        record { place = suc g.place; is = g.is ∙ ap (ref.Method c) (omega arith); within = omega (arith, g.within) }

entry_within : (t : Table) (i : ℕ) → i < length t → (e : Bytes × Ref) × (slice_get t i ≡ Some e)
entry_within [] i l = absurd (omega (arith, l))
entry_within (e ∷ t) zero l = (e, refl)
entry_within (e ∷ t) (suc i) l = entry_within t i (omega (arith, l))

entry_method : (all : List Owned) (ds : List ℕ) (t : Table) (i : ℕ) (e : Bytes × Ref) → m.AllMethods all ds t → slice_get t i ≡ Some e →
    m.IsMethod all ds e.1
entry_method all ds [] i e h q = absurd (cc)
entry_method all ds (x ∷ t) zero e h q =
    let same : x ≡ e = cc in subst (λ (z : Bytes × Ref). m.IsMethod all ds z.1) same h.0
entry_method all ds (x ∷ t) (suc i) e h q = entry_method all ds t i e h.1 q

or_cases : (o p : Option Ref) (r : Ref) (Q : Type 0) → or_else o p ≡ Some r → (o ≡ Some r → Q) → (p ≡ Some r → Q) → Q
or_cases None p r Q e f g = g e
or_cases (Some q) p r Q e f g = f e

module _ (is : List ItemTree) (quiet : (n c : ℕ) → ItemsBreak is n c → ⊥) where
  abbrev k : Known
  k = known is

  straight : NoCircle k.outline
  straight = no_circle is quiet

  -- a place of the methods of a class has one
  pub is_method : (c i : ℕ) → i < length (all_members k c).methods → IsMethod is c i
  is_method c i l =
      let own = class_methods is quiet c in
      let within : i < length own = subst (λ (t : Table). i < length t) (members_are is quiet c) l in
      let e = entry_within own i within in
      let all = methods_there is quiet c in
      let one = entry_method (owned k.items) (line_of k.outline c) own i e.0 all e.1 in
      let entry : slice_get own i ≡ Some (e.0.0, ref.Fun one.number) = e.1 ∙ ap (λ r. Some (e.0.0, r)) one.is in
      record {
        number = one.number;
        there =
            ap (λ (t : Table). slice_get (fun_numbers (meanings t)) i) (members_are is quiet c)
            ∙ m.number_at (owned k.items) (line_of k.outline c) own i one.number e.0.0 all entry;
      }

  field_there : (c : ℕ) (x : Bytes) (r : Ref) → look x (all_members k c).fields ≡ Some r → IsThere is (Some c) r
  field_there c x r e =
      let f = find_field c x 0 (class_fields is c) r (sym (look_fields c x k.notes (line_of k.outline c)) ∙ e) in
      let there = ap (λ l. slice_get l f.place) (sym (fields_agree is straight c)) ∙ f.there in
      subst (IsThere is (Some c)) (sym (f.is ∙ ap (ref.Field c) (omega arith))) (refl, record { tree = f.tree; there = there })

  method_there : (c : ℕ) (x : Bytes) (r : Ref) → find_method c x 0 (names (all_members k c).methods) ≡ Some r → IsThere is (Some c) r
  method_there c x r e =
      let f = found_method c x 0 (names (all_members k c).methods) r e in
      let within : f.place < length (all_members k c).methods =
      omega (arith, f.within, length-map (all_members k c).methods (λ (e : Bytes × Ref). e.0)) in
      subst (IsThere is (Some c)) (sym (f.is ∙ ap (ref.Method c) (omega arith))) (refl, is_method c f.place within)

  bare_there : (c : ℕ) (x : Bytes) (r : Ref) → look x (bare_members k c) ≡ Some r → IsThere is (Some c) r
  bare_there c x r e =
      or_cases (look x (all_members k c).fields) (find_method c x 0 (names (all_members k c).methods)) r (IsThere is (Some c) r)
      (sym (look_methods c x 0 (names (all_members k c).methods) (all_members k c).fields) ∙ e) (field_there c x r) (method_there c x r)

  -- ---- worlds

  either_cases : (o p : Option Ref) (r : Ref) (Q : Type 0) → either o p ≡ Some r → (o ≡ Some r → Q) → (p ≡ Some r → Q) → Q
  either_cases None p r Q e f g = g e
  either_cases (Some q) p r Q e f g = f e

  given : (this : Option ℕ) (o : Option Ref) (r : Ref) → Holds (IsThere is this) o → o ≡ Some r → IsThere is this r
  given this o r h e = subst (Holds (IsThere is this)) e h

  -- no local name
  abbrev Wide : Ref → Type 0
  Wide (ref.Local n) = ⊥
  Wide (ref.Key n) = ⊥
  Wide r = Unit {0}

  no_local : (r : Ref) (n : ℕ) → Wide r → r ≡ ref.Local n → ⊥
  no_local (ref.Local m) n h e = h
  no_local r n h e = cc

  no_key : (r : Ref) (n : ℕ) → Wide r → r ≡ ref.Key n → ⊥
  no_key (ref.Key m) n h e = h
  no_key r n h e = cc

  named_wide : (i : ItemTree) (n : Counts) (t : Table) → All Wide t → All Wide (keep_named (named_as i n) t)
  named_wide (using u) n t h = h
  named_wide (enumeration e) n t h = keep_all Wide e.name (ref.Enum n.enums) t tt h
  named_wide (class c) n t h = keep_all Wide c.name (ref.Class n.classes) t tt h
  named_wide (function f) n t h = keep_all Wide f.name (ref.Fun n.funs) t tt h

  items_wide : (cs : List Counted) (x : Index) → All Wide x.items → All Wide (index_all cs x).items
  items_wide [] x h = h
  items_wide (i ∷ cs) x h = items_wide cs (indexed i x) (named_wide i.item i.before x.items h)

  wide_there : (c : ℕ) (x : Bytes) (r : Ref) → look x (bare_members k c) ≡ Some r → Wide r
  wide_there c x r e =
      or_cases (look x (all_members k c).fields) (find_method c x 0 (names (all_members k c).methods)) r (Wide r)
      (sym (look_methods c x 0 (names (all_members k c).methods) (all_members k c).fields) ∙ e)
      (λ q. subst Wide (sym (find_field c x 0 (class_fields is c) r (sym (look_fields c x k.notes (line_of k.outline c)) ∙ q)).is) tt)
      (λ q. subst Wide (sym (found_method c x 0 (names (all_members k c).methods) r q).is) tt)

  -- what is visible throughout
  module _ (w : World) (items : w.items ≡ k.index.items)
      (members : (x : Bytes) (r : Ref) → look x w.members ≡ Some r → IsThere is w.class r × Wide r) where
    item_there : (x : Bytes) (r : Ref) → look x w.items ≡ Some r → IsThere is w.class r × Wide r
    item_there x r e =
        let q : look x k.index.items ≡ Some r = ap (look x) (sym items) ∙ e in (
          given w.class (look x k.index.items) r
              (look_all (IsThere is w.class) x k.index.items (items_there is w.class is no_counts no_index (whole is) tt)) q,
          subst (Holds Wide) q (look_all Wide x k.index.items (items_wide k.items no_index tt)),
        )

    builtin_there : (x : Bytes) (r : Ref) → look x builtins ≡ Some r → IsThere is w.class r × Wide r
    builtin_there x r e = (
      given w.class (look x builtins) r (look_all (IsThere is w.class) x builtins (builtins_there is w.class)) e,
      subst (Holds Wide) e (look_all Wide x builtins (tt, (tt, (tt, (tt, tt))))),
    )

    throughout : (x : Bytes) (r : Ref) → visible_throughout w x ≡ Some r → IsThere is w.class r × Wide r
    throughout x r e =
        either_cases (look x w.members) _ r (IsThere is w.class r × Wide r) e (members x r)
        (λ q. either_cases (look x w.items) (look x builtins) r (IsThere is w.class r × Wide r) q (item_there x r) (builtin_there x r))

    local_there : (n : ℕ) (r : Ref) → LocalBelow n r → IsThere is w.class r
    local_there n (ref.Local m) h = tt
    local_there n (ref.Key m) h = tt
    local_there n r h = absurd h

    name_there : (n : ℕ) (xs : Table) → Each (λ (e : Bytes × Ref). LocalBelow n e.1) xs → (x : Bytes) (r : Ref) → visible w xs x ≡ Some r →
        IsThere is w.class r
    name_there n xs h x r e =
        either_cases (look x xs) (visible_throughout w x) r (IsThere is w.class r) e
        (λ q. local_there n r (subst (Holds (LocalBelow n)) q (look_all (LocalBelow n) x xs h)))
        (λ q. (throughout x r q).0)

    local_found : (xs : Table) (x : Bytes) (n : ℕ) → visible w xs x ≡ Some (ref.Local n) → look x xs ≡ Some (ref.Local n)
    local_found xs x n e =
        either_cases (look x xs) (visible_throughout w x) (ref.Local n) (look x xs ≡ Some (ref.Local n)) e (λ q. q)
        (λ q. absurd (no_local (ref.Local n) n (throughout x (ref.Local n) q).1 refl))

    key_found : (xs : Table) (x : Bytes) (n : ℕ) → visible w xs x ≡ Some (ref.Key n) → look x xs ≡ Some (ref.Key n)
    key_found xs x n e =
        either_cases (look x xs) (visible_throughout w x) (ref.Key n) (look x xs ≡ Some (ref.Key n)) e (λ q. q)
        (λ q. absurd (no_key (ref.Key n) n (throughout x (ref.Key n) q).1 refl))

    names_of : w.types ≡ k.index.types → Names is w
    names_of types = record { names = name_there; locals = local_found; keys = key_found; types = types }

  none_of : {Q : Type 0} (x : Bytes) (r : Ref) → look x [] ≡ Some r → Q
  none_of x r e = absurd (cc)

  pub outside_names : Names is (outside k)
  outside_names = names_of (outside k) refl (λ x r e. none_of x r e) refl

  pub inside_names : (c : ℕ) → Names is (inside k c)
  inside_names c = names_of (inside k c) refl (λ x r e. (bare_there c x r e, wide_there c x r e)) refl
