-- The item that a name stands for, if that is an enum, is the first enum of that name; and the names of its values are its values.
use Rattle.std.proofs.Common.{◌≡◌, ◌⊎◌, inl, inr, ℕ, zero, suc, ◌+◌, Bool, true, false, cond, List, [], ◌∷◌, map}
use Rattle.std.proofs.Common.{Option, Some, None}
use Rattle.std.proofs.Common.{refl, ap, sym, subst, ◌∙◌, arith, slice_get}
use Rattle.std.specs.Str.{bytes_eq}
use Rattle.verse_tree.specs.Tree.{Bytes}
use Rattle.verse_tree.specs.ItemTree.{EnumTree, ItemTree, using, enumeration, class, function}
use Rattle.verse_tree.specs.declared.tables.Ref.{Ref}
use Rattle.verse_tree.specs.declared.tables.Ref.TheVariants as ref
use Rattle.verse_names_tables.specs.Names.{Table, look, put, put_absent, keep, keep_named}
use Rattle.verse_names_tables.specs.Counting.{Counted, counted, counts_after, no_counts, named_as}
use Rattle.verse_names_tables.specs.declared.counting.Counts.{Counts}
use Rattle.verse_names_tables.specs.Indexing.{Index, indexed, index_all, no_index}
use Rattle.verse_check_typing.specs.Sets.{has_name, with_name, with_names}
use Rattle.verse_check_typing.specs.Members.{names_in}
use Rattle.verse_check_typing.specs.Facts.{enum_values}
use Rattle.verse_meaning_state.specs.Waits.{nth}
use Rattle.verse_meaning.specs.Programs.{same_name, enums, one_further, place_of, enum_names, enum_val, value_in, Program, named_value}
use Rattle.verse_meaning.specs.Programs.{pattern_value}
use Rattle.verse_lex_laws.proofs.Runs.{pointwise_equal}
use Rattle.verse_check_typing.proofs.MoreNames.{has_with}
use Rattle.verse_meaning.proofs.Names.{same_bytes}
use Rattle.lower_simulation_runs.specs.Programs.{is_some}
use Rattle.verse_accept_nodes.proofs.Visited.{item_table}

same_by : (x y : Bytes) {v : Bool} → bytes_eq x y ≡ v → same_name x y ≡ v
same_by x y h = sym (same_bytes x y) ∙ h

-- ---- names that are kept

look_put_same : (x y : Bytes) (r : Ref) (t : Table) → bytes_eq x y ≡ true → look x (put y r t) ≡ Some r
look_put_same x y r [] h = ap (λ v. cond v (Some r) None) h
look_put_same x y r (e ∷ es) h = by (bytes_eq y e.0) refl (look_put_same x y r es h)
  where
    alike : bytes_eq x e.0 ≡ bytes_eq y e.0
    alike = ap (λ z. bytes_eq z e.0) (pointwise_equal x y h)

    by : (v : Bool) → bytes_eq y e.0 ≡ v → look x (put y r es) ≡ Some r → look x (cond v ((e.0, r) ∷ es) (e ∷ put y r es)) ≡ Some r
    by true g rest = ap (λ w. cond w (Some r) (look x es)) (alike ∙ g)
    by false g rest = ap (λ w. cond w (Some e.1) (look x (put y r es))) (alike ∙ g) ∙ rest

look_put_other : (x y : Bytes) (r : Ref) (t : Table) → bytes_eq x y ≡ false → look x (put y r t) ≡ look x t
look_put_other x y r [] h = ap (λ v. cond v (Some r) None) h
look_put_other x y r (e ∷ es) h = by (bytes_eq y e.0) refl (look_put_other x y r es h)
  where
    by : (v : Bool) → bytes_eq y e.0 ≡ v → look x (put y r es) ≡ look x es →
        look x (cond v ((e.0, r) ∷ es) (e ∷ put y r es)) ≡ look x (e ∷ es)
    by true g rest =
        let unlike : bytes_eq x e.0 ≡ false = ap (bytes_eq x) (sym (pointwise_equal y e.0 g)) ∙ h in
        ap (λ w. cond w (Some r) (look x es)) unlike ∙ sym (ap (λ w. cond w (Some e.1) (look x es)) unlike)
    by false g rest = ap (cond (bytes_eq x e.0) (Some e.1)) rest

look_keep_new : (x y : Bytes) (r : Ref) (t : Table) → look x t ≡ None → bytes_eq x y ≡ true → look x (keep y r t) ≡ Some r
look_keep_new x y r t h g =
    let none : look y t ≡ None = ap (λ z. look z t) (sym (pointwise_equal x y g)) ∙ h in
    ap (λ o. look x (put_absent o y r t)) none ∙ look_put_same x y r t g

look_keep_other : (x y : Bytes) (r : Ref) (t : Table) → bytes_eq x y ≡ false → look x (keep y r t) ≡ look x t
look_keep_other x y r t h = by (look y t)
  where
    by : (o : Option Ref) → look x (put_absent o y r t) ≡ look x t
    by None = look_put_other x y r t h
    by (Some q) = refl

look_keep_old : (x y : Bytes) (r q : Ref) (t : Table) → look x t ≡ Some q → look x (keep y r t) ≡ Some q
look_keep_old x y r q t h = by (bytes_eq x y) refl
  where
    by : (v : Bool) → bytes_eq x y ≡ v → look x (keep y r t) ≡ Some q
    by true g =
        let there : look y t ≡ Some q = ap (λ z. look z t) (sym (pointwise_equal x y g)) ∙ h in
        ap (λ o. look x (put_absent o y r t)) there ∙ h
    by false g = look_keep_other x y r t g ∙ h

named_stays : (o : Option (Bytes × Ref)) (x : Bytes) (q : Ref) (t : Table) → look x t ≡ Some q → look x (keep_named o t) ≡ Some q
named_stays None x q t h = h
named_stays (Some e) x q t h = look_keep_old x e.0 e.1 q t h

stays : (cs : List Counted) (i : Index) (x : Bytes) (q : Ref) → look x i.items ≡ Some q → look x (index_all cs i).items ≡ Some q
stays [] i x q h = h
stays (c ∷ cs) i x q h = stays cs (indexed c i) x q (named_stays (named_as c.item c.before) x q i.items h)

-- ---- the first enum of a name

record Found (items : List ItemTree) (before : ℕ) (x : Bytes) (e : ℕ) : Type 0 where
  at : ℕ
  place : place_of x (enum_names (enums items)) ≡ Some at
  number : e ≡ before + at

no_some : {A : Type 0} {o : Option A} {a : A} → o ≡ None → o ≡ Some a → ⊥
no_some {A} {o} {a} h g = let e : None ≡ Some a = sym h ∙ g in cc

found_here : (en : EnumTree) (is : List ItemTree) (n : ℕ) (x : Bytes) (e : ℕ) → bytes_eq x en.name ≡ true →
    Some (ref.Enum n) ≡ Some (ref.Enum e) → Found (enumeration en ∷ is) n x e
found_here en is n x e k g = record {
  at = 0;
  place = ap (λ v. cond v (Some 0) (one_further (place_of x (enum_names (enums is))))) (same_by x en.name k);
  number = (let same : n ≡ e = cc in omega arith);
}

found_later : (en : EnumTree) (is : List ItemTree) (n : ℕ) (x : Bytes) (e : ℕ) → bytes_eq x en.name ≡ false →
    Found is (n + 1) x e → Found (enumeration en ∷ is) n x e
found_later en is n x e k f = record {
  at = suc f.at;
  place = ap (λ v. cond v (Some 0) (one_further (place_of x (enum_names (enums is))))) (same_by x en.name k) ∙ ap one_further f.place;
  number = (let given = f.number in omega arith);
}

first_enum : (is : List ItemTree) (n : Counts) (i : Index) (x : Bytes) (e : ℕ) → look x i.items ≡ None →
    look x (index_all (counted n is) i).items ≡ Some (ref.Enum e) → Found is n.enums x e
first_enum [] n i x e h g = absurd (no_some h g)
first_enum (using u ∷ is) n i x e h g =
    let f = first_enum is n (indexed (record { item = using u; before = n }) i) x e h g in
    record { at = f.at; place = f.place; number = f.number }
first_enum (enumeration en ∷ is) n i x e h g =
    by (bytes_eq x en.name) refl (λ none.
    first_enum is (counts_after (enumeration en) n) (indexed (record { item = enumeration en; before = n }) i) x e none g)
  where
    c : Counted
    c = record { item = enumeration en; before = n }

    by : (v : Bool) → bytes_eq x en.name ≡ v → (look x (indexed c i).items ≡ None → Found is (counts_after (enumeration en) n).enums x e) →
        Found (enumeration en ∷ is) n.enums x e
    by true k rest =
        let there = stays (counted (counts_after (enumeration en) n) is) (indexed c i) x (ref.Enum n.enums)
        (look_keep_new x en.name (ref.Enum n.enums) i.items h k) in
        found_here en is n.enums x e k (sym there ∙ g)
    by false k rest = found_later en is n.enums x e k (rest (look_keep_other x en.name (ref.Enum n.enums) i.items k ∙ h))
first_enum (class d ∷ is) n i x e h g =
    by (bytes_eq x d.name) refl (λ none.
    first_enum is (counts_after (class d) n) (indexed (record { item = class d; before = n }) i) x e none g)
  where
    c : Counted
    c = record { item = class d; before = n }

    by : (v : Bool) → bytes_eq x d.name ≡ v → (look x (indexed c i).items ≡ None → Found is (counts_after (class d) n).enums x e) →
        Found (class d ∷ is) n.enums x e
    by true k rest =
        let there = stays (counted (counts_after (class d) n) is) (indexed c i) x (ref.Class n.classes)
        (look_keep_new x d.name (ref.Class n.classes) i.items h k) in
        let never : Some (ref.Class n.classes) ≡ Some (ref.Enum e) = sym there ∙ g in
        absurd (cc)
    by false k rest =
        let f = rest (look_keep_other x d.name (ref.Class n.classes) i.items k ∙ h) in
        record { at = f.at; place = f.place; number = f.number }
first_enum (function d ∷ is) n i x e h g =
    by (bytes_eq x d.name) refl (λ none.
    first_enum is (counts_after (function d) n) (indexed (record { item = function d; before = n }) i) x e none g)
  where
    c : Counted
    c = record { item = function d; before = n }

    by : (v : Bool) → bytes_eq x d.name ≡ v → (look x (indexed c i).items ≡ None → Found is (counts_after (function d) n).enums x e) →
        Found (function d ∷ is) n.enums x e
    by true k rest =
        let there = stays (counted (counts_after (function d) n) is) (indexed c i) x (ref.Fun n.funs)
        (look_keep_new x d.name (ref.Fun n.funs) i.items h k) in
        let never : Some (ref.Fun n.funs) ≡ Some (ref.Enum e) = sym there ∙ g in
        absurd (cc)
    by false k rest =
        let f = rest (look_keep_other x d.name (ref.Fun n.funs) i.items k ∙ h) in
        record { at = f.at; place = f.place; number = f.number }

enum_placed : (is : List ItemTree) (x : Bytes) (e : ℕ) → look x (item_table is) ≡ Some (ref.Enum e) →
    place_of x (enum_names (enums is)) ≡ Some e
enum_placed is x e h =
    let f = first_enum is no_counts no_index x e refl h in
    let same : f.at ≡ e = (let given = f.number in omega arith) in
    f.place ∙ ap Some same

-- ---- the values of an enum

abbrev names_of : EnumTree → List Bytes
names_of en = with_names en.values []

values_map : (is : List ItemTree) → enum_values is ≡ map names_of (enums is)
values_map [] = refl
values_map (using u ∷ is) = values_map is
values_map (enumeration en ∷ is) = ap (λ l. names_of en ∷ l) (values_map is)
values_map (class c ∷ is) = values_map is
values_map (function f ∷ is) = values_map is

abbrev is_placed : Option ℕ → Bool
is_placed None = false
is_placed (Some n) = true

placed_further : (o : Option ℕ) → is_placed o ≡ true → is_placed (one_further o) ≡ true
placed_further None h = h
placed_further (Some n) h = refl

placed_later : (v : Bool) (o : Option ℕ) → is_placed o ≡ true → is_placed (cond v (Some 0) (one_further o)) ≡ true
placed_later true o h = refl
placed_later false o h = placed_further o h

named_in : (y : Bytes) (vs xs : List Bytes) → has_name y (with_names vs xs) ≡ true →
    (has_name y xs ≡ true) ⊎ (is_placed (place_of y vs) ≡ true)
named_in y [] xs h = inl h
named_in y (v ∷ vs) xs h = by (named_in y vs (with_name v xs) h)
  where
    either : (has_name y xs ≡ true) ⊎ (bytes_eq y v ≡ true) → (has_name y xs ≡ true) ⊎ (is_placed (place_of y (v ∷ vs)) ≡ true)
    either (inl k) = inl k
    either (inr k) = inr (ap (λ s. is_placed (cond s (Some 0) (one_further (place_of y vs)))) (same_by y v k))

    by : (has_name y (with_name v xs) ≡ true) ⊎ (is_placed (place_of y vs) ≡ true) →
        (has_name y xs ≡ true) ⊎ (is_placed (place_of y (v ∷ vs)) ≡ true)
    by (inl g) = either (has_with y v xs g)
    by (inr g) = inr (placed_later (same_name y v) (place_of y vs) g)

placed_some : (e : ℕ) (o : Option ℕ) → is_placed o ≡ true → is_some (enum_val e o) ≡ true
placed_some e None h = h
placed_some e (Some n) h = refl

value_there : (es : List EnumTree) (e d : ℕ) (y : Bytes) → has_name y (names_in (slice_get (map names_of es) e)) ≡ true →
    is_some (value_in d y (nth es e)) ≡ true
value_there [] e d y h = h
value_there (en ∷ es) zero d y h = by (named_in y en.values [] h)
  where
    by : (false ≡ true) ⊎ (is_placed (place_of y en.values) ≡ true) → is_some (enum_val d (place_of y en.values)) ≡ true
    by (inl g) = absurd (cc)
    by (inr g) = placed_some d (place_of y en.values) g
value_there (en ∷ es) (suc e) d y h = value_there es e d y h

-- a pattern of an enum that the items name, and of a value that it has, stands for that value
pub pattern_known : (p : Program) (x y : Bytes) (e : ℕ) → look x (item_table p.items) ≡ Some (ref.Enum e) →
    has_name y (names_in (slice_get (enum_values p.items) e)) ≡ true → is_some (pattern_value p x y) ≡ true
pattern_known p x y e h g =
    let there = value_there (enums p.items) e e y
    (subst (λ l. has_name y (names_in (slice_get l e)) ≡ true) (values_map p.items) g) in
    subst (λ o. is_some (named_value p y o) ≡ true) (sym (enum_placed p.items x e h)) there
