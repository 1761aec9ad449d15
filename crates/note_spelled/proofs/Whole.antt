-- What is found of an accepted program is spelled, by the types that it has.
use Rattle.std.proofs.Common.{◌≡◌, ℕ, zero, suc, ◌+◌, ◌-◌, ◌<◌, ◌≤◌, List, [], ◌∷◌, ◌++◌, map, length, Option, Some, None, All, refl, sym}
use Rattle.std.proofs.Common.{ap, ◌∙◌}
use Rattle.std.proofs.Common.{subst, arith}
use Rattle.std.specs.Prelude.{slice_get}
use Rattle.std.proofs.lemmas.List.Elements.{All-nil, All-map, All-weaker}
use Rattle.std.proofs.lemmas.Option.{same_Some, none-some, slice_get_within}
use Rattle.verse_tree.specs.Tree.{Bytes}
use Rattle.verse_tree.specs.ItemTree.{EnumTree, MemberTree, field, method, ItemTree, using, enumeration, class, function}
use Rattle.verse_tree.specs.ItemView.{item_of}
use Rattle.verse_tree.specs.declared.programs.Program.{Program as Made}
use Rattle.verse_tree.specs.declared.tables.Ty.{Ty as MadeTy}
use Rattle.verse_tree.specs.declared.tables.FieldInfo.{FieldInfo}
use Rattle.verse_tree.specs.declared.tables.FunInfo.{FunInfo}
use Rattle.verse_tree.specs.declared.tables.ClassInfo.{ClassInfo}
use Rattle.verse_rules_types.specs.Types.{Ty, ty_of}
use Rattle.verse_names_tables.specs.Counting.{counted, counts_after, no_counts}
use Rattle.verse_names_tables.specs.declared.counting.Counts.{Counts}
use Rattle.verse_names_tables.specs.Notes.{notes}
use Rattle.verse_names_declarations.specs.Known.{known}
use Rattle.verse_check_typing.specs.Members.{fields_in}
use Rattle.verse_check_typing.specs.Facts.{type_at}
use Rattle.verse_check_typing.specs.Loops.{index_of}
use Rattle.verse_rules.specs.Sound.{completed, types_of}
use Rattle.verse_value.specs.Val.{Val, enum}
use Rattle.verse_meaning.specs.Programs.{enums, place_of, enum_val, value_in}
use Rattle.verse_meaning_state.specs.Waits.{nth}
use Rattle.verse_meaning_state.proofs.Numbers.{nth_is}
use Rattle.verse_code.specs.declared.codes.Code.{Code}
use Rattle.verse_sorts.specs.Sorts.{Sort}
use Rattle.verse_sorts_types.specs.SortOf.{sort_of}
use Rattle.verse_verify_bytes.specs.Suits.{IsNumber, IsSort}
use Rattle.verse_accept_classes.specs.Owners.{Owned, methods_owned, item_owned, owned}
use Rattle.verse_accept_fine.specs.Sorted.{made_sort, field_sort, class_in, signature_of, sorted}
use Rattle.verse_accept_types.specs.Laws.{Told, MadeTold, FieldTold, TypesTold, AcceptedTypes}
use Rattle.verse_accept_types.proofs.Declared.{get_both}
use Rattle.verse_accept_types.proofs.Refs.{enums_count, notes_count, enums_many}
use Rattle.note_spelled.specs.Laws.{AreSpelled, AcceptedSpelled, AcceptedEnums}
use Rattle.note_spelled.proofs.Sorts.{any_spelled, sort_spelled}

-- ---- the classes of methods

module _ (all : ℕ) where
  abbrev Within : Owned → Type 0
  Within o = (k : ℕ) → o.class ≡ Some k → k < all

  methods_within : (c : ℕ) → c < all → (ms : List MemberTree) (i : ℕ) (o : Owned) → slice_get (methods_owned c ms) i ≡ Some o → Within o
  methods_within c l [] i o e = elim (none-some o e) [ ]
  methods_within c l (field d ∷ ms) i o e = methods_within c l ms i o e
  methods_within c l (method f ∷ ms) zero o e = subst Within (same_Some _ o e) (λ k h. subst (λ n. n < all) (same_Some c k h) l)
  methods_within c l (method f ∷ ms) (suc i) o e = methods_within c l ms i o e

  function_within : (i : ℕ) (o own : Owned) → own.class ≡ None → slice_get (own ∷ []) i ≡ Some o → Within o
  function_within zero o own n e = subst Within (same_Some own o e) (λ k h. elim (none-some k (sym n ∙ h)) [ ])
  function_within (suc i) o own n e = elim (none-some o e) [ ]

  owned_within : (n : Counts) (is : List ItemTree) → n.classes + length (notes (counted n is)) ≤ all → (i : ℕ) (o : Owned) →
      slice_get (owned (counted n is)) i ≡ Some o → Within o
  owned_within n [] h i o e = elim (none-some o e) [ ]
  owned_within n (using u ∷ is) h i o e = owned_within n is h i o e
  owned_within n (enumeration d ∷ is) h i o e = owned_within (counts_after (enumeration d) n) is h i o e
  owned_within n (class d ∷ is) h i o e =
      get_both Within (methods_owned n.classes d.members) (owned (counted (counts_after (class d) n) is))
      (methods_within n.classes (omega (arith, h)) d.members)
      (owned_within (counts_after (class d) n) is (omega (arith, h))) i o e
  owned_within n (function f ∷ is) h i o e =
      get_both Within (item_owned (function f) n) (owned (counted (counts_after (function f) n) is))
      (λ j p q. function_within j p (record { class = None; tree = f }) refl q)
      (owned_within (counts_after (function f) n) is h) i o e

-- ---- an accepted program

module _ (is : List ItemTree) (told : TypesTold is) (c : Code) (same : length c.classes ≡ length (completed is).classes) (levels : ℕ)
    (deep : 32 ≤ levels) where
  abbrev Spelled : Sort → Type 0
  Spelled = IsSort c levels

  of_type : (u : Ty) → Told is u → Spelled (sort_of u)
  of_type u h = sort_spelled c (length (completed is).classes) (length (completed is).enums) same told.enums 32 levels u deep h

  slots_of : (k : Option ClassInfo) → ((x : ClassInfo) → k ≡ Some x → All (FieldTold is) x.fields) →
      All Spelled (map field_sort (fields_in k))
  slots_of None h = All-nil Spelled
  slots_of (Some x) h =
      All-map Spelled field_sort x.fields
      (All-weaker (FieldTold is) (λ d. Spelled (field_sort d)) (λ d g. of_type (ty_of d.ty) g) x.fields (h x refl))

  params_of : (i : Option FunInfo) (k : Option ℕ) → ((x : FunInfo) → i ≡ Some x → All (MadeTold is) x.params) →
      All Spelled (signature_of i k).params
  params_of None k h = All-nil Spelled
  params_of (Some x) k h =
      All-map Spelled made_sort x.params
      (All-weaker (MadeTold is) (λ u. Spelled (made_sort u)) (λ u g. of_type (ty_of u) g) x.params (h x refl))

  result_of : (i : Option FunInfo) (k : Option ℕ) → ((x : FunInfo) → i ≡ Some x → MadeTold is x.result) →
      Spelled (signature_of i k).result
  result_of None k h = any_spelled c levels deep
  result_of (Some x) k h = of_type (ty_of x.result) (h x refl)

  this_is : (i : Option FunInfo) (o : Option ℕ) (k : ℕ) → (signature_of i o).this ≡ Some k → o ≡ Some k
  this_is None o k e = e
  this_is (Some x) o k e = e

  class_is : (o : Option Owned) (k : ℕ) → class_in o ≡ Some k → (p : Owned) × (o ≡ Some p) × (p.class ≡ Some k)
  class_is None k e = elim (none-some k e) [ ]
  class_is (Some p) k e = (p, refl, e)

  abbrev owner : ℕ → Option ℕ
  owner g = class_in (slice_get (owned (known is).items) g)

  this_within : (g k : ℕ) → ((sorted is).signature g).this ≡ Some k → k < length c.classes
  this_within g k e =
      let o = class_is (slice_get (owned (known is).items) g) k (this_is (slice_get (completed is).funs g) (owner g) k e) in
      let few : 0 + length (known is).notes ≤ length c.classes = omega (arith, notes_count is, same) in
      owned_within (length c.classes) no_counts is few g o.0 o.1 k o.2

  spelled : AreSpelled c levels (sorted is)
  spelled = record {
    sort = λ n. of_type (type_at (types_of is) n) (told.found n);
    key = λ n. of_type (index_of (type_at (types_of is) (n - 1))) (told.index (n - 1));
    slots = λ k. slots_of (slice_get (completed is).classes k) (told.fields k);
    params = λ g. params_of (slice_get (completed is).funs g) (owner g) (told.params g);
    result = λ g. result_of (slice_get (completed is).funs g) (owner g) (told.result g);
    this = this_within;
  }

pub accepted_spelled : AcceptedTypes → AcceptedSpelled
accepted_spelled types files made a c same levels deep = spelled (map item_of made.tree.items) (types files made a) c same levels deep

-- ---- enums

enum_is : (e k i : ℕ) (o : Option ℕ) → enum_val e o ≡ Some (enum k i) → e ≡ k
enum_is e k i None h = elim (none-some (enum k i) h) [ ]
enum_is e k i (Some j) h = cc

value_within : (is : List ItemTree) (e k i : ℕ) (x : Bytes) (o : Option EnumTree) → slice_get (enums is) e ≡ o →
    value_in e x o ≡ Some (enum k i) → k < length (enums is)
value_within is e k i x None there h = elim (none-some (enum k i) h) [ ]
value_within is e k i x (Some d) there h =
    subst (λ n. n < length (enums is)) (enum_is e k i (place_of x d.values) h) (slice_get_within (enums is) e d there)

pub accepted_enums : AcceptedTypes → AcceptedEnums
accepted_enums types files made a e k i x h =
    let is : List ItemTree = map item_of made.tree.items in
    let low : k < length (enums is) = value_within is e k i x (nth (enums is) e) (sym (nth_is (enums is) e)) h in
    let few : enums_count is ≤ 4294967295 = (types files made a).enums in
    omega (arith, low, enums_many is, few)
