-- A class has what its ancestors have, and what may stand for their methods.
use Rattle.std.proofs.Common.{◌≡◌, ℕ, zero, suc, ◌+◌, Bool, true, false, not, ◌&&◌, ◌||◌, List, [], ◌∷◌, map, Option, refl, sym, ap, ◌∙◌}
use Rattle.std.proofs.Common.{subst, arith}
use Rattle.std.specs.Prelude.{Some, None, slice_get}
use std.Path.{fun_ext}
use Rattle.verse_base.proofs.Facts.{and_first, and_second, get_mapped, mapped_get}
use Rattle.verse_tree.specs.ItemTree.{FieldTree, FunTree, ItemTree}
use Rattle.verse_tree.specs.declared.tables.Effects.{Effects}
use Rattle.verse_tree.specs.declared.tables.ClassInfo.{ClassInfo}
use Rattle.verse_rules_types.specs.Types.{Ty, Class, tys}
use Rattle.verse_rules_types.specs.Fitting.{fits, parent_of, is_same, all_same}
use Rattle.verse_names_tables.specs.Functions.{Function}
use Rattle.verse_names_declarations.specs.Known.{Known, known}
use Rattle.verse_names_items.specs.Rules.{is_same_mark, has_same_effects, can_override}
use Rattle.verse_names_items.specs.Tables.{methods_of, class_tables_from}
use Rattle.verse_rules.specs.Made.{made}
use Rattle.verse_rules.specs.Naming.{made_function, made_class}
use Rattle.verse_rules.specs.Sound.{completed}
use Rattle.verse_meaning.specs.Programs.{Program, method_in, method_at}
use Rattle.verse_sorts.specs.Sorts as s
use Rattle.verse_sorts.specs.Sorts.{Sort, Fits, Inherits}
use Rattle.verse_sorts.specs.Typing.{at}
use Rattle.verse_sorts.proofs.Fitting.{fits_itself}
use Rattle.verse_sorts.proofs.Fitting as sorts
use Rattle.verse_sorts_types.specs.SortOf.{sort_of}
use Rattle.verse_sorts_types.proofs.Fitting.{fits_sort, same}
use Rattle.verse_sound_rules.specs.Found.{Signature}
use Rattle.verse_sound_rules.specs.Found as rules
use Rattle.verse_sound_rules.specs.Programs.{Overrides}
use Rattle.verse_accept_classes.specs.Inheriting.{Above, Over}
use Rattle.verse_accept_classes.specs.Inheriting as above
use Rattle.verse_accept_classes.specs.Owners.{Owned, owned}
use Rattle.verse_accept_classes.specs.Referring.{IsMethod}
use Rattle.verse_accept_classes.specs.Referring as items
use Rattle.verse_accept_classes.specs.Laws.{Quiet, FunctionsStand, info_of}
use Rattle.verse_accept_classes.proofs.Methods.{over_on}
use Rattle.verse_accept_classes.proofs.Tables.{of_made, fields_agree_all, parents_are, classes_inherit, methods_owned}
use Rattle.verse_accept_fine.specs.Sorted.{up, made_sort, field_sort, lasts, class_in, signature_of, sorted, program}
use Rattle.verse_accept_fine.proofs.Calls.{class_entry}
use Rattle.verse_accept_fine.proofs.Names.{get_map}

-- ---- lists

map_at : {A B : Type 0} (f : A → B) (xs : List A) (i : ℕ) (y : B) → at (map f xs) i ≡ Some y →
    (x : A) × (slice_get xs i ≡ Some x) × (f x ≡ y)
map_at f [] i y e = cc
map_at f (x ∷ xs) zero y e = (x, refl, (let same : f x ≡ y = cc in same))
map_at f (x ∷ xs) (suc i) y e = map_at f xs i y e

-- ---- marks, and the types of parameters

pub same_mark : (b c : Bool) → is_same_mark b c ≡ true → b ≡ c
same_mark true true h = refl
same_mark true false h = cc
same_mark false true h = cc
same_mark false false h = refl

same_types : (us vs : List Ty) → all_same (tys us) (tys vs) ≡ true → us ≡ vs
same_types [] [] h = refl
same_types [] (v ∷ vs) h = cc
same_types (u ∷ us) [] h = cc
same_types (u ∷ us) (v ∷ vs) h =
    ap (λ x. x ∷ us) (same u v (and_first (is_same u v) _ h)) ∙ ap (λ l. v ∷ l) (same_types us vs (and_second (is_same u v) _ h))

-- the method of a place in the tables of classes, the first of which has the number n
pub table_method : (k : Known) (n : ℕ) (os : List Class) (d m g : ℕ) →
    method_in m (slice_get (map made_class (class_tables_from k n os)) d) ≡ Some g → slice_get (methods_of k (n + d)) m ≡ Some g
table_method k n [] d m g e = cc
table_method k n (o ∷ os) zero m g e =
    ap (λ i. slice_get (methods_of k i) m) (let same : n + 0 ≡ n = omega arith in same) ∙ e
table_method k n (o ∷ os) (suc d) m g e =
    ap (λ i. slice_get (methods_of k i) m) (let same : n + suc d ≡ (n + 1) + d = omega arith in same) ∙ table_method k (n + 1) os d m g e

module _ (is : List ItemTree) (arrays events : ℕ → Bool) (quiet : Quiet is) (functions : FunctionsStand is) where
  abbrev k : Known
  k = known is

  abbrev whole : Program
  whole = program is arrays events

  abbrev found : rules.Found
  found = sorted is

  -- classes inherit as their outlines say
  pub up_is : parent_of k.outline ≡ up is
  up_is = fun_ext (λ c. sym (parents_are is quiet c))

  pub inherits_above : (c d : ℕ) → Above k.outline c d → Inherits (up is) c d
  inherits_above c d above.itself = s.itself
  inherits_above c d (above.further {d = p} e h) = s.above (sym (ap (λ f. f c) up_is) ∙ e) (inherits_above p d h)

  -- ---- fields

  slots_are : (c : ℕ) → found.slots c ≡ map field_sort (map (info_of is) (items.fields_of is c))
  slots_are c = ap (map field_sort) (fields_agree_all is quiet c)

  slot_below : (c p i : ℕ) (q : Sort) → up is c ≡ Some p → at (found.slots p) i ≡ Some q → at (found.slots c) i ≡ Some q
  slot_below c p i q e h =
      let parent : parent_of k.outline c ≡ Some p = ap (λ f. f c) up_is ∙ e in
      let info = map_at field_sort (map (info_of is) (items.fields_of is p)) i q (sym (ap (λ l. at l i) (slots_are p)) ∙ h) in
      let field = mapped_get (info_of is) (items.fields_of is p) i info.0 info.1 in
      let there = (classes_inherit is quiet c p parent).fields i field.0 field.1 in
      ap (λ l. at l i) (slots_are c)
      ∙ get_map field_sort (map (info_of is) (items.fields_of is c)) i (info_of is field.0)
      (get_mapped (info_of is) (items.fields_of is c) i field.0 there)
      ∙ ap (λ x. Some (field_sort x)) field.2 ∙ ap (λ x. Some x) info.2

  pub slots_inherit : (c d i : ℕ) (q : Sort) → Inherits (up is) c d → at (found.slots d) i ≡ Some q → at (found.slots c) i ≡ Some q
  slots_inherit c d i q s.itself h = h
  slots_inherit c d i q (s.above {d = p} e r) h = slot_below c p i q e (slots_inherit p d i q r h)

  -- ---- methods

  -- one signature may stand for another
  record StandsFor (g n : ℕ) : Type 0 where
    params : (found.signature n).params ≡ (found.signature g).params
    result : Fits (up is) (found.signature n).result (found.signature g).result
    decides : (found.signature n).decides ≡ (found.signature g).decides
    lasts : (found.signature n).lasts ≡ (found.signature g).lasts

  abbrev signed : Function → Option ℕ → Signature
  signed f c = signature_of (Some (made_function f)) c

  signature_at : (n : ℕ) (f : Function) → slice_get k.functions n ≡ Some f →
      found.signature n ≡ signed f (class_in (slice_get (owned k.items) n))
  signature_at n f e =
      ap (λ o. signature_of o (class_in (slice_get (owned k.items) n))) (get_mapped made_function k.functions n f e)

  made_fits : (t u : Ty) → fits k.outline t u ≡ true → Fits (up is) (made_sort (made t)) (made_sort (made u))
  made_fits t u h =
      subst (λ f. Fits f (made_sort (made t)) (made_sort (made u))) up_is
      (subst (λ q. Fits (parent_of k.outline) q (made_sort (made u))) (sym (ap sort_of (of_made t)))
      (subst (λ q. Fits (parent_of k.outline) (sort_of t) q) (sym (ap sort_of (of_made u))) (fits_sort k.outline t u h)))

  -- a function that may override another one
  module _ (n h : ℕ) (f g : Function) (own : slice_get k.functions n ≡ Some f) (other : slice_get k.functions h ≡ Some g)
      (fit : can_override k.outline (Some f) (Some g) ≡ true) where
    effects_fit : has_same_effects f.effects g.effects ≡ true
    effects_fit = and_first _ _ (and_second (all_same (tys f.params) (tys g.params)) _ fit)

    over_params : (found.signature n).params ≡ (found.signature h).params
    over_params =
        ap (λ (x : Signature). x.params) (signature_at n f own)
        ∙ ap (λ us. map made_sort (map made us)) (same_types f.params g.params (and_first _ _ fit))
        ∙ sym (ap (λ (x : Signature). x.params) (signature_at h g other))

    over_result : Fits (up is) (found.signature n).result (found.signature h).result
    over_result =
        subst (λ q. Fits (up is) (found.signature n).result q) (sym (ap (λ (x : Signature). x.result) (signature_at h g other)))
        (subst (λ q. Fits (up is) q (made_sort (made g.result))) (sym (ap (λ (x : Signature). x.result) (signature_at n f own)))
        (made_fits f.result g.result
        (and_second (has_same_effects f.effects g.effects) _ (and_second (all_same (tys f.params) (tys g.params)) _ fit))))

    e_computes : f.effects.computes ≡ g.effects.computes
    e_computes = same_mark f.effects.computes g.effects.computes (and_first _ _ effects_fit)

    e_rest : (is_same_mark f.effects.transacts g.effects.transacts && (is_same_mark f.effects.decides g.effects.decides &&
        is_same_mark f.effects.suspends g.effects.suspends)) ≡ true
    e_rest = and_second (is_same_mark f.effects.computes g.effects.computes) _ effects_fit

    e_transacts : f.effects.transacts ≡ g.effects.transacts
    e_transacts = same_mark f.effects.transacts g.effects.transacts (and_first _ _ e_rest)

    e_last : (is_same_mark f.effects.decides g.effects.decides && is_same_mark f.effects.suspends g.effects.suspends) ≡ true
    e_last = and_second (is_same_mark f.effects.transacts g.effects.transacts) _ e_rest

    e_decides : f.effects.decides ≡ g.effects.decides
    e_decides = same_mark f.effects.decides g.effects.decides (and_first _ _ e_last)

    e_suspends : f.effects.suspends ≡ g.effects.suspends
    e_suspends = same_mark f.effects.suspends g.effects.suspends (and_second (is_same_mark f.effects.decides g.effects.decides) _ e_last)

    e_lasts : lasts f.effects ≡ lasts g.effects
    e_lasts =
        ap (λ b. b || not (f.effects.computes || f.effects.transacts)) e_suspends
        ∙ ap (λ b. g.effects.suspends || not (b || f.effects.transacts)) e_computes
        ∙ ap (λ b. g.effects.suspends || not (g.effects.computes || b)) e_transacts

    overrides_one : StandsFor h n
    overrides_one = record {
      params = over_params;
      result = over_result;
      decides = ap (λ (x : Signature). x.decides) (signature_at n f own) ∙ e_decides
          ∙ sym (ap (λ (x : Signature). x.decides) (signature_at h g other));
      lasts = ap (λ (x : Signature). x.lasts) (signature_at n f own) ∙ e_lasts
          ∙ sym (ap (λ (x : Signature). x.lasts) (signature_at h g other));
    }

  can_stand : (n h : ℕ) → can_override k.outline (slice_get k.functions n) (slice_get k.functions h) ≡ true → StandsFor h n
  can_stand n h e = by (slice_get k.functions n) (slice_get k.functions h) refl refl e
    where
      by : (o q : Option Function) → slice_get k.functions n ≡ o → slice_get k.functions h ≡ q → can_override k.outline o q ≡ true →
          StandsFor h n
      by (Some f) (Some g) x y e = overrides_one n h f g x y e
      by None q x y e = absurd (cc)
      by (Some f) None x y e = absurd (cc)

  over_stands : (g n : ℕ) → Over k g n → StandsFor g n
  over_stands g n above.same = record {
    params = refl;
    result = fits_itself (up is) (found.signature n).result;
    decides = refl;
    lasts = refl;
  }
  over_stands g n (above.overrides {h = h} o e) =
      let a = over_stands g h o in
      let b = can_stand n h e in
      record {
        params = b.params ∙ a.params;
        result = sorts.fits_on (up is) b.result a.result;
        decides = b.decides ∙ a.decides;
        lasts = b.lasts ∙ a.lasts;
      }

  -- the method at a place of a class, for that of an ancestor
  pub methods_above : (c d m g : ℕ) → Inherits (up is) c d → slice_get (methods_of k d) m ≡ Some g →
      (n : ℕ) × (slice_get (methods_of k c) m ≡ Some n) × Over k g n
  methods_above c d m g s.itself h = (g, h, above.same)
  methods_above c d m g (s.above {d = p} e r) h =
      let a = methods_above p d m g r h in
      let parent : parent_of k.outline c ≡ Some p = ap (λ f. f c) up_is ∙ e in
      let b = (classes_inherit is quiet c p parent).methods m a.0 a.1 in
      (b.0, b.1, over_on k g a.0 b.0 a.2 b.2)

  pub methods_inherit : (c d g m : ℕ) → Inherits (up is) c d → method_at whole d m ≡ Some g → Overrides whole found c g m
  methods_inherit c d g m r e =
      let at_zero : d ≡ 0 + d = omega arith in
      let a = methods_above c d m g r (ap (λ i. slice_get (methods_of k i) m) at_zero ∙ table_method k 0 k.outline d m g e) in
      let own = methods_owned is quiet c m a.0 a.1 in
      let stands = over_stands g a.0 a.2 in
      let entry : IsMethod is c m = record { number = a.0; there = a.1 } in
      record {
        by = a.0;
        method = ap (method_in m) (class_entry is c m entry) ∙ a.1;
        function = own.tree;
        found = functions.found a.0 (record { class = Some own.class; tree = own.tree }) own.there;
        params = stands.params;
        result = stands.result;
        decides = stands.decides;
        lasts = stands.lasts;
        class = own.class;
        this = this_of a.0 (Some own.class) (ap class_in own.there);
        inherits = inherits_above c own.class own.above;
      }
    where
      this_of : (n : ℕ) (o : Option ℕ) → class_in (slice_get (owned k.items) n) ≡ o → (found.signature n).this ≡ o
      this_of n o q = by (slice_get (completed is).funs n)
        where
          by : (f : Option Rattle.verse_tree.specs.declared.tables.FunInfo.FunInfo) →
              (signature_of f (class_in (slice_get (owned k.items) n))).this ≡ o
          by None = q
          by (Some f) = q
