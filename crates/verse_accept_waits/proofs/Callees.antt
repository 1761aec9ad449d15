-- What is called where nothing may wait does not suspend.
use Rattle.std.proofs.Common.{◌≡◌, ℕ, ◌+◌, Bool, true, false, List, [], Option, refl}
use Rattle.std.proofs.Common.{sym, ap, ◌∙◌}
use Rattle.std.proofs.Common.{subst, arith}
use Rattle.std.specs.Prelude.{Some, None, slice_get}
use Rattle.std.proofs.lemmas.Option.{same_Some}
use Rattle.verse_base.specs.declared.places.Place.{Place}
use Rattle.verse_base.proofs.Facts.{and_first, and_second, get_mapped}
use Rattle.verse_tree.specs.Tree.{Tree}
use Rattle.verse_tree.specs.ItemTree.{ItemTree}
use Rattle.verse_rules_types.specs.Types.{Ty, tys}
use Rattle.verse_rules_types.specs.Fitting.{all_same}
use Rattle.verse_rules_walk.specs.Around.{Around}
use Rattle.verse_names_tables.specs.Names.{Table}
use Rattle.verse_names_tables.specs.Functions.{Function}
use Rattle.verse_names_declarations.specs.Known.{Known, known}
use Rattle.verse_names_items.specs.Rules.{is_same_mark, has_same_effects, can_override}
use Rattle.verse_names_items.specs.Tables.{methods_of}
use Rattle.verse_names_scopes.specs.Visible.{World}
use Rattle.verse_check_typing.specs.Callees as types
use Rattle.verse_effects.specs.Callees.{call_suspends}
use Rattle.verse_rules.specs.Naming.{made_function}
use Rattle.verse_meaning.specs.Programs.{Program, method_in, method_at}
use Rattle.verse_meaning.specs.Residuals.{Form}
use Rattle.verse_meaning.specs.Evaluating.{Callee, spawned_callee}
use Rattle.verse_sorts.specs.Sorts as s
use Rattle.verse_sorts.specs.Sorts.{Sort, Fits, fits_obj, Inherits}
use Rattle.verse_sound_rules.specs.Found.{Allowed}
use Rattle.verse_sound_rules.specs.Found as rules
use Rattle.verse_sound_rules.specs.Fine.{object_sort}
use Rattle.verse_sound_waits.specs.Waits.{FormStays, CalleeStays, no_object, object_stays}
use Rattle.verse_accept_classes.specs.Inheriting.{Over}
use Rattle.verse_accept_classes.specs.Inheriting as above
use Rattle.verse_accept_classes.specs.Owners.{Owned}
use Rattle.verse_accept_classes.specs.Laws.{Quiet, FunctionsStand}
use Rattle.verse_accept_fine.specs.Sorted.{up, sorted, program, Allows}
use Rattle.verse_accept_fine.proofs.Calls.{Calls, class_entry, and_true}
use Rattle.verse_accept_fine.proofs.Calls as calls
use Rattle.verse_accept_forms.proofs.CalleeKinds.{Kind, IsFixed, is_function, is_own, is_method, is_print, is_floor}
use Rattle.verse_accept_forms.proofs.CalleeKinds.{is_ceiling, is_modulo, is_task, is_event, is_signal, is_nowhere}
use Rattle.verse_accept_forms.proofs.CalleeKinds.{as_value, is_item, is_fixed, effects_of}
use Rattle.verse_accept_sound.proofs.Inheriting.{same_mark, table_method, methods_above}
use Rattle.verse_accept_waits.specs.Suspending.{suspends_in, suspending}

no : {A : Type 0} → true ≡ false → A
no h = cc

inherits_of : (f : ℕ → Option ℕ) {a b : Sort} (c d : ℕ) → a ≡ s.obj c → b ≡ s.obj d → Fits f a b → Inherits f c d
inherits_of f c d e h (fits_obj {c = c1} {d = d1} i) = subst (λ z. Inherits f z d) (obj c1 c e)
    (subst (λ z. Inherits f c1 z) (obj d1 d h) i)
  where
    obj : (x y : ℕ) → s.obj x ≡ s.obj y → x ≡ y
    obj x y same = cc
inherits_of f c d e h i = cc

module _ (is : List ItemTree) (arrays events : ℕ → Bool) (quiet : Quiet is) (functions : FunctionsStand is) where
  abbrev k : Known
  k = known is

  abbrev whole : Program
  whole = program is arrays events

  abbrev found : rules.Found
  found = sorted is

  -- ---- what overrides a function suspends where that does

  suspends_as : (n : ℕ) (f : Function) → slice_get k.functions n ≡ Some f → suspending is n ≡ f.effects.suspends
  suspends_as n f e = ap suspends_in (get_mapped made_function k.functions n f e)

  overrides_as : (n h : ℕ) (o q : Option Function) → slice_get k.functions n ≡ o → slice_get k.functions h ≡ q →
      can_override k.outline o q ≡ true → suspending is n ≡ suspending is h
  overrides_as n h (Some f) (Some g) x y fit =
      let effects = and_first (has_same_effects f.effects g.effects) _
      (and_second (all_same (tys f.params) (tys g.params)) _ fit) in
      let rest = and_second (is_same_mark f.effects.computes g.effects.computes) _ effects in
      let last = and_second (is_same_mark f.effects.transacts g.effects.transacts) _ rest in
      suspends_as n f x
      ∙ same_mark f.effects.suspends g.effects.suspends (and_second (is_same_mark f.effects.decides g.effects.decides) _
      last)
      ∙ sym (suspends_as h g y)
  overrides_as n h None q x y fit = absurd (cc)
  overrides_as n h (Some f) None x y fit = absurd (cc)

  over_as : (g n : ℕ) → Over k g n → suspending is n ≡ suspending is g
  over_as g n above.same = refl
  over_as g n (above.overrides {h = h} o e) =
      overrides_as n h (slice_get k.functions n) (slice_get k.functions h) refl refl e ∙ over_as g h o

  in_table : (d m g : ℕ) → method_at whole d m ≡ Some g → slice_get (methods_of k d) m ≡ Some g
  in_table d m g e =
      let at_zero : d ≡ 0 + d = omega arith in
      ap (λ i. slice_get (methods_of k i) m) at_zero ∙ table_method k 0 k.outline d m g e

  pub same_suspending : (c d g by m : ℕ) → Inherits (up is) c d → method_at whole d m ≡ Some g →
      method_at whole c m ≡ Some by → suspending is by ≡ suspending is g
  same_suspending c d g by m r e h =
      let a = methods_above is arrays events quiet functions c d m g r (in_table d m g e) in
      ap (suspending is) (same_Some by a.0 (sym (in_table c m by h) ∙ a.1)) ∙ over_as g a.0 a.2

  -- ---- callees

  module _ (w : World) (a : Around) (xs : Table) (b : Allowed) (allows : Allows is w a b) (n : ℕ) (p : Place) where
    abbrev Stay : Callee → Tree → Type 0
    Stay h e = CalleeStays whole found (suspending is) w.class h (object_sort whole found e)

    does_not : (e : Tree) (g : ℕ) (o : Owned) → Calls is arrays events w a xs b allows n p e g o →
        call_suspends false (effects_of is arrays events e) ≡ false → suspending is g ≡ false
    does_not e g o made h =
        let info = calls.info_of is arrays events o in
        ap suspends_in (functions.info g o made.there) ∙ sym (and_true info.effects.suspends)
        ∙ sym (ap (call_suspends false) made.effects) ∙ h

    pub callee_stays : (e : Tree) (y : Form) (pl : Place) → FormStays whole found (suspending is) w.class y [] →
        call_suspends false (effects_of is arrays events e) ≡ false →
        ((u : Ty) → IsFixed u → types.callee_of (Rattle.verse_accept_rows.specs.Found.final is) e ≡ types.value u → ⊥) →
        {h : Callee} → Kind is arrays events w a xs b allows n p e y pl h → Stay h e
    callee_stays e y pl own h fixed (is_function g f k) = does_not e g _ k h
    callee_stays e y pl own h fixed (is_own d i f o this k) = λ c g same at.
        ap (suspending is) (same_Some g f.number (sym at ∙ ap (λ z. method_at whole z i) (same_Some c d (sym same ∙ this))
        ∙ ap (method_in i) (class_entry is d i f) ∙ f.there)) ∙ does_not e f.number o k h
    callee_stays e y pl own h fixed (is_method d i f o has same k) = object_stays (λ c g fits at.
        sym (same_suspending d c g f.number i (inherits_of (up is) d c same refl fits) at
        (ap (method_in i) (class_entry is d i f) ∙ f.there)) ∙ does_not e f.number o k h)
    callee_stays e y pl own h fixed (is_print g f) = tt
    callee_stays e y pl own h fixed (is_floor g f) = tt
    callee_stays e y pl own h fixed (is_ceiling g f) = tt
    callee_stays e y pl own h fixed (is_modulo g f) = tt
    callee_stays e y pl own h fixed (is_task u has same g f) = no (sym (ap (call_suspends false) f) ∙ h)
    callee_stays e y pl own h fixed (is_event u has same g f) = no (sym (ap (call_suspends false) f) ∙ h)
    callee_stays e y pl own h fixed (is_signal u has same g f) = object_stays tt
    callee_stays e y pl own h fixed (is_nowhere x q has same g) = no_object same
    callee_stays e y pl own h fixed (as_value v has) = own
    callee_stays e y pl own h fixed (is_item g) = own
    callee_stays e y pl own h fixed (is_fixed u f g q) = absurd (fixed u f g)

    -- one whose call is spawned
    pub spawned_stays : (e : Tree) (y : Form) (pl : Place) → call_suspends true (effects_of is arrays events e) ≡ false
        →
        ((u : Ty) → IsFixed u → types.callee_of (Rattle.verse_accept_rows.specs.Found.final is) e ≡ types.value u → ⊥) →
        {h : Callee} → Kind is arrays events w a xs b allows n p e y pl h → Stay (spawned_callee h) e
    spawned_stays e y pl h fixed (is_function g f k) = tt
    spawned_stays e y pl h fixed (is_own d i f o this k) = tt
    spawned_stays e y pl h fixed (is_method d i f o has same k) = object_stays tt
    spawned_stays e y pl h fixed (is_print g f) = tt
    spawned_stays e y pl h fixed (is_floor g f) = tt
    spawned_stays e y pl h fixed (is_ceiling g f) = tt
    spawned_stays e y pl h fixed (is_modulo g f) = tt
    spawned_stays e y pl h fixed (is_task u has same g f) = no (sym (ap (call_suspends true) f) ∙ h)
    spawned_stays e y pl h fixed (is_event u has same g f) = no (sym (ap (call_suspends true) f) ∙ h)
    spawned_stays e y pl h fixed (is_signal u has same g f) = object_stays tt
    spawned_stays e y pl h fixed (is_nowhere x q has same g) = no_object same
    spawned_stays e y pl h fixed (as_value v has) = tt
    spawned_stays e y pl h fixed (is_item g) = tt
    spawned_stays e y pl h fixed (is_fixed u f g q) = absurd (fixed u f g)
