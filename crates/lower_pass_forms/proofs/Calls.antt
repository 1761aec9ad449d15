-- Calls, spawned ones, members of objects and instances: what the notes have of functions and classes.
use Rattle.std.proofs.Common.{◌≡◌, ℕ, suc, length, List, [], ◌∷◌, Some, true, refl, sym, ◌∙◌, subst, ap}
use Rattle.std.specs.Prelude.{slice_get}
use Rattle.std.proofs.lemmas.Option.{same_Some}
use Rattle.verse_tree.specs.ItemTree.{FunTree}
use Rattle.verse_code.specs.declared.codes.Func.{Func}
use Rattle.verse_code.specs.declared.codes.Class.{Class}
use Rattle.verse_code.specs.declared.codes.Code.{Code}
use Rattle.verse_code.specs.declared.operations.Op.{Op}
use Rattle.verse_code.specs.declared.operations.Op.TheVariants as o
use Rattle.verse_names_tables.specs.Names.{Table}
use Rattle.verse_sorts.specs.Sorts as s
use Rattle.verse_sorts.specs.Sorts.{Sort, Fits, Inherits, itself, fits_obj, fits_task, from_never}
use Rattle.verse_sorts.specs.Typing.{at, AllFit, fit_no, fit_so}
use Rattle.verse_sorts.proofs.Fitting.{fits_on}
use Rattle.verse_sorts_values.specs.Operands.{never_here}
use Rattle.verse_meaning.specs.Programs.{Program, fun_at, method_at}
use Rattle.verse_meaning.specs.Residuals as form
use Rattle.verse_meaning.specs.Residuals.{Form}
use Rattle.verse_sound_rules.specs.Found as rules
use Rattle.verse_sound_rules.specs.Found.{Allowed, Signature}
use Rattle.verse_sound_rules.specs.Forms as takes
use Rattle.verse_sound_rules.specs.Forms.{Takes, Callable, CanBeSpawned}
use Rattle.verse_sound_rules.specs.Programs.{FineFound, Overrides}
use Rattle.verse_verify_kept.specs.Notes.{Notes, ClassNote, FuncNote, parent_of}
use Rattle.verse_verify_kept.specs.Rules as r
use Rattle.verse_verify_kept.specs.Rules.{Asked, MayFail, MayWait, MayCall, Method, method, Slot, slot_obj, AnyNever}
use Rattle.lower_notes.specs.States.{State}
use Rattle.lower_notes.specs.Programs.{signed, with_this}
use Rattle.lower_pass_states.proofs.Points.{pt, Even, over}
use Rattle.lower_pass_states.proofs.Meeting.{Meets}
use Rattle.lower_pass_states.proofs.Steps as step
use Rattle.lower_pass_states.proofs.Steps.{turned, never_over}
use Rattle.lower_pass_states.proofs.Operands.{all_many, never_append, never_turned}
use Rattle.lower_pass_forms.proofs.Applied as applied
use Rattle.lower_pass_forms.proofs.Applied.{noted_found}

-- a function of the code, with its notes
pub record IsFunction (code : Code) (notes : Notes) (g : ℕ) (sig : Signature) : Type 0 where
  pub func : Func
  pub is_func : slice_get code.functions g ≡ Some func
  pub is_note : slice_get notes.functions g ≡ Some (signed sig)
  pub params : func.params ≡ length (with_this sig.this sig.params)

-- what the code and its notes have of a program
pub record Declared (p : Program) (found : rules.Found) (code : Code) (notes : Notes) : Type 0 where
  pub functions : (g : ℕ) (function : FunTree) → fun_at p g ≡ Some function → IsFunction code notes g (found.signature g)
  pub slots : (c i : ℕ) (q : Sort) → at (found.slots c) i ≡ Some q →
      (x : ClassNote) × ((slice_get notes.classes c ≡ Some x) × (x.slots ≡ found.slots c))
  pub methods : (c m g : ℕ) → method_at p c m ≡ Some g →
      (k : Class) × ((slice_get code.classes c ≡ Some k) × (slice_get k.methods m ≡ Some g))

module _ (p : Program) (found : rules.Found) (code : Code) (notes : Notes) (declared : Declared p found code notes)
    (fine : FineFound p (noted_found notes found)) (al : Allowed) (xs : Table) (y : State) (even : Even y) where
  abbrev F : rules.Found
  F = noted_found notes found

  abbrev Fit : Sort → Sort → Type 0
  Fit = Fits (parent_of notes)

  abbrev Each : List Sort → List Sort → Type 0
  Each = AllFit (parent_of notes)

  abbrev Taken : Form → List Sort → Sort → Type 0
  Taken = Takes p F al xs

  -- the method of an object's class, with what its function takes and gives, where one of a class above has been found
  pub record Called (c m : ℕ) (sig : Signature) : Type 0 where
    pub note : FuncNote
    pub method : Method code notes (s.obj c) m note
    pub takes : (has : List Sort) → Each has sig.params → Each (s.obj c ∷ has) note.params
    pub gives : Fit note.result sig.result
    pub fails : note.may_fail ≡ sig.decides
    pub waits : note.may_wait ≡ sig.lasts

  pub called : (c d m g : ℕ) → Inherits (parent_of notes) c d → method_at p d m ≡ Some g → Called c m (found.signature g)
  called c d m g up e = by_override (fine.methods c d g m up e)
    where
      by_override : Overrides p F c g m → Called c m (found.signature g)
      by_override w =
          let there = declared.functions w.by w.function w.found in
          let k = declared.methods c m w.by w.method in
          record {
            note = signed (found.signature w.by);
            method = method k.1.0 k.1.1 there.is_note;
            takes = λ has h. subst (λ t. Each (s.obj c ∷ has) (with_this t (found.signature w.by).params)) (sym w.this)
                (fit_so (fits_obj w.inherits) (subst (Each has) (sym w.params) h));
            gives = w.result;
            fails = w.decides;
            waits = w.lasts;
          }

  module _ {i : ℕ} {q : Sort} (m : Meets code notes (over (q ∷ []) y) (suc i)) where
    abbrev Asks : List Sort → Op → Type 0
    Asks has op = Asked code notes i (pt (over (turned has []) y)) op

    abbrev AsksOf : Sort → List Sort → Op → Type 0
    AsksOf a has op = Asked code notes i (pt (over (turned has (a ∷ [])) y)) op

    -- a field of an object
    pub field_passes : {a b : Sort} (k c : ℕ) → Fit a (s.obj c) → at (found.slots c) k ≡ Some b → Fit b q → Asks (a ∷ []) (o.Load k)
    field_passes k c from_never e f = applied.spared p found code notes al xs y even (fit_so from_never fit_no) never_here
    field_passes {b = b} k c (fits_obj {c = d} up) e f =
        let x = declared.slots d k b (fine.slots d c k b up e) in
        step.load_asked code notes y even m k (slot_obj x.1.0 (subst (λ z. at z k ≡ Some b) (sym x.1.1) (fine.slots d c k b up e))) f

    pub reading_passes : {a g : Sort} {taken : List Sort} (k : ℕ) → Each (a ∷ []) taken → Taken (form.reading k) taken g → Fit g q →
        Asks (a ∷ []) (o.Load k)
    reading_passes k (fit_so a fit_no) (takes.takes_object {c = c} e) f = field_passes k c a e f
    reading_passes k h (takes.takes_never n) f = elim n [ ]

    module _ (fails : al.fails ≡ true → MayFail code notes (pt y)) (waits : al.waits ≡ true → MayWait code notes (pt y)) where
      may_call : (g : ℕ) → Callable p F al xs g → (note : FuncNote) → note.may_fail ≡ (found.signature g).decides →
          note.may_wait ≡ (found.signature g).lasts → MayCall code notes (pt y) note
      may_call g c note e w = record { fails = λ h. fails (c.fails (sym e ∙ h)); waits = λ h. waits (c.waits (sym w ∙ h)) }

      pub call_passes : (k : ℕ) {has taken : List Sort} {g : Sort} → Each has taken → Taken (form.calling k) taken g → Fit g q →
          Asks has (o.Call k)
      call_passes k {has} h (takes.takes_arguments c this) f =
          let there = declared.functions k c.function c.found in
          let sig = found.signature k in
          step.call_asked code notes y even m k has there.is_func there.is_note
          (there.params ∙ ap (λ t. length (with_this t sig.params)) this ∙ sym (all_many code notes h))
          (subst (λ t. Each has (with_this t sig.params)) (sym this) h)
          (may_call k c (signed sig) refl refl) f
      call_passes k h (takes.takes_never n) f = elim n [ ]

      pub own_call_passes : {has taken : List Sort} {g : Sort} (c k n : ℕ) → al.this ≡ Some c → n ≡ length has → Each has taken →
          Taken (form.calling_own k) taken g → Fit g q → AsksOf (s.obj c) has (o.Method k n)
      own_call_passes {has} c k n this e h (takes.takes_own d g is way callable) f =
          let u = called c c k g itself (subst (λ z. method_at p z k ≡ Some g) (same_Some d c (sym is ∙ this)) way) in
          step.method_asked code notes y even m k n has e u.method (u.takes has h)
          (may_call g callable u.note u.fails u.waits) (fits_on (parent_of notes) u.gives f)
      own_call_passes c k n this e h (takes.takes_never z) f = elim z [ ]

      object_called : {a : Sort} {has params : List Sort} (c k n j : ℕ) → n ≡ length has → Fit a (s.obj c) → Each has params →
          params ≡ (found.signature j).params → method_at p c k ≡ Some j → Callable p F al xs j → Fit (found.signature j).result q →
          AsksOf a has (o.Method k n)
      object_called {has = has} c k n j e from_never h w way callable f =
          never_over code notes y even (turned has (s.never ∷ [])) (never_append (turned has (s.never ∷ [])) (pt y).stack
          (never_turned (s.never ∷ has) [] r.first_never))
      object_called {has = has} c k n j e (fits_obj {c = d} up) h w way callable f =
          let u = called d c k j up way in
          step.method_asked code notes y even m k n has e u.method (u.takes has (subst (Each has) w h))
          (may_call j callable u.note u.fails u.waits) (fits_on (parent_of notes) u.gives f)

      pub method_passes : {a g : Sort} {has taken : List Sort} (k n : ℕ) → n ≡ length has → Each (a ∷ has) taken →
          Taken (form.calling_method k) taken g → Fit g q → AsksOf a has (o.Method k n)
      method_passes k n e (fit_so a h) (takes.takes_method {c = c} j way callable) f = object_called c k n j e a h refl way callable f
      method_passes k n e h (takes.takes_never z) f = elim z [ ]

      -- ---- spawned calls

      pub spawn_passes : (k : ℕ) {has taken : List Sort} {g : Sort} → Each has taken → Taken (form.spawning k) taken g → Fit g q →
          Asks has (o.Spawn k)
      spawn_passes k {has} h (takes.takes_spawned c this) f =
          let there = declared.functions k c.function c.found in
          let sig = found.signature k in
          step.spawn_asked code notes y even m (waits c.waits) k has there.is_func there.is_note
          (there.params ∙ ap (λ t. length (with_this t sig.params)) this ∙ sym (all_many code notes h))
          (subst (λ t. Each has (with_this t sig.params)) (sym this) h) c.decides f
      spawn_passes k h (takes.takes_never n) f = elim n [ ]

      pub own_spawn_passes : {has taken : List Sort} {g : Sort} (c k n : ℕ) → al.this ≡ Some c → n ≡ length has → Each has taken →
          Taken (form.spawning_own k) taken g → Fit g q → AsksOf (s.obj c) has (o.SpawnMethod k n)
      own_spawn_passes {has} c k n this e h (takes.takes_spawned_own d g is way spawned) f =
          let u = called c c k g itself (subst (λ z. method_at p z k ≡ Some g) (same_Some d c (sym is ∙ this)) way) in
          step.spawn_method_asked code notes y even m (waits spawned.waits) k n has e u.method (u.takes has h)
          (u.fails ∙ spawned.decides) (fits_on (parent_of notes) (fits_task u.gives) f)
      own_spawn_passes c k n this e h (takes.takes_never z) f = elim z [ ]

      object_spawned : {a : Sort} {has params : List Sort} (c k n j : ℕ) → n ≡ length has → Fit a (s.obj c) → Each has params →
          params ≡ (found.signature j).params → method_at p c k ≡ Some j → CanBeSpawned p F al xs j →
          Fit (s.task (found.signature j).result) q → AsksOf a has (o.SpawnMethod k n)
      object_spawned {has = has} c k n j e from_never h w way spawned f =
          never_over code notes y even (turned has (s.never ∷ [])) (never_append (turned has (s.never ∷ [])) (pt y).stack
          (never_turned (s.never ∷ has) [] r.first_never))
      object_spawned {has = has} c k n j e (fits_obj {c = d} up) h w way spawned f =
          let u = called d c k j up way in
          step.spawn_method_asked code notes y even m (waits spawned.waits) k n has e u.method (u.takes has (subst (Each has) w h))
          (u.fails ∙ spawned.decides) (fits_on (parent_of notes) (fits_task u.gives) f)

      pub spawn_method_passes : {a g : Sort} {has taken : List Sort} (k n : ℕ) → n ≡ length has → Each (a ∷ has) taken →
          Taken (form.spawning_method k) taken g → Fit g q → AsksOf a has (o.SpawnMethod k n)
      spawn_method_passes k n e (fit_so a h) (takes.takes_spawned_method {c = c} j way spawned) f =
          object_spawned c k n j e a h refl way spawned f
      spawn_method_passes k n e h (takes.takes_never z) f = elim z [ ]
