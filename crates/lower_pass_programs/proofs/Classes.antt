-- The rules of classes: a class has the slots and the methods of its parent.
use Rattle.std.proofs.Common.{◌≡◌, ℕ, suc, List, [], ◌∷◌, ◌++◌, Option, Some, Bool, refl, sym, ap, ap₂, ◌∙◌, subst}
use Rattle.std.specs.Prelude.{slice_get}
use Rattle.std.proofs.lemmas.Option.{same_Some, none-some}
use Rattle.verse_code.specs.declared.codes.Class.{Class}
use Rattle.verse_code.specs.declared.codes.Code.{Code}
use Rattle.verse_sorts.specs.Sorts as s
use Rattle.verse_sorts.specs.Sorts.{Sort, Fits, Inherits, itself, above, fits_obj}
use Rattle.verse_sorts.specs.Typing.{at}
use Rattle.verse_meaning.specs.Programs.{Program, method_at}
use Rattle.verse_sound_rules.specs.Found.{Found}
use Rattle.verse_sound_rules.specs.Programs.{FineFound, Overrides}
use Rattle.verse_verify_kept.specs.Notes.{Notes, ClassNote, FuncNote, parent_of}
use Rattle.verse_verify_kept.specs.Rules as r
use Rattle.verse_verify_kept.specs.Rules.{rest_of}
use Rattle.lower_notes.specs.Programs.{signed, with_this}
use Rattle.lower_simulation_runs.specs.Programs.{NumbersAgree}
use Rattle.lower_pass_forms.proofs.Applied.{noted_found}
use Rattle.lower_pass_programs.proofs.Telling.{Told}
use Rattle.lower_pass_programs.proofs.Declared as declared
use Rattle.lower_pass_programs.proofs.Declared.{noted_class, class_at, class_is, method_of, method_there, is_function}
use Rattle.lower_pass_programs.proofs.Inheriting.{up_at}

-- what has all that another list has begins with it
begins_with : {A : Type 0} (xs ys : List A) → ((i : ℕ) (q : A) → at ys i ≡ Some q → at xs i ≡ Some q) →
    (more : List A) × (xs ≡ ys ++ more)
begins_with xs [] h = (xs, refl)
begins_with [] (y ∷ ys) h = elim (none-some _ (h 0 y refl)) [ ]
begins_with (x ∷ xs) (y ∷ ys) h =
    let k = begins_with xs ys (λ i. h (suc i)) in
    (k.0, ap₂ (λ z zs. z ∷ zs) (same_Some _ _ (h 0 y refl)) k.1)

with_object : (t : Option ℕ) (c : ℕ) (qs : List Sort) → t ≡ Some c → with_this t qs ≡ s.obj c ∷ qs
with_object t c qs e = ap (λ t. with_this t qs) e

module _ (p : Program) (found : Found) (differ : ℕ → ℕ → Bool) (files : ℕ) (numbers : NumbersAgree p) (told : Told p found)
    (fine : FineFound p (noted_found (declared.notes p found differ files) found)) where
  abbrev code : Code
  code = declared.code p found differ files

  abbrev notes : Notes
  notes = declared.notes p found differ files

  abbrev F : Found
  F = noted_found notes found

  abbrev Up : ℕ → Option ℕ
  Up = parent_of notes

  -- the method of a place of a class, with its note
  record Stands (c m g : ℕ) : Type 0 where
    is_note : slice_get notes.functions g ≡ Some (signed (found.signature g))
    class : ℕ
    this : (found.signature g).this ≡ Some class
    inherits : Inherits Up c class

  stands : (c m g : ℕ) → method_at p c m ≡ Some g → Stands c m g
  stands c m g e = by (fine.methods c c g m itself e)
    where
      by : Overrides p F c g m → Stands c m g
      by w = subst (Stands c m) (same_Some _ _ (sym w.method ∙ e)) (record {
        is_note = (is_function p found differ files numbers told w.by w.function w.found).is_note;
        class = w.class;
        this = w.this;
        inherits = w.inherits;
      })

  params_of : {c m g : ℕ} (k : Stands c m g) →
      (signed (found.signature g)).params ≡ s.obj k.class ∷ (found.signature g).params
  params_of {g = g} k = with_object (found.signature g).this k.class (found.signature g).params k.this

  overriding : (c m j : ℕ) (w : Overrides p F c j m) → Stands c m w.by → {d : ℕ} → Stands d m j →
      r.Overrides code notes (signed (found.signature w.by)) (signed (found.signature j))
  overriding c m j w k l = record {
    params = ap rest_of (params_of k) ∙ w.params ∙ sym (ap rest_of (params_of l));
    result = w.result;
    fails = λ e. sym w.decides ∙ e;
    waits = λ e. sym w.lasts ∙ e;
  }

  pub class_stands : (k : ℕ) (x : ClassNote) (made : Class) → slice_get notes.classes k ≡ Some x →
      slice_get code.classes k ≡ Some made →
      r.ClassIs code notes k x made
  class_stands k x made e h = record {
    slots = slots;
    parent = λ b i. (noted_class found b, class_at p found differ files b (told.above k b (up_is b i)));
    inherited = inherited;
    own = own;
  }
    where
      is : noted_class found k ≡ x
      is = class_is p found differ files k x e

      up_is : (b : ℕ) → x.parent ≡ Some b → found.up k ≡ Some b
      up_is b i = ap (λ (z : ClassNote). z.parent) is ∙ i

      below : (b : ℕ) → x.parent ≡ Some b → Inherits Up k b
      below b i = above (sym (up_at p found differ files told k) ∙ up_is b i) itself

      slots : (b : ℕ) (y : ClassNote) → x.parent ≡ Some b → slice_get notes.classes b ≡ Some y →
          (more : List Sort) × (x.slots ≡ y.slots ++ more)
      slots b y i l =
          let other = class_is p found differ files b y l in
          subst (λ (z : ClassNote). (more : List Sort) × (x.slots ≡ z.slots ++ more)) other
          (subst (λ (z : ClassNote). (more : List Sort) × (z.slots ≡ found.slots b ++ more)) is
          (begins_with (found.slots k) (found.slots b) (λ j q. fine.slots k b j q (below b i))))

      inherited : (b : ℕ) (other : Class) (m j : ℕ) (g : FuncNote) → x.parent ≡ Some b →
          slice_get code.classes b ≡ Some other → slice_get other.methods m ≡ Some j →
          slice_get notes.functions j ≡ Some g → (i : ℕ) × (f : FuncNote) ×
          (slice_get made.methods m ≡ Some i) × (slice_get notes.functions i ≡ Some f) ×
          r.Overrides code notes f g
      inherited b other m j g i l way note =
          let at_b = method_of p found differ files b m j other l way in
          let w = fine.methods k b j m (below b i) at_b in
          let there = method_there p found differ files k m w.by w.method in
          let has = stands b m j at_b in
          let own = stands k m w.by w.method in (
            w.by,
            signed (found.signature w.by),
            subst (λ (z : Class). slice_get z.methods m ≡ Some w.by) (same_Some _ _ (sym there.1.0 ∙ h)) there.1.1,
            own.is_note,
            subst (λ (z : FuncNote). r.Overrides code notes (signed (found.signature w.by)) z)
                (same_Some _ _ (sym has.is_note ∙ note)) (overriding k m j w own has),
          )

      own : (m j : ℕ) (g : FuncNote) → slice_get made.methods m ≡ Some j → slice_get notes.functions j ≡ Some g →
          (first : Sort) × (g.params ≡ first ∷ rest_of g.params) × r.Fit code notes (s.obj k) first
      own m j g way note =
          let has = stands k m j (method_of p found differ files k m j made h way) in
          subst (λ (z : FuncNote). (first : Sort) × (z.params ≡ first ∷ rest_of z.params) ×
          r.Fit code notes (s.obj k) first) (same_Some _ _ (sym has.is_note ∙ note)) (
            s.obj has.class,
            params_of has ∙ ap (λ qs. s.obj has.class ∷ rest_of qs) (sym (params_of has)),
            fits_obj has.inherits,
          )
