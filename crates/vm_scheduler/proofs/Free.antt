-- Frames without handlers and noted places.
use Rattle.std.proofs.Common.{◌≡◌, inl, inr, ℕ, true, false, List, [], ◌∷◌, length, map, refl, sym, ap, subst, ◌∙◌, arith}
use Rattle.verse_base.proofs.Facts.{no_items}
use Rattle.verse_value.specs.Val.{Val}
use Rattle.verse_meaning_state.specs.State.{Memory}
use Rattle.verse_code_machine.specs.Tasks.{Note, Handler, Frame}
use Rattle.verse_code_machine.specs.Frames.{free}
use Rattle.fiber.specs.Frames as fiber
use Rattle.vm_frames.specs.Framed.{Framed}
use Rattle.vm_frames.specs.Calls.{pushed}
use Rattle.vm_frames.specs.Machine.{note_of, handlers_with, frames_with, handlers_in, beyond, all_free}
use Rattle.vm_frames.proofs.Whole.{free_below}
use Rattle.vm_running.specs.Views.{View, Aside, Ready, frames_of, memories}
use Rattle.vm_scheduler.specs.Frames.{birth, birth_of, NotGone, GoneFirst, EachKeeps, NoneGone, Closing, holds, is_guarded, AllAbove}
use Rattle.vm_scheduler.specs.Standing.{Bare}

pub free_parts : (hs : List Handler) (ns : List Note) (fs : List Frame) → free hs ns fs ≡ true →
    (hs ≡ []) × (ns ≡ []) × (all_free fs ≡ true)
free_parts (h ∷ hs) ns fs e = absurd (cc)
free_parts [] (n ∷ ns) fs e = absurd (cc)
free_parts [] [] [] e = (refl, refl, refl)
free_parts [] [] (f ∷ fs) e = (refl, refl, e)

none_with : (born : ℕ) (hs : List fiber.Handler) (ms : List Memory) → handlers_with born hs ms ≡ [] → length hs ≡ 0
none_with born [] ms e = refl
none_with born (h ∷ hs) ms e = absurd (cc)

pub no_handlers : (fs : List Framed) (ms : List Memory) → all_free (frames_with fs ms) ≡ true → handlers_in fs ≡ 0
no_handlers [] ms e = refl
no_handlers (f ∷ fs) ms e =
    let p = free_parts (handlers_with f.born f.frame.handlers ms) (map note_of f.frame.noted)
    (frames_with fs (beyond f.frame.handlers ms)) e in
    omega (arith, none_with f.born f.frame.handlers ms p.0, no_handlers fs (beyond f.frame.handlers ms) p.2)

pub closing_guarded : (fs : List Frame) → Closing fs → all_free fs ≡ true → ⊥
closing_guarded [] c e = c
closing_guarded (f ∷ fs) c e =
    let p = free_parts f.handlers f.life.noted fs e in
    elim c [
      | inl k ↦ subst GoneFirst p.1 k.0.0
      | inr k ↦ closing_guarded fs k.1 p.2
    ]

pub free_stays : (fs : List Frame) → all_free fs ≡ true → NoneGone fs
free_stays [] e = tt
free_stays (f ∷ fs) e =
    let p = free_parts f.handlers f.life.noted fs e in
    ((subst NotGone (sym p.1) tt, subst (λ hs. EachKeeps NotGone hs) (sym p.0) tt), free_stays fs p.2)

pub free_unguarded : (fs : List Frame) → all_free fs ≡ true → is_guarded fs ≡ false
free_unguarded [] e = refl
free_unguarded (f ∷ fs) e =
    let p = free_parts f.handlers f.life.noted fs e in ap (λ hs. holds hs f.life.noted (is_guarded fs)) p.0 ∙
    (ap (λ ns. holds [] ns (is_guarded fs)) p.1 ∙ free_unguarded fs p.2)

-- and where they are not free, one of them is guarded

held_fast : (hs : List Handler) (ns : List Note) (fs : List Frame) → free hs ns fs ≡ false → (all_free fs ≡ false → is_guarded fs ≡ true) →
    holds hs ns (is_guarded fs) ≡ true
held_fast (h ∷ hs) ns fs e below = refl
held_fast [] (n ∷ ns) fs e below = refl
held_fast [] [] [] e below = absurd (cc)
held_fast [] [] (f ∷ fs) e below = below e

pub bound_guarded : (fs : List Frame) → all_free fs ≡ false → is_guarded fs ≡ true
bound_guarded [] e = absurd (cc)
bound_guarded (f ∷ fs) e = held_fast f.handlers f.life.noted fs e (bound_guarded fs)

pub free_calm : (P : ℕ → Type 0) (fs : List Frame) → all_free fs ≡ true → AllAbove P fs
free_calm P [] e = tt
free_calm P (f ∷ fs) e =
    let p = free_parts f.handlers f.life.noted fs e in
    let un : is_guarded fs ≡ false = free_unguarded fs p.2 in
    (λ g. absurd (cc), free_calm P fs p.2)

-- copies that are kept make none free, and none bound

free_top : (born : ℕ) (hs : List fiber.Handler) (ns : List ℕ) (ms ks : List Memory) (xs ys : List Frame) → all_free xs ≡ all_free ys →
    free (handlers_with born hs ms) (map note_of ns) xs ≡ free (handlers_with born hs ks) (map note_of ns) ys
free_top born (h ∷ hs) ns ms ks xs ys e = refl
free_top born [] (n ∷ ns) ms ks xs ys e = refl
free_top born [] [] ms ks xs ys e = free_below xs ∙ (e ∙ sym (free_below ys))

pub free_any : (fs : List Framed) (ms ks : List Memory) → all_free (frames_with fs ms) ≡ all_free (frames_with fs ks)
free_any [] ms ks = refl
free_any (f ∷ fs) ms ks = free_top f.born f.frame.handlers f.frame.noted ms ks (frames_with fs (beyond f.frame.handlers ms))
    (frames_with fs (beyond f.frame.handlers ks)) (free_any fs (beyond f.frame.handlers ms) (beyond f.frame.handlers ks))

pub birth_with : (fs : List Framed) (ms : List Memory) → birth_of (frames_with fs ms) ≡ birth fs
birth_with [] ms = refl
birth_with (f ∷ []) ms = refl
birth_with (f ∷ g ∷ fs) ms = birth_with (g ∷ fs) (beyond f.frame.handlers ms)

-- one operand more
pub pushed_free : (v : Val) (fs : List Framed) (ms : List Memory) → all_free (frames_with (pushed v fs) ms) ≡ all_free (frames_with fs ms)
pushed_free v [] ms = refl
pushed_free v (f ∷ fs) ms = refl

pub pushed_birth : (v : Val) (fs : List Framed) → birth (pushed v fs) ≡ birth fs
pushed_birth v [] = refl
pushed_birth v (f ∷ []) = refl
pushed_birth v (f ∷ g ∷ fs) = refl

pub bare_of : (v : View) → Ready v → all_free (frames_with v.frames []) ≡ true → Bare v
bare_of v r free =
    let none = no_handlers v.frames [] free in
    record { copies = no_items v.heap.copies (r.copies ∙ none); marks = no_items v.trace.marks (r.marks ∙ none); steps = r.clock }

pub frames_bare : (a : Aside) (v : View) → Bare v → frames_of a v ≡ frames_with v.frames []
frames_bare a v b = ap (λ c. frames_with v.frames (memories a.past c v.trace.marks)) b.copies
