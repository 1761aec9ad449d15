-- The innermost handler of all frames.
use Rattle.std.proofs.Common.{◌≡◌, ◌≢◌, ℕ, ◌<◌, Bool, true, false, Option, Some, None, option_map, List, [], ◌∷◌, length, refl, sym, ap}
use Rattle.std.proofs.Common.{◌∙◌, arith}
use Rattle.std.proofs.lemmas.Bool.{true≢false}
use Rattle.fiber.specs.Frames.{Handler, Frame, has_handler}
use Rattle.fiber.specs.Calls as fiber
use Rattle.vm_frames.specs.Framed.{Framed, top_birth, births_below, framed, handlers_of, is_guarded}
use Rattle.vm_frames.specs.Calls.{left_from, left, unwound_to, unwound}

abbrev rest_in : Option (Bool × List Framed) → List Framed
rest_in None = []
rest_in (Some x) = x.1

-- a frame is left

record Skipped (hs : List Handler) (f : Framed) (fs gs : List Framed) : Type 0 where
  unwinds : unwound_to hs f fs (unwound fs) ≡ unwound gs
  guards : has_handler hs (is_guarded fs) ≡ is_guarded gs
  size : length gs ≡ length fs

skipped_from : (hs : List Handler) (f : Framed) (fs gs : List Framed) (last : Bool) → left_from hs fs ≡ Some (last, gs) → Skipped hs f fs gs
skipped_from (h ∷ hs) f fs gs last e = absurd (cc)
skipped_from [] f [] gs last e = let same : [] ≡ gs = ap rest_in e in rw (← same) (record { unwinds = refl; guards = refl; size = refl })
skipped_from [] f (k ∷ ks) gs last e = let same : k ∷ ks ≡ gs = ap rest_in e in
    rw (← same) (record { unwinds = refl; guards = refl; size = refl })

pub skipped : (fs gs : List Framed) (last : Bool) → left fs ≡ Some (last, gs) → unwound gs ≡ unwound fs
skipped [] gs last e = absurd (cc)
skipped (f ∷ fs) gs last e = sym (skipped_from f.frame.handlers f fs gs last e).unwinds

pub still_guarded : (fs gs : List Framed) (last : Bool) → left fs ≡ Some (last, gs) → is_guarded fs ≡ true → is_guarded gs ≡ true
still_guarded [] gs last e sure = absurd (cc)
still_guarded (f ∷ fs) gs last e sure = sym (skipped_from f.frame.handlers f fs gs last e).guards ∙ sure

pub shorter : (fs gs : List Framed) (last : Bool) → left fs ≡ Some (last, gs) → length gs < length fs
shorter [] gs last e = absurd (cc)
shorter (f ∷ fs) gs last e = omega (arith, (skipped_from f.frame.handlers f fs gs last e).size)

pub guarded_some : (fs : List Framed) → is_guarded fs ≡ true → fs ≢ []
guarded_some [] sure none = true≢false (sym sure)
guarded_some (f ∷ fs) sure none = absurd (omega (arith, ap length none))

-- a frame stays

stays_from : (hs : List Handler) (fs : List Framed) → left_from hs fs ≡ None → hs ≢ []
stays_from (h ∷ hs) fs e = λ none. absurd (omega (arith, ap length none))
stays_from [] [] e = absurd (cc)
stays_from [] (f ∷ fs) e = absurd (cc)

pub stays : (fs : List Framed) → is_guarded fs ≡ true → left fs ≡ None → handlers_of fs ≢ []
stays [] sure e = absurd (true≢false (sym sure))
stays (f ∷ fs) sure e = stays_from f.frame.handlers fs e

to_none : (hs : List Handler) (f : Framed) (fs : List Framed) (rest : Bool) (under : Option (ℕ × List Framed)) →
    has_handler hs rest ≡ false → (rest ≡ false → under ≡ None) → unwound_to hs f fs under ≡ None
to_none [] f fs rest under not_so next = next not_so
to_none (h ∷ hs) f fs rest under not_so next = absurd (true≢false not_so)

pub unguarded : (fs : List Framed) → is_guarded fs ≡ false → unwound fs ≡ None
unguarded [] not_so = refl
unguarded (f ∷ fs) not_so = to_none f.frame.handlers f fs (is_guarded fs) (unwound fs) not_so (unguarded fs)

-- back to a handler of the top frame

module _ (bs : List ℕ) (f : Frame) (fs : List Frame) where
  fallen_to : (hs : List Handler) (under : Option (ℕ × List Framed)) (below : Option (ℕ × List Frame)) → hs ≢ [] →
      unwound_to hs (record { born = top_birth bs; frame = f }) (framed (births_below bs) fs) under ≡
      option_map (λ (x : ℕ × List Frame). (x.0, framed bs x.1)) (fiber.unwound_to hs f fs below)
  fallen_to [] under below some = absurd (some refl)
  fallen_to (h ∷ hs) under below some = refl

fallen_of : (bs : List ℕ) (fs : List Frame) → handlers_of (framed bs fs) ≢ [] →
    unwound (framed bs fs) ≡ option_map (λ (x : ℕ × List Frame). (x.0, framed bs x.1)) (fiber.unwound fs)
fallen_of bs [] some = absurd (some refl)
fallen_of bs (f ∷ fs) some = fallen_to bs f fs f.handlers (unwound (framed (births_below bs) fs)) (fiber.unwound fs) some

pub fallen_in : (bs : List ℕ) (fs gs : List Frame) (ks : List Framed) (label : ℕ) → framed bs fs ≡ ks → handlers_of ks ≢ [] →
    fiber.unwound fs ≡ Some (label, gs) → unwound ks ≡ Some (label, framed bs gs)
fallen_in bs fs gs ks label are some e =
    let there : handlers_of (framed bs fs) ≢ [] = rw are some in
    rw (← are) (fallen_of bs fs there ∙ ap (option_map (λ (x : ℕ × List Frame). (x.0, framed bs x.1))) e)

falls_to : (hs : List Handler) (f : Frame) (fs : List Frame) (below : Option (ℕ × List Frame)) → hs ≢ [] →
    fiber.unwound_to hs f fs below ≢ None
falls_to [] f fs below some = absurd (some refl)
falls_to (h ∷ hs) f fs below some = λ none. absurd (cc)

pub falls : (bs : List ℕ) (fs : List Frame) (ks : List Framed) → framed bs fs ≡ ks → handlers_of ks ≢ [] → fiber.unwound fs ≢ None
falls bs [] ks are some = absurd (some (ap handlers_of (sym are)))
falls bs (f ∷ fs) ks are some =
    falls_to f.handlers f fs (fiber.unwound fs) (λ none. some (ap handlers_of (sym are) ∙ none))
