-- The innermost handler of all frames.
use Rattle.std.proofs.Common.{◌≡◌, ◌≢◌, ℕ, ◌<◌, Bool, true, false, Option, None, List, [], ◌∷◌, length, refl, sym, ap, arith}
use Rattle.std.proofs.lemmas.Bool.{true≢false}
use Rattle.fiber_stacks.specs.Levels.{below}
use Rattle.fiber.specs.Frames.{Handler, Frame, has_handler, is_guarded, handlers_of}
use Rattle.fiber.specs.Calls.{unwound, unwound_to}

pub skipped : (fs : List Frame) → handlers_of fs ≡ [] → unwound (below fs) ≡ unwound fs
skipped [] none = refl
skipped (f ∷ fs) none = rw none refl

pub guarded_below : (fs : List Frame) → handlers_of fs ≡ [] → is_guarded fs ≡ true → is_guarded (below fs) ≡ true
guarded_below [] none sure = sure
guarded_below (f ∷ fs) none sure = rw none at sure

pub guarded_some : (fs : List Frame) → is_guarded fs ≡ true → fs ≢ []
guarded_some [] sure none = true≢false (sym sure)
guarded_some (f ∷ fs) sure none = absurd (omega (arith, ap length none))

to_none : (hs : List Handler) (f : Frame) (fs : List Frame) (rest : Bool) (under : Option (ℕ × List Frame)) → has_handler hs rest ≡ false →
    (rest ≡ false → under ≡ None) → unwound_to hs f fs under ≡ None
to_none [] f fs rest under not_so next = next not_so
to_none (h ∷ hs) f fs rest under not_so next = absurd (true≢false not_so)

pub unguarded : (fs : List Frame) → is_guarded fs ≡ false → unwound fs ≡ None
unguarded [] not_so = refl
unguarded (f ∷ fs) not_so = to_none f.handlers f fs (is_guarded fs) (unwound fs) not_so (unguarded fs)

pub shorter : (fs : List Frame) → fs ≢ [] → length (below fs) < length fs
shorter [] some = absurd (some refl)
shorter (f ∷ fs) some = omega arith
