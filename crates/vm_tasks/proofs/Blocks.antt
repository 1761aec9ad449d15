-- The frames of a task looked through from the top.
use Rattle.std.proofs.Common.{◌≡◌, ◌≢◌, ◌<◌, ◌≤◌, ◌-◌, ℕ, zero, suc, List, [], ◌∷◌, length, drop, Option, Some, None, Bool, true}
use Rattle.std.proofs.Common.{cond}
use Rattle.std.proofs.Common.{refl, sym, ap, subst, ◌∙◌, arith, reverse}
use Rattle.std.specs.Prelude.{slice_get, option_map}
use Rattle.std.proofs.lemmas.List.{length-reverse, nil_from_length}
use Rattle.vm_frames.specs.Framed.{Framed}
use Rattle.vm_frames.specs.Calls.{framed_at}
use Rattle.vm_tasks.specs.Deferring.{is_some, any_deferred}

none_has : (f : Framed) (fs : List Framed) → f.frame.defers ≡ [] → any_deferred (f ∷ fs) ≡ any_deferred fs
none_has f fs e = ap (λ ds. cond (is_some ds) true (any_deferred fs)) e

some_has : (ds : List ℕ) (rest : Bool) → ds ≢ [] → cond (is_some ds) true rest ≡ true
some_has [] rest some = absurd (some refl)
some_has (d ∷ ds) rest some = refl

pub below_the_next : (fs : List Framed) (k : ℕ) (f : Framed) → slice_get fs k ≡ Some f → f.frame.defers ≡ [] →
    any_deferred (drop k fs) ≡ any_deferred (drop (suc k) fs)
below_the_next [] k f e none = absurd (cc)
below_the_next (g ∷ fs) zero f e none = none_has g fs (ap (λ (f : Framed). f.frame.defers) (same e) ∙ none)
  where
    same : {g f : Framed} → Some g ≡ Some f → g ≡ f
    same e = cc
below_the_next (g ∷ fs) (suc k) f e none = below_the_next fs k f e none

pub next_has : (fs : List Framed) (k : ℕ) (f : Framed) → slice_get fs k ≡ Some f → f.frame.defers ≢ [] →
    any_deferred (drop k fs) ≡ true
next_has [] k f e some = absurd (cc)
next_has (g ∷ fs) zero f e some = some_has g.frame.defers (any_deferred fs)
    (λ none. some (ap (λ (f : Framed). f.frame.defers) (sym (same e)) ∙ none))
  where
    same : {g f : Framed} → Some g ≡ Some f → g ≡ f
    same e = cc
next_has (g ∷ fs) (suc k) f e some = next_has fs k f e some

module _ (fs : List Framed) (at : ℕ) (ds : List ℕ) (some : 0 < at) (most : at ≤ length fs)
    (is : option_map (λ (f : Framed). f.frame.defers) (framed_at (at - 1) fs) ≡ Some (reverse ds)) where
  index : length fs - 1 - (at - 1) ≡ length fs - at
  index = omega (arith, some, most)

  -- the frame at this place has these blocks
  record Found : Type 0 where
    frame : Framed
    at_it : slice_get fs (length fs - at) ≡ Some frame
    has : frame.frame.defers ≡ reverse ds

  found : Found
  found = by_frame (slice_get fs (length fs - at)) refl (subst (λ n. option_map (λ (f : Framed). f.frame.defers) (slice_get fs n) ≡ Some
      (reverse ds)) index is)
    where
      by_frame : (o : Option Framed) → slice_get fs (length fs - at) ≡ o → option_map (λ (f : Framed). f.frame.defers) o ≡ Some (reverse
          ds) → Found
      by_frame None e h = absurd (cc)
      by_frame (Some f) e h = record { frame = f; at_it = e; has = cc }

  pub looked_none : length ds ≡ 0 → any_deferred (drop (length fs - at) fs) ≡ any_deferred fs →
      any_deferred (drop (length fs - (at - 1)) fs) ≡ any_deferred fs
  looked_none none so =
      let empty : reverse ds ≡ [] = ap (λ z. reverse z) (nil_from_length ds none) in
      let next : suc (length fs - at) ≡ length fs - (at - 1) = omega (arith, some, most) in
      ap (λ n. any_deferred (drop n fs)) (sym next) ∙
      (sym (below_the_next fs (length fs - at) found.frame found.at_it (found.has ∙ empty)) ∙ so)

  pub looked_some : (length ds ≡ 0 → ⊥) → any_deferred (drop (length fs - at) fs) ≡ any_deferred fs → true ≡ any_deferred fs
  looked_some any so =
      sym (next_has fs (length fs - at) found.frame found.at_it (λ e. any (sym (length-reverse ds) ∙ ap length (sym found.has ∙ e)))) ∙ so
