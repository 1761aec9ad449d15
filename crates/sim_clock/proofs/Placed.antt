-- The index tells where each wait stands, also after one enters, leaves or moves.
use Rattle.std.proofs.Common.{◌≡◌, ℕ, eqb, ◌⊎◌, inl, inr, Bool, true, false, ◌&&◌, cond, if◌then◌else◌, Option, Some, None, refl, ap, ◌∙◌}
use Rattle.std.proofs.Common.{arith}
use mathlib.Core.Bool.{false≢true}
use Rattle.std.proofs.lemmas.Bool.Decides.{nat_tests}
use Rattle.sim_clock.specs.declared.waits.Pending.{Pending}
use Rattle.sim_clock.specs.declared.places.Where.{Where}
use Rattle.sim_clock.specs.declared.places.Where.TheVariants.{Timed, OnEvent, OnTask, Woken, Nowhere}
use Rattle.sim_clock.specs.Places.{same_place, where_of, Stands, IsAsleep}
use Rattle.sim_clock.specs.Indexed.{stands_at, Changed}
use Rattle.sim_clock.proofs.Pair.{number_tied}

number_cases : (m n : ℕ) → ((m ≡ n) × (eqb m n ≡ true)) ⊎ (eqb m n ≡ false)
number_cases m n = either (eqb m n) (λ h. grind (arith, nat_tests)) refl
  where
    either : (b : Bool) → (b ≡ true → m ≡ n) → eqb m n ≡ b → ((m ≡ n) × (eqb m n ≡ true)) ⊎ (eqb m n ≡ false)
    either true same e = inl (same refl, e)
    either false same e = inr e

-- a place at which one is asleep, and the place of the one
pub asleep_is : (place q : Where) → IsAsleep place → same_place place q ≡ true → place ≡ q
asleep_is (OnEvent a) (OnEvent b) asleep same = ap OnEvent (grind (arith, nat_tests))
asleep_is (OnTask a) (OnTask b) asleep same = ap OnTask (grind (arith, nat_tests))
asleep_is (OnEvent a) (Timed b) asleep same = absurd (false≢true same)
asleep_is (OnEvent a) (OnTask b) asleep same = absurd (false≢true same)
asleep_is (OnEvent a) (Woken b) asleep same = absurd (false≢true same)
asleep_is (OnEvent a) Nowhere asleep same = absurd (false≢true same)
asleep_is (OnTask a) (Timed b) asleep same = absurd (false≢true same)
asleep_is (OnTask a) (OnEvent b) asleep same = absurd (false≢true same)
asleep_is (OnTask a) (Woken b) asleep same = absurd (false≢true same)
asleep_is (OnTask a) Nowhere asleep same = absurd (false≢true same)
asleep_is (Timed a) q asleep same = absurd asleep
asleep_is (Woken a) q asleep same = absurd asleep
asleep_is Nowhere q asleep same = absurd asleep

module _ (h g : Where → ℕ → Bool) (old new : ℕ → Option Pending) (n : ℕ) (placed : (w : Where) (m : ℕ) → h w m ≡ stands_at (old m) w) where
  -- elsewhere nothing changes
  apart : (there : Option Pending) → Changed old new n there → (m : ℕ) → eqb m n ≡ false → new m ≡ old m
  apart there changed m other = changed m ∙ ap (λ b. cond b there (old m)) (number_tied n m ∙ other)

  here : (there : Option Pending) → Changed old new n there → (m : ℕ) → eqb m n ≡ true → new m ≡ there
  here there changed m same = changed m ∙ ap (λ b. cond b there (old m)) (number_tied n m ∙ same)

  pub entering : (p : Pending) → old n ≡ None → Changed old new n (Some p) → Stands h g (where_of p) n true → (w : Where) (m : ℕ) →
      g w m ≡ stands_at (new m) w
  entering p absent changed stands w m = elim (number_cases m n) [
    | inl same ↦ rw (stands w m, here (Some p) changed m same.1, same.1)
        (either (same_place w (where_of p)) (placed w m ∙ ap (λ o. stands_at o w) (ap old same.0 ∙ absent)))
    | inr other ↦ rw (stands w m, apart (Some p) changed m other, other) (neither (same_place w (where_of p)) (placed w m))
  ]
    where
      either : (b : Bool) → h w m ≡ false → (if b && true then true else h w m) ≡ b
      either true none = refl
      either false none = none

      neither : (b : Bool) → h w m ≡ stands_at (old m) w → (if b && false then true else h w m) ≡ stands_at (old m) w
      neither true e = e
      neither false e = e

  pub leaving : (p : Pending) → old n ≡ Some p → Changed old new n None → Stands h g (where_of p) n false → (w : Where) (m : ℕ) →
      g w m ≡ stands_at (new m) w
  leaving p found changed stands w m = elim (number_cases m n) [
    | inl same ↦ rw (stands w m, here None changed m same.1, same.1)
        (either (same_place w (where_of p)) (placed w m ∙ ap (λ o. stands_at o w) (ap old same.0 ∙ found)))
    | inr other ↦ rw (stands w m, apart None changed m other, other) (neither (same_place w (where_of p)) (placed w m))
  ]
    where
      either : (b : Bool) → h w m ≡ b → (if b && true then false else h w m) ≡ false
      either true e = refl
      either false e = e

      neither : (b : Bool) → h w m ≡ stands_at (old m) w → (if b && false then false else h w m) ≡ stands_at (old m) w
      neither true e = e
      neither false e = e

  pub moving : (place : Where) (at : ℕ) (p : Pending) → where_of p ≡ Woken at → ((w : Where) → stands_at (old n) w ≡ same_place w place) →
      Changed old new n (Some p) →
      ((w : Where) (m : ℕ) → g w m ≡ (if same_place w (Woken at) && eqb m n then true else if same_place w place && eqb m n then false else
      h w m)) →
      (w : Where) (m : ℕ) → g w m ≡ stands_at (new m) w
  moving place at p there was changed moved w m = elim (number_cases m n) [
    | inl same ↦ rw (moved w m, here (Some p) changed m same.1, same.1, there)
        (either (same_place w (Woken at)) (same_place w place) (placed w m ∙ ap (λ o. stands_at o w) (ap old same.0) ∙ was w))
    | inr other ↦ rw (moved w m, apart (Some p) changed m other, other)
        (neither (same_place w (Woken at)) (same_place w place) (placed w m))
  ]
    where
      either : (b c : Bool) → h w m ≡ c → (if b && true then true else if c && true then false else h w m) ≡ b
      either true c e = refl
      either false true e = refl
      either false false e = e

      neither : (b c : Bool) → h w m ≡ stands_at (old m) w → (if b && false then true else if c && false then false else h w m) ≡
          stands_at (old m) w
      neither true true e = e
      neither true false e = e
      neither false true e = e
      neither false false e = e
