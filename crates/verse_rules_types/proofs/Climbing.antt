-- One step up from a class.
use Rattle.std.proofs.Common.{◌≡◌, ℕ, zero, suc, ◌+◌, ◌-◌, ◌<◌, ◌≤◌, Bool, List, true, false, ap, ◌∙◌, arith}
use Rattle.std.specs.Prelude.{Some, None}
use Rattle.verse_rules_types.specs.Types.{Class}
use Rattle.verse_rules_types.specs.Fitting.{first_above, parent_of}

pub down : (n i : ℕ) → i < n → n - i ≡ suc (n - (i + 1))
down n i h = omega arith

pub none : (n i : ℕ) → n ≤ i → n - i ≡ zero
none n i h = omega arith

module _ (cs : List Class) (test : ℕ → Bool) where
  one : (n c p : ℕ) → test c ≡ false → parent_of cs c ≡ Some p → first_above cs test (suc n) c ≡ first_above cs test n p
  one n c p h e = rw (h, e)

  top : (n c : ℕ) → test c ≡ false → parent_of cs c ≡ None → first_above cs test (suc n) c ≡ None
  top n c h e = rw (h, e)

  here : (n c : ℕ) → test c ≡ true → first_above cs test (suc n) c ≡ Some c
  here n c h = rw h

  pub one_up : (n i c p : ℕ) → i < n → test c ≡ false → parent_of cs c ≡ Some p →
      first_above cs test (n - i) c ≡ first_above cs test (n - (i + 1)) p
  one_up n i c p h k e = ap (λ m. first_above cs test m c) (down n i h) ∙ one (n - (i + 1)) c p k e

  pub at_top : (n i c : ℕ) → i < n → test c ≡ false → parent_of cs c ≡ None → first_above cs test (n - i) c ≡ None
  at_top n i c h k e = ap (λ m. first_above cs test m c) (down n i h) ∙ top (n - (i + 1)) c k e

  pub found : (n i c : ℕ) → i < n → test c ≡ true → first_above cs test (n - i) c ≡ Some c
  found n i c h e = ap (λ m. first_above cs test m c) (down n i h) ∙ here (n - (i + 1)) c e

  pub at_end : (n i c : ℕ) → n ≤ i → first_above cs test (n - i) c ≡ None
  at_end n i c h = ap (λ m. first_above cs test m c) (none n i h)
