-- One step up from a class.
use Rattle.std.proofs.Common.{◌≡◌, ℕ, zero, suc, ◌+◌, ◌-◌, ◌<◌, ◌≤◌, List, true, false, ap, ◌∙◌, arith}
use Rattle.std.specs.Prelude.{Some, None, slice_get}
use Rattle.verse_meaning_state.specs.Waits.{eqn}
use Rattle.verse_verify_kept.specs.Notes.{ClassNote, parent_in}
use Rattle.verse_verify_faults.specs.Fitting.{heir}

down : (n i : ℕ) → i < n → n - i ≡ suc (n - (i + 1))
down n i h = omega arith

none : (n i : ℕ) → n ≤ i → n - i ≡ zero
none n i h = omega arith

module _ (cs : List ClassNote) (d : ℕ) where
  here : (n c : ℕ) → eqn c d ≡ true → heir (suc n) cs c d ≡ true
  here n c h = rw h

  one : (n c p : ℕ) → eqn c d ≡ false → parent_in (slice_get cs c) ≡ Some p → heir (suc n) cs c d ≡ heir n cs p d
  one n c p h e = rw (h, e)

  top : (n c : ℕ) → eqn c d ≡ false → parent_in (slice_get cs c) ≡ None → heir (suc n) cs c d ≡ false
  top n c h e = rw (h, e)

  pub found : (n i c : ℕ) → i < n → eqn c d ≡ true → heir (n - i) cs c d ≡ true
  found n i c h e = ap (λ m. heir m cs c d) (down n i h) ∙ here (n - (i + 1)) c e

  pub one_up : (n i c p : ℕ) → i < n → eqn c d ≡ false → parent_in (slice_get cs c) ≡ Some p →
      heir (n - i) cs c d ≡ heir (n - (i + 1)) cs p d
  one_up n i c p h k e = ap (λ m. heir m cs c d) (down n i h) ∙ one (n - (i + 1)) c p k e

  pub at_top : (n i c : ℕ) → i < n → eqn c d ≡ false → parent_in (slice_get cs c) ≡ None → heir (n - i) cs c d ≡ false
  at_top n i c h k e = ap (λ m. heir m cs c d) (down n i h) ∙ top (n - (i + 1)) c k e

  pub at_end : (n i c : ℕ) → n ≤ i → heir (n - i) cs c d ≡ eqn c d
  at_end n i c h = ap (λ m. heir m cs c d) (none n i h)
