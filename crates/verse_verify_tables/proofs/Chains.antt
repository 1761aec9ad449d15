-- One step up from a class.
use Rattle.std.proofs.Common.{◌≡◌, ℕ, zero, suc, ◌+◌, ◌-◌, ◌<◌, ◌≤◌, true, false, refl, ap, ◌∙◌, arith}
use Rattle.std.specs.Prelude.{Option, Some, None, slice_get}
use Rattle.verse_code.specs.declared.codes.Code.{Code}
use Rattle.verse_meaning_state.specs.Waits.{eqn}
use Rattle.verse_verify_kept.specs.Notes.{parent_in}
use Rattle.verse_verify_faults.specs.Spots.{Table}
use Rattle.verse_verify_faults.specs.Faults.{comes_back}

down : (n i : ℕ) → i < n → n - i ≡ suc (n - (i + 1))
down n i h = omega arith

none : (n i : ℕ) → n ≤ i → n - i ≡ zero
none n i h = omega arith

module _ (c : Code) (t : Table) (k : ℕ) where
  here : (n b : ℕ) → eqn k b ≡ true → comes_back c t (suc n) k (Some b) ≡ true
  here n b h = rw h

  up : (n b : ℕ) → eqn k b ≡ false →
      comes_back c t (suc n) k (Some b) ≡ comes_back c t n k (parent_in (slice_get t.classes b))
  up n b h = rw h

  pub met : (n i b : ℕ) → i < n → eqn k b ≡ true → comes_back c t (n - i) k (Some b) ≡ true
  met n i b h e = ap (λ m. comes_back c t m k (Some b)) (down n i h) ∙ here (n - (i + 1)) b e

  pub further : (n i b : ℕ) → i < n → eqn k b ≡ false →
      comes_back c t (n - i) k (Some b) ≡ comes_back c t (n - (i + 1)) k (parent_in (slice_get t.classes b))
  further n i b h e = ap (λ m. comes_back c t m k (Some b)) (down n i h) ∙ up (n - (i + 1)) b e

  pub ended : (n i : ℕ) → comes_back c t (n - i) k None ≡ false
  ended n i = go (n - i)
    where
      go : (m : ℕ) → comes_back c t m k None ≡ false
      go zero = refl
      go (suc m) = refl

  pub spent : (n i : ℕ) (b : Option ℕ) → n ≤ i → comes_back c t (n - i) k b ≡ false
  spent n i b h = ap (λ m. comes_back c t m k b) (none n i h)
