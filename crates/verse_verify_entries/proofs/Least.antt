-- The least entry at which the notes are wrong is the first operation that breaks V3.
use Rattle.std.proofs.Common.{◌≡◌, ℕ, zero, suc, ◌<◌, ◌≤◌, List, [], ◌∷◌, Bool, true, false, cond, refl, sym, ap, ap₂, ◌∙◌, arith}
use Rattle.std.specs.Prelude.{◌&&◌, min}
use Rattle.std.proofs.Math.Nat.{eq-or-lt_of_le}
use mathlib.Core.Logic.{⊎_elim}
use Rattle.std.proofs.lemmas.Bool.{cond_both}
use Rattle.std.proofs.Math.Bool.{and-false}
use Rattle.verse_code.specs.declared.codes.Func.{Func}
use Rattle.verse_code.specs.declared.codes.Code.{Code}
use Rattle.verse_meaning_state.specs.Waits.{eqn}
use Rattle.verse_meaning_state.proofs.Numbers.{eqn_is, eqn_same}
use Rattle.verse_verify_kept.specs.Notes.{FuncNote}
use Rattle.verse_verify_faults.specs.Spots.{Table, spot_at}
use Rattle.verse_verify_faults.specs.Faults.{begins, begins_at, on_spot}
use Rattle.verse_verify_entries.specs.Entries.{begins_there, lesser, least_from}

lower : (m n i : ℕ) → i < min m n → i < n
lower m n i h = omega (arith, h)

module _ (c : Code) (t : Table) where
  lesser_most : (m k : ℕ) (f : Func) (g : FuncNote) → lesser c t m k f g ≤ m
  lesser_most m k f g = go (begins_there c t k f g)
    where
      go : (b : Bool) → cond b m (min m f.entry) ≤ m
      go true = omega arith
      go false = omega arith

  pub least_most : (m k : ℕ) (fs : List Func) (gs : List FuncNote) → least_from c t m k fs gs ≤ m
  least_most m k [] gs = omega arith
  least_most m k (f ∷ fs) [] = omega arith
  least_most m k (f ∷ fs) (g ∷ gs) = up (least_most (lesser c t m k f g) (suc k) fs gs) (lesser_most m k f g)
    where
      up : {i j n : ℕ} → i ≤ j → j ≤ n → i ≤ n
      up h l = omega (arith, h, l)

  -- what V3 asks of one function at an operation
  abbrev asked : ℕ → Func → FuncNote → ℕ → Bool
  asked k f g i = cond (eqn f.entry i) (on_spot (spot_at t i) (λ q. begins c t k f g q)) true

  asked_there : (k : ℕ) (f : Func) (g : FuncNote) (i : ℕ) → f.entry ≡ i → asked k f g i ≡ begins_there c t k f g
  asked_there k f g i e = ap (λ j. asked k f g j) (sym e) ∙ ap (λ b. cond b (begins_there c t k f g) true) (eqn_same f.entry)

  asked_before : (m k : ℕ) (f : Func) (g : FuncNote) (i : ℕ) → i < lesser c t m k f g → asked k f g i ≡ true
  asked_before m k f g i h = cond_both (eqn f.entry i) (on_spot (spot_at t i) (λ q. begins c t k f g q)) true (λ b. b ≡ true)
      (λ e. at_entry (eqn_is f.entry i e)) (λ e. refl)
    where
      go : (b : Bool) → i < cond b m (min m f.entry) → f.entry ≡ i → b ≡ true
      go true h e = refl
      go false h e = absurd (omega (arith, lower m f.entry i h, e))

      at_entry : f.entry ≡ i → on_spot (spot_at t i) (λ q. begins c t k f g q) ≡ true
      at_entry e = ap (λ j. on_spot (spot_at t j) (λ q. begins c t k f g q)) (sym e) ∙ go (begins_there c t k f g) h e

  pub least_first : (m k : ℕ) (fs : List Func) (gs : List FuncNote) (i : ℕ) → i < least_from c t m k fs gs → begins_at c t k fs gs i ≡ true
  least_first m k [] gs i h = refl
  least_first m k (f ∷ fs) [] i h = absurd (omega (arith, h))
  least_first m k (f ∷ fs) (g ∷ gs) i h =
      ap₂ (λ a b. a && b) (asked_before m k f g i (below h (least_most (lesser c t m k f g) (suc k) fs gs)))
      (least_first (lesser c t m k f g) (suc k) fs gs i h)
    where
      below : {i j n : ℕ} → i < j → j ≤ n → i < n
      below h l = omega (arith, h, l)

  pub least_broken : (m k : ℕ) (fs : List Func) (gs : List FuncNote) → least_from c t m k fs gs < m →
      begins_at c t k fs gs (least_from c t m k fs gs) ≡ false
  least_broken m k [] gs h = absurd (omega (arith, h))
  least_broken m k (f ∷ fs) [] h = refl
  least_broken m k (f ∷ fs) (g ∷ gs) h = under_or_at i n (least_most n (suc k) fs gs)
      (λ l. ap (λ b. asked k f g i && b) (least_broken n (suc k) fs gs l) ∙ and-false (asked k f g i))
      (λ e. ap (λ b. b && begins_at c t (suc k) fs gs i) (here (begins_there c t k f g) refl i e h))
    where
      n : ℕ
      n = lesser c t m k f g

      i : ℕ
      i = least_from c t n (suc k) fs gs

      under_or_at : {A : Type 0} (i n : ℕ) → i ≤ n → (i < n → A) → (i ≡ n → A) → A
      under_or_at i n h f g = ⊎_elim g f (eq-or-lt_of_le h)

      here : (b : Bool) → begins_there c t k f g ≡ b → (i : ℕ) → i ≡ cond b m (min m f.entry) → i < m → asked k f g i ≡ false
      here true e i l h = absurd (omega (arith, l, h))
      here false e i l h = asked_there k f g i (omega (arith, l, h)) ∙ e
