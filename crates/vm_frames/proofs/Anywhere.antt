-- Any frame, by its number.
use Rattle.std.proofs.Common.{◌≡◌, ℕ, zero, suc, ◌-◌, ◌≤◌, ◌<◌, Some, List, [], ◌∷◌, length, drop, reverse, slice_get}
use Rattle.std.proofs.Common.{option_map, refl, ap, ◌∙◌, arith}
use Rattle.std.proofs.lemmas.List.{length-reverse}
use Rattle.std.proofs.Math.Seq.{drop-nil}
use Rattle.fiber_stacks.proofs.Lists.{turned}
use Rattle.fiber.specs.Frames.{Frame}
use Rattle.fiber.specs.Calls.{frame_at}
use Rattle.vm_frames.specs.Framed.{Framed, top_birth, births_below, framed}
use Rattle.vm_frames.specs.Calls.{framed_at}
use Rattle.vm_frames.proofs.Whole.{size_in}

module _ {A : Type 0} (part : Frame → A) where
  part_of : (k : ℕ) (bs : List ℕ) (fs : List Frame) →
      option_map (λ (f : Framed). part f.frame) (slice_get (framed bs fs) k) ≡ option_map part (slice_get fs k)
  part_of k bs [] = refl
  part_of zero bs (f ∷ fs) = refl
  part_of (suc k) bs (f ∷ fs) = part_of k (births_below bs) fs

  -- all but the birth is as the fiber has it
  pub part_in : (bs : List ℕ) (fs : List Frame) (gs : List Framed) (i : ℕ) (v : A) → framed bs fs ≡ gs →
      option_map part (frame_at i fs) ≡ Some v → option_map (λ (f : Framed). part f.frame) (framed_at i gs) ≡ Some v
  part_in bs fs gs i v are there =
      let size = size_in bs fs gs are in
      rw (← size, ← are) (part_of (length fs - 1 - i) bs fs ∙ there)

-- the birth

birth_of : (k : ℕ) (bs : List ℕ) (fs : List Frame) → k < length fs →
    option_map (λ (f : Framed). f.born) (slice_get (framed bs fs) k) ≡ Some (top_birth (drop k bs))
birth_of k bs [] lt = absurd (omega (arith, lt))
birth_of zero bs (f ∷ fs) lt = refl
birth_of (suc k) [] (f ∷ fs) lt = birth_of k [] fs (omega (arith, lt)) ∙ ap (λ xs. Some (top_birth xs)) (drop-nil k)
birth_of (suc k) (b ∷ bs) (f ∷ fs) lt = birth_of k bs fs (omega (arith, lt))

birth_there : (k b : ℕ) (bs : List ℕ) → slice_get bs k ≡ Some b → top_birth (drop k bs) ≡ b
birth_there k b [] e = absurd (cc)
birth_there zero b (x ∷ bs) e = cc
birth_there (suc k) b (x ∷ bs) e = birth_there k b bs e

birth_beyond : (k : ℕ) (bs : List ℕ) → length bs ≤ k → top_birth (drop k bs) ≡ 0
birth_beyond k [] le = ap top_birth (drop-nil k)
birth_beyond zero (x ∷ bs) le = absurd (omega (arith, le))
birth_beyond (suc k) (x ∷ bs) le = birth_beyond k bs (omega (arith, le))

module _ (births : List ℕ) (fs : List Frame) (gs : List Framed) (i above : ℕ) (are : framed (reverse births) fs ≡ gs) (lt : i < length gs)
    (is : above ≡ length gs - i) where
  place : length gs - 1 - i ≡ above - 1
  place = omega (arith, is)

  within : above - 1 < length fs
  within =
      let size = size_in (reverse births) fs gs are in
      omega (arith, size, lt, is)

  birth_at : (b : ℕ) → top_birth (drop (above - 1) (reverse births)) ≡ b →
      option_map (λ (f : Framed). f.born) (framed_at i gs) ≡ Some b
  birth_at b e = rw (place, ← are) (birth_of (above - 1) (reverse births) fs within ∙ ap Some e)

  pub birth_in : (b : ℕ) → above ≤ length births → slice_get births (length births - above) ≡ Some b →
      option_map (λ (f : Framed). f.born) (framed_at i gs) ≡ Some b
  birth_in b le there = birth_at b (birth_there (above - 1) b (reverse births)
      (turned births above b (omega (arith, lt, is)) le there))

  pub no_birth_in : length births < above → option_map (λ (f : Framed). f.born) (framed_at i gs) ≡ Some 0
  no_birth_in less =
      let size : length (reverse births) ≡ length births = length-reverse births in
      birth_at 0 (birth_beyond (above - 1) (reverse births) (omega (arith, size, less)))

-- the frame is one of the fiber's
pub here : (bs : List ℕ) (fs : List Frame) (gs : List Framed) (i : ℕ) → framed bs fs ≡ gs → i < length gs → i < length fs
here bs fs gs i are lt =
    let size = size_in bs fs gs are in
    omega (arith, size, lt)
