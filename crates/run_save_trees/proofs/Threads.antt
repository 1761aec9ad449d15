-- The frames of a task that is kept.
use Rattle.std.proofs.Common.{◌≡◌, ℕ, true, List, [], ◌∷◌, refl, ◌∙◌}
use Rattle.verse_code_machine.specs.Frames.{free}
use Rattle.vm_frames.specs.Framed.{Framed}
use Rattle.vm_frames.specs.Machine.{frames_with, all_free}
use Rattle.vm_frames.proofs.Whole.{free_below}
use Rattle.vm_scheduler.specs.Frames.{birth, Suspended}
use Rattle.run_save_shots.specs.Kept.{KeptFrame}
use Rattle.run_save_slots.specs.Stacking.{with_frame, behind_top, stacked}

stacked_free : (arms : ℕ) (borns : List ℕ) (frames : List KeptFrame) (below : List Framed) → all_free (frames_with below []) ≡ true →
    all_free (frames_with (stacked arms borns frames below) []) ≡ true
stacked_free arms borns [] below e = e
stacked_free arms [] (f ∷ fs) below e = e
stacked_free arms (b ∷ bs) (f ∷ fs) below e =
    stacked_free arms bs fs (with_frame b (behind_top arms fs) f below) (free_below (frames_with below []) ∙ e)

stacked_birth : (arms : ℕ) (borns : List ℕ) (frames : List KeptFrame) (x : Framed) (below : List Framed) →
    birth (stacked arms borns frames (x ∷ below)) ≡ birth (x ∷ below)
stacked_birth arms borns [] x below = refl
stacked_birth arms [] (f ∷ fs) x below = refl
stacked_birth arms (b ∷ bs) (f ∷ fs) x below = stacked_birth arms bs fs _ (x ∷ below)

stacked_some : (arms : ℕ) (borns : List ℕ) (frames : List KeptFrame) (x : Framed) (below : List Framed) →
    stacked arms borns frames (x ∷ below) ≡ [] → ⊥
stacked_some arms borns [] x below e = absurd (cc)
stacked_some arms [] (f ∷ fs) x below e = absurd (cc)
stacked_some arms (b ∷ bs) (f ∷ fs) x below e = stacked_some arms bs fs _ (x ∷ below) e

-- it began with its lowest frame
pub is_suspended : (arms n : ℕ) (bs : List ℕ) (f : KeptFrame) (fs : List KeptFrame) → Suspended n (stacked arms (n ∷ bs) (f ∷ fs) [])
is_suspended arms n bs f fs = record {
  unguarded = record {
    some = stacked_some arms bs fs _ [];
    free = stacked_free arms (n ∷ bs) (f ∷ fs) [] refl;
  };
  began = stacked_birth arms bs fs _ [];
}
