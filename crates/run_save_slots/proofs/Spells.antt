-- Frames one on another are those that what is kept of a run spells.
use Rattle.std.proofs.Common.{◌≡◌, ℕ, suc, ◌+◌, List, [], ◌∷◌, length, Option, refl, sym, ap, subst, ◌∙◌}
use Rattle.verse_code.specs.declared.codes.Code.{Code}
use Rattle.verse_value.specs.Val.{Val}
use Rattle.run_save_shots.specs.Kept.{KeptFrame, KeptTask, Kept}
use Rattle.run_save_shots.specs.Fitting.{arms_of}
use Rattle.run_save_shots.specs.Spelling.{frame, arms_behind, born, frames_from}
use Rattle.run_save_numbers.specs.Numbers.{borns_from}
use Rattle.vm_frames.specs.Framed.{Framed}
use Rattle.vm_frames.specs.Machine.{frames_with}
use Rattle.run_save_slots.specs.Stacking.{with_frame, behind_top, stacked, SpellsFrames}

same_behind : (fs : List KeptFrame) (arms : List (Option Val)) → behind_top (length arms) fs ≡ arms_behind fs arms
same_behind [] arms = refl
same_behind (f ∷ fs) arms = refl

module _ (c : Code) (s : Kept) (at : ℕ) (t : KeptTask) (ts : List KeptTask) where
  spells_from : (depth : ℕ) (fs : List KeptFrame) (below : List Framed) →
      frames_with (stacked (length (arms_of t.rest)) (borns_from s at depth (length fs) (t ∷ ts) ts) fs below) [] ≡
      frames_from c s at t ts depth fs (frames_with below [])
  spells_from depth [] below = refl
  spells_from depth (f ∷ fs) below =
      let b = born s at depth (t ∷ ts) (suc (length fs)) ts in
      spells_from (suc depth) fs (with_frame b (behind_top (length (arms_of t.rest)) fs) f below) ∙
      ap (λ k. frames_from c s at t ts (suc depth) fs (frame b k f ∷ frames_with below [])) (same_behind fs (arms_of t.rest))

pub spells : (arms : ℕ) (borns : List ℕ) (frames : List KeptFrame) → SpellsFrames arms borns frames (stacked arms borns frames [])
spells arms borns frames c s at t ts f a b =
    rw (b, sym f, sym a) (spells_from c s at t ts 0 t.frames [])

pub spells_made : (arms : ℕ) (borns : List ℕ) (frames : List KeptFrame) (made : List Framed) → made ≡ stacked arms borns frames [] →
    SpellsFrames arms borns frames made
spells_made arms borns frames made e = subst (λ fs. SpellsFrames arms borns frames fs) (sym e) (spells arms borns frames)
