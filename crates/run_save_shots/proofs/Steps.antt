-- Steps through the parts of a shot.
use Rattle.std.specs.Prelude.{slice_get}
use Rattle.std.proofs.Common.{◌≡◌, ℕ, ◌+◌, ◌<◌, List, ◌∷◌, length, map, get_or, drop, sym, ap, ◌∙◌, suc, ◌-◌, [], Some, arith, ◌++◌, refl}
use Rattle.std.proofs.lemmas.List.{drop_more}
use Rattle.run_save_shots.specs.declared.shots.TaskShot.{TaskShot}
use Rattle.run_save_shots.specs.View.{task_of, frame_of}
use Rattle.run_save_shots.specs.declared.shots.FrameShot.{FrameShot}
use Rattle.run_save_shots.specs.Fitting.{top_place}
use Rattle.run_save_shots.specs.Kept.{KeptFrame}

pub front : (tasks : List TaskShot) (i : ℕ) (t : TaskShot) → i < length tasks → t ≡ get_or tasks i t →
    map task_of (drop i tasks) ≡ task_of t ∷ map task_of (drop (i + 1) tasks)
front tasks i t lt it = ap (map task_of) (drop_more tasks i t lt) ∙ ap (λ u. task_of u ∷ map task_of (drop (i + 1) tasks)) (sym it)

pub top_is_last : (fs : List FrameShot) (f : FrameShot) → slice_get fs (length fs - 1) ≡ Some f → top_place (map frame_of fs) ≡ f.place
top_is_last [] f h = cc
top_is_last (g ∷ []) f h = let e : g ≡ f = cc in ap (λ (x : FrameShot). x.place) e
top_is_last (g ∷ k ∷ fs) f h =
    let e : suc (suc (length fs)) - 1 ≡ suc (suc (length fs) - 1) = omega arith in
    top_is_last (k ∷ fs) f (rw e at h)

pub top_is : (xs : List KeptFrame) (f : KeptFrame) → top_place (xs ++ f ∷ []) ≡ f.place
top_is [] f = refl
top_is (x ∷ []) f = refl
top_is (x ∷ y ∷ xs) f = top_is (y ∷ xs) f
