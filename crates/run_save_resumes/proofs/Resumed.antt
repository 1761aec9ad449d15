-- A run can go on from the state and the trees that what fits spells.
use Rattle.std.proofs.Common.{◌≡◌, ℕ, zero, suc, ◌+◌, ◌*◌, ◌≤◌, length, List, [], ◌∷◌, ◌++◌, true, refl, sym, subst, ap, ◌∙◌, arith}
use Rattle.verse_code.specs.declared.codes.Code.{Code}
use Rattle.verse_code_machine.specs.Tasks.{Frame, Who, Task}
use Rattle.verse_code_machine.specs.Frames.{free}
use Rattle.verse_code_machine.specs.Runs.{Forest}
use Rattle.verse_code_machine.specs.Belonging.{HandlersBelong, FrameBelongs, FramesBelong, TasksBelong, TreesBelong}
use Rattle.verse_code_machine.specs.Goings.{TasksAreFree, TreesAreFree, tasks_frames, trees_frames, RunsEndFrom, RunBelongsFrom}
use Rattle.run_save_shots.specs.Lists.{Each}
use Rattle.run_save_shots.specs.Kept.{KeptFrame, KeptTask, Kept}
use Rattle.run_save_shots.specs.Fitting.{frames_in}
use Rattle.run_save_shots.specs.Spelling.{frames_from, with_frames, who, task, tasks_from, trees}
use Rattle.run_save_resumes.specs.Laws.{FitsIsResumable, FittingRunEnds, FittingRunBelongs}
use Rattle.run_save_resumes.proofs.Adding.{tasks_sum, trees_sum, is_named, tasks_join}
use Rattle.run_save_resumes.proofs.Naming.{names_apart}
use Rattle.run_save_resumes.proofs.Growing.{grown_each, grown_sum}

-- a frame without a handler and without a noted place
pub record Bare (f : Frame) : Type 0 where
  pub handlers : f.handlers ≡ []
  pub noted : f.life.noted ≡ []

abbrev frames_of : Task → ℕ
frames_of t = suc (length t.thread.below)

bare_free : (f : Frame) (fs : List Frame) → Bare f → Each Bare fs → free f.handlers f.life.noted fs ≡ true
bare_free f [] a b = ap (λ hs. free hs f.life.noted []) a.handlers ∙ ap (λ ns. free [] ns []) a.noted
bare_free f (g ∷ fs) a b = ap (λ hs. free hs f.life.noted (g ∷ fs)) a.handlers ∙
    (ap (λ ns. free [] ns (g ∷ fs)) a.noted ∙ bare_free g fs b.0 b.1)

each_join : (P : Task → Type 0) (xs ys : List Task) → Each P xs → Each P ys → Each P (xs ++ ys)
each_join P [] ys a b = b
each_join P (x ∷ xs) ys a b = (a.0, each_join P xs ys a.1 b)

abbrev TaskIsBare : Task → Type 0
TaskIsBare t = Bare t.thread.frame × Each Bare t.thread.below

tasks_free : (ts : List Task) → Each TaskIsBare ts → TasksAreFree ts
tasks_free [] a = tt
tasks_free (t ∷ ts) a = (bare_free t.thread.frame t.thread.below a.0.0 a.0.1, tasks_free ts a.1)

trees_free : (tss : Forest) → Each (λ ts. Each TaskIsBare ts) tss → TreesAreFree tss
trees_free [] a = tt
trees_free (ts ∷ tss) a = (tasks_free ts a.0, trees_free tss a.1)

tasks_count : (ts : List Task) → tasks_frames ts ≡ tasks_sum frames_of ts
tasks_count [] = refl
tasks_count (t ∷ ts) = let h = tasks_count ts in omega (arith, h)

trees_count : (tss : Forest) → trees_frames tss ≡ trees_sum frames_of tss
trees_count [] = refl
trees_count (ts ∷ tss) = let h = trees_count tss in let g = tasks_count ts in omega (arith, h, g)

module _ (c : Code) where
  frame_belongs : (f : Frame) → Bare f → FrameBelongs c.classes f
  frame_belongs f a = subst (HandlersBelong c.classes) (sym a.handlers) tt

  frames_belong : (fs : List Frame) → Each Bare fs → FramesBelong c.classes fs
  frames_belong [] a = tt
  frames_belong (f ∷ fs) a = (frame_belongs f a.0, frames_belong fs a.1)

  tasks_belong : (ts : List Task) → Each TaskIsBare ts → TasksBelong c.classes ts
  tasks_belong [] a = tt
  tasks_belong (t ∷ ts) a = ((frame_belongs t.thread.frame a.0.0, frames_belong t.thread.below a.0.1), tasks_belong ts a.1)

  trees_belong : (tss : Forest) → Each (λ ts. Each TaskIsBare ts) tss → TreesBelong c.classes tss
  trees_belong [] a = tt
  trees_belong (ts ∷ tss) a = (tasks_belong ts a.0, trees_belong tss a.1)

  module _ (s : Kept) where
    module _ (at : ℕ) (t : KeptTask) (ts : List KeptTask) where
      from_bare : (depth : ℕ) (fs : List KeptFrame) (below : List Frame) → Each Bare below →
          Each Bare (frames_from c s at t ts depth fs below)
      from_bare depth [] below a = a
      from_bare depth (f ∷ fs) below a = from_bare (suc depth) fs _ (record { handlers = refl; noted = refl }, a)

      from_length : (depth : ℕ) (fs : List KeptFrame) (below : List Frame) →
          length (frames_from c s at t ts depth fs below) ≡ length fs + length below
      from_length depth [] below = omega arith
      from_length depth (f ∷ fs) below = from_length (suc depth) fs _ ∙ sums (length fs) (length below)
        where
          sums : (i j : ℕ) → i + suc j ≡ suc i + j
          sums i j = omega arith

      with_bare : (w : Who) (fs : List Frame) → Each Bare fs → Each TaskIsBare (with_frames c s at t ts w fs)
      with_bare w [] a = tt
      with_bare w (f ∷ fs) a = (a, tt)

      with_count : (w : Who) (fs : List Frame) → tasks_sum frames_of (with_frames c s at t ts w fs) ≤ length fs
      with_count w [] = omega arith
      with_count w (f ∷ fs) = omega arith

    all_bare : (ws : List Who) (ts : List KeptTask) → Each TaskIsBare (tasks_from c s ws ts)
    all_bare ws [] = tt
    all_bare ws (t ∷ ts) = each_join TaskIsBare (task c s (length ws) t ts ws) _
        (with_bare (length ws) t ts (who c s (length ws) t ts ws) (frames_from c s (length ws) t ts 0 t.frames [])
        (from_bare (length ws) t ts 0 t.frames [] tt)) (all_bare (ws ++ who c s (length ws) t ts ws ∷ []) ts)

    all_count : (ws : List Who) (ts : List KeptTask) → tasks_sum frames_of (tasks_from c s ws ts) ≤ frames_in ts
    all_count ws [] = omega arith
    all_count ws (t ∷ ts) =
        let a = tasks_join frames_of (task c s (length ws) t ts ws) (tasks_from c s (ws ++ who c s (length ws) t ts ws ∷ []) ts) in
        let b = with_count (length ws) t ts (who c s (length ws) t ts ws) (frames_from c s (length ws) t ts 0 t.frames []) in
        let d = from_length (length ws) t ts 0 t.frames [] in
        let e = all_count (ws ++ who c s (length ws) t ts ws ∷ []) ts in
        sums (tasks_sum frames_of (tasks_from c s ws (t ∷ ts))) _ _ _ (length t.frames) (frames_in ts) a b d e
      where
        sums : (all x y i j k : ℕ) → all ≡ x + y → x ≤ i → i ≡ j + 0 → y ≤ k → all ≤ j + k
        sums all x y i j k a b d e = omega (arith, a, b, d, e)

    bare_trees : Each (λ ts. Each TaskIsBare ts) (trees c s)
    bare_trees = grown_each TaskIsBare [] (tasks_from c s [] s.tasks) (all_bare [] s.tasks) tt

    few_frames : trees_frames (trees c s) ≤ frames_in s.tasks
    few_frames =
        let a = trees_count (trees c s) in
        let b = grown_sum (tasks_from c s [] s.tasks) [] [] (λ f. omega arith) (λ p. alone p) frames_of in
        let d = all_count [] s.tasks in
        sums (trees_frames (trees c s)) (trees_sum frames_of (trees c s)) (tasks_sum frames_of (tasks_from c s [] s.tasks))
        (frames_in s.tasks) a b d
      where
        alone : (p : List ℕ) → 0 + tasks_sum (is_named p) (tasks_from c s [] s.tasks) ≤ 1
        alone p = let h = names_apart c s p in omega (arith, h)

        sums : (x y z k : ℕ) → x ≡ y → y ≤ 0 + z → z ≤ k → x ≤ k
        sums x y z k a b d = omega (arith, a, b, d)

-- no task, no frame
none_none : (ts : List KeptTask) → length ts ≤ 0 → frames_in ts ≤ 0
none_none [] h = omega arith
none_none (t ∷ ts) h = absurd (never (length ts) h)
  where
    never : (n : ℕ) → suc n ≤ 0 → ⊥
    never n e = omega (arith, e)

twice : (n : ℕ) (ts : List KeptTask) → length ts ≤ n → frames_in ts ≤ suc n → frames_in ts ≤ 2 * n
twice zero ts h g = let a = none_none ts h in omega (arith, a)
twice (suc n) ts h g = omega (arith, g)

further : (i j k : ℕ) → i ≤ j → j ≤ k → i ≤ k
further i j k e f = omega (arith, e, f)

pub fits_is_resumable : FitsIsResumable
fits_is_resumable c x a = record {
  can = record {
    are_free = trees_free (trees c x) (bare_trees c x);
    few = further (trees_frames (trees c x)) (frames_in x.tasks) (2 * x.spent) (few_frames c x)
        (twice x.spent x.tasks a.few_tasks a.few_frames);
  };
  state_belongs = a.cells;
  trees_belong = trees_belong c (trees c x) (bare_trees c x);
}

pub fitting_run_ends : RunsEndFrom → FittingRunEnds
fitting_run_ends law c x until valid a = law c (x.left + x.spent) until _ _ valid refl (fits_is_resumable c x a).can

pub fitting_run_belongs : RunBelongsFrom → FittingRunBelongs
fitting_run_belongs law c x until k a = let r =
    fits_is_resumable c x a in law c (x.left + x.spent) until k _ _ r.state_belongs r.trees_belong
