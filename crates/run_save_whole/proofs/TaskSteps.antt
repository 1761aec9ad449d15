-- Steps of the search for the first task that breaks a rule.
use Rattle.std.proofs.Common.{◌≡◌, ℕ, suc, ◌+◌, ◌<◌, ◌≤◌, Bool, true, false, ◌||◌, List, [], length, map, set, get_or, drop, replicate}
use Rattle.std.proofs.Common.{Option, Some, None, refl, sym, ap, ◌∙◌, arith}
use Rattle.std.proofs.lemmas.Bool.{or_parts, ltb-false}
use Rattle.std.proofs.lemmas.List.{get_or-map, length-map, map-set}
use Rattle.task_tree.specs.declared.tasks.Role.TheVariants.{Arm}
use Rattle.verse_code.specs.declared.codes.Code.{Code}
use Rattle.run_save_shots.specs.declared.shots.TaskShot.{TaskShot}
use Rattle.run_save_shots.specs.View.{task_of}
use Rattle.run_save_shots.specs.Kept.{KeptTask}
use Rattle.run_save_shots.specs.Fitting.{arms_of, is_root}
use Rattle.run_save_shots.proofs.Steps.{front}
use Rattle.run_save_format.specs.Whole.{broken_task}
use Rattle.run_save_whole.specs.declared.arms.Arms.{Arms}
use Rattle.run_save_whole.specs.declared.order.Floor.{Floor}
use Rattle.run_save_whole.specs.Tallies.{Marks, unmarked, marked, with_arm, no_marks, all_marks, open_floor, with_child, breaks_at}
use Rattle.run_save_whole.specs.Tallies.{wrong_task}
use Rattle.run_save_whole.specs.View.{marks_of}
use Rattle.run_save_whole.proofs.Marking.{arms_long, marks_long}
use Rattle.run_save_whole.proofs.Ordering.{tasks_decided}

-- ---- arms

marks_here : (all : List Arms) (i : ℕ) (a : Arms) → i < length all → a ≡ get_or all i a → get_or (map marks_of all) i unmarked ≡ marks_of a
marks_here all i a lt is = get_or-map marks_of all i a unmarked lt ∙ ap marks_of (sym is)

pub one_marked : (all : List Arms) (parent place : ℕ) (old new : Arms) → parent < length all → old ≡ get_or all parent old →
    marks_of new ≡ marked (marks_of old) place → map marks_of (set all parent new) ≡ with_arm (map marks_of all) (Some parent) (Arm place)
one_marked all parent place old new lt is h =
    map-set marks_of all parent new ∙
    ap (set (map marks_of all) parent) (h ∙ ap (λ m. marked m place) (sym (marks_here all parent old lt is)))

pub as_long : (all : List Arms) (tasks : List TaskShot) → map marks_of all ≡ all_marks (map task_of tasks) → length all ≡ length tasks
as_long all tasks e =
    sym (length-map all marks_of) ∙ ap length e ∙ arms_long (map task_of tasks) (map no_marks (map task_of tasks)) ∙
    length-map (map task_of tasks) no_marks ∙ length-map tasks task_of

pub counts_long : (all : List Arms) (tasks : List TaskShot) (i : ℕ) (a : Arms) (t : TaskShot) →
    map marks_of all ≡ all_marks (map task_of tasks) → i < length tasks → a ≡ get_or all i a → t ≡ get_or tasks i t →
    length a.counts.items ≡ length (arms_of (task_of t).rest)
counts_long all tasks i a t e lt is it =
    let l : length all ≡ length tasks = as_long all tasks e in
    let k : length (map task_of tasks) ≡ length tasks = length-map tasks task_of in
    let here : get_or (all_marks (map task_of tasks)) i unmarked ≡ marks_of a =
    ap (λ ms. get_or ms i unmarked) (sym e) ∙ marks_here all i a (omega (arith, l, lt)) is in
    sym (ap (λ (m : Marks). length m.0) here) ∙
    marks_long (map task_of tasks) i (task_of t) (omega (arith, k, lt))
    (get_or-map task_of tasks i t (task_of t) lt ∙ ap task_of (sym it))

-- ---- one task more

module _ (c : Code) (spent : ℕ) (all : List Arms) (tasks : List TaskShot) where
  -- the search from a place on
  abbrev pub from : (i : ℕ) → Bool → List Floor → ℕ → Option ℕ
  from i main floors frames =
      wrong_task c spent (map task_of tasks) (map marks_of all) i main floors frames (map task_of (drop i tasks))

  module _ (i : ℕ) (a : Arms) (t : TaskShot) (main : Bool) (floors : List Floor) (frames : ℕ) (total : Option ℕ) (b : Bool) where
    pub stops : map marks_of all ≡ all_marks (map task_of tasks) → i < length tasks → a ≡ get_or all i a → t ≡ get_or tasks i t →
        b ≡ breaks_at c spent (map task_of tasks) i (marks_of a) main floors frames (task_of t) → b ≡ true →
        from i main floors frames ≡ total → Some i ≡ total
    stops e lt is it tells breaks so_far =
        let l : length all ≡ length tasks = as_long all tasks e in
        let here : get_or (map marks_of all) i unmarked ≡ marks_of a = marks_here all i a (omega (arith, l, lt)) is in
        let step : from i main floors frames ≡ Some i = rw (front tasks i t lt it, here, sym tells, breaks) refl in
        sym step ∙ so_far

    pub goes_on : map marks_of all ≡ all_marks (map task_of tasks) → i < length tasks → a ≡ get_or all i a → t ≡ get_or tasks i t →
        b ≡ breaks_at c spent (map task_of tasks) i (marks_of a) main floors frames (task_of t) → b ≡ false →
        from i main floors frames ≡ total → (next : Bool) (above : List Floor) (more : ℕ) → next ≡ (main || is_root None (task_of t)) →
        above ≡ with_child floors t.parent t.role → more ≡ frames + length (task_of t).frames → from (i + 1) next above more ≡ total
    goes_on e lt is it tells holds so_far next above more n u m =
        let l : length all ≡ length tasks = as_long all tasks e in
        let here : get_or (map marks_of all) i unmarked ≡ marks_of a = marks_here all i a (omega (arith, l, lt)) is in
        let j : i + 1 ≡ suc i = omega arith in
        let step : from i main floors frames ≡ wrong_task c spent (map task_of tasks) (map marks_of all) (suc i)
        (main || is_root None (task_of t)) (with_child floors t.parent t.role) (frames + length (task_of t).frames)
        (map task_of (drop (i + 1) tasks)) = rw (front tasks i t lt it, here, sym tells, holds) refl in
        let same : from (i + 1) next above more ≡ wrong_task c spent (map task_of tasks) (map marks_of all) (suc i)
        (main || is_root None (task_of t)) (with_child floors t.parent t.role) (frames + length (task_of t).frames)
        (map task_of (drop (i + 1) tasks)) = rw (n, u, m) (ap (λ k. wrong_task c spent (map task_of tasks) (map marks_of all) k
        (main || is_root None (task_of t)) (with_child floors t.parent t.role) (frames + length (task_of t).frames)
        (map task_of (drop (i + 1) tasks))) j) in
        same ∙ sym step ∙ so_far

    pub few_frames : b ≡ breaks_at c spent (map task_of tasks) i (marks_of a) main floors frames (task_of t) → b ≡ false →
        frames + length (task_of t).frames ≤ suc spent
    few_frames tells holds = ltb-false (suc spent) (frames + length (task_of t).frames) (or_parts _ _ (sym tells ∙ holds)).1

pub tasks_decided_as : (c : Code) (spent n : ℕ) (ts : List KeptTask) (ms : List Marks) (floors : List Floor) → ms ≡ all_marks ts →
    floors ≡ replicate n open_floor → n ≡ length ts → wrong_task c spent ts ms 0 false floors 0 ts ≡ broken_task c spent ts [] 0 ts
tasks_decided_as c spent n ts ms floors e f long = rw (e, f, long) (tasks_decided c spent ts)
