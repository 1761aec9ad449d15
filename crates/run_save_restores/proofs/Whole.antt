-- What fits breaks no rule on the whole list.
use Rattle.std.proofs.Common.{◌≡◌, ℕ, suc, ◌+◌, ◌≤◌, Bool, false, eqb, ltb, ◌&&◌, ◌||◌, List, [], ◌∷◌, ◌++◌, length, Option}
use Rattle.std.proofs.Common.{Some, None, refl, sym, ap, ◌∙◌, arith}
use Rattle.std.proofs.lemmas.Bool.{eq-eqb, le-ltb, not_from_true, or_from}
use Rattle.verse_base.proofs.Facts.{none_cond, rejoin}
use Rattle.verse_value.specs.Store.{Cell, Store}
use Rattle.verse_meaning_state.specs.State.{Given}
use Rattle.run_save_shots.specs.Lists.{Each, EachAt, count}
use Rattle.run_save_shots.specs.Kept.{KeptTask}
use Rattle.run_save_shots.specs.Fitting.{ArmsRun, DepthFits, Fits, HasRoot, InOrder, ParentBefore, TaskFits, ValuesFit, frames_in, is_root}
use Rattle.run_save_shots.specs.Fitting.{runs_once}
use Rattle.run_save_shots.proofs.Lists.{each_as}
use Rattle.run_save_format.specs.Reading.{Found}
use Rattle.run_save_format.specs.Whole.{any, breaks_cell, breaks_entry, breaks_task, broken, broken_cell, broken_entry, broken_task}
use Rattle.run_save_format.specs.Whole.{child_breaks, is_disordered, is_later, left_at, or_else, rest_breaks}
use Rattle.run_save_restores.specs.Unbroken.{FitsIsUnbroken}
use Rattle.run_save_restores.proofs.Counts.{alone, any_none, at_here, each_here, frames_here, frames_last, two_here}
use Rattle.run_save_restores.proofs.Names.{slots_name_some}
use Rattle.run_save_restores.proofs.Tests.{child_stands, is_ordered, not_later, rest_stands}

pub no_cell_broken : (n address : ℕ) (cells : Store) → Each (λ (x : Cell). ValuesFit n x.slots) cells → broken_cell n address cells ≡ None
no_cell_broken n address [] p = refl
no_cell_broken n address (c ∷ cells) p =
    none_cond (breaks_cell n c) address (broken_cell n (suc address) cells) (slots_name_some n c.slots p.0)
    (no_cell_broken n (suc address) cells p.1)

pub no_entry_broken : (ts : List KeptTask) (entry : ℕ) (gs : List (Option Given)) → EachAt (HasRoot ts) entry gs →
    broken_entry ts entry gs ≡ None
no_entry_broken ts entry [] p = refl
no_entry_broken ts entry (g ∷ gs) p =
    none_cond (breaks_entry ts entry g) entry (broken_entry ts (suc entry) gs)
    (not_from_true (eqb (count (is_root (Some entry)) ts) (runs_once g)) (eq-eqb _ _ p.0)) (no_entry_broken ts (suc entry) gs p.1)

module _ (m : Found) (fits : Fits m.code m.kept) where
  task_stands : (before : List KeptTask) (t : KeptTask) (ts : List KeptTask) → m.kept.tasks ≡ before ++ t ∷ ts →
      breaks_task m.code m.kept.spent m.kept.tasks before (frames_in before) t ≡ false
  task_stands before t ts here =
      or_from (a || b || d || e || f) g
      (or_from (a || b || d || e) f
      (or_from (a || b || d) e
      (or_from (a || b) d
      (or_from a b (not_later (length before) t parent) (alone (is_root None) before t ts here fits.main))
      (child_stands fits.arms before t ts here parent (each_here (DepthFits m.kept.tasks) before t ts here fits.depths)))
      (any_none (is_disordered t.parent t.role) before
      (each_as (λ u. InOrder u t) (λ u. is_disordered t.parent t.role u ≡ false) before (is_ordered t)
      (two_here InOrder before t ts here fits.order))))
      (rest_stands m.code m.kept m.kept.tasks (length before) t (at_here (ArmsRun m.kept.tasks) before t ts here fits.arms) task.rest))
      (le-ltb (suc m.kept.spent) (frames_in before + length t.frames) few)
    where
      parent : ParentBefore (length before) t
      parent = at_here ParentBefore before t ts here fits.parents

      task : TaskFits m.code m.kept t
      task = each_here (TaskFits m.code m.kept) before t ts here fits.tasks

      few : frames_in before + length t.frames ≤ suc m.kept.spent
      few = let low = frames_here before t ts here in omega (arith, low, fits.few_frames)

      a : Bool
      a = is_later (length before) t.parent

      b : Bool
      b = is_root None t && any (is_root None) before

      d : Bool
      d = child_breaks m.kept.tasks t.parent t.role

      e : Bool
      e = any (is_disordered t.parent t.role) before

      f : Bool
      f = rest_breaks m.code m.kept.tasks (length before) t t.rest

      g : Bool
      g = ltb (suc m.kept.spent) (frames_in before + length t.frames)

  no_task_broken : (before ts : List KeptTask) (frames : ℕ) → frames ≡ frames_in before → m.kept.tasks ≡ before ++ ts →
      broken_task m.code m.kept.spent m.kept.tasks before frames ts ≡ None
  no_task_broken before [] frames sum here = refl
  no_task_broken before (t ∷ ts) frames sum here =
      none_cond (breaks_task m.code m.kept.spent m.kept.tasks before frames t) (length before)
      (broken_task m.code m.kept.spent m.kept.tasks (before ++ t ∷ []) (frames + length t.frames) ts)
      (ap (λ n. breaks_task m.code m.kept.spent m.kept.tasks before n t) sum ∙ task_stands before t ts here)
      (no_task_broken (before ++ t ∷ []) ts (frames + length t.frames)
      (ap (λ n. n + length t.frames) sum ∙ sym (frames_last before t)) (here ∙ sym (rejoin before t ts)))

  pub is_unbroken : broken m ≡ None
  is_unbroken =
      ap (λ o. or_else (left_at m.cell_lefts o)
      (or_else (left_at m.entry_lefts (broken_entry m.kept.tasks 0 m.kept.spawned))
      (left_at m.task_lefts (broken_task m.code m.kept.spent m.kept.tasks [] 0 m.kept.tasks))))
      (no_cell_broken (length m.kept.spawned) 0 m.kept.cells fits.slots)
      ∙ ap (λ o. or_else (left_at m.entry_lefts o)
      (left_at m.task_lefts (broken_task m.code m.kept.spent m.kept.tasks [] 0 m.kept.tasks)))
      (no_entry_broken m.kept.tasks 0 m.kept.spawned fits.roots)
      ∙ ap (left_at m.task_lefts) (no_task_broken [] m.kept.tasks 0 refl refl)

pub fits_is_unbroken : FitsIsUnbroken
fits_is_unbroken = is_unbroken
