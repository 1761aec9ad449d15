-- Where a task goes on or the run is over, it is not so that no task runs.
use Rattle.std.proofs.Common.{◌≡◌, ℕ, Result, Ok, Err, IfOk, List, map, subst}
use Rattle.task_tree.specs.Nested.{IsTree}
use Rattle.verse_value.specs.Val.{Val}
use Rattle.verse_value.specs.Runs.{Line}
use Rattle.verse_code_machine.specs.Tasks.{Step}
use Rattle.sim_clock.specs.declared.waits.Pending.{Pending}
use Rattle.vm_running.specs.Views.{View, state_of}
use Rattle.vm_tasks.specs.View.{part_of}
use Rattle.vm_scheduler.specs.declared.tasks.Begins.{Begins}
use Rattle.vm_scheduler.specs.declared.tasks.Tasks.{Tasks}
use Rattle.vm_scheduler.specs.declared.tasks.Went.{Went}
use Rattle.vm_scheduler.specs.declared.tasks.Went.TheVariants as went
use Rattle.vm_scheduler.specs.Meets.{MovesOn}
use Rattle.vm_scheduler.specs.Moving.{Resumes}
use Rattle.vm_begin.specs.Arms.{BeginsArm}
use Rattle.vm_group.specs.Groups.{on_rest, Hand, CancelsArms}
use Rattle.vm_group.proofs.Settling.{group_free}

module _ {W : Type 0} (pending : W → List Pending) where
  never_down : (q : Step) (past : List Line) (r : Went) (u : View) (s : Tasks W) → MovesOn pending q past r u s → r ≡ went.Down → ⊥
  never_down q past r u s m e = subst (λ z. MovesOn pending q past z u s) e m

  pub arm_runs : {E : Type 0} (d : Result Went E) (A : Type 0) (b : Begins) (label : ℕ) (v u : View) (t s : Tasks W) → Hand pending b v t →
      IfOk d (λ r. BeginsArm pending b label r v t u s) → IfOk d (λ r. r ≡ went.Down → A)
  arm_runs (Err e) A b label v u t s h k = tt
  arm_runs (Ok r) A b label v u t s h k = λ e.
      absurd (never_down _ h.aside.past r u s (k.begins h.aside h.who h.world (on_rest h.world (state_of h.aside v)) h.standing h.bare
      h.suspended) e)

  pub task_runs : {E : Type 0} (d : Result Went E) (A : Type 0) (b : Begins) (x : Val) (v u : View) (t s : Tasks W) → IsTree t.tree →
      Hand pending b v t → IfOk d (λ r. Resumes pending b.id b.thread x r v t u s) → IfOk d (λ r. r ≡ went.Down → A)
  task_runs (Err e) A b x v u t s nested h k = tt
  task_runs (Ok r) A b x v u t s nested h k =
      λ e. absurd (never_down _ h.aside.past r u s
      (k.resumes h.aside h.who h.world (group_free pending b.id h.who (map part_of b.arms.items) h.aside h.world v t nested h.standing)
      h.bare h.suspended) e)

  pub race_runs : {E : Type 0} (d : Result Went E) (A : Type 0) (b : Begins) (x : Val) (v u : View) (t s : Tasks W) → Hand pending b v t →
      IfOk d (λ r. CancelsArms pending b.id b.thread x r v t u s) → IfOk d (λ r. r ≡ went.Down → A)
  race_runs (Err e) A b x v u t s h k = tt
  race_runs (Ok r) A b x v u t s h k = λ e.
      absurd (never_down _ h.aside.past r u s (k.cancels h.aside h.who (map part_of b.arms.items) h.world h.standing h.bare h.suspended) e)
