-- What a task that is woken goes on with, by the clock and by what the tasks keep.
use Rattle.std.proofs.Common.{◌≡◌, ℕ, List, Option, Some, None, option_map, refl, sym, ap, ◌∙◌}
use Rattle.verse_value.specs.View.{val_of}
use Rattle.verse_meaning_state.specs.State.{Given, Signal}
use Rattle.verse_meaning_state.specs.Waits.{nth, given_by}
use Rattle.verse_meaning_state.proofs.Numbers.{nth_map}
use Rattle.sim_clock.specs.declared.waits.WaitKind.{WaitKind}
use Rattle.sim_clock.specs.declared.waits.WaitKind.TheVariants.{At, Never, Task as OnTask, Event}
use Rattle.sim_clock.specs.declared.waits.Pending.{Pending}
use Rattle.vm_tasks_laws.specs.Clocks.{cause_of, value_for}
use Rattle.vm_running.specs.Views.{View, Aside, state_of}
use Rattle.vm_scheduler.specs.declared.tasks.Given as given
use Rattle.vm_scheduler.specs.declared.tasks.Tasks.{Tasks}
use Rattle.vm_scheduler.specs.Standing.{given_of, Clocked}
use Rattle.vm_wake.specs.Values.{value_in, value_at}

given_value : (o : Option (Option given.Given)) →
    option_map (λ (g : Given). g.value) (given_by (option_map (λ o. option_map given_of o) o)) ≡ value_in o
given_value None = refl
given_value (Some None) = refl
given_value (Some (Some g)) = refl

module _ {W : Type 0} (pending : W → List Pending) where
  pub value_is : (a : Aside) (v : View) (t : Tasks W) (kind : WaitKind) (cause : ℕ) → Clocked pending a v t →
      value_for (state_of a v) (cause_of kind) cause ≡ value_at t kind cause
  value_is a v t (At moment) cause c = refl
  value_is a v t Never cause c = refl
  value_is a v t (OnTask entry) cause c =
      ap (λ z. option_map (λ (g : Given). g.value) (given_by (nth z entry))) c.results ∙
      (ap (λ z. option_map (λ (g : Given). g.value) (given_by z)) (nth_map (λ o. option_map given_of o) t.results.items entry) ∙
      given_value (nth t.results.items entry))
  value_is a v t (Event cell) cause c =
      sym (nth_map (λ (g : Signal). g.given.value) a.signals cause) ∙
      (ap (λ z. nth z cause) c.signals ∙ nth_map val_of t.signals.items cause)
