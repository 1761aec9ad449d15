-- What a task that is woken goes on with, by what the tasks keep.
use Rattle.std.specs.Prelude.{◌≡◌, ℕ, Option, Some, None, option_map}
use Rattle.verse_value.specs.Val.{Val, unit}
use Rattle.verse_value.specs.View.{val_of}
use Rattle.verse_meaning_state.specs.Waits.{nth}
use Rattle.sim_clock.specs.declared.waits.WaitKind.{WaitKind}
use Rattle.sim_clock.specs.declared.waits.WaitKind.TheVariants.{At, Never, Task as OnTask, Event}
use Rattle.vm_scheduler.specs.declared.tasks.Given.{Given}
use Rattle.vm_scheduler.specs.declared.tasks.Tasks.{Tasks}

abbrev pub value_in : Option (Option Given) → Option Val
value_in None = None
value_in (Some None) = None
value_in (Some (Some g)) = Some (val_of g.value)

module _ {W : Type 0} where
  abbrev pub value_at : Tasks W → WaitKind → ℕ → Option Val
  value_at t (At moment) cause = Some unit
  value_at t Never cause = None
  value_at t (OnTask entry) cause = value_in (nth t.results.items entry)
  value_at t (Event cell) cause = option_map val_of (nth t.signals.items cause)

  -- where there is one, it is this
  abbrev pub IsValue : Tasks W → WaitKind → ℕ → Val → Type 0
  IsValue t kind cause x = (y : Val) → value_at t kind cause ≡ Some y → x ≡ y
