-- The result of a spawned task.
use Rattle.std.specs.Prelude.{◌≡◌, ℕ, List, Option, Some, None}
use Rattle.verse_value.specs.Val.{Val}
use Rattle.verse_value.specs.View.{val_of}
use Rattle.verse_value.specs.declared.values.Value.{Value}
use Rattle.verse_meaning_state.specs.State.{set_at}
use Rattle.verse_meaning_state.specs.Waits.{nth}
use Rattle.sim_clock.specs.declared.waits.Pending.{Pending}
use Rattle.vm_running.specs.Views.{View, Aside}
use Rattle.vm_scheduler.specs.declared.tasks.Given.{Given}
use Rattle.vm_scheduler.specs.declared.tasks.Tasks.{Tasks}
use Rattle.vm_scheduler.specs.Standing.{NoneOf, Clocked}

-- with a result, as of a moment: the state is then `with_result`
abbrev pub result_in : ℕ → Val → ℕ → Aside → Aside
result_in entry x moment a = record a
    { results = set_at a.results entry (Some (record { value = x; moment = moment })) }

-- the values of results
abbrev pub shown : Option (Option Value) → Option (Option Val)
shown None = None
shown (Some None) = Some None
shown (Some (Some v)) = Some (Some (val_of v))

abbrev pub values_in : Option (Option Given) → Option (Option Val)
values_in None = None
values_in (Some None) = Some None
values_in (Some (Some g)) = Some (Some (val_of g.value))

-- the task of an entry, which has given nothing yet, is gone
pub record IsOver {W : Type 0} (entry : ℕ) (t : Tasks W) : Type 0 where
  pub unset : nth t.results.items entry ≡ Some None
  pub none : NoneOf entry t.tree

module _ {W : Type 0} (pending : W → List Pending) where
  -- the clock has the result, those that await it are woken, and all else is as it was
  pub record Gives (entry : ℕ) (x : Val) (v : View) (t s : Tasks W) : Type 0 where
    pub clock : (a : Aside) → Clocked pending a v t →
        Clocked pending (result_in entry x v.moment a) v s
    pub still : s ≡ record t { gone = record t.gone { waits = s.gone.waits }; results = s.results }
