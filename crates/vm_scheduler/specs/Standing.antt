-- When tasks stand for those of the machine's definition.
use Rattle.std.specs.Prelude.{◌≡◌, ◌≤◌, ℕ, ◌+◌, List, [], ◌∷◌, map, Option, Some, None, option_map}
use Rattle.task_tree.specs.Tasks.{Task}
use Rattle.verse_value.specs.View.{val_of}
use Rattle.verse_meaning_state.specs.State.{Signal}
use Rattle.verse_meaning_state.specs.State as state
use Rattle.verse_meaning_state.specs.Waits.{nth}
use Rattle.verse_code_machine.specs.Tasks.{World}
use Rattle.sim_clock.specs.declared.waits.Pending.{Pending}
use Rattle.vm_tasks_laws.specs.Slots.{Entry}
use Rattle.vm_tasks_laws.specs.Standing.{Stands}
use Rattle.vm_tasks_laws.specs.Clocks.{sleeping, Timed}
use Rattle.vm_frames.specs.Framed.{Framed}
use Rattle.vm_running.specs.Views.{View, Aside, IsPast, state_of}
use Rattle.vm_tasks.specs.declared.slots.Slot.{Slot}
use Rattle.vm_tasks.specs.declared.slots.Root.{Root}
use Rattle.vm_tasks.specs.declared.slots.Root.TheVariants.{Part as APart, Main, Spawned}
use Rattle.vm_tasks.specs.declared.slots.Held.{Held}
use Rattle.vm_tasks.specs.declared.slots.Held.TheVariants.{ByMachine, Asleep, AtGroup}
use Rattle.vm_tasks.specs.View.{slot_of}
use Rattle.vm_scheduler.specs.declared.tasks.Given.{Given}
use Rattle.vm_scheduler.specs.declared.tasks.Tasks.{Tasks}
use Rattle.vm_scheduler.specs.Frames.{frames_in, Suspended}
use Rattle.vm_scheduler.specs.Ups.{ups_of, id_of, UpsAre}

-- a tree of tasks, whose frames are threads
abbrev pub Tree : Type 0
Tree = List (Task (Slot (List Framed)))

abbrev pub given_of : Given → state.Given
given_of g = record { value = val_of g.value; moment = g.moment }

-- what a task that is suspended holds
abbrev pub HeldFine : ℕ → Held (List Framed) → Type 0
HeldFine n ByMachine = Unit {0}
HeldFine n (Asleep fs k kind) = Suspended n fs
HeldFine n (AtGroup fs g) = Suspended n fs

-- it began, and so did its group, when at least so many steps were left
pub record Fine (left : ℕ) (s : Slot (List Framed)) : Type 0 where
  pub number : left ≤ s.number
  pub since : left ≤ s.since
  pub held : HeldFine s.number s.held

abbrev pub AllFine : ℕ → Tree → Type 0
AllFine left [] = Unit {0}
AllFine left (t ∷ ts) = Fine left t.item × AllFine left ts

-- of the entry of a spawned task
abbrev pub OfEntry : (ℕ → Type 0) → Root → Type 0
OfEntry P APart = Unit {0}
OfEntry P Main = Unit {0}
OfEntry P (Spawned entry) = P entry

abbrev pub AllUntold : List (Option Given) → (ℕ → ℕ) → Tree → Type 0
AllUntold results number [] = Unit {0}
AllUntold results number (t ∷ ts) =
    OfEntry (λ entry. (nth results entry ≡ Some None) × (number entry ≡ t.number)) t.item.root ×
    AllUntold results number ts

-- spawned tasks that are live have given nothing yet, and no two of them are of one entry
pub record Untold (results : List (Option Given)) (tree : Tree) : Type 0 where
  -- of an entry the number of its task in the tree
  pub number : ℕ → ℕ
  pub all : AllUntold results number tree

-- no live task is of the entry
abbrev pub NoneOf : ℕ → Tree → Type 0
NoneOf entry [] = Unit {0}
NoneOf entry (t ∷ ts) = (t.item.root ≡ Spawned entry → ⊥) × NoneOf entry ts

module _ {W : Type 0} where
  abbrev pub ids : Tasks W → List ℕ
  ids t = map id_of (ups_of t.ups.items)

  module _ (pending : W → List Pending) where
    -- the clock, results and signals are those of the tasks, and the waits are those of the tasks
    -- that are asleep
    pub record Clocked (a : Aside) (v : View) (t : Tasks W) : Type 0 where
      pub past : IsPast a v
      pub next : a.next ≡ t.next
      pub results : a.results ≡ map (λ o. option_map given_of o) t.results.items
      pub signals : map (λ (g : Signal). g.given.value) a.signals ≡ map val_of t.signals.items
      pub timed : Timed (sleeping (slot_of frames_in) t.tree) (pending t.gone.waits) (state_of a v)
      pub fine : AllFine v.left t.tree
      pub untold : Untold t.results.items t.tree

    -- nothing is being cancelled; these entries are of the tasks that neither wait nor are above
    -- one that runs
    pub record Standing (run : List Entry) (a : Aside) (o : World) (v : View) (t : Tasks W) :
        Type 0 where
      pub clock : Clocked a v t
      pub stands : Stands (slot_of frames_in) t.tree (ids t) run o
      pub ups : UpsAre (ups_of t.ups.items) o.ups
      pub still : t.after ≡ None
      pub none : t.gone.frames.items ≡ []

-- no handler is open
pub record Bare (v : View) : Type 0 where
  pub copies : v.heap.copies ≡ []
  pub marks : v.trace.marks ≡ []
  pub steps : v.left + v.spent ≤ 18446744073709551615
