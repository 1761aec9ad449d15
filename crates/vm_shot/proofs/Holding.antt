-- What a machine between two turns holds.
use Rattle.std.proofs.Common.{◌≡◌, ◌≢◌, ℕ, List, [], ◌∷◌, refl, ap}
use Rattle.tx_heap.specs.State.{State}
use Rattle.vm_frames.specs.Framed.{Framed}
use Rattle.vm_running.specs.Views.{View}
use Rattle.vm_tasks.specs.declared.slots.Held.{Held}
use Rattle.vm_tasks.specs.declared.slots.Held.TheVariants.{ByMachine, Asleep, AtGroup}
use Rattle.vm_scheduler.specs.Frames.{frames_in}
use Rattle.vm_scheduler.specs.Standing.{Tree, HeldFine, AllFine}
use Rattle.vm_shot_tasks.specs.Holding.{AreFrames, HasFrames, AllHaveFrames}

pub are_frames : AreFrames frames_in
are_frames [] some = absurd (some refl)
are_frames (f ∷ fs) some = refl

pub all_have : (left : ℕ) (ts : Tree) → AllFine left ts → AllHaveFrames ts
all_have left [] a = tt
all_have left (t ∷ ts) a = (has t.item.number t.item.held a.0.held, all_have left ts a.1)
  where
    has : (n : ℕ) (h : Held (List Framed)) → HeldFine n h → HasFrames h
    has n ByMachine f = tt
    has n (Asleep fs k kind) f = f.unguarded.some
    has n (AtGroup fs g) f = f.unguarded.some

-- with the same cells and copies
pub same_view : (v : View) (h : State) → h ≡ v.heap → record v { heap = h } ≡ v
same_view v h e = ap (λ (h : State). record v { heap = h }) e
