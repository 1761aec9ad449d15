-- The running task as a task of the tree, and what becomes of the waits where its frames come or go.
use Rattle.std.proofs.Common.{◌≡◌, ℕ, true, List, [], ◌∷◌, ◌++◌, map, Option, Some, None, IsSome, refl, sym, ap, subst, ◌∙◌}
use Rattle.task_tree.specs.Tasks.{Task, task_at, IsLive}
use Rattle.task_tree.specs.Nested.{IsTree}
use Rattle.task_tree.proofs.Standing.{inner}
use Rattle.verse_meaning_state.specs.Waits.{Wait}
use Rattle.verse_code_machine.specs.Tasks.{Who, Part, World}
use Rattle.sim_clock.specs.declared.waits.Pending.{Pending}
use Rattle.vm_frames.specs.Framed.{Framed}
use Rattle.vm_tasks_laws.specs.Slots as table
use Rattle.vm_tasks_laws.specs.Slots.{held, by_machine}
use Rattle.vm_tasks_laws.specs.Standing.{Stands}
use Rattle.vm_tasks_laws.specs.Clocks.{with_held, sleeping}
use Rattle.vm_tasks_laws.proofs.Steps.{running_spot, is_held, at_spot}
use Rattle.vm_tasks_laws.proofs.Wakings.{item_waits}
use Rattle.vm_tasks.specs.declared.slots.Slot.{Slot}
use Rattle.vm_tasks.specs.declared.slots.Held.{Held}
use Rattle.vm_tasks.specs.View.{held_of, slot_of, role_of}
use Rattle.vm_tasks.specs.Begun.{Reheld}
use Rattle.vm_frames.specs.Machine.{frames_with, all_free}
use Rattle.vm_running.specs.Views.{View}
use Rattle.vm_scheduler.specs.declared.tasks.Tasks.{Tasks}
use Rattle.vm_scheduler.specs.Frames.{frames_in}
use Rattle.vm_scheduler.specs.Ups.{ups_of, id_of}
use Rattle.vm_scheduler.specs.Going.{Goes}
use Rattle.vm_scheduler.specs.Standing.{Tree, HeldFine, AllFine}
use Rattle.vm_scheduler.proofs.Fines.{fine_at, fine_item}
use Rattle.vm_scheduler.proofs.Running.{own_of}

pub record Seat (task : Task (Slot (List Framed))) (w : Who) : Type 0 where
  pub number : task.item.number ≡ w.number
  pub role : role_of task.item.root ≡ w.role
  pub by : held_of frames_in task.item.held ≡ by_machine

-- the running task is the one with its number in the tree
pub seat : (tree : Tree) (ids : List ℕ) (id : ℕ) (w : Who) (arms : Option (List Part)) (o : World) (task : Task (Slot (List Framed))) →
    IsTree tree → Stands (slot_of frames_in) tree ids (held id w arms ∷ []) o → task_at id tree ≡ Some task → Seat task w
seat tree ids id w arms o task nested s at =
    let p = running_spot (slot_of frames_in) tree ids (held id w arms) o s in
    let h = is_held (slot_of frames_in) p.task.number id (slot_of frames_in p.task.item).held w arms p.good.0.shows in
    let same : p.task ≡ task = inner (sym (ap (λ k. task_at k tree) h.0 ∙ at_spot (slot_of frames_in) p nested) ∙ at) in
    record {
      number = ap (λ (z : Task (Slot (List Framed))). z.item.number) (sym same) ∙ sym (ap (λ (z : Who). z.number) p.good.0.who);
      role = ap (λ (z : Task (Slot (List Framed))). role_of z.item.root) (sym same) ∙ sym (ap (λ (z : Who). z.role) p.good.0.who);
      by = ap (λ (z : Task (Slot (List Framed))). held_of frames_in z.item.held) (sym same) ∙ h.1;
    }

-- frames that come or go with no wait leave the waits
pub same_waits : (tree new : Tree) (id : ℕ) (h : Held (List Framed)) → IsTree tree → (r : Reheld tree new id h) →
    ((xs : List (ℕ × Wait)) → with_held id (held_of frames_in r.task.item.held) xs ≡ xs) →
    ((xs : List (ℕ × Wait)) → with_held id (held_of frames_in h) xs ≡ xs) →
    sleeping (slot_of frames_in) new ≡ sleeping (slot_of frames_in) tree
same_waits tree new id h nested r old fresh =
    let iw = item_waits (slot_of frames_in) tree id r.task nested r.at_it in
    ap (λ z. sleeping (slot_of frames_in) z) r.is ∙
    (iw.are (record r.task.item { held = h }) ∙
    (ap (λ z. iw.first ++ z) (fresh iw.last) ∙ (sym (ap (λ z. iw.first ++ z) (old iw.last)) ∙ sym iw.were)))

pub machine_waits : (id : ℕ) (h : table.Held) (xs : List (ℕ × Wait)) → h ≡ by_machine → with_held id h xs ≡ xs
machine_waits id h xs e = ap (λ z. with_held id z xs) e

-- and the tasks fine
pub fine_reheld : (left : ℕ) (tree new : Tree) (id : ℕ) (h : Held (List Framed)) → IsTree tree → (r : Reheld tree new id h) →
    HeldFine r.task.item.number h → AllFine left tree → AllFine left new
fine_reheld left tree new id h nested r kept a =
    let f = fine_at left id tree r.task r.at_it a in
    subst (λ z. AllFine left z) (sym r.is) (fine_item left id tree r.task (record r.task.item { held = h }) nested r.at_it
    (record { number = f.number; since = f.since; held = kept }) a)

-- it is live

pub live_stands : (tree : Tree) (ids : List ℕ) (id : ℕ) (w : Who) (arms : Option (List Part)) (o : World) → IsTree tree →
    Stands (slot_of frames_in) tree ids (held id w arms ∷ []) o → IsLive id tree
live_stands tree ids id w arms o nested s =
    let p = running_spot (slot_of frames_in) tree ids (held id w arms) o s in
    let h = is_held (slot_of frames_in) p.task.number id (slot_of frames_in p.task.item).held w arms p.good.0.shows in
    subst (λ z. IsSome z) (sym (ap (λ k. task_at k tree) h.0 ∙ at_spot (slot_of frames_in) p nested)) refl

module _ {W : Type 0} (pending : W → List Pending) where
  pub live_here : (v : View) (t : Tasks W) → IsTree t.tree → Goes pending v t → all_free (frames_with v.frames []) ≡ true →
      IsLive t.id t.tree
  live_here v t nested g free =
      let own = own_of pending g.scene v t g.going free in
      live_stands t.tree (map id_of (ups_of t.ups.items)) t.id g.scene.who None g.scene.world nested own.standing.stands
