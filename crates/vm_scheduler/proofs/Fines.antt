-- What holds of the tasks of a tree one by one.
use Rattle.std.proofs.Common.{◌≡◌, ℕ, ◌<◌, ◌≤◌, List, [], ◌∷◌, ◌++◌, Some, sym, ap, subst, ◌∙◌, arith}
use Rattle.task_tree.specs.Tasks.{Task, task_at, with_item, without}
use Rattle.task_tree.specs.Nested.{IsTree, Distinct}
use Rattle.task_tree.specs.Removing.{Added}
use Rattle.task_tree.proofs.Standing.{found, beside, changed_here}
use Rattle.vm_frames.specs.Framed.{Framed}
use Rattle.vm_tasks_laws.proofs.Lists.{Each, each_append, each_parts}
use Rattle.vm_tasks.specs.declared.slots.Slot.{Slot}
use Rattle.vm_tasks.specs.View.{slot_of}
use Rattle.vm_tasks.specs.Standing.{AllEarlier, NoneLater}
use Rattle.vm_tasks_laws.proofs.Wakings.{added_each, without_each}
use Rattle.vm_scheduler.specs.Frames.{frames_in}
use Rattle.vm_scheduler.specs.Standing.{Tree, Fine, AllFine}

abbrev FineTask : ℕ → Task (Slot (List Framed)) → Type 0
FineTask left t = Fine left t.item

each_fine : (left : ℕ) (ts : Tree) → AllFine left ts → Each (FineTask left) ts
each_fine left [] a = tt
each_fine left (t ∷ ts) a = (a.0, each_fine left ts a.1)

all_fine : (left : ℕ) (ts : Tree) → Each (FineTask left) ts → AllFine left ts
all_fine left [] a = tt
all_fine left (t ∷ ts) a = (a.0, all_fine left ts a.1)

pub fine_less : (left less : ℕ) (ts : Tree) → less ≤ left → AllFine left ts → AllFine less ts
fine_less left less [] le a = tt
fine_less left less (t ∷ ts) le a =
    let number = a.0.number in
    let since = a.0.since in
    (record { number = omega (arith, le, number); since = omega (arith, le, since); held = a.0.held }, fine_less left less ts le a.1)

pub fine_earlier : (left n : ℕ) (ts : Tree) → n < left → AllFine left ts → AllEarlier n ts
fine_earlier left n [] lt a = tt
fine_earlier left n (t ∷ ts) lt a = let number = a.0.number in (omega (arith, lt, number), fine_earlier left n ts lt a.1)

pub fine_none_later : (left : ℕ) (ts : Tree) → AllFine left ts → NoneLater left ts
fine_none_later left [] a = tt
fine_none_later left (t ∷ ts) a = (a.0.number, fine_none_later left ts a.1)

pub fine_added : (left : ℕ) (old new : Tree) (u : Task (Slot (List Framed))) → Added u old new → Fine left u.item → AllFine left old →
    AllFine left new
fine_added left old new u added f a = all_fine left new
    (added_each (slot_of frames_in) (FineTask left) old new u added f (each_fine left old a))

pub fine_without : (left id : ℕ) (ts : Tree) → AllFine left ts → AllFine left (without id ts)
fine_without left id ts a = all_fine left (without id ts) (without_each (slot_of frames_in) (FineTask left) ts id (each_fine left ts a))

pub fine_at : (left id : ℕ) (ts : Tree) (t : Task (Slot (List Framed))) → task_at id ts ≡ Some t → AllFine left ts → Fine left t.item
fine_at left id ts t at a =
    let p = found id ts t at in
    (each_parts (FineTask left) p.front (t ∷ p.back) (subst (λ w. Each (FineTask left) w) p.was (each_fine left ts a))).1.0

pub fine_item : (left id : ℕ) (ts : Tree) (t : Task (Slot (List Framed))) (item : Slot (List Framed)) → IsTree ts → task_at id ts ≡ Some t →
    Fine left item → AllFine left ts → AllFine left (with_item id ts item)
fine_item left id ts t item tree at f a =
    let p = found id ts t at in
    let alone = beside p.front p.back t (subst (λ z. Distinct z) p.was tree.distinct) in
    let parts = each_parts (FineTask left) p.front (t ∷ p.back) (subst (λ w. Each (FineTask left) w) p.was (each_fine left ts a)) in
    let list : with_item id ts item ≡ p.front ++ record t { item = item } ∷ p.back =
    ap (λ n. with_item n ts item) (sym p.number) ∙
    (ap (λ z. with_item t.number z item) p.was ∙ changed_here p.front p.back t (λ u. record u { item = item }) alone.0) in
    subst (λ w. AllFine left w) (sym list) (all_fine left (p.front ++ record t { item = item } ∷ p.back)
    (each_append (FineTask left) p.front (record t { item = item } ∷ p.back) parts.0 (f, parts.1.1)))
