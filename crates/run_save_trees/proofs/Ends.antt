-- All tasks are put.
use Rattle.std.proofs.Common.{◌≡◌, ℕ, List, [], ◌∷◌, map, Some, sym, ap, subst, ◌∙◌}
use Rattle.std.proofs.lemmas.List.{append-nil}
use Rattle.task_tree.specs.Tasks.{Task}
use Rattle.verse_code.specs.declared.codes.Code.{Code}
use Rattle.vm_tasks_laws.specs.Standing.{Rests}
use Rattle.vm_tasks_laws.specs.Clocks.{sleeping}
use Rattle.vm_frames.specs.Framed.{Framed}
use Rattle.vm_tasks.specs.declared.slots.Slot.{Slot}
use Rattle.vm_scheduler.specs.Standing.{Tree, Fine, AllFine}
use Rattle.run_save_shots.specs.Lists.{Each, AreDistinct, count}
use Rattle.run_save_shots.specs.Kept.{KeptTask, Kept}
use Rattle.run_save_shots.specs.Fitting.{is_root, waits_in, Fits}
use Rattle.run_save_slots.specs.Started.{number_of}
use Rattle.run_save_trees.specs.declared.tables.Restored.{Restored}
use Rattle.run_save_trees.specs.Restoring.{IsEmpty, AllPut, none_put, one_put}
use Rattle.run_save_trees.specs.Laws.{StandsFor}
use Rattle.run_save_trees.proofs.Roots.{roots_untold}
use Rattle.run_save_trees.proofs.Clocks.{distinct_is, clock_timed}
use Rattle.run_save_trees.proofs.Restoring.{slot, Restoring, begins, goes_on}

fine_all : (left : ℕ) (ts : Tree) → Each (λ (v : Task (Slot (List Framed))). Fine left v.item) ts → AllFine left ts
fine_all left [] e = tt
fine_all left (t ∷ ts) e = (e.0, fine_all left ts e.1)

pub ends : (c : Code) (s : Kept) (r : Restored) → Fits c s → Restoring c s [] r → StandsFor c s r
ends c s r fits k =
    let whole : k.done ≡ s.tasks = sym (append-nil k.done) ∙ sym k.all in
    let numbers : map number_of r.waits.items ≡ waits_in s.tasks = k.numbers ∙ ap waits_in whole in
    let apart : AreDistinct (map number_of r.waits.items) = subst (λ ns. AreDistinct ns) (sym numbers) fits.waits in
    record {
      rests = subst (λ tss. Rests slot r.tree tss) k.grows k.rests;
      fine = fine_all s.left r.tree k.fine;
      untold = roots_untold c s fits r.tree (λ entry. k.roots entry ∙ ap (count (is_root (Some entry))) whole);
      distinct = distinct_is (map number_of r.waits.items) apart;
      timed = λ ps starts. clock_timed s (sleeping slot r.tree) r.waits.items ps k.slept k.waits apart starts;
    }

all_go_on : (c : Code) (s : Kept) (ts : List KeptTask) (old new : Restored) → Fits c s → Restoring c s ts old → AllPut c s ts old new →
    Restoring c s [] new
all_go_on c s ts old new fits r none_put = r
all_go_on c s ts old new fits r (one_put {t = t} {ts = us} {mid = mid} w ps) =
    all_go_on c s us mid new fits (goes_on c s fits t us old r mid w) ps

pub all_stand : (c : Code) (s : Kept) (old new : Restored) → Fits c s → IsEmpty old → AllPut c s s.tasks old new → StandsFor c s new
all_stand c s old new fits e ps = ends c s new fits (all_go_on c s s.tasks old new fits (begins c s old fits e) ps)
