-- The parts of a machine that is made of a shot.
use Rattle.std.proofs.Common.{◌≡◌, List, [], map, Option, option_map, refl, sym, ap, subst, ◌∙◌, arith}
use Rattle.verse_value.specs.View.{val_of}
use Rattle.verse_code.specs.declared.codes.Code.{Code}
use Rattle.sim_clock.specs.declared.waits.Pending.{Pending}
use Rattle.vm_tasks_laws.specs.Standing.{Rests}
use Rattle.vm_tasks_laws.specs.Clocks.{sleeping, Timed}
use Rattle.vm_running.specs.Views.{View, Aside, state_of}
use Rattle.vm_tasks.specs.View.{slot_of}
use Rattle.vm_scheduler.specs.declared.tasks.Tasks.{Tasks}
use Rattle.vm_scheduler.specs.declared.tasks.Given.{Given}
use Rattle.vm_scheduler.specs.Frames.{frames_in}
use Rattle.vm_scheduler.specs.Standing.{given_of, AllFine, Untold}
use Rattle.vm_scheduler.specs.Going.{Resting}
use Rattle.run_save_shots.specs.declared.shots.Shot.{Shot}
use Rattle.run_save_shots.specs.Kept.{Kept}
use Rattle.run_save_shots.specs.View.{task_of, shot_of}
use Rattle.run_save_shots.specs.Fitting.{Fits}
use Rattle.run_save_shots.specs.Spelling.{state, trees}
use Rattle.run_save_numbers.specs.declared.tables.TaskNumbers.{TaskNumbers}
use Rattle.run_save_numbers.specs.Numbers.{numbers_from}
use Rattle.run_save_numbers.specs.View.{numbers_of}
use Rattle.run_save_machine.specs.declared.running.Clock.{Clock}
use Rattle.run_save_machine.specs.declared.running.Printed.{Printed}
use Rattle.run_save_machine.specs.Filled.{standing}
use Rattle.run_save_trees.specs.declared.tables.Restored.{Restored}
use Rattle.run_save_trees.specs.Laws.{StandsFor}
use Rattle.run_save_machine.specs.Putting.{AreOf}
use Rattle.run_save_machine.specs.Resting.{RestsIn, Holds}

module _ {W : Type 0} (pending : W → List Pending) (c : Code) (s : Kept) where
  abbrev aside : Aside
  aside = record {
    before = record { bytes = s.bytes; lines = s.lines };
    past = [];
    next = s.next;
    results = s.spawned;
    signals = [];
  }

  abbrev clock : Clock
  clock = record { left = s.left; spent = s.spent; now = s.now }

  abbrev printed : Printed
  printed = record { bytes = s.bytes; lines = s.lines }

  abbrev v : View
  v = standing s.cells clock printed

  resting : (t : Tasks W) (r : Restored) (results : List (Option Given)) → Fits c s → StandsFor c s r →
      Holds pending r results s.next t → map (λ o. option_map given_of o) results ≡ s.spawned → Resting pending aside (trees c s) v t
  resting t r results fits stands h given = record {
    clock = record {
      past = (omega arith, omega arith);
      next = sym h.next_is;
      results = sym given ∙ ap (map (λ o. option_map given_of o)) (sym h.results_are);
      signals = sym (ap (map val_of) h.signals);
      timed = subst (λ ts. Timed (sleeping (slot_of frames_in) ts) (pending t.gone.waits) (state s)) (sym h.tree)
          (stands.timed (pending t.gone.waits) h.waits);
      fine = subst (λ ts. AllFine s.left ts) (sym h.tree) stands.fine;
      untold = subst (λ ts. Untold t.results.items ts) (sym h.tree) (subst (λ rs. Untold rs r.tree) (sym h.results_are)
          (stands.untold results (sym given)));
    };
    rests = subst (λ ts. Rests (slot_of frames_in) ts (trees c s)) (sym h.tree) stands.rests;
    bare = record { copies = refl; marks = refl; steps = omega (arith, fits.steps) };
    no_ups = h.ups;
    still = h.after;
    none = h.frames;
  }

  pub rests_in : (w : View) (t : Tasks W) (r : Restored) (results : List (Option Given)) → Fits c s → w ≡ v → StandsFor c s r →
      Holds pending r results s.next t → map (λ o. option_map given_of o) results ≡ s.spawned →
      RestsIn pending (state s) (trees c s) w t
  rests_in w t r results fits e stands h given = record {
    aside = aside;
    past = refl;
    is = ap (state_of aside) (sym e);
    resting = subst (λ u. Resting pending aside (trees c s) u t) (sym e) (resting t r results fits stands h given);
  }

-- ---- the shot

-- the numbers that were found are those of its tasks
pub are_of : (c : Code) (x : Shot) (ns ms : List TaskNumbers) → Fits c (shot_of x) →
    map numbers_of ms ≡ numbers_from (shot_of x) 0 (shot_of x).tasks → ns ≡ ms →
    AreOf c (shot_of x) (map task_of x.tasks.items) (map numbers_of ns)
are_of c x ns ms fits e same = record { fits = fits; tasks = refl; numbers = ap (map numbers_of) same ∙ e }
