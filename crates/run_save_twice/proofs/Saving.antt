-- A run that goes on from a fitting shot can be saved.
use Rattle.std.proofs.Common.{◌≡◌, ℕ, suc, ◌+◌, ◌≤◌, List, [], ◌∷◌, ◌++◌, length, map, Option, Some, None, refl, sym, subst}
use Rattle.std.proofs.Common.{◌∙◌, arith}
use Rattle.verse_code.specs.declared.codes.Code.{Code}
use Rattle.verse_code.specs.Validity.{Valid}
use Rattle.verse_meaning_state.specs.State.{Given}
use Rattle.verse_meaning_state.specs.Waits.{nth}
use Rattle.verse_code_machine.specs.Tasks.{Task}
use Rattle.verse_code_machine.specs.Runs.{Forest}
use Rattle.verse_code_machine.specs.Goings.{TasksAreFree, TreesAreFree}
use Rattle.verse_code_machine_parents.specs.Parents.{whos, Rooted, Born, AllStill, TreesRooted}
use Rattle.run_save_shots.specs.Lists.{Each}
use Rattle.run_save_shots.specs.Kept.{KeptTask, Kept}
use Rattle.run_save_shots.specs.Keeping as kp
use Rattle.run_save_shots.specs.Keeping.{walk, Spells}
use Rattle.run_save_shots.specs.Fitting.{TaskFits, frames_in, Fits}
use Rattle.run_save_shots.specs.Spelling.{state, tasks_from, trees}
use Rattle.run_save_fits.specs.Held.{WhoIs, NoLater, StateHeld, TaskFine, Savable, is_wait, is_task_of, is_main, tasks_sum, trees_sum}
use Rattle.run_save_fits.specs.Held.{unfinished}
use Rattle.run_save_fits.proofs.KeptTasks.{frames_number}
use Rattle.run_save_kept.proofs.Siblings.{walk_sum}
use Rattle.run_save_trees.proofs.Firsts.{each_here}
use Rattle.run_save_spelled.proofs.Forests.{each_weaker, reordered_sum}
use Rattle.run_save_spelled.proofs.Resumed.{resumable}
use Rattle.run_save_twice.specs.Again.{IsOfRun, FittingCanBeSaved, SavedIsOfRun, ShownCanBeSaved}
use Rattle.run_save_twice.proofs.Linked.{along, each_along}
use Rattle.run_save_twice.proofs.Framing.{scene, events_fit, of_fine, of_born}
use Rattle.run_save_twice.proofs.Only.{each_both}
use Rattle.run_save_twice.proofs.Ordered.{planted, in_trees, sum, each_named, apart, orderly}
use Rattle.run_save_twice.proofs.Counts.{tasks_count, frames_count, waits_count, entry_count, main_count}

-- ---- parents

abbrev IsBorn : Task → Type 0
IsBorn t = Born t.thread.who.number t.thread.frame.life t.thread.frame.handlers t.thread.below

all_still : (ts : List Task) → Each IsBorn ts → TasksAreFree ts → AllStill ts
all_still [] b f = tt
all_still (t ∷ ts) b f = (record { born = b.0; free = f.0 }, all_still ts b.1 f.1)

trees_rooted : (left : ℕ) (tss : Forest) → Each (λ ts. Rooted left (whos ts)) tss → Each (λ ts. Each IsBorn ts) tss → TreesAreFree tss →
    TreesRooted left tss
trees_rooted left [] r b f = tt
trees_rooted left (ts ∷ tss) r b f = (r.0, all_still ts b.0 f.0, trees_rooted left tss r.1 b.1 f.1)

-- ---- a fitting shot

module _ (c : Code) (valid : Valid c) (s : Kept) (fits : Fits c s) where
  abbrev ys : List Task
  ys = tasks_from c s [] s.tasks

  fit_there : (before : List KeptTask) (t : KeptTask) (ts : List KeptTask) → s.tasks ≡ before ++ t ∷ ts → TaskFits c s t
  fit_there before t ts e = each_here (TaskFits c s) before t ts (subst (λ xs. Each (TaskFits c s) xs) e fits.tasks)

  each_born : Each IsBorn ys
  each_born = each_along c s ys IsBorn (λ before t ts y o. of_born c s ys before t ts y (fit_there before t ts o.all) o o.number)
      [] s.tasks ys (along c s fits)

  each_fine : Each (TaskFine c (scene s) s.next) ys
  each_fine = each_weaker (λ (y : Task). WhoIs y.thread.who × (WhoIs y.thread.who → TaskFine c (scene s) s.next y))
      (TaskFine c (scene s) s.next) ys (λ y b. b.1 b.0)
      (each_both (λ (y : Task). WhoIs y.thread.who) (λ (y : Task). WhoIs y.thread.who →
      TaskFine c (scene s) s.next y) ys (each_named c s fits)
      (each_along c s ys (λ (y : Task). WhoIs y.thread.who → TaskFine c (scene s) s.next y)
      (λ before t ts y o named. of_fine c s ys before t ts y valid (fit_there before t ts o.all) named o) [] s.tasks ys (along c s fits)))

  rooted : TreesRooted s.left (trees c s)
  rooted = trees_rooted s.left (trees c s) (planted c s fits).rooted (in_trees c s fits IsBorn each_born) (resumable c s fits).can.are_free

  state_held : (until : ℕ) → IsOfRun until s → StateHeld c until (scene s) (state s)
  state_held until a = record {
    fine = record {
      before = refl;
      entries = refl;
      memory = record {
        slots = fits.slots;
        weight = fits.weight;
        told = let l = fits.bytes in omega (arith, l);
        events = events_fit c s s.tasks fits.tasks;
      };
      results = fits.spawned;
      signals = tt;
    };
    now = a.now;
    results = a.spawned;
  }

  savable : (until : ℕ) → IsOfRun until s → Savable c (s.left + s.spent) until (state s) (trees c s)
  savable until a = record {
    scene = scene s;
    state = state_held until a;
    trees = in_trees c s fits (TaskFine c (scene s) s.next) each_fine;
    rooted = rooted;
    sum = refl;
    before = fits.lines;
    few_tasks = at_most (sum c s fits (λ t. 1) ∙ tasks_count c s ys ys (along c s fits)) fits.few_tasks;
    few_frames = at_most (sum c s fits (λ (t : Task). suc (length t.thread.below)) ∙ frames_count c s ys ys (along c s fits)) a.few_frames;
    few_waits = fits.next;
    few_entries = fits.few_entries;
    waits = λ n. at_most (sum c s fits (λ (t : Task). is_wait n t.rest)) (waits_count c s ys ys (along c s fits) fits n);
    tasks_of = λ e. no_more (entries e);
    runs_of = λ e. no_more (sym (entries e));
    main = at_most (sum c s fits (λ (t : Task). is_main t.thread.who.role) ∙ main_count c s ys ys (along c s fits)) fits.main;
  }
    where
      at_most : {a b n : ℕ} → a ≡ b → b ≤ n → a ≤ n
      at_most e l = omega (arith, e, l)

      no_more : {a b : ℕ} → a ≡ b → a ≤ b
      no_more e = omega (arith, e)

      entries : (e : ℕ) → trees_sum (λ (t : Task). is_task_of e t.thread.who.role) (trees c s) ≡ unfinished (nth s.spawned e)
      entries e = sum c s fits (λ (t : Task). is_task_of e t.thread.who.role) ∙ entry_count c s ys ys (along c s fits) fits e

pub can_be_saved : FittingCanBeSaved
can_be_saved c until x valid fits a = record {
  savable = savable c valid x fits until a;
  orderly = orderly c x fits;
  apart = apart c x fits;
}

-- ---- what spells a state of a run

further : {i j n : ℕ} → i ≤ j → j ≤ n → i ≤ n
further e f = omega (arith, e, f)

no_later : (until later : ℕ) → until ≤ later → (g : Option Given) → NoLater until g → NoLater later g
no_later until later le None a = tt
no_later until later le (Some g) a = further a le

kept_frames : (c : Code) (all zs : List Task) → frames_in (map (kp.task all) zs) ≡ tasks_sum (λ (t : Task). suc (length t.thread.below)) zs
kept_frames c all [] = refl
kept_frames c all (z ∷ zs) = let a = frames_number c z in let b = kept_frames c all zs in sums a b
  where
    sums : {a b n m : ℕ} → a ≡ b → n ≡ m → a + n ≡ b + m
    sums e f = omega (arith, e, f)

pub saved_is_of_run : SavedIsOfRun
saved_is_of_run c steps until later s tss x le a y = subst (IsOfRun later) (sym y.is) (record {
  few_frames =
      let e = kept_frames c (walk y.ordered) (walk y.ordered) in
      let f = walk_sum (λ (t : Task). suc (length t.thread.below)) y.ordered in
      let g = reordered_sum (λ (ts : List Task). tasks_sum (λ (t : Task). suc (length t.thread.below)) ts)
      (trees_sum (λ (t : Task). suc (length t.thread.below))) refl (λ ts tss. refl) tss y.ordered y.reordered in
      let l = a.few_frames in omega (arith, e, f, g, l);
  now = further a.state.now le;
  spawned = each_weaker (NoLater until) (NoLater later) s.clock.results (no_later until later le) a.state.results;
})

pub shown_can_be_saved : FittingCanBeSaved → SavedIsOfRun → ShownCanBeSaved
shown_can_be_saved fitting of_run c steps until later s tss x valid le a h =
    fitting c later x valid h.fits (of_run c steps until later s tss x le a h.spells)
