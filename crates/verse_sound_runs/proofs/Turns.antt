-- A turn ends the run by one of the endings of sound programs, or all goes on well.
use Rattle.std.proofs.Common.{◌≡◌, ℕ, zero, suc, Bool, true, false, cond, List, [], ◌∷◌, ◌++◌, Option, Some, None, refl}
use Rattle.std.specs.Prelude.{nat_lt}
use Rattle.verse_base.specs.declared.refusals.Kind.{Kind as Error}
use Rattle.verse_base.specs.declared.places.Place.{Place}
use Rattle.verse_value.specs.Val.{Val}
use Rattle.verse_value.specs.declared.runs.Ending.TheVariants as ending
use Rattle.verse_meaning_state.specs.State.{State, spending, stepped, at_moment}
use Rattle.verse_meaning_state.specs.Waits.{Wait, has, Due, least}
use Rattle.verse_meaning_state.specs.Turns.{Stage, going, closed, broken, turn, turn_at}
use Rattle.verse_sorts.specs.Sorts.{Sort}
use Rattle.verse_sorts.specs.Typing.{at, Typing, Is}
use Rattle.verse_sorts.proofs.Fitting.{grows_itself}
use Rattle.verse_sorts_values.specs.Cells.{StoreIs}
use Rattle.verse_meaning.specs.Programs.{Program}
use Rattle.verse_meaning.specs.Residuals.{none, scope_leaves}
use Rattle.verse_meaning.specs.Outcomes.{world, TaskOutcome}
use Rattle.verse_meaning.specs.Evaluating.{on_bool}
use Rattle.verse_meaning.specs.Resuming.{resume_scope}
use Rattle.verse_meaning.specs.Runs.{deeper, Forest, forest_leaves, came, woken, turn_taken}
use Rattle.verse_sound_rules.specs.Found.{Found}
use Rattle.verse_sound_trees.specs.Outcomes.{task_ends, task_lost, task_faults, task_ends_steps, task_sleeps}
use Rattle.verse_sound_trees.specs.Waiting.{Clocked, WaitsOf}
use Rattle.verse_sound_trees.specs.Going.{AllTasks, Dropped, LeftScope, turns, ComesTask}
use Rattle.verse_sound_trees.proofs.Waiting.{waits_of_both}
use Rattle.verse_sound_trees.proofs.Worlds.{tasks_more, tasks_fewer}
use Rattle.verse_sound_trees.proofs.Cancelling.{scope_waits, has_behind}
use Rattle.verse_sound_runs.proofs.Calls.{join_tasks}
use Rattle.verse_sound_runs.proofs.Due.{DueOf, least_due}

module _ (p : Program) (f : Found) where
  -- a state between two turns, with its forest
  pub record KeptForest (n : ℕ) (t : Typing) (st : State) (fs : Forest) : Type 0 where
    pub cells : StoreIs f.up f.slots t st.memory.store
    pub clock : Clocked f.up t st.clock
    pub tasks : AllTasks (Dropped (LeftScope p f n) t) fs

  -- a stage of a sound run; it is never stuck
  pub data Sound (n : ℕ) : Stage Forest → Type 0 where
    goes_on : {st : State} {fs : Forest} (t : Typing) → KeptForest n t st fs → Sound n (going st fs)
    is_done : {st : State} {fs : Forest} → Sound n (closed ending.Done st fs)
    is_waiting : {st : State} {fs : Forest} → Sound n (closed ending.Waiting st fs)
    is_until : {st : State} {fs : Forest} → Sound n (closed ending.Until st fs)
    is_out : {st : State} {fs : Forest} → Sound n (closed ending.Steps st fs)
    breaks_off : {k : Error} {pl : Place} {st : State} → Sound n (broken (ending.Error k pl) st)
    breaks_out : {st : State} → Sound n (broken ending.Steps st)

  forest_waits : (n : ℕ) (t : Typing) (fs : Forest) → AllTasks (Dropped (LeftScope p f n) t) fs → WaitsOf f.up t (forest_leaves fs)
  forest_waits n t [] h = tt
  forest_waits n t (None ∷ fs) h = forest_waits n t fs h
  forest_waits n t (Some q ∷ fs) h = waits_of_both f.up t (scope_leaves q) (forest_leaves fs) (scope_waits p f n t false h.0.0 q h.0.1)
      (forest_waits n t fs h.1)

  pub came_sound : (n : ℕ) (t : Typing) (b : Sort) (before : Forest) {x : TaskOutcome} → AllTasks (Dropped (LeftScope p f n) t) before →
      ComesTask p f (turns n) t false true b x → Sound n (came before x)
  came_sound n t b before h (task_ends {u} {w = w} g k i) =
      goes_on u (record {
        cells = k.cells;
        clock = k.clock;
        tasks = join_tasks p f n u before (None ∷ w.tasks)
            (tasks_more p f n t u before g h) k.tasks;
      })
  came_sound n t b before h (task_lost g) = cc
  came_sound n t b before h task_faults = breaks_off
  came_sound n t b before h task_ends_steps = breaks_out
  came_sound n t b before h (task_sleeps {u} {q} {w} m g k l) =
      goes_on u (record {
        cells = k.cells;
        clock = k.clock;
        tasks = join_tasks p f n u before (Some q ∷ w.tasks)
            (tasks_more p f n t u before g h) ((b, l), k.tasks);
      })

  -- a wait of the forest is woken with a value of its sort
  woken_sound : (n : ℕ) (t : Typing) (i : ℕ) (x : Val) (c : Sort) (before fs : Forest) (st : State) → at t.waits i ≡ Some c →
      Is f.up t x c →
      has i (forest_leaves fs) ≡ true → AllTasks (Dropped (LeftScope p f n) t) before → KeptForest (suc n) t st fs →
      Sound n (woken p i x before fs st)
  woken_sound n t i x c before [] st h j l g k = cc
  woken_sound n t i x c before (None ∷ fs) st h j l g k =
      woken_sound n t i x c (before ++ None ∷ []) fs st h j l (join_tasks p f n t before (None ∷ []) g tt)
      (record { cells = k.cells; clock = k.clock; tasks = k.tasks })
  woken_sound n t i x c before (Some q ∷ fs) st h j l g k =
      by (has i (scope_leaves q)) refl (λ e. woken_sound n t i x c (before ++ Some q ∷ []) fs st h j (has_behind i (scope_leaves q)
      (forest_leaves fs) l e)
      (join_tasks p f n t before (Some q ∷ []) g ((k.tasks.0.0, k.tasks.0.1.0), tt))
      (record { cells = k.cells; clock = k.clock; tasks = k.tasks.1 }))
    where
      by : (b : Bool) → has i (scope_leaves q) ≡ b → (has i (scope_leaves q) ≡ false → Sound n (woken p i x
          (before ++ Some q ∷ []) fs st)) →
          Sound n (on_bool b (λ u. came before (resume_scope p (deeper p st.clock.left) q i x (world st none fs))) (λ u. woken p i x
          (before ++ Some q ∷ []) fs st))
      by true e m = came_sound n t k.tasks.0.0 before g (k.tasks.0.1.1 t st.clock.left i x c (world st none fs) grows_itself h j e (record {
        cells = k.cells;
        clock = k.clock;
        behind = tt;
        tasks = tasks_fewer p f n t fs k.tasks.1;
      }))
      by false e m = m e

  spent : (n : ℕ) (t : Typing) (st : State) (fs : Forest) (d : Due) (left : ℕ) → DueOf f.up t (forest_leaves fs) (Some d) →
      KeptForest (suc n) t st fs →
      Sound n (spending left st (closed ending.Steps st fs) (λ s. woken p d.number d.given.value [] fs (at_moment d.given.moment s)))
  spent n t st fs d zero h k = is_out
  spent n t st fs d (suc l) h k =
      woken_sound n t d.number d.given.value h.0 [] fs (at_moment d.given.moment (stepped l st)) h.1 h.2 h.3 tt
      (record {
        cells = k.cells;
        clock = record {
          entries = k.clock.entries;
          waits = k.clock.waits;
          results = k.clock.results;
          signals
              = k.clock.signals;
        };
        tasks = k.tasks;
      })

  within : (n until : ℕ) (t : Typing) (st : State) (fs : Forest) (d : Due) (b : Bool) → DueOf f.up t (forest_leaves fs) (Some d) →
      KeptForest (suc n) t st fs →
      Sound n (cond b (closed ending.Until st fs) (spending st.clock.left st (closed ending.Steps st fs)
      (λ s. woken p d.number d.given.value [] fs (at_moment
      d.given.moment s))))
  within n until t st fs d true h k = is_until
  within n until t st fs d false h k = spent n t st fs d st.clock.left h k

  chosen : (n until : ℕ) (t : Typing) (st : State) (fs : Forest) (o : Option Due) → DueOf f.up t (forest_leaves fs) o →
      KeptForest (suc n) t st fs →
      Sound n (turn_at until o st fs (λ d s. woken p d.number d.given.value [] fs s))
  chosen n until t st fs None h k = is_waiting
  chosen n until t st fs (Some d) h k = within n until t st fs d (nat_lt until d.given.moment) h k

  listed : (n until : ℕ) (t : Typing) (st : State) (fs : Forest) (ws : List Wait) → DueOf f.up t (forest_leaves fs) (least st ws) →
      KeptForest (suc n) t st fs → Sound n (turn until ws st fs (λ d s. woken p d.number d.given.value [] fs s))
  listed n until t st fs [] h k = is_done
  listed n until t st fs (w ∷ ws) h k = chosen n until t st fs (least st (w ∷ ws)) h k

  pub turn_sound : (n until : ℕ) (t : Typing) (st : State) (fs : Forest) → KeptForest (suc n) t st fs → Sound n (turn_taken p until st fs)
  turn_sound n until t st fs k = listed n until t st fs (forest_leaves fs) (least_due f.up t st (forest_leaves fs) (forest_waits
      (suc n) t fs k.tasks) k.clock) k
