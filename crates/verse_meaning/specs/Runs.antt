-- The run of a program: calls, its start, its turns, its end.
use Rattle.std.specs.Prelude.{ℕ, zero, suc, ℤ, List, [], ◌∷◌, ◌++◌, length, map, Option, Some, None}
use Rattle.std.specs.Prelude.{Bool, true, false}
use Rattle.verse_tree.specs.ItemTree.{ParamTree, FunTree}
use Rattle.verse_value.specs.Val.{Val, int, task, array, vals}
use Rattle.verse_value.specs.Runs.{Run}
use Rattle.verse_value.specs.declared.runs.Ending.TheVariants as ending
use Rattle.verse_meaning_state.specs.State.{State, begun, spending, with_entry}
use Rattle.verse_meaning_state.specs.Waits.{Wait, has}
use Rattle.verse_meaning_state.specs.Turns.{Stage, going, broken, amiss, turn, turns, run_of}
use Rattle.verse_meaning.specs.Programs.{Program, fun_at, main_in}
use Rattle.verse_meaning.specs.Residuals.{Env, constant, Values, Role, body, root, Scope, none}
use Rattle.verse_meaning.specs.Residuals.{scope_leaves}
use Rattle.verse_meaning.specs.Outcomes.{World, world, with_state, set_behind, Halt, fault, out}
use Rattle.verse_meaning.specs.Outcomes.{jammed, wrong, Outcome, value, halted}
use Rattle.verse_meaning.specs.Outcomes.{TaskOutcome, ends, lost, stops, sleeps, valued, turned}
use Rattle.verse_meaning.specs.Outcomes.{call_end, task_started, if_known, spends}
use Rattle.verse_meaning.specs.Forms.{Deeper, bound_to, this_name, next_value}
use Rattle.verse_meaning.specs.Evaluating.{on_bool, scope_end, ev}
use Rattle.verse_meaning.specs.Resuming.{resume_scope}

-- the parameters with the arguments
abbrev pub with_params : List ParamTree → List Val → Env → Option Env
with_params [] [] e = Some e
with_params [] (v ∷ vs) e = None
with_params (x ∷ xs) [] e = None
with_params (x ∷ xs) (v ∷ vs) e = with_params xs vs (bound_to x.name (constant v) e)

abbrev pub with_this : Option Val → Env
with_this None = []
with_this (Some o) = bound_to this_name (constant o) []

-- The body of a function is a task scope with nothing behind it. In one that may not be suspended
-- nothing ever is behind.
abbrev pub entered : Program → Deeper → Role → FunTree → Env → Bool → World → TaskOutcome
entered p k q f e m w = scope_end p k q w.behind (ev p k f.body m e (set_behind w none))

-- a function that is there and takes these arguments
abbrev pub taking : Program → (function : ℕ) → Option Val → List Val → World →
    (FunTree → Env → Outcome) → Outcome
taking p f o vs w go = if_known (fun_at p f) w
    (λ fn. if_known (with_params fn.params vs (with_this o)) w (λ e. go fn e))

unfoldable pub on_next : Option ((Val × Val) × Values) → Outcome → (Val × Val → Values → Outcome) →
    Outcome
on_next None ended go = ended
on_next (Some x) ended go = go x.0 x.1

-- n is no less than the steps that are left
abbrev pub deeper : Program → ℕ → Deeper
deeper p zero = record {
  calls = λ f o vs m e w. taking p f o vs w (λ fn e1. halted (out w.state));
  spawns = λ f o vs e w. taking p f o vs w (λ fn e1. halted (out w.state));
  loops = λ go wrap e w. halted (out w.state);
  takes = λ go wrap e vs so_far w. on_next (next_value vs) (value e so_far w)
      (λ x left. halted (out w.state));
  parts = λ a e w. halted (out w.state);
  defaults = λ a m e w. halted (out w.state);
}
deeper p (suc n) = record {
  calls = λ f o vs m e w. taking p f o vs w
      (λ fn e1. spends w.state.clock.left w
      (λ w. call_end e (entered p (deeper p n) body fn e1 m w)));
  spawns = λ f o vs e w. taking p f o vs w (λ fn e1. spends w.state.clock.left w (λ w.
      task_started e (task (length w.state.clock.results))
      (entered p (deeper p n) (root (Some (length w.state.clock.results))) fn e1 true
      (with_state w (with_entry w.state)))));
  loops = λ go wrap e w. spends w.state.clock.left w
      (λ w. turned (go w) wrap e (λ w. (deeper p n).loops go wrap e w));
  takes = λ go wrap e vs so_far w. on_next (next_value vs) (value e so_far w)
      (λ x left. spends w.state.clock.left w
      (λ w. valued (go x so_far w) (wrap left)
      (λ so_far w. (deeper p n).takes go wrap e left so_far w)));
  parts = λ a e w. spends w.state.clock.left w (λ w. ev p (deeper p n) a false e w);
  defaults = λ a m e w. spends w.state.clock.left w
      (λ w. call_end e (scope_end p (deeper p n) body w.behind
      (ev p (deeper p n) a m [] (set_behind w none))));
}

-- Main's residual, if it was suspended, and those of the spawned tasks in the order in which they
-- were; nothing for one that has ended
abbrev pub Forest : Type 0
Forest = List (Option Scope)

abbrev pub forest_leaves : Forest → List Wait
forest_leaves [] = []
forest_leaves (None ∷ fs) = forest_leaves fs
forest_leaves (Some s ∷ fs) = scope_leaves s ++ forest_leaves fs

abbrev pub ended_by : Halt → Stage Forest
ended_by (fault k pl s) = broken (ending.Error k pl) s
ended_by (out s) = broken ending.Steps s
ended_by (jammed s) = broken ending.Stuck s
ended_by (wrong s) = amiss s

-- one of the forest has come to an outcome, behind those before it
abbrev pub came : Forest → TaskOutcome → Stage Forest
came before (ends v w) = going w.state (before ++ None ∷ w.tasks)
came before (lost s) = amiss s
came before (stops h) = ended_by h
came before (sleeps s w) = going w.state (before ++ Some s ∷ w.tasks)

-- the one that has the wait goes on
abbrev pub woken : Program → (n : ℕ) → Val → Forest → Forest → State → Stage Forest
woken p n v before [] s = amiss s
woken p n v before (None ∷ fs) s = woken p n v (before ++ None ∷ []) fs s
woken p n v before (Some x ∷ fs) s = on_bool (has n (scope_leaves x))
    (λ u. came before (resume_scope p (deeper p s.clock.left) x n v (world s none fs)))
    (λ u. woken p n v (before ++ Some x ∷ []) fs s)

-- one turn: the next leaf is resumed
abbrev pub turn_taken : Program → (until : ℕ) → State → Forest → Stage Forest
turn_taken p until s fs = turn until (forest_leaves fs) s fs
    (λ due s. woken p due.number due.given.value [] fs s)

abbrev pub inputs_of : List ParamTree → List ℤ → List Val
inputs_of [] ns = []
inputs_of (x ∷ xs) ns = array (vals (map int ns)) ∷ []

unfoldable pub main_found : Option FunTree → State → (FunTree → Stage Forest) → Stage Forest
main_found None s go = amiss s
main_found (Some f) s go = go f

unfoldable pub main_bound : Option Env → State → (Env → Stage Forest) → Stage Forest
main_bound None s go = amiss s
main_bound (Some e) s go = go e

unfoldable pub main_spends : ℕ → State → (State → Stage Forest) → Stage Forest
main_spends left s go = spending left s (broken ending.Steps s) go

-- Main's start spends a step
abbrev pub started : Program → List ℤ → (steps : ℕ) → Stage Forest
started p ns steps = main_found (main_in p.items) (begun steps)
    (λ f. main_bound (with_params f.params (inputs_of f.params ns) []) (begun steps)
    (λ e. main_spends steps (begun steps)
    (λ s. came [] (entered p (deeper p s.clock.left) (root None) f e true (world s none [])))))

-- the state and the forest after Main's start and k turns, or as they were where the run ended
-- before
abbrev pub after : Program → List ℤ → (steps until k : ℕ) → Stage Forest
after p ns steps until k = turns (turn_taken p until) k (started p ns steps)

-- a turn spends a step, so one turn more than there are steps is at the end
abbrev pub mean : Program → List ℤ → (steps until : ℕ) → Run
mean p ns steps until = run_of forest_leaves (after p ns steps until (suc steps))
