-- Steps and lines, of turns and whole runs.
use Rattle.std.proofs.Common.{
  ◌≡◌,
  ◌+◌,
  ◌≤◌,
  nat_lt,
  ℤ,
  ℕ,
  zero,
  suc,
  List,
  [],
  ◌∷◌,
  ◌++◌,
  Option,
  Some,
  None,
  Bool,
  true,
  false,
  cond,
  refl,
  sym,
  subst,
}
use Rattle.std.proofs.Math.Path.{ap, ◌∙◌}
use Rattle.std.proofs.Math.Nat.{le_refl, le_trans, le-suc, add-suc, suc-add}
use Rattle.verse_tree.specs.ItemTree.{FunTree}
use Rattle.verse_value.specs.declared.runs.Ending.TheVariants as ending
use Rattle.verse_value.specs.Val.{Val}
use Rattle.verse_meaning_state.specs.Waits.{Due, Wait, has, least}
use Rattle.verse_meaning_state.specs.Turns.{Stage, amiss, broken, closed, going, turn, turn_at, turns}
use Rattle.verse_meaning_state.specs.State.{State, at_moment, begun, drawn, signalled, spending, stepped, with_entry, with_result}
use Rattle.verse_meaning.specs.Programs.{Program, main_in}
use Rattle.verse_meaning.specs.Residuals.{Env, none, root, scope_leaves}
use Rattle.verse_meaning.specs.Outcomes.{Halt, TaskOutcome, ends, fault, jammed, lost, out, set_behind, sleeps, stops, world, wrong}
use Rattle.verse_meaning.specs.Evaluating.{ev, on_bool}
use Rattle.verse_meaning.specs.Runs.{Forest, after, came, deeper, ended_by, forest_leaves, inputs_of, main_bound, main_found, main_spends}
use Rattle.verse_meaning.specs.Runs.{started, turn_taken, with_params, woken}
use Rattle.verse_meaning.specs.RunLaws.{Begins, LinesStay, StepsCounted, StepsStand, halted_state, stage_state}
use Rattle.verse_meaning.proofs.Following.{Closed, ReachesTask, begins_same, begins_then}
use Rattle.verse_meaning.proofs.FollowingGoing.{deeper_follow, resume_follow, resume_scope_follow}
use Rattle.verse_meaning.proofs.FollowingEvaluating.{ev_follow, scope_follow}

ended_state : (h : Halt) → stage_state (ended_by h) ≡ halted_state h
ended_state (fault k pl s) = refl
ended_state (out s) = refl
ended_state (jammed s) = refl
ended_state (wrong s) = refl

module _ {R : State → State → Type 0} (cl : Closed R) (p : Program) where
  came_follow : (s : State) (before : Forest) (o : TaskOutcome) → ReachesTask R s o → R s (stage_state (came before o))
  came_follow s before (ends v w) a = a
  came_follow s before (lost t) a = a
  came_follow s before (stops h) a = subst (λ x. R s x) (sym (ended_state h)) a
  came_follow s before (sleeps x w) a = a

  bool_stage : (b : Bool) (s : State) (f g : Bool → Stage Forest) → R s (stage_state (f true)) → R s (stage_state (g false)) →
      R s (stage_state (on_bool b f g))
  bool_stage true s f g x y = x
  bool_stage false s f g x y = y

  cond_stage : (b : Bool) (s : State) (f g : Stage Forest) → R s (stage_state f) → R s (stage_state g) → R s (stage_state (cond b f g))
  cond_stage true s f g x y = x
  cond_stage false s f g x y = y

  woken_follow : (n : ℕ) (v : Val) (before fs : Forest) (s : State) → R s (stage_state (woken p n v before fs s))
  woken_follow n v before [] s = cl.same s
  woken_follow n v before (None ∷ fs) s = woken_follow n v (before ++ None ∷ []) fs s
  woken_follow n v before (Some x ∷ fs) s = bool_stage (has n (scope_leaves x)) s _ _
      (came_follow s before _ (resume_scope_follow cl p (deeper p s.clock.left) (deeper_follow cl p s.clock.left) x n v (world s none fs)))
      (woken_follow n v (before ++ Some x ∷ []) fs s)

  spending_follow : (left : ℕ) (s : State) (x : Stage Forest) (go : State → Stage Forest) → s.clock.left ≡ left → R s (stage_state x) →
      ((t : State) → R t (stage_state (go t))) → R s (stage_state (spending left s x go))
  spending_follow zero s x go e a f = a
  spending_follow (suc l) s x go e a f = cl.then s (stepped l s) _ (cl.spends_one l s e) (f (stepped l s))

  at_follow : (until : ℕ) (d : Option Due) (s : State) (fs : Forest) (go : Due → State → Stage Forest) →
      ((d : Due) (t : State) → R t (stage_state (go d t))) → R s (stage_state (turn_at until d s fs go))
  at_follow until None s fs go f = cl.same s
  at_follow until (Some due) s fs go f = cond_stage (nat_lt until due.given.moment) s _ _ (cl.same s) (spending_follow s.clock.left s _ _
      refl (cl.same s) (λ t. cl.then t (at_moment due.given.moment t) _ (cl.moves due.given.moment t) (f due (at_moment
      due.given.moment t))))

  waits_follow : (until : ℕ) (ws : List Wait) (s : State) (fs : Forest) (go : Due → State → Stage Forest) →
      ((d : Due) (t : State) → R t (stage_state (go d t))) → R s (stage_state (turn until ws s fs go))
  waits_follow until [] s fs go f = cl.same s
  waits_follow until (w ∷ ws) s fs go f = at_follow until (least s (w ∷ ws)) s fs go f

  turn_follow : (until : ℕ) (s : State) (fs : Forest) → R s (stage_state (turn_taken p until s fs))
  turn_follow until s fs = waits_follow until (forest_leaves fs) s fs _ (λ d t. woken_follow d.number d.given.value [] fs t)

  -- from a turn to the next one, and from the start to any turn
  next_turn : (until k : ℕ) (x : Stage Forest) → R (stage_state (turns (turn_taken p until) k x)) (stage_state (turns (turn_taken p until)
      (suc k) x))
  next_turn until zero (going s fs) = turn_follow until s fs
  next_turn until zero (closed e s fs) = cl.same s
  next_turn until zero (broken e s) = cl.same s
  next_turn until zero (amiss s) = cl.same s
  next_turn until (suc k) (going s fs) = next_turn until k (turn_taken p until s fs)
  next_turn until (suc k) (closed e s fs) = cl.same s
  next_turn until (suc k) (broken e s) = cl.same s
  next_turn until (suc k) (amiss s) = cl.same s

  all_turns : (until k : ℕ) (x : Stage Forest) → R (stage_state x) (stage_state (turns (turn_taken p until) k x))
  all_turns until zero x = cl.same (stage_state x)
  all_turns until (suc k) (going s fs) =
      cl.then s (stage_state (turn_taken p until s fs)) _ (turn_follow until s fs) (all_turns until k (turn_taken p until s fs))
  all_turns until (suc k) (closed e s fs) = cl.same s
  all_turns until (suc k) (broken e s) = cl.same s
  all_turns until (suc k) (amiss s) = cl.same s

  found_follow : (x : Option FunTree) (s : State) (go : FunTree → Stage Forest) → ((f : FunTree) → R s (stage_state (go f))) →
      R s (stage_state (main_found x s go))
  unfolding main_found
  found_follow None s go f = cl.same s
  found_follow (Some x) s go f = f x

  bound_follow : (x : Option Env) (s : State) (go : Env → Stage Forest) → ((e : Env) → R s (stage_state (go e))) →
      R s (stage_state (main_bound x s go))
  unfolding main_bound
  bound_follow None s go f = cl.same s
  bound_follow (Some x) s go f = f x

  main_follow : (steps : ℕ) (s : State) (go : State → Stage Forest) → s.clock.left ≡ steps → ((t : State) → R t (stage_state (go t))) →
      R s (stage_state (main_spends steps s go))
  unfolding main_spends
  main_follow steps s go e f = spending_follow steps s _ go e (cl.same s) f

  started_follow : (ns : List ℤ) (steps : ℕ) → R (begun steps) (stage_state (started p ns steps))
  started_follow ns steps = found_follow (main_in p.items) (begun steps) _ (λ f. bound_follow (with_params f.params (inputs_of f.params ns)
      []) (begun steps) _ (λ e. main_follow steps (begun steps) _ refl (λ t. came_follow t [] _ (scope_follow cl p (deeper p t.clock.left)
      (deeper_follow cl p t.clock.left) t (root None) none (ev p (deeper p t.clock.left) f.body true e (set_behind (world t none []) none))
      (ev_follow cl p (deeper p t.clock.left) (deeper_follow cl p t.clock.left) f.body true e (set_behind (world t none []) none))))))

  run_follow : (ns : List ℤ) (steps until k : ℕ) → R (begun steps) (stage_state (after p ns steps until k))
  run_follow ns steps until k =
      cl.then (begun steps) (stage_state (started p ns steps)) _ (started_follow ns steps) (all_turns until k (started p ns steps))

-- steps
same_steps : (s u : State) → u.clock.left ≡ s.clock.left → u.clock.spent ≡ s.clock.spent → StepsStand s u
same_steps s u e f = record {
  sum = ap (λ x. x + u.clock.spent) e ∙ ap (λ x. s.clock.left + x) f;
  falls = subst (λ x. x ≤ s.clock.left) (sym e) (le_refl s.clock.left);
}

spent_step : (l : ℕ) (s : State) → s.clock.left ≡ suc l → StepsStand s (stepped l s)
spent_step l s e = record {
  sum = add-suc l s.clock.spent ∙ (sym (suc-add l s.clock.spent) ∙ ap (λ x. x + s.clock.spent) (sym e));
  falls = subst (λ x. l ≤ x) (sym e) (le-suc l);
}

result_steps : (entry : Option ℕ) (v : Val) (s : State) → StepsStand s (with_result entry v s)
result_steps None v s = same_steps s s refl refl
result_steps (Some n) v s = same_steps s (with_result (Some n) v s) refl refl

pub steps_closed : Closed StepsStand
steps_closed = record {
  same = λ s. same_steps s s refl refl;
  then = λ s t u a b. record { sum = b.sum ∙ a.sum; falls = le_trans b.falls a.falls };
  writes = λ s u e b. same_steps s u (ap (λ c. c.left) e) (ap (λ c. c.spent) e);
  undoes = λ s u a. record { sum = a.sum; falls = a.falls };
  spends_one = spent_step;
  draws = λ s. same_steps s (drawn s) refl refl;
  signals = λ c v s. same_steps s (signalled c v s) refl refl;
  enters = λ s. same_steps s (with_entry s) refl refl;
  gives_result = result_steps;
  moves = λ n s. same_steps s (at_moment n s) refl refl;
}

pub steps_counted : StepsCounted
steps_counted p = record {
  evaluation = λ fuel a m e w. ev_follow steps_closed p (deeper p fuel) (deeper_follow steps_closed p fuel) a m e w;
  going = λ fuel r n v w. resume_follow steps_closed p (deeper p fuel) (deeper_follow steps_closed p fuel) r n v w;
  turn = turn_follow steps_closed p;
  run = run_follow steps_closed p;
}

-- lines
LinesBegin : State → State → Type 0
LinesBegin s u = Begins s.memory.trace u.memory.trace

result_lines : (entry : Option ℕ) (v : Val) (s : State) → LinesBegin s (with_result entry v s)
unfolding LinesBegin
result_lines None v s = begins_same s.memory.trace
result_lines (Some n) v s = begins_same s.memory.trace

lines_closed : Closed LinesBegin
unfolding LinesBegin
lines_closed = record {
  same = λ s. begins_same s.memory.trace;
  then = λ s t u a b. begins_then s.memory.trace t.memory.trace u.memory.trace a b;
  writes = λ s u e b. b;
  undoes = λ s u a. begins_same s.memory.trace;
  spends_one = λ l s e. begins_same s.memory.trace;
  draws = λ s. begins_same s.memory.trace;
  signals = λ c v s. begins_same s.memory.trace;
  enters = λ s. begins_same s.memory.trace;
  gives_result = result_lines;
  moves = λ n s. begins_same s.memory.trace;
}

pub lines_stay : LinesStay
unfolding LinesBegin
lines_stay p = record {
  turn = turn_follow lines_closed p;
  run = λ ns steps until k. next_turn lines_closed p until k (started p ns steps);
}
