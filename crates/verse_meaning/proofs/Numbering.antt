-- How often a number is live or still to come, through the combinators.
use Rattle.std.proofs.Common.{◌≡◌, ◌+◌, ◌≤◌, cond, ℕ, zero, suc, List, [], ◌∷◌, ◌++◌, Option, Some, None, Bool, true, false, refl, sym}
use Rattle.std.proofs.Common.{subst}
use Rattle.std.proofs.Math.Path.{ap, ◌∙◌}
use Rattle.verse_base.specs.declared.places.Place.{Place}
use Rattle.verse_value.specs.Val.{Val, unit}
use Rattle.verse_value.specs.Answer.{error, fails, gives, stuck}
use Rattle.verse_meaning_state.specs.Waits.{Cause, Wait, eqn, ltn}
use Rattle.verse_meaning_state.specs.Effects.{Effect, signal_sent}
use Rattle.verse_meaning_state.specs.State.{State, restored, stepped}
use Rattle.verse_meaning.specs.Residuals.{Arms, Env, Residual, Scope, Scopes, also, and_then, arms_leaves, behind_leaves, gave, leaves}
use Rattle.verse_meaning.specs.Residuals.{no_arms, none, runs, scope_leaves}
use Rattle.verse_meaning.specs.Outcomes.{Outcome, TaskOutcome, Went, World, armed, attempted, branch_started, broke, call_end, closing}
use Rattle.verse_meaning.specs.Outcomes.{ends, failed, halted, if_known, if_there, leave, leave_all, lost, on_went, on_went_task, outside}
use Rattle.verse_meaning.specs.Outcomes.{quits, ran, rests, returned, sleeps, spends, stops, suspended, task_started, told, told_plain}
use Rattle.verse_meaning.specs.Outcomes.{turned, value, valued, went, with_arm, with_state}
use Rattle.verse_meaning.specs.Runs.{forest_leaves}
use Rattle.verse_meaning.specs.Laws.{Keeps, KeepsWent, Leaves}
use Rattle.verse_meaning.specs.RunLaws.{count, to_come}
use Rattle.verse_meaning.proofs.Keeping.{Memory}
use native.Mathlib.Omega.{arith}

pub count_both : (i : ℕ) (xs ys : List Wait) → count i (xs ++ ys) ≡ count i xs + count i ys
count_both i [] ys = omega arith
count_both i (x ∷ xs) ys = omega (arith, count_both i xs ys)

pub count_behind : (i : ℕ) (bs : Scopes) (ws : List Wait) → count i (behind_leaves bs ws) ≡ count i (behind_leaves bs []) + count i ws
count_behind i none ws = omega arith
count_behind i (also s bs) ws = omega (
  arith,
  count_both i (scope_leaves s) (behind_leaves bs ws),
  count_both i (scope_leaves s)
      (behind_leaves bs []),
  count_behind i bs ws,
)

pub count_then : (i : ℕ) (bs : Scopes) (s : Scope) →
    count i (behind_leaves (and_then bs s) []) ≡ count i (behind_leaves bs []) + count i (scope_leaves s)
count_then i none s = omega (arith, count_both i (scope_leaves s) [])
count_then i (also x bs) s = omega (
  arith,
  count_both i (scope_leaves x) (behind_leaves (and_then bs s) []),
  count_both i (scope_leaves x)
      (behind_leaves bs []),
  count_then i bs s,
)

pub count_forests : (i : ℕ) (xs ys : List (Option Scope)) →
    count i (forest_leaves (xs ++ ys)) ≡ count i (forest_leaves xs) + count i (forest_leaves ys)
count_forests i [] ys = omega arith
count_forests i (None ∷ xs) ys = count_forests i xs ys
count_forests i (Some s ∷ xs) ys = omega (
  arith,
  count_both i (scope_leaves s) (forest_leaves (xs ++ ys)),
  count_both i (scope_leaves s)
      (forest_leaves xs),
  count_forests i xs ys,
)

-- a number is drawn
drawn_one : (i n : ℕ) → cond (eqn i n) 1 0 + cond (ltn i (suc n)) 0 1 ≡ cond (ltn i n) 0 1
drawn_one zero zero = refl
drawn_one zero (suc n) = refl
drawn_one (suc i) zero = refl
drawn_one (suc i) (suc n) = drawn_one i n

-- what a world has
abbrev pub stock : ℕ → World → ℕ
stock i w = count i (behind_leaves w.behind []) + (count i (forest_leaves w.tasks) + to_come i w.state)

-- with c beside it, an outcome has no more than b
abbrev pub OutcomeFits : (i c b : ℕ) → Outcome → Type 0
OutcomeFits i c b (value e v u) = c + stock i u ≤ b
OutcomeFits i c b (failed t) = Unit {0}
OutcomeFits i c b (returned v u) = c + stock i u ≤ b
OutcomeFits i c b (broke u) = c + stock i u ≤ b
OutcomeFits i c b (halted h) = Unit {0}
OutcomeFits i c b (rests r u) = c + (count i (leaves r) + stock i u) ≤ b

abbrev pub TaskFits : (i c b : ℕ) → TaskOutcome → Type 0
TaskFits i c b (ends v u) = c + stock i u ≤ b
TaskFits i c b (lost t) = Unit {0}
TaskFits i c b (stops h) = Unit {0}
TaskFits i c b (sleeps s u) = c + (count i (scope_leaves s) + stock i u) ≤ b

abbrev pub Fits : ℕ → World → Outcome → Type 0
Fits i w o = (c b : ℕ) → c + stock i w ≤ b → OutcomeFits i c b o

abbrev pub FitsTask : ℕ → World → TaskOutcome → Type 0
FitsTask i w o = (c b : ℕ) → c + stock i w ≤ b → TaskFits i c b o

abbrev pub KeepsLeaves : (Residual → Residual) → Type 0
KeepsLeaves wrap = (r : Residual) → leaves (wrap r) ≡ leaves r

-- a world whose clock differs in steps alone, with the same background and forest
same_stock : (i : ℕ) (w : World) (s : State) → s.clock.next ≡ w.state.clock.next → stock i (with_state w s) ≡ stock i w
same_stock i w s e =
    ap (λ n. count i (behind_leaves w.behind []) + (count i (forest_leaves w.tasks) + cond (ltn i n) 0 1)) e

pub kept_stock : (i : ℕ) (w u : World) → Leaves false w u → stock i u ≡ stock i w
kept_stock i w u a = ap (λ b. count i (behind_leaves b []) + (count i (forest_leaves u.tasks) + to_come i u.state)) a.0 ∙ (ap (λ t. count
    i (behind_leaves w.behind []) + (count i (forest_leaves t) + to_come i u.state)) a.1.0 ∙ ap (λ n. count i (behind_leaves w.behind [])
    + (count i (forest_leaves w.tasks) + cond (ltn i n) 0 1)) a.1.1.next)

module _ (i : ℕ) where
  pub valued_out : (c b : ℕ) (o : Outcome) (wrap : Residual → Residual) (go : Val → World → Outcome) → KeepsLeaves wrap → OutcomeFits i c b
      o →
      ((v : Val) (u : World) → Fits i u (go v u)) → OutcomeFits i c b (valued o wrap go)
  unfolding valued
  valued_out c b (value e v u) wrap go q a f = f v u c b a
  valued_out c b (failed t) wrap go q a f = tt
  valued_out c b (returned v u) wrap go q a f = a
  valued_out c b (broke u) wrap go q a f = a
  valued_out c b (halted h) wrap go q a f = tt
  valued_out c b (rests r u) wrap go q a f = subst (λ x. c + (count i x + stock i u) ≤ b) (sym (q r)) a

  pub valued_fits : (w : World) (o : Outcome) (wrap : Residual → Residual) (go : Val → World → Outcome) → KeepsLeaves wrap → Fits i w o →
      ((v : Val) (u : World) → Fits i u (go v u)) → Fits i w (valued o wrap go)
  valued_fits w o wrap go q a f c b h = valued_out c b o wrap go q (a c b h) f

  attempted_out : (c b : ℕ) (w : World) (o : Outcome) (y : Env → Val → World → Outcome) (n : World → Outcome) → c + stock i w ≤ b →
      Keeps false w o → OutcomeFits i c b o → ((e : Env) (v : Val) (u : World) → Fits i u (y e v u)) → ((u : World) → Fits i u (n u)) →
      OutcomeFits i c b (attempted o w y n)
  unfolding attempted
  attempted_out c b w (value e v u) y n h k a f g = f e v u c b a
  attempted_out c b w (failed t) y n h k a f g = g (with_state w (restored w.state.memory t)) c b (subst (λ x. c + x ≤ b) (sym (same_stock
      i w (restored w.state.memory t) k.next)) h)
  attempted_out c b w (returned v u) y n h k a f g = tt
  attempted_out c b w (broke u) y n h k a f g = tt
  attempted_out c b w (halted x) y n h k a f g = tt
  attempted_out c b w (rests r u) y n h k a f g = tt

  pub attempted_fits : (w : World) (o : Outcome) (y : Env → Val → World → Outcome) (n : World → Outcome) → Keeps false w o → Fits i w o →
      ((e : Env) (v : Val) (u : World) → Fits i u (y e v u)) → ((u : World) → Fits i u (n u)) → Fits i w (attempted o w y n)
  attempted_fits w o y n k a f g c b h = attempted_out c b w o y n h k (a c b h) f g

  -- a `not`
  pub denied_fits : (w : World) (e : Env) (o : Outcome) → Keeps false w o → Fits i w o →
      Fits i w (attempted o w (λ e1 v u. failed (restored w.state.memory u.state)) (λ u. value e unit u))
  denied_fits w e o k a = attempted_fits w o _ _ k a (λ e1 v u c b h. tt) (λ u c b h. h)

  pub turned_out : (c b : ℕ) (o : Outcome) (wrap : Residual → Residual) (e : Env) (go : World → Outcome) → KeepsLeaves wrap → OutcomeFits i
      c b o →
      ((u : World) → Fits i u (go u)) → OutcomeFits i c b (turned o wrap e go)
  unfolding turned
  turned_out c b (value e1 v u) wrap e go q a f = f u c b a
  turned_out c b (failed t) wrap e go q a f = tt
  turned_out c b (returned v u) wrap e go q a f = a
  turned_out c b (broke u) wrap e go q a f = a
  turned_out c b (halted h) wrap e go q a f = tt
  turned_out c b (rests r u) wrap e go q a f = subst (λ x. c + (count i x + stock i u) ≤ b) (sym (q r)) a

  pub turned_fits : (w : World) (o : Outcome) (wrap : Residual → Residual) (e : Env) (go : World → Outcome) → KeepsLeaves wrap → Fits i w o
      →
      ((u : World) → Fits i u (go u)) → Fits i w (turned o wrap e go)
  turned_fits w o wrap e go q a f c b h = turned_out c b o wrap e go q (a c b h) f

  spends_from : (left : ℕ) (w : World) (go : World → Outcome) → ((u : World) → Fits i u (go u)) → Fits i w (spends left w go)
  unfolding spends
  spends_from zero w go f c b h = tt
  spends_from (suc l) w go f c b h = f (with_state w (stepped l w.state)) c b h

  pub spends_fits : (w : World) (go : World → Outcome) → ((u : World) → Fits i u (go u)) → Fits i w (spends w.state.clock.left w go)
  spends_fits w go f = spends_from w.state.clock.left w go f

  pub there_fits : {A : Type 0} (w : World) (x : Option A) (go : A → Outcome) → ((x : A) → Fits i w (go x)) → Fits i w (if_there x w go)
  unfolding if_there
  there_fits w None go f c b h = tt
  there_fits w (Some x) go f c b h = f x c b h

  pub known_fits : {A : Type 0} (w : World) (x : Option A) (go : A → Outcome) → ((x : A) → Fits i w (go x)) → Fits i w (if_known x w go)
  unfolding if_known
  known_fits w None go f c b h = tt
  known_fits w (Some x) go f c b h = f x c b h

  -- an effect leaves the clock
  pub told_fits : (w : World) (x : Effect) (p : Place) (e : Env) → Memory true w x → Fits i w (told x p e w)
  unfolding told
  told_fits w (gives x) p e a c b h = subst (λ y. c + y ≤ b) (sym (same_stock i w x.1 (ap (λ y. y.next) a))) h
  told_fits w fails p e a c b h = tt
  told_fits w (error k) p e a c b h = tt
  told_fits w stuck p e a c b h = tt

  pub plain_fits : (w : World) (x : Effect) (e : Env) → Memory true w x → Fits i w (told_plain x e w)
  unfolding told_plain
  plain_fits w (gives x) e a c b h = subst (λ y. c + y ≤ b) (sym (same_stock i w x.1 (ap (λ y. y.next) a))) h
  plain_fits w fails e a c b h = tt
  plain_fits w (error k) e a c b h = tt
  plain_fits w stuck e a c b h = tt

  pub sent_fits : (o : Option ℕ) (v : Val) (e : Env) (w : World) → Fits i w (told_plain (signal_sent o v w.state) e w)
  unfolding told_plain
  sent_fits None v e w c b h = tt
  sent_fits (Some x) v e w c b h = h

  pub outside_fits : (m : Bool) (w : World) (go : World → Outcome) → Fits i w (go w) → Fits i w (outside m w go)
  unfolding outside
  outside_fits true w go f c b h = f c b h
  outside_fits false w go f c b h = tt

  pub suspended_fits : (x : Cause) (e : Env) (w : World) → Fits i w (suspended x e w)
  unfolding suspended
  suspended_fits x e w c b h = omega (arith, h, drawn_one i w.state.clock.next)

  -- cancelling leaves what a world has
  on_went_out : (c b : ℕ) (w : World) (x : Went) (go : World → Outcome) → c + stock i w ≤ b → KeepsWent w x →
      ((u : World) → Fits i u (go u)) → OutcomeFits i c b (on_went x go)
  unfolding on_went
  on_went_out c b w (went u) go h a f = f u c b (subst (λ y. c + y ≤ b) (sym (kept_stock i w u a)) h)
  on_went_out c b w (quits x) go h a f = tt

  pub on_went_fits : (w : World) (x : Went) (go : World → Outcome) → KeepsWent w x → ((u : World) → Fits i u (go u)) →
      Fits i w (on_went x go)
  on_went_fits w x go a f c b h = on_went_out c b w x go h a f

  pub on_went_task_fits : (w : World) (x : Went) (go : World → TaskOutcome) → KeepsWent w x → ((u : World) → Leaves false w u →
      FitsTask i w (go u)) → FitsTask i w (on_went_task x go)
  unfolding on_went_task
  on_went_task_fits w (went u) go a f c b h = f u a c b h
  on_went_task_fits w (quits x) go a f c b h = tt

  ran_out : (c b : ℕ) (o : Outcome) (go : World → Outcome) → OutcomeFits i c b o → ((u : World) → Fits i u (go u)) →
      OutcomeFits i c b (ran o go)
  unfolding ran
  ran_out c b (value e v u) go a f = f u c b a
  ran_out c b (failed t) go a f = tt
  ran_out c b (returned v u) go a f = tt
  ran_out c b (broke u) go a f = tt
  ran_out c b (halted h) go a f = tt
  ran_out c b (rests r u) go a f = tt

  pub closing_out : (c b : ℕ) (o : Outcome) (run : World → Outcome) (wrap : Residual → Residual) (e : Env) → KeepsLeaves wrap →
      OutcomeFits i c b o → ((u : World) → Fits i u (run u)) → OutcomeFits i c b (closing o run wrap e)
  unfolding closing
  closing_out c b (value e1 v u) run wrap e q a f = ran_out c b (run u) _ (f u c b a) (λ x c b h. h)
  closing_out c b (failed t) run wrap e q a f = tt
  closing_out c b (returned v u) run wrap e q a f = ran_out c b (run u) _ (f u c b a) (λ x c b h. h)
  closing_out c b (broke u) run wrap e q a f = ran_out c b (run u) _ (f u c b a) (λ x c b h. h)
  closing_out c b (halted h) run wrap e q a f = tt
  closing_out c b (rests r u) run wrap e q a f = subst (λ x. c + (count i x + stock i u) ≤ b) (sym (q r)) a

  pub closing_fits : (w : World) (o : Outcome) (run : World → Outcome) (wrap : Residual → Residual) (e : Env) → KeepsLeaves wrap → Fits i w
      o →
      ((u : World) → Fits i u (run u)) → Fits i w (closing o run wrap e)
  closing_fits w o run wrap e q a f c b h = closing_out c b o run wrap e q (a c b h) f

  pub call_end_out : (c b : ℕ) (e : Env) (o : TaskOutcome) → TaskFits i c b o → OutcomeFits i c b (call_end e o)
  unfolding call_end
  call_end_out c b e (ends v u) a = a
  call_end_out c b e (lost t) a = tt
  call_end_out c b e (stops h) a = tt
  call_end_out c b e (sleeps x u) a = a

  pub call_end_fits : (w : World) (e : Env) (o : TaskOutcome) → FitsTask i w o → Fits i w (call_end e o)
  call_end_fits w e o a c b h = call_end_out c b e o (a c b h)

  branch_out : (c b : ℕ) (e : Env) (o : TaskOutcome) → TaskFits i c b o → OutcomeFits i c b (branch_started e o)
  unfolding branch_started
  branch_out c b e (ends v u) a = a
  branch_out c b e (lost t) a = tt
  branch_out c b e (stops h) a = tt
  branch_out c b e (sleeps x u) a = omega (arith, a, count_then i u.behind x)

  pub branch_fits : (w : World) (e : Env) (o : TaskOutcome) → FitsTask i w o → Fits i w (branch_started e o)
  branch_fits w e o a c b h = branch_out c b e o (a c b h)

  task_out : (c b : ℕ) (e : Env) (v : Val) (o : TaskOutcome) → TaskFits i c b o → OutcomeFits i c b (task_started e v o)
  unfolding task_started
  task_out c b e v (ends x u) a = a
  task_out c b e v (lost t) a = tt
  task_out c b e v (stops h) a = tt
  task_out c b e v (sleeps x u) a = omega (arith, a, count_forests i u.tasks (Some x ∷ []), count_both i (scope_leaves x) [])

  pub task_fits : (w : World) (e : Env) (v : Val) (o : TaskOutcome) → FitsTask i w o → Fits i w (task_started e v o)
  task_fits w e v o a c b h = task_out c b e v o (a c b h)

  pub armed_out : (c c' b : ℕ) (o : TaskOutcome) (y : Val → World → Outcome) (n : Scope → World → Outcome) → TaskFits i c b o →
      ((v : Val) (u : World) → c + stock i u ≤ b → OutcomeFits i c' b (y v u)) → ((x : Scope) (u : World) → c + (count i (scope_leaves x)
      + stock i u) ≤ b → OutcomeFits i c' b (n x u)) → OutcomeFits i c' b (armed o y n)
  unfolding armed
  armed_out c c' b (ends v u) y n a f g = f v u a
  armed_out c c' b (lost t) y n a f g = tt
  armed_out c c' b (stops h) y n a f g = tt
  armed_out c c' b (sleeps x u) y n a f g = g x u a

  spent_out : (c' b left : ℕ) (w : World) (go : World → Outcome) → ((u : World) → stock i u ≡ stock i w → OutcomeFits i c' b (go u)) →
      OutcomeFits i c' b (spends left w go)
  unfolding spends
  spent_out c' b zero w go f = tt
  spent_out c' b (suc l) w go f = f (with_state w (stepped l w.state)) refl

  pub spends_out : (c' b : ℕ) (w : World) (go : World → Outcome) → ((u : World) → stock i u ≡ stock i w → OutcomeFits i c' b (go u)) →
      OutcomeFits i c' b (spends w.state.clock.left w go)
  spends_out c' b w go f = spent_out c' b w.state.clock.left w go f

pub left_stock : (i : ℕ) (gs : Arms) (w : World) → stock i (leave_all gs w) ≡ count i (arms_leaves gs) + stock i w
left_stock i no_arms w = omega arith
left_stock i (gave v gs) w = left_stock i gs w
left_stock i (runs s gs) w = omega (
  arith,
  left_stock i gs (leave w s),
  count_then i w.behind s,
  count_both i (scope_leaves s) (arms_leaves
      gs),
)

pub gave_count : (i : ℕ) (gs : Arms) (v : Val) → count i (arms_leaves (with_arm gs (gave v no_arms))) ≡ count i (arms_leaves gs)
gave_count i no_arms v = refl
gave_count i (gave x gs) v = gave_count i gs v
gave_count i (runs s gs) v = omega (
  arith,
  gave_count i gs v,
  count_both i (scope_leaves s) (arms_leaves (with_arm gs (gave v no_arms))),
  count_both i (scope_leaves s) (arms_leaves gs),
)

pub runs_count : (i : ℕ) (gs : Arms) (s : Scope) →
    count i (arms_leaves (with_arm gs (runs s no_arms))) ≡ count i (arms_leaves gs) + count i (scope_leaves s)
runs_count i no_arms s = omega (arith, count_both i (scope_leaves s) [])
runs_count i (gave x gs) s = runs_count i gs s
runs_count i (runs y gs) s = omega (
  arith,
  runs_count i gs s,
  count_both i (scope_leaves y) (arms_leaves (with_arm gs (runs s no_arms))),
  count_both i (scope_leaves y) (arms_leaves gs),
)
