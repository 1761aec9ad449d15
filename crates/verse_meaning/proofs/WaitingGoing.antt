-- Groups that still wait, where what is suspended goes on, from turn to turn.
use Rattle.std.proofs.Common.{ℕ, zero, suc, ℤ, length, nat_lt, cond, List, [], ◌∷◌, ◌++◌, Option, Some, None, Bool, true, false}
use Rattle.verse_base.specs.declared.places.Place.{Place}
use Rattle.verse_tree.specs.ItemTree.{FunTree}
use Rattle.verse_tree.specs.Tree.{Tree, Trees}
use Rattle.verse_tree.specs.PostOrder.{parts}
use Rattle.verse_value.specs.declared.runs.Ending.TheVariants as ending
use Rattle.verse_value.specs.Val.{Val, unit}
use Rattle.verse_meaning_state.specs.Waits.{Due, Wait, has, least}
use Rattle.verse_meaning_state.specs.Turns.{Stage, amiss, broken, closed, going, run, turn, turn_at, turns}
use Rattle.verse_meaning_state.specs.State.{State, at_moment, begun, spending, stepped, with_entry}
use Rattle.verse_meaning.specs.Programs.{Program, fun_at, main_in}
use Rattle.verse_meaning.specs.Residuals as form
use Rattle.verse_meaning.specs.Residuals.{Arms, Env, Form, Generator, Residual, Role, Scope, Scopes, Values, also, args, arms, body}
use Rattle.verse_meaning.specs.Residuals.{called, deferred, filling, gave, generated, is_behind, leaf, looped, no_arms, none, root, runs}
use Rattle.verse_meaning.specs.Residuals.{scope, scope_leaves, seq}
use Rattle.verse_meaning.specs.Outcomes.{ArmsOutcome, BehindOutcome, Halt, Outcome, TaskOutcome, World, arm_before, arm_came, arms_came}
use Rattle.verse_meaning.specs.Outcomes.{behind_came, element_before, element_came, ends, fault, jammed, lost, out, set_behind, sleeps}
use Rattle.verse_meaning.specs.Outcomes.{stand, stays, stops, stops_arms, stops_behind, with_state, world, wrong}
use Rattle.verse_meaning.specs.Forms.{Deeper, next_value, with_taken}
use Rattle.verse_meaning.specs.Evaluating.{ev, on_bool}
use Rattle.verse_meaning.specs.Resuming.{form_done, operands, resume, resume_arms, resume_behind, resume_scope, taken}
use Rattle.verse_meaning.specs.Runs.{started, Forest, came, deeper, ended_by, entered, forest_leaves, inputs_of, main_bound, main_found}
use Rattle.verse_meaning.specs.Runs.{main_spends, on_next, taking, turn_taken, with_params, with_this, woken}
use Rattle.verse_meaning.specs.RunLaws.{ArmsWait, BehindWaits, ForestWaits, GroupsWait, ScopeWaits, StageWaits, Waiting}
use Rattle.verse_meaning.proofs.WaitingForms.{DeeperHolds, apply_holds, defined_holds, filled_holds}
use Rattle.verse_meaning.proofs.Waiting.{Holds, HoldsTask, OutcomeWaits, TaskWaits, WorldWaits, attempted_holds, call_end_holds}
use Rattle.verse_meaning.proofs.Waiting.{closing_holds, known_holds, spends_holds, task_holds, turned_holds, valued_holds}
use Rattle.verse_meaning.proofs.WaitingEvaluating.{chosen_holds, clauses_holds, ev_holds, level_holds, scope_holds, settled_holds}
use Rattle.verse_meaning.proofs.WaitingEvaluating.{statements_holds}

taking_holds : (p : Program) (f : ℕ) (o : Option Val) (vs : List Val) (w : World) (go : FunTree → Env → Outcome) →
    ((fn : FunTree) (e : Env) → Holds w (go fn e)) → Holds w (taking p f o vs w go)
taking_holds p f o vs w go h =
    known_holds w (fun_at p f) _ (λ fn. known_holds w (with_params fn.params vs (with_this o)) _ (λ e. h fn e))

next_holds : (x : Option ((Val × Val) × Values)) (w : World) (o : Outcome) (go : Val × Val → Values → Outcome) → Holds w o →
    ((v : Val × Val) (vs : Values) → Holds w (go v vs)) → Holds w (on_next x o go)
unfolding on_next
next_holds None w o go a f = a
next_holds (Some x) w o go a f = f x.0 x.1

entered_holds : (p : Program) (k : Deeper) (d : DeeperHolds k) (q : Role) (f : FunTree) (e : Env) (m : Bool) (w : World) →
    HoldsTask w (entered p k q f e m w)
entered_holds p k d q f e m w h = scope_holds p k d q w.behind (ev p k f.body m e (set_behind w none)) h.0 (ev_holds p k d f.body m e
    (set_behind w none) (tt, h.1))

pub deeper_holds : (p : Program) (n : ℕ) → DeeperHolds (deeper p n)
deeper_holds p zero = record {
  calls = λ f o vs m e w. taking_holds p f o vs w _ (λ fn e1 h. tt);
  spawns = λ f o vs e w. taking_holds p f o vs w _ (λ fn e1 h. tt);
  loops = λ m go wrap e w b f h. tt;
  takes = λ m go wrap e vs a w b f. next_holds (next_value vs) w _ _ (λ h. h) (λ x left h. tt);
  parts = λ a e w h. tt;
  defaults = λ a m e w h. tt;
}
deeper_holds p (suc n) = record {
  calls = λ f o vs m e w. taking_holds p f o vs w _ (λ fn e1. spends_holds w _ (λ u. call_end_holds u e _ (entered_holds p (deeper p n)
      (deeper_holds p n) body fn e1 m u)));
  spawns = λ f o vs e w. taking_holds p f o vs w _ (λ fn e1. spends_holds w _ (λ u. task_holds u e _ _ (entered_holds p (deeper p n)
      (deeper_holds p n) (root (Some (length u.state.clock.results))) fn e1 true (with_state u (with_entry u.state)))));
  loops = λ m go wrap e w b f. spends_holds w _ (λ u. turned_holds u (go u) wrap e _ b (f u) (λ x. (deeper_holds p n).loops m go wrap e x b
      f));
  takes = λ m go wrap e vs a w b f. next_holds (next_value vs) w _ _ (λ h. h) (λ x left. spends_holds w _ (λ u. valued_holds u (go x a u)
      _ _ (b left) (f x a u) (λ y z. (deeper_holds p n).takes m go wrap e left y z b f)));
  parts = λ a e w. spends_holds w _ (λ u. ev_holds p (deeper p n) (deeper_holds p n) a false e u);
  defaults = λ a m e w. spends_holds w _ (λ u. call_end_holds u e _ (λ h. scope_holds p (deeper p n) (deeper_holds p n) body u.behind (ev p
      (deeper p n) a m [] (set_behind u none)) h.0 (ev_holds p (deeper p n) (deeper_holds p n) a m [] (set_behind u none) (tt, h.1))));
}

on_both : {A : Type 0} (P : A → Type 0) (b : Bool) (f g : Bool → A) → P (f true) → P (g false) → P (on_bool b f g)
on_both P true f g x y = x
on_both P false f g x y = y

-- what is behind, and the arms, as lists
abbrev BehindHolds : BehindOutcome → Type 0
BehindHolds (stays bs u) = BehindWaits bs × WorldWaits u
BehindHolds (stops_behind h) = Unit {0}

abbrev ArmsHold : ArmsOutcome → Type 0
ArmsHold (stand gs u) = ArmsWait gs × WorldWaits u
ArmsHold (stops_arms h) = Unit {0}

element_waits : (o : TaskOutcome) (bs : Scopes) → BehindWaits bs → TaskWaits o → BehindHolds (element_came o bs)
unfolding element_came
element_waits (ends v u) bs b a = (b, a)
element_waits (lost t) bs b a = tt
element_waits (stops h) bs b a = tt
element_waits (sleeps x u) bs b a = ((a.0, b), a.1)

before_waits : (s : Scope) (o : BehindOutcome) → ScopeWaits s → BehindHolds o → BehindHolds (element_before s o)
unfolding element_before
before_waits s (stays bs u) b a = ((b, a.0), a.1)
before_waits s (stops_behind h) b a = tt

behind_waits : (q : Role) (r : Residual) (o : BehindOutcome) → Waiting r → BehindHolds o → TaskWaits (behind_came q r o)
unfolding behind_came
behind_waits q r (stays bs u) b a = ((b, a.0), a.1)
behind_waits q r (stops_behind h) b a = tt

arm_waits : (o : TaskOutcome) (gs : Arms) → ArmsWait gs → TaskWaits o → ArmsHold (arm_came o gs)
unfolding arm_came
arm_waits (ends v u) gs b a = (b, a)
arm_waits (lost t) gs b a = tt
arm_waits (stops h) gs b a = tt
arm_waits (sleeps x u) gs b a = ((a.0, b), a.1)

gave_before : (v : Val) (o : ArmsOutcome) → ArmsHold o → ArmsHold (arm_before (gave v) o)
unfolding arm_before
gave_before v (stand gs u) a = a
gave_before v (stops_arms h) a = tt

runs_before : (s : Scope) (o : ArmsOutcome) → ScopeWaits s → ArmsHold o → ArmsHold (arm_before (runs s) o)
unfolding arm_before
runs_before s (stand gs u) b a = ((b, a.0), a.1)
runs_before s (stops_arms h) b a = tt

arms_came_waits : (o : ArmsOutcome) (go : Arms → World → Outcome) → ArmsHold o → ((gs : Arms) (u : World) → ArmsWait gs →
    Holds u (go gs u)) → OutcomeWaits (arms_came o go)
unfolding arms_came
arms_came_waits (stand gs u) go a f = f gs u a.0 a.1
arms_came_waits (stops_arms h) go a f = tt

module _ (p : Program) (k : Deeper) (d : DeeperHolds k) where
  done_holds : (f : Form) (vs : List Val) (e : Env) (w : World) → Holds w (form_done p k f vs e w)
  done_holds (form.choosing ts) (v ∷ []) e w = chosen_holds p k d ts v true e w
  done_holds f vs e w = apply_holds p k d f vs true e w

  operands_hold : (e : Env) (f : Form) (vs : List Val) (left : List Tree) (w : World) → Holds w (operands p k e f vs left w)
  operands_hold e f vs [] w = done_holds f vs e w
  operands_hold e f vs (a ∷ left) w =
      valued_holds w _ _ _ (λ r q. q) (ev_holds p k d a true e w) (λ v u. operands_hold e f (vs ++ v ∷ []) left u)

  taken_holds : (g : Generator) (cs : Trees) (a : Tree) (pl : Place) (e : Env) (x : Val × Val) (so_far : Val) (w : World) →
      Holds w (taken p k g cs a pl e x so_far w)
  taken_holds g cs a pl e x so_far w = attempted_holds w _ _ _ (clauses_holds p k d cs false (with_taken g x e) unit w)
      (λ e1 y u. level_holds p k d cs a _ pl e1 y so_far true u (λ e z. ev_holds p k d a true e z)) (λ u h. h)

  mutual
    pub resume_holds : (r : Residual) (n : ℕ) (v : Val) (w : World) → Waiting r → Holds w (resume p k r n v w)
    resume_holds (leaf x e) n v w b = λ h. h
    resume_holds (args e f vs r left) n v w b =
        valued_holds w _ _ _ (λ r q. q) (resume_holds r n v w b) (λ y u. operands_hold e f (vs ++ y ∷ []) left u)
    resume_holds (seq e x r left) n v w b = valued_holds w _ _ _ (λ r q. q) (resume_holds r n v w b) (λ y u. defined_holds p k d x e y true
        u
        _ (λ e z x. statements_holds p k d left true e z x))
    resume_holds (deferred e a r) n v w b = closing_holds w _ _ _ e (λ r q. q) (resume_holds r n v w b) (λ u. d.parts a e u)
    resume_holds (filling e c pl fs xs vs ss r) n v w b = valued_holds w _ _ _ (λ r q. q) (resume_holds r n v w b) (λ y u. filled_holds p k
        d fs xs vs c (ss ++ y ∷ []) pl true e u)
    resume_holds (looped e a r) n v w b = turned_holds w _ _ e _ (λ r q. q) (resume_holds r n v w b) (λ u. d.loops true _ _ e u (λ r q. q)
        (λ z. ev_holds p k d a true e z))
    resume_holds (generated e g cs a pl vs r) n v w b = valued_holds w _ _ _ (λ r q. q) (resume_holds r n v w b) (λ y u. d.takes true _ _ e
        vs y u (λ vs r q. q) (λ x b z. taken_holds g cs a pl e x b z))
    resume_holds (called e s) n v w b = call_end_holds w e _ (resume_scope_holds s n v w b)
    resume_holds (arms kd pl e gs) n v w b = λ h.
        arms_came_waits _ _ (resume_arms_hold gs n v w b.1 h) (λ gs u c. settled_holds p k d kd pl e gs u c)

    pub resume_scope_holds : (s : Scope) (n : ℕ) (v : Val) (w : World) → ScopeWaits s → HoldsTask w (resume_scope p k s n v w)
    resume_scope_holds (scope q r bs) n v w b h = on_both TaskWaits (is_behind n bs) _ _ (behind_waits q r _ b.0 (resume_behind_holds bs n v
        w b.1 h)) (scope_holds p k d q w.behind _ h.0 (resume_holds r n v (set_behind w bs) b.0 (b.1, h.1)))

    pub resume_behind_holds : (bs : Scopes) (n : ℕ) (v : Val) (w : World) → BehindWaits bs → WorldWaits w →
        BehindHolds (resume_behind p k bs n v w)
    resume_behind_holds none n v w b h = (tt, h)
    resume_behind_holds (also s bs) n v w b h = on_both BehindHolds (has n (scope_leaves s)) _ _ (element_waits _ bs b.1 (resume_scope_holds
        s n v w b.0 h)) (before_waits s _ b.0 (resume_behind_holds bs n v w b.1 h))

    pub resume_arms_hold : (gs : Arms) (n : ℕ) (v : Val) (w : World) → ArmsWait gs → WorldWaits w → ArmsHold (resume_arms p k gs n v w)
    resume_arms_hold no_arms n v w b h = tt
    resume_arms_hold (gave y gs) n v w b h = gave_before y _ (resume_arms_hold gs n v w b h)
    resume_arms_hold (runs s gs) n v w b h = on_both ArmsHold (has n (scope_leaves s)) _ _ (arm_waits _ gs b.1 (resume_scope_holds s n v w
        b.0 h)) (runs_before s _ b.0 (resume_arms_hold gs n v w b.1 h))

-- the forest
both_wait : (xs ys : List (Option Scope)) → ForestWaits xs → ForestWaits ys → ForestWaits (xs ++ ys)
both_wait [] ys a b = b
both_wait (None ∷ xs) ys a b = both_wait xs ys a b
both_wait (Some s ∷ xs) ys a b = (a.0, both_wait xs ys a.1 b)

halted_waits : (h : Halt) → StageWaits (ended_by h)
halted_waits (fault k pl s) = tt
halted_waits (out s) = tt
halted_waits (jammed s) = tt
halted_waits (wrong s) = tt

came_waits : (before : Forest) (o : TaskOutcome) → ForestWaits before → TaskWaits o → StageWaits (came before o)
came_waits before (ends v w) b a = both_wait before (None ∷ w.tasks) b a.1
came_waits before (lost t) b a = tt
came_waits before (stops h) b a = halted_waits h
came_waits before (sleeps s w) b a = both_wait before (Some s ∷ w.tasks) b (a.0, a.1.1)

cond_waits : (b : Bool) (f g : Stage Forest) → StageWaits f → StageWaits g → StageWaits (cond b f g)
cond_waits true f g x y = x
cond_waits false f g x y = y

spending_waits : (left : ℕ) (s : State) (x : Stage Forest) (go : State → Stage Forest) → StageWaits x → ((t : State) →
    StageWaits (go t)) → StageWaits (spending left s x go)
spending_waits zero s x go a f = a
spending_waits (suc l) s x go a f = f (stepped l s)

found_waits : (x : Option FunTree) (s : State) (go : FunTree → Stage Forest) → ((f : FunTree) → StageWaits (go f)) →
    StageWaits (main_found x s go)
unfolding main_found
found_waits None s go f = tt
found_waits (Some x) s go f = f x

bound_waits : (x : Option Env) (s : State) (go : Env → Stage Forest) → ((e : Env) → StageWaits (go e)) → StageWaits (main_bound x s go)
unfolding main_bound
bound_waits None s go f = tt
bound_waits (Some x) s go f = f x

main_waits : (steps : ℕ) (s : State) (go : State → Stage Forest) → ((t : State) → StageWaits (go t)) → StageWaits (main_spends steps s go)
unfolding main_spends
main_waits steps s go f = spending_waits steps s _ go tt f

module _ (p : Program) where
  woken_waits : (n : ℕ) (v : Val) (before fs : Forest) (s : State) → ForestWaits before → ForestWaits fs →
      StageWaits (woken p n v before fs s)
  woken_waits n v before [] s b a = tt
  woken_waits n v before (None ∷ fs) s b a = woken_waits n v (before ++ None ∷ []) fs s (both_wait before (None ∷ []) b tt) a
  woken_waits n v before (Some x ∷ fs) s b a = on_both StageWaits (has n (scope_leaves x)) _ _ (came_waits before _ b (resume_scope_holds p
      (deeper p s.clock.left) (deeper_holds p s.clock.left) x n v (world s none fs) a.0 (tt, a.1))) (woken_waits n v (before ++ Some x ∷
      []) fs s (both_wait before (Some x ∷ []) b (a.0, tt)) a.1)

  at_waits : (until : ℕ) (x : Option Due) (s : State) (fs : Forest) (go : Due → State → Stage Forest) → ForestWaits fs → ((d : Due)
      (t : State) → StageWaits (go d t)) → StageWaits (turn_at until x s fs go)
  at_waits until None s fs go a f = a
  at_waits until (Some due) s fs go a f = cond_waits (nat_lt until due.given.moment) _ _ a (spending_waits s.clock.left s _ _ a (λ t. f due
      (at_moment due.given.moment t)))

  some_waits : (until : ℕ) (ws : List Wait) (s : State) (fs : Forest) (go : Due → State → Stage Forest) → ForestWaits fs → ((d : Due)
      (t : State) → StageWaits (go d t)) → StageWaits (turn until ws s fs go)
  some_waits until [] s fs go a f = a
  some_waits until (w ∷ ws) s fs go a f = at_waits until (least s (w ∷ ws)) s fs go a f

  turn_waits : (until : ℕ) (s : State) (fs : Forest) → ForestWaits fs → StageWaits (turn_taken p until s fs)
  turn_waits until s fs a = some_waits until (forest_leaves fs) s fs _ a (λ d t. woken_waits d.number d.given.value [] fs t tt a)

  turns_wait : (until k : ℕ) (x : Stage Forest) → StageWaits x → StageWaits (turns (turn_taken p until) k x)
  turns_wait until zero x a = a
  turns_wait until (suc k) (going s fs) a = turns_wait until k (turn_taken p until s fs) (turn_waits until s fs a)
  turns_wait until (suc k) (closed e s fs) a = a
  turns_wait until (suc k) (broken e s) a = tt
  turns_wait until (suc k) (amiss s) a = tt

  started_waits : (ns : List ℤ) (steps : ℕ) → StageWaits (started p ns steps)
  started_waits ns steps = found_waits (main_in p.items) (begun steps) _ (λ f. bound_waits (with_params f.params (inputs_of f.params ns) [])
      (begun steps) _ (λ e. main_waits steps (begun steps) _ (λ t. came_waits [] _ tt (entered_holds p (deeper p t.clock.left) (deeper_holds
      p t.clock.left) (root None) f e true (world t none []) (tt, tt)))))

pub groups_wait : GroupsWait
groups_wait p = record {
  turn = turn_waits p;
  run = λ ns steps until k. turns_wait p until k (started p ns steps) (started_waits p ns steps);
}
