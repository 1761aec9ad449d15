-- What going on leaves as it was: calls, residuals, scopes, the forest.
use Rattle.std.proofs.Common.{ℕ, zero, suc, length, List, [], ◌∷◌, ◌++◌, Option, Some, None, Bool, true, false, refl}
use Rattle.verse_base.specs.declared.places.Place.{Place}
use Rattle.verse_tree.specs.Tree.{Tree, Trees}
use Rattle.verse_tree.specs.ItemTree.{FunTree}
use Rattle.verse_value.specs.Val.{Val, unit}
use Rattle.verse_meaning_state.specs.State.{with_entry}
use Rattle.verse_meaning_state.specs.Waits.{has}
use Rattle.verse_meaning.specs.Programs.{Program, fun_at}
use Rattle.verse_meaning.specs.Residuals as form
use Rattle.verse_meaning.specs.Residuals.{Env, Form, Generator, Values, Role, part, body, root, Residual, leaf, args, seq, deferred, looped}
use Rattle.verse_meaning.specs.Residuals.{filling}
use Rattle.verse_meaning.specs.Residuals.{generated, called, arms, Scope, scope, Scopes, none, also, Arms, no_arms, gave, runs}
use Rattle.verse_meaning.specs.Residuals.{scope_leaves, is_behind}
use Rattle.verse_meaning.specs.Outcomes.{World, with_state, set_behind, Outcome, value, failed, returned, broke, halted, rests, TaskOutcome}
use Rattle.verse_meaning.specs.Outcomes.{ends, lost, stops, sleeps, BehindOutcome, stays, stops_behind, ArmsOutcome, stand, stops_arms}
use Rattle.verse_meaning.specs.Outcomes.{arm_came, arm_before, arms_came, element_came, element_before, behind_came}
use Rattle.verse_meaning.specs.Forms.{Deeper, with_taken, next_value}
use Rattle.verse_meaning.specs.Evaluating.{on_bool, scope_end, ev}
use Rattle.verse_meaning.specs.Resuming.{form_done, operands, taken, resume, resume_scope, resume_behind, resume_arms}
use Rattle.verse_meaning.specs.Runs.{with_params, with_this, taking, entered, on_next, deeper}
use Rattle.verse_meaning.specs.Laws.{Apart, Keeps, KeepsTask}
use Rattle.verse_meaning.proofs.Keeping.{grown_same, leaves_same, keeps_then, apart_leaves, task_then, valued_keeps, attempted_keeps}
use Rattle.verse_meaning.proofs.Keeping.{turned_keeps, spends_keeps, known_keeps, closing_keeps, call_end_keeps, task_keeps}
use Rattle.verse_meaning.proofs.Forms.{DeeperKeeps, filled_keeps, apply_keeps, defined_keeps}
use Rattle.verse_meaning.proofs.Evaluating.{scope_keeps, quiet_scope, settled_keeps, ev_keeps, statements_keep, clauses_keep, level_keeps}
use Rattle.verse_meaning.proofs.Evaluating.{chosen_keeps}

entered_keeps : (p : Program) (k : Deeper) (d : DeeperKeeps k) (q : Role) (f : FunTree) (e : Env) (w : World) →
    KeepsTask true w (entered p k q f e true w)
entered_keeps p k d q f e w = scope_keeps p k d q w (ev p k f.body true e (set_behind w none))
    (ev_keeps p k d f.body true e (set_behind w none))

called_keeps : (p : Program) (k : Deeper) (d : DeeperKeeps k) (f : FunTree) (e : Env) (m : Bool) (w : World) →
    KeepsTask m w (entered p k body f e m w)
called_keeps p k d f e true w = entered_keeps p k d body f e w
called_keeps p k d f e false w = quiet_scope p k d w (ev p k f.body false e (set_behind w none))
    (ev_keeps p k d f.body false e (set_behind w none))

default_keeps : (p : Program) (k : Deeper) (d : DeeperKeeps k) (a : Tree) (m : Bool) (w : World) →
    KeepsTask m w (scope_end p k body w.behind (ev p k a m [] (set_behind w none)))
default_keeps p k d a true w = scope_keeps p k d body w (ev p k a true [] (set_behind w none))
    (ev_keeps p k d a true [] (set_behind w none))
default_keeps p k d a false w = quiet_scope p k d w (ev p k a false [] (set_behind w none)) (ev_keeps p k d a false [] (set_behind w none))

taking_keeps : (p : Program) (f : ℕ) (o : Option Val) (vs : List Val) (m : Bool) (w : World) (go : FunTree → Env → Outcome) →
    ((fn : FunTree) (e : Env) → Keeps m w (go fn e)) → Keeps m w (taking p f o vs w go)
taking_keeps p f o vs m w go h = known_keeps m w (fun_at p f) _
    (λ fn. known_keeps m w (with_params fn.params vs (with_this o)) _ (λ e. h fn e))

next_keeps : (x : Option ((Val × Val) × Values)) (m : Bool) (w : World) (o : Outcome) (go : Val × Val → Values → Outcome) → Keeps m w o →
    ((v : Val × Val) (vs : Values) → Keeps m w (go v vs)) → Keeps m w (on_next x o go)
unfolding on_next
next_keeps None m w o go a f = a
next_keeps (Some x) m w o go a f = f x.0 x.1

pub deeper_keeps : (p : Program) (n : ℕ) → DeeperKeeps (deeper p n)
deeper_keeps p zero = record {
  calls = λ f o vs m e w. taking_keeps p f o vs m w _ (λ fn e1. tt);
  spawns = λ f o vs e w. taking_keeps p f o vs true w _ (λ fn e1. tt);
  loops = λ m go wrap e w f. tt;
  takes = λ m go wrap e vs a w f. next_keeps (next_value vs) m w _ _ (leaves_same m w) (λ x left. tt);
  parts = λ a e w. tt;
  defaults = λ a m e w. tt;
}
deeper_keeps p (suc n) = record {
  calls = λ f o vs m e w. taking_keeps p f o vs m w _ (λ fn e1. spends_keeps m w w.state.clock.left _ (λ u h. call_end_keeps m u e
      (entered p (deeper p n) body fn e1 m u) (called_keeps p (deeper p n) (deeper_keeps p n) fn e1 m u)));
  spawns = λ f o vs e w. taking_keeps p f o vs true w _ (λ fn e1. spends_keeps true w w.state.clock.left _ (λ u h.
      task_keeps u e _ _ (task_then true u (with_state u (with_entry u.state)) _ (refl, grown_same u.tasks) (entered_keeps p (deeper p n)
      (deeper_keeps p n) (root (Some (length u.state.clock.results))) fn e1 (with_state u (with_entry u.state))))));
  loops = λ m go wrap e w f. spends_keeps m w w.state.clock.left _ (λ u h. turned_keeps m u (go u) wrap e _ (f u) (λ x h. (deeper_keeps p
      n).loops m go wrap e x f));
  takes = λ m go wrap e vs a w f. next_keeps (next_value vs) m w _ _ (leaves_same m w) (λ x left. spends_keeps m w w.state.clock.left _
      (λ u h.
      valued_keeps m u (go x a u) _ _ (f x a u) (λ b z h. (deeper_keeps p n).takes m go wrap e left b z f)));
  parts = λ a e w. spends_keeps false w w.state.clock.left _ (λ u h. ev_keeps p (deeper p n) (deeper_keeps p n) a false e u);
  defaults = λ a m e w. spends_keeps m w w.state.clock.left _
      (λ u h. call_end_keeps m u e _ (default_keeps p (deeper p n) (deeper_keeps p n) a m u));
}

bool_task : (b : Bool) (w : World) (f g : Bool → TaskOutcome) → KeepsTask true w (f true) → KeepsTask true w (g false) →
    KeepsTask true w (on_bool b f g)
bool_task true w f g x y = x
bool_task false w f g x y = y

-- what is behind, and the arms, as lists
abbrev pub KeepsBehind : World → BehindOutcome → Type 0
KeepsBehind w (stays bs u) = Apart true w u
KeepsBehind w (stops_behind h) = Unit {0}

abbrev pub KeepsArms : World → ArmsOutcome → Type 0
KeepsArms w (stand gs u) = Apart true w u
KeepsArms w (stops_arms h) = Unit {0}

bool_behind : (b : Bool) (w : World) (f g : Bool → BehindOutcome) → KeepsBehind w (f true) → KeepsBehind w (g false) →
    KeepsBehind w (on_bool b f g)
bool_behind true w f g x y = x
bool_behind false w f g x y = y

bool_arms : (b : Bool) (w : World) (f g : Bool → ArmsOutcome) → KeepsArms w (f true) → KeepsArms w (g false) → KeepsArms w (on_bool b f g)
bool_arms true w f g x y = x
bool_arms false w f g x y = y

element_keeps : (w : World) (o : TaskOutcome) (bs : Scopes) → KeepsTask true w o → KeepsBehind w (element_came o bs)
unfolding element_came
element_keeps w (ends v u) bs a = a
element_keeps w (lost s) bs a = tt
element_keeps w (stops h) bs a = tt
element_keeps w (sleeps s u) bs a = a.1

before_keeps : (w : World) (s : Scope) (o : BehindOutcome) → KeepsBehind w o → KeepsBehind w (element_before s o)
unfolding element_before
before_keeps w s (stays bs u) a = a
before_keeps w s (stops_behind h) a = tt

behind_task : (w : World) (q : Role) (r : Residual) (o : BehindOutcome) → KeepsBehind w o → KeepsTask true w (behind_came q r o)
unfolding behind_came
behind_task w q r (stays bs u) a = (refl, a)
behind_task w q r (stops_behind h) a = tt

arm_keeps : (w : World) (o : TaskOutcome) (gs : Arms) → KeepsTask true w o → KeepsArms w (arm_came o gs)
unfolding arm_came
arm_keeps w (ends v u) gs a = a
arm_keeps w (lost s) gs a = tt
arm_keeps w (stops h) gs a = tt
arm_keeps w (sleeps s u) gs a = a.1

front_keeps : (w : World) (f : Arms → Arms) (o : ArmsOutcome) → KeepsArms w o → KeepsArms w (arm_before f o)
unfolding arm_before
front_keeps w f (stand gs u) a = a
front_keeps w f (stops_arms h) a = tt

arms_came_keeps : (w : World) (o : ArmsOutcome) (go : Arms → World → Outcome) → KeepsArms w o → ((gs : Arms) (u : World) →
    Keeps true u (go gs u)) → Keeps true w (arms_came o go)
unfolding arms_came
arms_came_keeps w (stand gs u) go a f = keeps_then true w u (go gs u) (apart_leaves true w u a) (f gs u)
arms_came_keeps w (stops_arms h) go a f = tt

-- a scope begins anew in its background
pub from_none : (w : World) (bs : Scopes) (o : Outcome) → Keeps true (set_behind w bs) o → Keeps true (set_behind w none) o
from_none w bs (value e v u) a = (tt, a.1)
from_none w bs (failed s) a = tt
from_none w bs (returned v u) a = (tt, a.1)
from_none w bs (broke u) a = (tt, a.1)
from_none w bs (halted h) a = tt
from_none w bs (rests r u) a = (refl, (tt, a.1.1))

module _ (p : Program) (k : Deeper) (d : DeeperKeeps k) where
  done_keeps : (f : Form) (vs : List Val) (e : Env) (w : World) → Keeps true w (form_done p k f vs e w)
  done_keeps (form.choosing ts) (v ∷ []) e w = chosen_keeps p k d ts v true e w
  done_keeps f vs e w = apply_keeps p k d f vs true e w

  operands_keep : (e : Env) (f : Form) (vs : List Val) (left : List Tree) (w : World) → Keeps true w (operands p k e f vs left w)
  operands_keep e f vs [] w = done_keeps f vs e w
  operands_keep e f vs (a ∷ left) w =
      valued_keeps true w _ _ _ (ev_keeps p k d a true e w) (λ v u h. operands_keep e f (vs ++ v ∷ []) left u)

  taken_keeps : (g : Generator) (cs : Trees) (a : Tree) (pl : Place) (e : Env) (x : Val × Val) (so_far : Val) (w : World) →
      Keeps true w (taken p k g cs a pl e x so_far w)
  taken_keeps g cs a pl e x so_far w =
      attempted_keeps true w _ _ _ (clauses_keep p k d cs false (with_taken g x e) unit w) (λ e1 y u h. level_keeps p k d cs a _ pl e1 y
      so_far true u (λ e z. ev_keeps p k d a true e z)) (λ u h. leaves_same true u)

  mutual
    pub resume_keeps : (r : Residual) (n : ℕ) (v : Val) (w : World) → Keeps true w (resume p k r n v w)
    resume_keeps (leaf x e) n v w = leaves_same true w
    resume_keeps (args e f vs r left) n v w =
        valued_keeps true w _ _ _ (resume_keeps r n v w) (λ y u h. operands_keep e f (vs ++ y ∷ []) left u)
    resume_keeps (seq e b r left) n v w =
        valued_keeps true w _ _ _ (resume_keeps r n v w) (λ y u h. defined_keeps p k d b e y true u _ (λ e z x. statements_keep p k d left
        true e z x))
    resume_keeps (deferred e a r) n v w = closing_keeps true w _ _ _ e (resume_keeps r n v w) (λ u. d.parts a e u)
    resume_keeps (filling e c pl fs xs vs ss r) n v w =
        valued_keeps true w _ _ _ (resume_keeps r n v w) (λ y u h. filled_keeps p k d fs xs vs c (ss ++ y ∷ []) pl true e u)
    resume_keeps (looped e a r) n v w =
        turned_keeps true w _ _ e _ (resume_keeps r n v w) (λ u h. d.loops true _ _ e u (λ z. ev_keeps p k d a true e z))
    resume_keeps (generated e g cs a pl vs r) n v w =
        valued_keeps true w _ _ _ (resume_keeps r n v w) (λ y u h. d.takes true _ _ e vs y u (λ x b z. taken_keeps g cs a pl e x b z))
    resume_keeps (called e s) n v w = call_end_keeps true w e _ (resume_scope_keeps s n v w)
    resume_keeps (arms kd pl e gs) n v w = arms_came_keeps w _ _ (resume_arms_keep gs n v w) (λ gs u. settled_keeps p k d kd pl e gs u)

    pub resume_scope_keeps : (s : Scope) (n : ℕ) (v : Val) (w : World) → KeepsTask true w (resume_scope p k s n v w)
    resume_scope_keeps (scope q r bs) n v w = bool_task (is_behind n bs) w _ _ (behind_task w q r _ (resume_behind_keeps bs n v w))
        (scope_keeps p k d q w (resume p k r n v (set_behind w bs)) (from_none w bs (resume p k r n v (set_behind w bs)) (resume_keeps r n
        v (set_behind w bs))))

    pub resume_behind_keeps : (bs : Scopes) (n : ℕ) (v : Val) (w : World) → KeepsBehind w (resume_behind p k bs n v w)
    resume_behind_keeps none n v w = (refl, grown_same w.tasks)
    resume_behind_keeps (also s bs) n v w =
        bool_behind (has n (scope_leaves s)) w _ _ (element_keeps w _ bs (resume_scope_keeps s n v w)) (before_keeps w s _
        (resume_behind_keeps bs n v w))

    pub resume_arms_keep : (gs : Arms) (n : ℕ) (v : Val) (w : World) → KeepsArms w (resume_arms p k gs n v w)
    resume_arms_keep no_arms n v w = tt
    resume_arms_keep (gave y gs) n v w = front_keeps w _ _ (resume_arms_keep gs n v w)
    resume_arms_keep (runs s gs) n v w =
        bool_arms (has n (scope_leaves s)) w _ _ (arm_keeps w _ gs (resume_scope_keeps s n v w)) (front_keeps w _ _ (resume_arms_keep gs n
        v w))
