-- What is no longer live was woken, or may have been cancelled.
use Rattle.std.proofs.Common.{◌≡◌, ◌+◌, ◌≤◌, ◌⊎◌, inl, inr, cond, ℕ, List, [], ◌∷◌, ◌++◌, Option, Some, None, Bool, true, false, refl}
use Rattle.std.proofs.Common.{sym, subst}
use Rattle.std.proofs.Math.Path.{ap}
use Rattle.std.proofs.Math.Nat.{le_refl}
use Rattle.verse_base.specs.declared.places.Place.{Place}
use Rattle.verse_value.specs.Val.{Val}
use Rattle.verse_value.specs.Operations.{tuple_of}
use Rattle.verse_meaning_state.specs.State.{State}
use Rattle.verse_meaning_state.specs.Waits.{Wait, has}
use Rattle.verse_meaning_state.specs.Turns.{sync, race, rush}
use Rattle.verse_meaning_state.specs.Effects.{still}
use Rattle.verse_meaning.specs.Programs.{Program}
use Rattle.verse_meaning.specs.Residuals.{Arms, Env, Residual, Role, Scope, Scopes, also, args, arms, arms_leaves, behind_leaves, body}
use Rattle.verse_meaning.specs.Residuals.{called, deferred, filling, gave, generated, is_behind, leaf, leaves, looped, no_arms, none}
use Rattle.verse_meaning.specs.Residuals.{part, root, runs, scope, scope_leaves, seq}
use Rattle.verse_meaning.specs.Outcomes.{ArmsOutcome, BehindOutcome, Halt, Outcome, TaskOutcome, Went, World, all_gave, arm_before}
use Rattle.verse_meaning.specs.Outcomes.{arm_came, arms_came, behind_came, broke, call_end, closing, element_before, element_came, ends}
use Rattle.verse_meaning.specs.Outcomes.{failed, fault, finished, first_gave, halted, jammed, leave_all, lost, not_given, on_went}
use Rattle.verse_meaning.specs.Outcomes.{on_went_task, one_more, out, quits, rests, returned, set_behind, sleeps, stand, stays, stops}
use Rattle.verse_meaning.specs.Outcomes.{stops_arms, stops_behind, told, turned, value, valued, went, world, wrong}
use Rattle.verse_meaning.specs.Forms.{Deeper}
use Rattle.verse_meaning.specs.Evaluating.{cancel_arms, cancel_behind, on_bool, or_stands, scope_end, scope_returned, settled}
use Rattle.verse_meaning.specs.Resuming.{resume, resume_arms, resume_behind, resume_scope}
use Rattle.verse_meaning.specs.Runs.{Forest, came, deeper, ended_by, forest_leaves, woken}
use Rattle.verse_meaning.specs.Laws.{Grown, KeepsTask}
use Rattle.verse_meaning.specs.RunLaws.{ArmsWait, BehindWaits, ForestWaits, NothingLost, ScopeWaits, StageHas, Waiting, arms_standing}
use Rattle.verse_meaning.specs.RunLaws.{behind_standing, count, forest_standing, scope_standing, standing}
use Rattle.verse_meaning.proofs.Numbering.{KeepsLeaves, count_behind, count_both, count_forests}
use Rattle.verse_meaning.proofs.Going.{deeper_keeps, resume_scope_keeps}
use native.Mathlib.Omega.{arith}

-- c waits of a number are in what is left; where nothing is left, there are none
abbrev OutcomeHas : (i c : ℕ) → Outcome → Type 0
OutcomeHas i c (value e v u) = c ≤ 0
OutcomeHas i c (failed t) = Unit {0}
OutcomeHas i c (returned v u) = c ≤ 0
OutcomeHas i c (broke u) = c ≤ 0
OutcomeHas i c (halted h) = Unit {0}
OutcomeHas i c (rests r u) = c ≤ count i (leaves r)

abbrev TaskHas : (i c : ℕ) → TaskOutcome → Type 0
TaskHas i c (ends v u) = c ≤ 0
TaskHas i c (lost t) = Unit {0}
TaskHas i c (stops h) = Unit {0}
TaskHas i c (sleeps s u) = c ≤ count i (scope_leaves s)

abbrev BehindHas : (i c : ℕ) → BehindOutcome → Type 0
BehindHas i c (stays bs u) = c ≤ count i (behind_leaves bs [])
BehindHas i c (stops_behind h) = Unit {0}

-- of a `sync`
abbrev ArmsHave : (i c : ℕ) → ArmsOutcome → Type 0
ArmsHave i c (stand gs u) = c ≤ count i (arms_leaves gs)
ArmsHave i c (stops_arms h) = Unit {0}

-- of a race or a rush: it has no value yet, or nothing is left
abbrev FirstHas : (i c : ℕ) → ArmsOutcome → Type 0
FirstHas i c (stand gs u) = ((first_gave gs ≡ None) × (c ≤ count i (arms_leaves gs))) ⊎ (c ≤ 0)
FirstHas i c (stops_arms h) = Unit {0}

nothing_has : (i c : ℕ) (o : Outcome) → c ≤ 0 → OutcomeHas i c o
nothing_has i c (value e v u) h = h
nothing_has i c (failed t) h = tt
nothing_has i c (returned v u) h = h
nothing_has i c (broke u) h = h
nothing_has i c (halted x) h = tt
nothing_has i c (rests r u) h = omega (arith, h)

valued_has : (i c : ℕ) (o : Outcome) (wrap : Residual → Residual) (go : Val → World → Outcome) → KeepsLeaves wrap → OutcomeHas i c o →
    OutcomeHas i c (valued o wrap go)
unfolding valued
valued_has i c (value e v u) wrap go q a = nothing_has i c (go v u) a
valued_has i c (failed t) wrap go q a = tt
valued_has i c (returned v u) wrap go q a = a
valued_has i c (broke u) wrap go q a = a
valued_has i c (halted h) wrap go q a = tt
valued_has i c (rests r u) wrap go q a = subst (λ x. c ≤ count i x) (sym (q r)) a

turned_has : (i c : ℕ) (o : Outcome) (wrap : Residual → Residual) (e : Env) (go : World → Outcome) → KeepsLeaves wrap → OutcomeHas i c o →
    OutcomeHas i c (turned o wrap e go)
unfolding turned
turned_has i c (value e1 v u) wrap e go q a = nothing_has i c (go u) a
turned_has i c (failed t) wrap e go q a = tt
turned_has i c (returned v u) wrap e go q a = a
turned_has i c (broke u) wrap e go q a = a
turned_has i c (halted h) wrap e go q a = tt
turned_has i c (rests r u) wrap e go q a = subst (λ x. c ≤ count i x) (sym (q r)) a

closing_has : (i c : ℕ) (o : Outcome) (run : World → Outcome) (wrap : Residual → Residual) (e : Env) → KeepsLeaves wrap →
    OutcomeHas i c o → OutcomeHas i c (closing o run wrap e)
unfolding closing
closing_has i c (value e1 v u) run wrap e q a = nothing_has i c _ a
closing_has i c (failed t) run wrap e q a = tt
closing_has i c (returned v u) run wrap e q a = nothing_has i c _ a
closing_has i c (broke u) run wrap e q a = nothing_has i c _ a
closing_has i c (halted h) run wrap e q a = tt
closing_has i c (rests r u) run wrap e q a = subst (λ x. c ≤ count i x) (sym (q r)) a

call_end_has : (i c : ℕ) (e : Env) (o : TaskOutcome) → TaskHas i c o → OutcomeHas i c (call_end e o)
unfolding call_end
call_end_has i c e (ends v u) a = a
call_end_has i c e (lost t) a = tt
call_end_has i c e (stops h) a = tt
call_end_has i c e (sleeps s u) a = a

element_has : (i c : ℕ) (o : TaskOutcome) (bs : Scopes) → TaskHas i c o → BehindHas i (c + count i (behind_leaves bs [])) (element_came o
    bs)
unfolding element_came
element_has i c (ends v u) bs a = omega (arith, a)
element_has i c (lost t) bs a = tt
element_has i c (stops h) bs a = tt
element_has i c (sleeps s u) bs a = omega (arith, a, count_both i (scope_leaves s) (behind_leaves bs []))

before_has : (i c : ℕ) (s : Scope) (o : BehindOutcome) → BehindHas i c o → BehindHas i (count i (scope_leaves s) + c) (element_before s o)
unfolding element_before
before_has i c s (stays bs u) a = omega (arith, a, count_both i (scope_leaves s) (behind_leaves bs []))
before_has i c s (stops_behind h) a = tt

behind_came_has : (i c : ℕ) (q : Role) (r : Residual) (o : BehindOutcome) → BehindHas i c o →
    TaskHas i (c + count i (leaves r)) (behind_came q r o)
unfolding behind_came
behind_came_has i c q r (stays bs u) a = omega (arith, a, count_behind i bs (leaves r))
behind_came_has i c q r (stops_behind h) a = tt

arm_has : (i c : ℕ) (o : TaskOutcome) (gs : Arms) → TaskHas i c o → ArmsHave i (c + count i (arms_leaves gs)) (arm_came o gs)
unfolding arm_came
arm_has i c (ends v u) gs a = omega (arith, a)
arm_has i c (lost t) gs a = tt
arm_has i c (stops h) gs a = tt
arm_has i c (sleeps s u) gs a = omega (arith, a, count_both i (scope_leaves s) (arms_leaves gs))

gave_have : (i c : ℕ) (v : Val) (o : ArmsOutcome) → ArmsHave i c o → ArmsHave i c (arm_before (gave v) o)
unfolding arm_before
gave_have i c v (stand gs u) a = a
gave_have i c v (stops_arms h) a = tt

runs_have : (i c : ℕ) (s : Scope) (o : ArmsOutcome) → ArmsHave i c o → ArmsHave i (count i (scope_leaves s) + c) (arm_before (runs s) o)
unfolding arm_before
runs_have i c s (stand gs u) a = omega (arith, a, count_both i (scope_leaves s) (arms_leaves gs))
runs_have i c s (stops_arms h) a = tt

first_came : (i c : ℕ) (o : TaskOutcome) (gs : Arms) → first_gave gs ≡ None → TaskHas i c o → FirstHas i c (arm_came o gs)
unfolding arm_came
first_came i c (ends v u) gs e a = inr a
first_came i c (lost t) gs e a = tt
first_came i c (stops h) gs e a = tt
first_came i c (sleeps s u) gs e a = inl (e, omega (arith, a, count_both i (scope_leaves s) (arms_leaves gs)))

first_before : (i c : ℕ) (s : Scope) (gs : Arms) → ((first_gave gs ≡ None) × (c ≤ count i (arms_leaves gs))) ⊎ (c ≤ 0) →
    ((first_gave (runs s gs) ≡ None) × (c ≤ count i (arms_leaves (runs s gs)))) ⊎ (c ≤ 0)
first_before i c s gs (inl a) = inl (a.0, omega (arith, a.1, count_both i (scope_leaves s) (arms_leaves gs)))
first_before i c s gs (inr a) = inr a

first_runs : (i c : ℕ) (s : Scope) (o : ArmsOutcome) → FirstHas i c o → FirstHas i c (arm_before (runs s) o)
unfolding arm_before
first_runs i c s (stand gs u) a = first_before i c s gs a
first_runs i c s (stops_arms h) a = tt

-- arms that all have a value have no waits
one_more_some : (v : Val) (x : Option (List Val)) (vs : List Val) → one_more v x ≡ Some vs → (ys : List Val) × (x ≡ Some ys)
one_more_some v None vs e = cc
one_more_some v (Some ys) vs e = (ys, refl)

all_gave_none : (i : ℕ) (gs : Arms) (vs : List Val) → all_gave gs ≡ Some vs → count i (arms_leaves gs) ≡ 0
all_gave_none i no_arms vs e = refl
all_gave_none i (gave v gs) vs e = all_gave_none i gs (one_more_some v (all_gave gs) vs e).0 (one_more_some v (all_gave gs) vs e).1
all_gave_none i (runs s gs) vs e = cc

module _ (p : Program) (k : Deeper) where
  ended_has : (i c : ℕ) (q : Role) (outer : Scopes) (v : Val) (x : Went) → c ≤ 0 →
      TaskHas i c (on_went_task x (λ w. ends v (finished q v (set_behind w outer))))
  unfolding on_went_task
  ended_has i c q outer v (went w) a = a
  ended_has i c q outer v (quits h) a = tt

  returned_has : (i c : ℕ) (q : Role) (outer : Scopes) (v : Val) (u : World) → c ≤ 0 → TaskHas i c (scope_returned p k q outer v u)
  returned_has i c part outer v u a = tt
  returned_has i c body outer v u a = ended_has i c body outer v (cancel_behind p k u.behind u) a
  returned_has i c (root entry) outer v u a = ended_has i c (root entry) outer v (cancel_behind p k u.behind u) a

  lost_has : (i c : ℕ) (q : Role) (t : State) → TaskHas i c (not_given q t)
  lost_has i c part t = tt
  lost_has i c body t = tt
  lost_has i c (root entry) t = tt

  scope_has : (i c : ℕ) (q : Role) (outer : Scopes) (o : Outcome) → OutcomeHas i c o → TaskHas i c (scope_end p k q outer o)
  unfolding scope_end
  scope_has i c q outer (value e v u) a = ended_has i c q outer v (cancel_behind p k u.behind u) a
  scope_has i c q outer (failed t) a = lost_has i c q t
  scope_has i c q outer (returned v u) a = returned_has i c q outer v u a
  scope_has i c q outer (broke u) a = tt
  scope_has i c q outer (halted h) a = tt
  scope_has i c q outer (rests r u) a = omega (arith, a, count_behind i u.behind (leaves r))

  all_has : (i c : ℕ) (pl : Place) (e : Env) (gs : Arms) (w : World) (x : Option (List Val)) → all_gave gs ≡ x → c ≤ count i (arms_leaves
      gs) →
      OutcomeHas i c (or_stands p k x (rests (arms sync pl e gs) w) (λ vs. told (still (tuple_of vs) w.state) pl e w))
  unfolding or_stands
  all_has i c pl e gs w None h a = a
  all_has i c pl e gs w (Some vs) h a = nothing_has i c _ (omega (arith, a, all_gave_none i gs vs h))

  all_came : (i c : ℕ) (pl : Place) (e : Env) (o : ArmsOutcome) → ArmsHave i c o →
      OutcomeHas i c (arms_came o (λ gs w. settled p k sync pl e gs w))
  unfolding arms_came settled
  all_came i c pl e (stand gs u) a = all_has i c pl e gs u (all_gave gs) refl a
  all_came i c pl e (stops_arms h) a = tt

  none_gave : (x : Option Val) (o : Outcome) (go : Val → Outcome) → x ≡ None → or_stands p k x o go ≡ o
  unfolding or_stands
  none_gave x o go e = ap (λ y. or_stands p k y o go) e

  race_has : (i c : ℕ) (pl : Place) (e : Env) (gs : Arms) (u : World) → ((first_gave gs ≡ None) × (c ≤ count i (arms_leaves gs))) ⊎ (c ≤
      0) → OutcomeHas i c (or_stands p k (first_gave gs) (rests (arms race pl e gs) u) (λ v. on_went (cancel_arms p k gs u) (λ w. value
      e v w)))
  race_has i c pl e gs u (inl a) = subst (λ o. OutcomeHas i c o) (sym (none_gave (first_gave gs) (rests (arms race pl e gs) u) _ a.0))
      a.1
  race_has i c pl e gs u (inr a) = nothing_has i c _ a

  rush_has : (i c : ℕ) (pl : Place) (e : Env) (gs : Arms) (u : World) → ((first_gave gs ≡ None) × (c ≤ count i (arms_leaves gs))) ⊎ (c ≤
      0) → OutcomeHas i c (or_stands p k (first_gave gs) (rests (arms rush pl e gs) u) (λ v. value e v (leave_all gs u)))
  rush_has i c pl e gs u (inl a) = subst (λ o. OutcomeHas i c o) (sym (none_gave (first_gave gs) (rests (arms rush pl e gs) u) _ a.0))
      a.1
  rush_has i c pl e gs u (inr a) = nothing_has i c _ a

  race_came : (i c : ℕ) (pl : Place) (e : Env) (o : ArmsOutcome) → FirstHas i c o →
      OutcomeHas i c (arms_came o (λ gs w. settled p k race pl e gs w))
  unfolding arms_came settled
  race_came i c pl e (stand gs u) a = race_has i c pl e gs u a
  race_came i c pl e (stops_arms h) a = tt

  rush_came : (i c : ℕ) (pl : Place) (e : Env) (o : ArmsOutcome) → FirstHas i c o →
      OutcomeHas i c (arms_came o (λ gs w. settled p k rush pl e gs w))
  unfolding arms_came settled
  rush_came i c pl e (stand gs u) a = rush_has i c pl e gs u a
  rush_came i c pl e (stops_arms h) a = tt

-- both cases of a test, in what is standing and in what comes of it
both_tests : {A : Type 0} (i : ℕ) (P : ℕ → A → Type 0) (b : Bool) (xs ys : List Wait) (f g : Bool → A) → P (count i xs) (f true) →
    P (count i ys) (g false) → P (count i (cond b xs ys)) (on_bool b f g)
both_tests i P true xs ys f g x y = x
both_tests i P false xs ys f g x y = y

fewer : {A : Type 0} (P : ℕ → A → Type 0) (m n : ℕ) (o : A) → n ≡ m → P n o → P m o
fewer P m n o e a = subst (λ x. P x o) e a

module _ (p : Program) (k : Deeper) (i n : ℕ) (v : Val) where
  mutual
    resume_has : (r : Residual) (w : World) → Waiting r → OutcomeHas i (count i (standing n r)) (resume p k r n v w)
    resume_has (leaf x e) w q = le_refl 0
    resume_has (args e f vs r left) w q = valued_has i _ _ _ _ (λ r. refl) (resume_has r w q)
    resume_has (seq e x r left) w q = valued_has i _ _ _ _ (λ r. refl) (resume_has r w q)
    resume_has (deferred e a r) w q = closing_has i _ _ _ _ e (λ r. refl) (resume_has r w q)
    resume_has (filling e x pl fs xs vs ss r) w q = valued_has i _ _ _ _ (λ r. refl) (resume_has r w q)
    resume_has (looped e a r) w q = turned_has i _ _ _ e _ (λ r. refl) (resume_has r w q)
    resume_has (generated e g cs a pl vs r) w q = valued_has i _ _ _ _ (λ r. refl) (resume_has r w q)
    resume_has (called e s) w q = call_end_has i _ e _ (resume_scope_has s w q)
    resume_has (arms sync pl e gs) w q = all_came p k i _ pl e _ (resume_all_have gs w q.1)
    resume_has (arms race pl e gs) w q = race_came p k i _ pl e _ (resume_race_has gs w q.0 q.1)
    resume_has (arms rush pl e gs) w q = rush_came p k i _ pl e _ (resume_rush_has gs w q.0 q.1)

    pub resume_scope_has : (s : Scope) (w : World) → ScopeWaits s → TaskHas i (count i (scope_standing n s)) (resume_scope p k s n v w)
    resume_scope_has (scope q r bs) w a = both_tests i (λ c o. TaskHas i c o) (is_behind n bs) (behind_standing n bs ++ leaves r) (standing
        n r) _ _ (fewer (λ c o. TaskHas i c o) _ _ _ (sym (count_both i (behind_standing n bs) (leaves r))) (behind_came_has i _ q r _
        (resume_behind_has bs w a.1))) (scope_has p k i _ q w.behind _ (resume_has r (set_behind w bs) a.0))

    resume_behind_has : (bs : Scopes) (w : World) → BehindWaits bs → BehindHas i (count i (behind_standing n bs)) (resume_behind p k bs n v
        w)
    resume_behind_has none w a = le_refl 0
    resume_behind_has (also s bs) w a = both_tests i (λ c o. BehindHas i c o) (has n (scope_leaves s)) (scope_standing n s ++ behind_leaves
        bs []) (scope_leaves s ++ behind_standing n bs) _ _ (fewer (λ c o. BehindHas i c o) _ _ _ (sym (count_both i (scope_standing n s)
        (behind_leaves bs []))) (element_has i _ _ bs (resume_scope_has s w a.0))) (fewer (λ c o. BehindHas i c o) _ _ _ (sym (count_both i
        (scope_leaves s) (behind_standing n bs))) (before_has i _ s _ (resume_behind_has bs w a.1)))

    resume_all_have : (gs : Arms) (w : World) → ArmsWait gs → ArmsHave i (count i (arms_standing sync n gs)) (resume_arms p k gs n v w)
    resume_all_have no_arms w a = tt
    resume_all_have (gave y gs) w a = gave_have i _ y _ (resume_all_have gs w a)
    resume_all_have (runs s gs) w a = both_tests i (λ c o. ArmsHave i c o) (has n (scope_leaves s)) (scope_standing n s ++ arms_leaves gs)
        (scope_leaves s ++ arms_standing sync n gs) _ _ (fewer (λ c o. ArmsHave i c o) _ _ _ (sym (count_both i (scope_standing n s)
        (arms_leaves gs))) (arm_has i _ _ gs (resume_scope_has s w a.0))) (fewer (λ c o. ArmsHave i c o) _ _ _ (sym (count_both i
        (scope_leaves s) (arms_standing sync n gs))) (runs_have i _ s _ (resume_all_have gs w a.1)))

    resume_race_has : (gs : Arms) (w : World) → first_gave gs ≡ None → ArmsWait gs → FirstHas i (count i (arms_standing race n gs))
        (resume_arms p k gs n v w)
    resume_race_has no_arms w e a = tt
    resume_race_has (gave y gs) w e a = cc
    resume_race_has (runs s gs) w e a = both_tests i (λ c o. FirstHas i c o) (has n (scope_leaves s)) (scope_standing n s) (arms_standing
        race n gs) _ _ (first_came i _ _ gs e (resume_scope_has s w a.0)) (first_runs i _ s _ (resume_race_has gs w e a.1))

    resume_rush_has : (gs : Arms) (w : World) → first_gave gs ≡ None → ArmsWait gs → FirstHas i (count i (arms_standing rush n gs))
        (resume_arms p k gs n v w)
    resume_rush_has no_arms w e a = tt
    resume_rush_has (gave y gs) w e a = cc
    resume_rush_has (runs s gs) w e a = both_tests i (λ c o. FirstHas i c o) (has n (scope_leaves s)) (scope_standing n s) (arms_standing
        rush n gs) _ _ (first_came i _ _ gs e (resume_scope_has s w a.0)) (first_runs i _ s _ (resume_rush_has gs w e a.1))

-- the forest
grown_count : (i : ℕ) (fs gs : List (Option Scope)) → Grown fs gs → count i (forest_leaves fs) ≤ count i (forest_leaves gs)
grown_count i [] gs a = omega arith
grown_count i (x ∷ fs) [] a = absurd a
grown_count i (None ∷ fs) (y ∷ gs) a = subst (λ z. count i (forest_leaves fs) ≤ count i (forest_leaves (z ∷ gs))) a.0 (grown_count i fs
    gs a.1)
grown_count i (Some s ∷ fs) (y ∷ gs) a = subst (λ z. count i (forest_leaves (Some s ∷ fs)) ≤ count i (forest_leaves (z ∷ gs))) a.0 (omega
    (arith, grown_count i fs gs a.1, count_both i (scope_leaves s) (forest_leaves fs), count_both i (scope_leaves s) (forest_leaves gs)))

halted_has : (i c : ℕ) (h : Halt) → StageHas i c (ended_by h)
halted_has i c (fault k pl s) = tt
halted_has i c (out s) = tt
halted_has i c (jammed s) = tt
halted_has i c (wrong s) = tt

came_has : (i c : ℕ) (before fs : Forest) (o : TaskOutcome) (s : State) → KeepsTask true (world s none fs) o → TaskHas i c o →
    StageHas i (count i (forest_leaves before) + (c + count i (forest_leaves fs))) (came before o)
came_has i c before fs (ends v w) s q a = omega (arith, a, grown_count i fs w.tasks q.1, count_forests i before (None ∷ w.tasks))
came_has i c before fs (lost t) s q a = tt
came_has i c before fs (stops h) s q a = halted_has i _ h
came_has i c before fs (sleeps x w) s q a = omega (
  arith,
  a,
  grown_count i fs w.tasks q.1.1,
  count_forests i before (Some x ∷ w.tasks),
  count_both i (scope_leaves x) (forest_leaves w.tasks),
)

woken_has : (p : Program) (i n : ℕ) (v : Val) (before fs : Forest) (s : State) → ForestWaits fs →
    StageHas i (count i (forest_leaves before) + count i (forest_standing n fs)) (woken p n v before fs s)
woken_has p i n v before [] s a = tt
woken_has p i n v before (None ∷ fs) s a = fewer (λ c o. StageHas i c o) _ _ _ (ap (λ x. x + count i (forest_standing n fs)) (omega (
  arith,
  count_forests i before (None ∷ []),
))) (woken_has p i n v (before ++ None ∷ []) fs s a)
woken_has p i n v before (Some x ∷ fs) s a = both_tests i (λ c o. StageHas i (count i (forest_leaves before) + c) o) (has n (scope_leaves
    x)) (scope_standing n x ++ forest_leaves fs) (scope_leaves x ++ forest_standing n fs) _ _ (fewer (λ c o. StageHas i (count i
    (forest_leaves before) + c) o) _ _ _ (sym (count_both i (scope_standing n x) (forest_leaves fs))) (came_has i _ before fs _ s
    (resume_scope_keeps p (deeper p s.clock.left) (deeper_keeps p s.clock.left) x n v (world s none fs)) (resume_scope_has p (deeper p
    s.clock.left) i n v x (world s none fs) a.0))) (fewer (λ c o. StageHas i c o) _ _ _ (omega (
      arith,
      count_forests i before (Some x ∷
          []),
      count_both i (scope_leaves x) [],
      count_both i (scope_leaves x) (forest_standing n fs),
    )) (woken_has p i n v (before ++ Some x ∷
    []) fs s a.1))

pub nothing_lost : NothingLost
nothing_lost p i n v fs s a = fewer (λ c o. StageHas i c o) _ _ _ (omega arith) (woken_has p i n v [] fs s a)
