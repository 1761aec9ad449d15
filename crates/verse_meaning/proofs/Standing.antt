-- What stands where a wait is woken.
use Rattle.std.proofs.Common.{◌≡◌, ℕ, List, [], ◌∷◌, ◌++◌, Option, Some, None, Bool, true, false, refl, sym, subst, inl, inr}
use Rattle.verse_base.specs.declared.places.Place.{Place}
use Rattle.verse_value.specs.Val.{Val, unit}
use Rattle.verse_meaning_state.specs.State.{State}
use Rattle.verse_meaning_state.specs.Waits.{has}
use Rattle.verse_meaning_state.specs.Turns.{Stage, going, closed, broken, amiss, race}
use Rattle.verse_meaning.specs.Programs.{Program}
use Rattle.verse_meaning.specs.Residuals.{Env, Role, part, body, root, Residual, arms, Arms, Scope, scope, Scopes, none, also, scope_leaves}
use Rattle.verse_meaning.specs.Residuals.{is_behind}
use Rattle.verse_meaning.specs.Outcomes.{World, world, set_behind, Halt, fault, out, jammed, wrong, Outcome, value, failed, returned, broke}
use Rattle.verse_meaning.specs.Outcomes.{halted, rests, TaskOutcome, ends, lost, stops, sleeps, BehindOutcome, stays, stops_behind}
use Rattle.verse_meaning.specs.Outcomes.{ArmsOutcome, stand, stops_arms, Went, went, quits, element_came, element_before, behind_came}
use Rattle.verse_meaning.specs.Outcomes.{arms_came, on_went, on_went_task, not_given, attempted, first_gave}
use Rattle.verse_meaning.specs.Forms.{Deeper}
use Rattle.verse_meaning.specs.Evaluating.{on_bool, scope_end, scope_returned, or_stands, settled, cancel_behind, cancel_arms}
use Rattle.verse_meaning.specs.Resuming.{resume, resume_scope, resume_behind, resume_arms}
use Rattle.verse_meaning.specs.Runs.{deeper, Forest, came, ended_by, woken}
use Rattle.verse_meaning.specs.Laws.{KeepsWent}
use Rattle.verse_meaning.specs.Laws.{Grown, Extends, Keeps, KeepsTask, by_test, Replaced, Behind, StandsBut, ScopeKeeps, BackgroundStays}
use Rattle.verse_meaning.specs.Laws.{AllBut, KeepsForest, ForestStays, RaceKeeps, RaceCancels, FailedContextLeaves, EvaluationKeeps}
use Rattle.verse_meaning.proofs.Forms.{DeeperKeeps}
use Rattle.verse_meaning.proofs.Evaluating.{arms_keep, scope_keeps, ev_keeps, statements_keep}
use Rattle.verse_meaning.proofs.Going.{deeper_keeps, from_none, KeepsArms, resume_keeps, resume_scope_keeps, resume_arms_keep}

-- what is behind, where its element with the wait was woken
abbrev StandsBehind : ℕ → Scopes → World → BehindOutcome → Type 0
StandsBehind n bs w (stays cs u) = (u.behind ≡ w.behind) × StandsBut n bs cs
StandsBehind n bs w (stops_behind h) = Unit {0}

-- where the test is true, or false
pub test_true : (b : Bool) (A B : Type 0) → b ≡ true → A → by_test b A B
test_true true A B e a = a
test_true false A B e a = cc

pub test_false : (b : Bool) (A B : Type 0) → b ≡ false → B → by_test b A B
test_false true A B e a = cc
test_false false A B e a = a

-- both cases of a test, with the test known
pub bool_both : {A : Type 0} (P : A → Type 0) (b : Bool) (f g : Bool → A) → (b ≡ true → P (f true)) → (b ≡ false → P (g false)) →
    P (on_bool b f g)
bool_both P true f g x y = x refl
bool_both P false f g x y = y refl

replaced : (n : ℕ) (s : Scope) (bs : Scopes) (w : World) (o : TaskOutcome) → has n (scope_leaves s) ≡ true → KeepsTask true w o →
    StandsBehind n (also s bs) w (element_came o bs)
unfolding element_came
replaced n s bs w (ends v u) e a = (a.0, test_true (has n (scope_leaves s)) (Replaced bs bs) _ e (inl refl))
replaced n s bs w (lost x) e a = tt
replaced n s bs w (stops h) e a = tt
replaced n s bs w (sleeps x u) e a = (a.1.0, test_true (has n (scope_leaves s)) (Replaced bs (also x bs)) _ e (inr (x, refl)))

behind_it : (n : ℕ) (s : Scope) (bs : Scopes) (w : World) (o : BehindOutcome) → has n (scope_leaves s) ≡ false → StandsBehind n bs w o →
    StandsBehind n (also s bs) w (element_before s o)
unfolding element_before
behind_it n s bs w (stays cs u) e a = (a.0, test_false (has n (scope_leaves s)) _ (Behind s (StandsBut n bs) (also s cs)) e (refl, a.1))
behind_it n s bs w (stops_behind h) e a = tt

module _ (p : Program) (k : Deeper) (d : DeeperKeeps k) where
  behind_stands : (bs : Scopes) (n : ℕ) (v : Val) (w : World) → StandsBehind n bs w (resume_behind p k bs n v w)
  behind_stands none n v w = (refl, tt)
  behind_stands (also s bs) n v w = bool_both (StandsBehind n (also s bs) w) (has n (scope_leaves s)) _ _
      (λ e. replaced n s bs w (resume_scope p k s n v w) e (resume_scope_keeps p k d s n v w)) (λ e. behind_it n s bs w (resume_behind p k
      bs n v w) e (behind_stands bs n v w))

  behind_scope : (n : ℕ) (q : Role) (r : Residual) (bs : Scopes) (w : World) (o : BehindOutcome) → is_behind n bs ≡ true →
      StandsBehind n bs w o → ScopeKeeps n r bs w (behind_came q r o)
  unfolding behind_came
  behind_scope n q r bs w (stays cs u) e a = (a.0, test_true (is_behind n bs) _ _ e (refl, a.1))
  behind_scope n q r bs w (stops_behind h) e a = tt

  went_scope : (n : ℕ) (r : Residual) (bs : Scopes) (w : World) (x : Went) (go : World → World) (v : Val) →
      KeepsTask true w (on_went_task x (λ u. ends v (go u))) → ScopeKeeps n r bs w (on_went_task x (λ u. ends v (go u)))
  unfolding on_went_task
  went_scope n r bs w (went u) go v a = a.0
  went_scope n r bs w (quits h) go v a = tt

  returned_scope : (n : ℕ) (q : Role) (r : Residual) (bs : Scopes) (w u : World) (v : Val) →
      KeepsTask true w (scope_returned p k q w.behind v u) → ScopeKeeps n r bs w (scope_returned p k q w.behind v u)
  returned_scope n part r bs w u v a = tt
  returned_scope n body r bs w u v a = went_scope n r bs w (cancel_behind p k u.behind u) _ v a
  returned_scope n (root entry) r bs w u v a = went_scope n r bs w (cancel_behind p k u.behind u) _ v a

  failed_scope : (n : ℕ) (q : Role) (r : Residual) (bs : Scopes) (w : World) (s : State) → ScopeKeeps n r bs w (not_given q s)
  failed_scope n part r bs w s = tt
  failed_scope n body r bs w s = tt
  failed_scope n (root entry) r bs w s = tt

  own_scope : (n : ℕ) (q : Role) (r : Residual) (bs : Scopes) (w : World) (o : Outcome) → is_behind n bs ≡ false →
      Keeps true (set_behind w bs) o → KeepsTask true w (scope_end p k q w.behind o) → ScopeKeeps n r bs w (scope_end p k q w.behind o)
  unfolding scope_end
  own_scope n q r bs w (value e v u) h a b = went_scope n r bs w (cancel_behind p k u.behind u) _ v b
  own_scope n q r bs w (failed s) h a b = failed_scope n q r bs w s
  own_scope n q r bs w (returned v u) h a b = returned_scope n q r bs w u v b
  own_scope n q r bs w (broke u) h a b = tt
  own_scope n q r bs w (halted x) h a b = tt
  own_scope n q r bs w (rests x u) h a b = (refl, test_false (is_behind n bs) _ (Extends bs u.behind) h a.1.0)

  scope_stands : (q : Role) (r : Residual) (bs : Scopes) (n : ℕ) (v : Val) (w : World) →
      ScopeKeeps n r bs w (resume_scope p k (scope q r bs) n v w)
  scope_stands q r bs n v w =
      bool_both (ScopeKeeps n r bs w) (is_behind n bs) _ _ (λ e. behind_scope n q r bs w (resume_behind p k bs n v w) e (behind_stands bs
      n v w))
      (λ e. own_scope n q r bs w (resume p k r n v (set_behind w bs)) e (resume_keeps p k d r n v (set_behind w bs)) (scope_keeps p k d q
      w (resume p k r n v (set_behind w bs)) (from_none w bs (resume p k r n v (set_behind w bs)) (resume_keeps p k d r n v
      (set_behind w bs)))))

  -- a race
  race_went : (pl : Place) (e : Env) (v : Val) (w u : World) (x : Went) → u.behind ≡ w.behind → KeepsWent u x →
      RaceKeeps pl w (on_went x (λ w. value e v w))
  unfolding on_went
  race_went pl e v w u (went z) a b = subst (λ y. y ≡ w.behind) (sym b.0) a
  race_went pl e v w u (quits h) a b = tt

  pub race_settled : (pl : Place) (e : Env) (gs : Arms) (w u : World) (x : Option Val) → first_gave gs ≡ x → u.behind ≡ w.behind →
      RaceKeeps pl w (or_stands p k x (rests (arms race pl e gs) u) (λ v. on_went (cancel_arms p k gs u) (λ w. value e v w)))
  unfolding or_stands
  race_settled pl e gs w u None h a = (e, (gs, (refl, h)))
  race_settled pl e gs w u (Some v) h a = race_went pl e v w u (cancel_arms p k gs u) a (arms_keep p k d gs u)

  race_came : (pl : Place) (e : Env) (w : World) (o : ArmsOutcome) → KeepsArms w o →
      RaceKeeps pl w (arms_came o (λ gs w. settled p k race pl e gs w))
  unfolding arms_came settled
  race_came pl e w (stand gs u) a = race_settled pl e gs w u (first_gave gs) refl a.0
  race_came pl e w (stops_arms h) a = tt

-- the forest
abbrev Follow : List (Option Scope) → (List (Option Scope) → Type 0) → List (Option Scope) → Type 0
Follow [] rest ys = rest ys
Follow (x ∷ xs) rest [] = ⊥
Follow (x ∷ xs) rest (y ∷ ys) = (x ≡ y) × Follow xs rest ys

follow_front : (xs ys : List (Option Scope)) (rest : List (Option Scope) → Type 0) → rest ys → Follow xs rest (xs ++ ys)
follow_front [] ys rest a = a
follow_front (x ∷ xs) ys rest a = (refl, follow_front xs ys rest a)

follow_more : (xs : List (Option Scope)) (x : Option Scope) (rest rest' : List (Option Scope) → Type 0) (ys : List (Option Scope)) →
    ((y : Option Scope) (ys : List (Option Scope)) → x ≡ y → rest ys → rest' (y ∷ ys)) →
    Follow (xs ++ x ∷ []) rest ys → Follow xs rest' ys
follow_more [] x rest rest' [] f a = absurd a
follow_more [] x rest rest' (y ∷ ys) f a = f y ys a.0 a.1
follow_more (z ∷ xs) x rest rest' [] f a = absurd a
follow_more (z ∷ xs) x rest rest' (y ∷ ys) f a = (a.0, follow_more xs x rest rest' ys f a.1)

abbrev StageFollows : List (Option Scope) → ℕ → Forest → Stage Forest → Type 0
StageFollows before n fs (going s ys) = Follow before (AllBut n fs) ys
StageFollows before n fs (closed e s ys) = Unit {0}
StageFollows before n fs (broken e s) = Unit {0}
StageFollows before n fs (amiss s) = Unit {0}

stage_more : (before : List (Option Scope)) (n : ℕ) (x : Option Scope) (fs : Forest) (g : Stage Forest) →
    ((y : Option Scope) (ys : List (Option Scope)) → x ≡ y → AllBut n fs ys → AllBut n (x ∷ fs) (y ∷ ys)) →
    StageFollows (before ++ x ∷ []) n fs g → StageFollows before n (x ∷ fs) g
stage_more before n x fs (going s ys) f a = follow_more before x (AllBut n fs) (AllBut n (x ∷ fs)) ys f a
stage_more before n x fs (closed e s ys) f a = tt
stage_more before n x fs (broken e s) f a = tt
stage_more before n x fs (amiss s) f a = tt

halted_follows : (before : List (Option Scope)) (n : ℕ) (fs : Forest) (h : Halt) → StageFollows before n fs (ended_by h)
halted_follows before n fs (fault k pl s) = tt
halted_follows before n fs (out s) = tt
halted_follows before n fs (jammed s) = tt
halted_follows before n fs (wrong s) = tt

came_follows : (before : List (Option Scope)) (n : ℕ) (x : Scope) (fs : Forest) (s : State) (o : TaskOutcome) →
    has n (scope_leaves x) ≡ true → KeepsTask true (world s none fs) o → StageFollows before n (Some x ∷ fs) (came before o)
came_follows before n x fs s (ends v u) e a =
    follow_front before (None ∷ u.tasks) (AllBut n (Some x ∷ fs)) (test_true (has n (scope_leaves x)) (Grown fs u.tasks) _ e a.1)
came_follows before n x fs s (lost z) e a = tt
came_follows before n x fs s (stops h) e a = halted_follows before n (Some x ∷ fs) h
came_follows before n x fs s (sleeps z u) e a =
    follow_front before (Some z ∷ u.tasks) (AllBut n (Some x ∷ fs)) (test_true (has n (scope_leaves x)) (Grown fs u.tasks) _ e a.1.1)

woken_follows : (p : Program) (n : ℕ) (v : Val) (before fs : Forest) (s : State) → StageFollows before n fs (woken p n v before fs s)
woken_follows p n v before [] s = tt
woken_follows p n v before (None ∷ fs) s =
    stage_more before n None fs _ (λ y ys e a. (e, a)) (woken_follows p n v (before ++ None ∷ []) fs s)
woken_follows p n v before (Some x ∷ fs) s = bool_both (StageFollows before n (Some x ∷ fs)) (has n (scope_leaves x)) _ _
    (λ e. came_follows before n x fs s (resume_scope p (deeper p s.clock.left) x n v (world s none fs)) e (resume_scope_keeps p (deeper p
    s.clock.left) (deeper_keeps p s.clock.left) x n v (world s none fs)))
    (λ e. stage_more before n (Some x) fs _ (λ y ys h a. test_false (has n (scope_leaves x)) _ _ e (h, a)) (woken_follows p n v (before ++
    Some x ∷ []) fs s))

pub background_stays : BackgroundStays
background_stays p fuel q r bs n v w = scope_stands p (deeper p fuel) (deeper_keeps p fuel) q r bs n v w

forest_stage : (n : ℕ) (fs : Forest) (g : Stage Forest) → StageFollows [] n fs g → KeepsForest n fs g
forest_stage n fs (going s ys) a = a
forest_stage n fs (closed e s ys) a = tt
forest_stage n fs (broken e s) a = tt
forest_stage n fs (amiss s) a = tt

pub forest_stays : ForestStays
forest_stays p n v fs s = forest_stage n fs (woken p n v [] fs s) (woken_follows p n v [] fs s)

pub race_cancels : RaceCancels
race_cancels p fuel pl e gs n v w =
    race_came p (deeper p fuel) (deeper_keeps p fuel) pl e w (resume_arms p (deeper p fuel) gs n v w) (resume_arms_keep p (deeper p fuel)
    (deeper_keeps p fuel) gs n v w)

pub failed_context_leaves : FailedContextLeaves
unfolding attempted
failed_context_leaves p fuel = record {
  form = λ a e w. ev_keeps p (deeper p fuel) (deeper_keeps p fuel) a false e w;
  conditions = λ cs e w. statements_keep p (deeper p fuel) (deeper_keeps p fuel) cs false e unit w;
  restored = λ s w yes_do no_do. refl;
}

pub evaluation_keeps : EvaluationKeeps
evaluation_keeps p fuel a e w = ev_keeps p (deeper p fuel) (deeper_keeps p fuel) a true e w
