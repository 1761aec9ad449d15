-- Groups and scopes: what they come to, what stands, what is cancelled, what is left behind.
use Rattle.std.proofs.Common.{◌≡◌, inl, inr, ℕ, zero, suc, List, [], ◌∷◌, ◌++◌, true, false, refl, sym, subst}
use Rattle.std.proofs.Math.Path.{ap, ◌∙◌}
use Rattle.std.proofs.lemmas.List.{append_assoc, append-nil}
use Rattle.verse_base.specs.declared.places.Place.{Place}
use Rattle.verse_tree.specs.Tree as t
use Rattle.verse_tree.specs.Tree.{Tree, Trees, more_trees, no_trees}
use Rattle.verse_value.specs.Val.{Val}
use Rattle.verse_value.specs.Operations.{tuple_of}
use Rattle.verse_meaning_state.specs.Turns.{Kind, sync, race, rush}
use Rattle.verse_meaning_state.specs.Waits.{Wait, has}
use Rattle.verse_meaning_state.specs.State.{stepped}
use Rattle.verse_meaning_state.specs.Effects.{still}
use Rattle.verse_meaning.specs.Programs.{Program}
use Rattle.verse_meaning.specs.Residuals.{Arms, Env, Role, Scope, Scopes, also, and_then, arms, arms_leaves, behind_leaves, body, gave}
use Rattle.verse_meaning.specs.Residuals.{no_arms, none, part, root, runs, scope_leaves}
use Rattle.verse_meaning.specs.Outcomes.{ArmsOutcome, Outcome, TaskOutcome, Went, World, arm_before, arm_came, armed, arms_came}
use Rattle.verse_meaning.specs.Outcomes.{behind_came, branch_started, broke, element_before, element_came, ends, failed, finished}
use Rattle.verse_meaning.specs.Outcomes.{first_gave, halted, leave, leave_all, lost, on_went, on_went_task, outside, rests, returned}
use Rattle.verse_meaning.specs.Outcomes.{set_behind, sleeps, spends, stand, stops, stops_arms, told, value, with_arm, with_state}
use Rattle.verse_meaning.specs.Forms.{Deeper}
use Rattle.verse_meaning.specs.Evaluating.{arm_gave, begins_scope, cancel_arms, ev, ev_shape, on_bool, or_stands, scope_end, scope_ended}
use Rattle.verse_meaning.specs.Evaluating.{settled, started}
use Rattle.verse_meaning.specs.Resuming.{resume, resume_behind, resume_scope}
use Rattle.verse_meaning.specs.Runs.{deeper, woken}
use Rattle.verse_meaning.specs.Laws.{ArmsStand, GoingKeeps, GroupSettles, GroupsSettle, KeepsTask, LeavesBehind, LeftBehind, OthersStand}
use Rattle.verse_meaning.specs.Laws.{RaceBegins, RaceKeeps, ScopeEnds, ScopesEnd, UnfinishedGoesOn, arms_deferred, begun_part}
use Rattle.verse_meaning.specs.Laws.{ended_scope, listed_scopes, run_back, running}
use Rattle.verse_meaning.proofs.Forms.{DeeperKeeps}
use Rattle.verse_meaning.proofs.Backwards.{arms_back, behind_back}
use Rattle.verse_meaning.proofs.Standing.{bool_both, race_settled, test_false, test_true}
use Rattle.verse_meaning.proofs.Going.{deeper_keeps, resume_keeps}
use Rattle.verse_meaning.proofs.Evaluating.{ev_keeps, scope_keeps}

-- an arm is woken
came_stands : (n : ℕ) (s : Scope) (gs : Arms) (o : TaskOutcome) → has n (scope_leaves s) ≡ true → OthersStand n (runs s gs) (arm_came o gs)
unfolding arm_came
came_stands n s gs (ends v u) e = test_true (has n (scope_leaves s)) _ _ e (inl (v, refl))
came_stands n s gs (lost x) e = tt
came_stands n s gs (stops h) e = tt
came_stands n s gs (sleeps x u) e = test_true (has n (scope_leaves s)) _ _ e (inr (x, refl))

gave_stands : (n : ℕ) (v : Val) (gs : Arms) (o : ArmsOutcome) → OthersStand n gs o → OthersStand n (gave v gs) (arm_before (gave v) o)
unfolding arm_before
gave_stands n v gs (stand hs u) a = (refl, a)
gave_stands n v gs (stops_arms h) a = tt

runs_stands : (n : ℕ) (s : Scope) (gs : Arms) (o : ArmsOutcome) → has n (scope_leaves s) ≡ false → OthersStand n gs o →
    OthersStand n (runs s gs) (arm_before (runs s) o)
unfolding arm_before
runs_stands n s gs (stand hs u) e a = test_false (has n (scope_leaves s)) _ _ e (refl, a)
runs_stands n s gs (stops_arms h) e a = tt

pub arms_stand : ArmsStand
arms_stand p fuel no_arms n v w = tt
arms_stand p fuel (gave y gs) n v w = gave_stands n y gs _ (arms_stand p fuel gs n v w)
arms_stand p fuel (runs s gs) n v w = bool_both (OthersStand n (runs s gs)) (has n (scope_leaves s)) _ _
    (λ e. came_stands n s gs _ e) (λ e. runs_stands n s gs _ e (arms_stand p fuel gs n v w))

pub going_keeps : GoingKeeps
going_keeps p fuel r n v w = resume_keeps p (deeper p fuel) (deeper_keeps p fuel) r n v w

-- a race as it begins
further : (pl : Place) (w u : World) (o : Outcome) → u.behind ≡ w.behind → RaceKeeps pl u o → RaceKeeps pl w o
further pl w u (value e1 v x) h a = subst (λ y. x.behind ≡ y) h a
further pl w u (failed s) h a = a
further pl w u (returned v x) h a = a
further pl w u (broke x) h a = a
further pl w u (halted x) h a = a
further pl w u (rests r x) h a = a

race_spends : (pl : Place) (left : ℕ) (w : World) (go : World → Outcome) → ((u : World) → u.behind ≡ w.behind → RaceKeeps pl w (go u)) →
    RaceKeeps pl w (spends left w go)
unfolding spends
race_spends pl zero w go f = tt
race_spends pl (suc l) w go f = f (with_state w (stepped l w.state)) refl

race_armed : (pl : Place) (w : World) (o : TaskOutcome) (gave_do : Val → World → Outcome) (runs_do : Scope → World → Outcome) →
    KeepsTask true w o → ((v : Val) (u : World) → u.behind ≡ w.behind → RaceKeeps pl w (gave_do v u)) →
    ((s : Scope) (u : World) → u.behind ≡ w.behind → RaceKeeps pl w (runs_do s u)) → RaceKeeps pl w (armed o gave_do runs_do)
unfolding armed
race_armed pl w (ends v u) gave_do runs_do a f g = f v u a.0
race_armed pl w (lost s) gave_do runs_do a f g = tt
race_armed pl w (stops h) gave_do runs_do a f g = tt
race_armed pl w (sleeps s u) gave_do runs_do a f g = g s u a.1.0

race_starts : (p : Program) (k : Deeper) (d : DeeperKeeps k) (pl : Place) (e : Env) (ts : Trees) (gs : Arms) (w : World) →
    RaceKeeps pl w (started p k race pl ts e gs w)
unfolding begins_scope arm_gave settled
race_starts p k d pl e no_trees gs w = race_settled p k d pl e gs w w (first_gave gs) refl refl
race_starts p k d pl e (more_trees a ts) gs w = race_spends pl w.state.clock.left w _ (λ u h. further pl w u _ h (race_armed pl u
    (begun_part p k a e u) _ _ (scope_keeps p k d part u (ev p k a true e (set_behind u none)) (ev_keeps p k d a true e (set_behind u
    none))) (λ v x g. further pl u x _ g (race_settled p k d pl e (with_arm gs (gave v no_arms)) x x (first_gave (with_arm gs (gave v
    no_arms))) refl refl)) (λ s x g. further pl u x _ g (race_starts p k d pl e ts (with_arm gs (runs s no_arms)) x))))

pub race_begins : RaceBegins
race_begins p fuel pl ts e w = race_starts p (deeper p fuel) (deeper_keeps p fuel) pl e ts no_arms w

-- what a group comes to
on_same : (x y : Went) (go : World → Outcome) → x ≡ y → on_went x go ≡ on_went y go
on_same x y go h = ap (λ z. on_went z go) h

spent : (l left : ℕ) (w : World) (go : World → Outcome) → left ≡ suc l → spends left w go ≡ go (with_state w (stepped l w.state))
unfolding spends
spent l left w go h = ap (λ n. spends n w go) h

module _ (p : Program) (k : Deeper) where
  arm_rests : (kd : Kind) (pl : Place) (a : Tree) (ts : Trees) (e : Env) (gs : Arms) (l : ℕ) (s : Scope) (w u : World) →
      w.state.clock.left ≡ suc l → begun_part p k a e (with_state w (stepped l w.state)) ≡ sleeps s u →
      started p k kd pl (more_trees a ts) e gs w ≡ started p k kd pl ts e (with_arm gs (runs s no_arms)) u
  unfolding begins_scope armed
  arm_rests kd pl a ts e gs l s w u h f = spent l w.state.clock.left w _ h ∙ ap (λ o. armed o
      (λ v w. arm_gave p k kd pl e (with_arm gs (gave v no_arms)) w (λ w. started p k kd pl ts e (with_arm gs (gave v no_arms)) w))
      (λ s w. started p k kd pl ts e (with_arm gs (runs s no_arms)) w)) f

  arm_ends : (kd : Kind) (pl : Place) (a : Tree) (ts : Trees) (e : Env) (gs : Arms) (l : ℕ) (v : Val) (w u : World) →
      w.state.clock.left ≡ suc l → begun_part p k a e (with_state w (stepped l w.state)) ≡ ends v u →
      started p k kd pl (more_trees a ts) e gs w ≡ arm_gave p k kd pl e (with_arm gs (gave v no_arms)) u (λ w. started p k kd pl ts e
      (with_arm gs (gave v no_arms)) w)
  unfolding begins_scope armed
  arm_ends kd pl a ts e gs l v w u h f = spent l w.state.clock.left w _ h ∙ ap (λ o. armed o
      (λ v w. arm_gave p k kd pl e (with_arm gs (gave v no_arms)) w (λ w. started p k kd pl ts e (with_arm gs (gave v no_arms)) w))
      (λ s w. started p k kd pl ts e (with_arm gs (runs s no_arms)) w)) f

  settles : GroupSettles p k
  unfolding settled or_stands arms_came arm_gave
  settles = record {
    sync_waits = λ pl e gs w h. ap (λ x. or_stands p k x (rests (arms sync pl e gs) w) (λ vs. told (still (tuple_of vs) w.state) pl e
        w)) h;
    sync_ends = λ pl e gs vs w h. ap (λ x. or_stands p k x (rests (arms sync pl e gs) w) (λ vs. told (still (tuple_of vs) w.state) pl e
        w)) h;
    race_waits = λ pl e gs w h. ap (λ x. or_stands p k x (rests (arms race pl e gs) w) (λ v. on_went (cancel_arms p k gs w) (λ w.
        value e v w))) h;
    race_ends = λ pl e gs v w h. ap (λ x. or_stands p k x (rests (arms race pl e gs) w) (λ v. on_went (cancel_arms p k gs w) (λ w.
        value e v w))) h ∙ on_same (cancel_arms p k gs w) (run_back k (arms_deferred gs) w) _ (arms_back p k gs w);
    rush_waits = λ pl e gs w h. ap (λ x. or_stands p k x (rests (arms rush pl e gs) w) (λ v. value e v (leave_all gs w))) h;
    rush_ends = λ pl e gs v w h. ap (λ x. or_stands p k x (rests (arms rush pl e gs) w) (λ v. value e v (leave_all gs w))) h;
    woken = λ kd pl e gs hs n v w u h. ap (λ x. arms_came x (λ gs w. settled p k kd pl e gs w)) h;
    begun = λ kd pl e gs w. refl;
    arm_rests = arm_rests;
    arm_ends = λ pl a ts e gs l v w u h f. (
      arm_ends sync pl a ts e gs l v w u h f,
      (
        arm_ends race pl a ts e gs l v w u h f,
        arm_ends rush pl a ts e gs l v w u h f,
      ),
    );
  }

pub groups_settle : GroupsSettle
groups_settle p fuel = settles p (deeper p fuel)

-- what is left behind
and_then_listed : (bs : Scopes) (s : Scope) → listed_scopes (and_then bs s) ≡ listed_scopes bs ++ s ∷ []
and_then_listed none s = refl
and_then_listed (also x bs) s = ap (λ y. x ∷ y) (and_then_listed bs s)

append_leaves : (bs : Scopes) (s : Scope) → behind_leaves (and_then bs s) [] ≡ behind_leaves bs [] ++ scope_leaves s
append_leaves none s = append-nil (scope_leaves s)
append_leaves (also x bs) s =
    ap (λ y. scope_leaves x ++ y) (append_leaves bs s) ∙ sym (append_assoc (scope_leaves x) (behind_leaves bs []) (scope_leaves s))

one_left : (w : World) (s : Scope) → LeavesBehind (s ∷ []) (scope_leaves s) w (leave w s)
one_left w s = record { scopes = and_then_listed w.behind s; waits = append_leaves w.behind s; state = refl; tasks = refl }

then_left : (xs ys : List Scope) (vs ws : List Wait) (w u x : World) → LeavesBehind xs vs w u → LeavesBehind ys ws u x →
    LeavesBehind (xs ++ ys) (vs ++ ws) w x
then_left xs ys vs ws w u x a b = record {
  scopes = b.scopes ∙ (ap (λ y. y ++ ys) a.scopes ∙ append_assoc (listed_scopes w.behind) xs ys);
  waits = b.waits ∙ (ap (λ y. y ++ ws) a.waits ∙ append_assoc (behind_leaves w.behind []) vs ws);
  state = b.state ∙ a.state;
  tasks = b.tasks ∙ a.tasks;
}

none_left_behind : (w : World) → LeavesBehind [] [] w w
none_left_behind w = record {
  scopes = sym (append-nil (listed_scopes w.behind));
  waits = sym (append-nil (behind_leaves w.behind []));
  state = refl;
  tasks = refl;
}

rush_leaves : (gs : Arms) (w : World) → LeavesBehind (running gs) (arms_leaves gs) w (leave_all gs w)
rush_leaves no_arms w = none_left_behind w
rush_leaves (gave v gs) w = rush_leaves gs w
rush_leaves (runs s gs) w =
    then_left (s ∷ []) (running gs) (scope_leaves s) (arms_leaves gs) w (leave w s) _ (one_left w s) (rush_leaves gs (leave w s))

module _ (p : Program) (k : Deeper) where
  branch_comes : (a : Tree) (n : ℕ) (pl : Place) (e : Env) (l : ℕ) (w : World) (o : TaskOutcome) → w.state.clock.left ≡ suc l →
      begun_part p k a e (with_state w (stepped l w.state)) ≡ o → ev_shape p k (t.Shape.branch a) n pl true e w ≡ branch_started e o
  unfolding begins_scope outside
  branch_comes a n pl e l w o h f = spent l w.state.clock.left w _ h ∙ ap (λ o. branch_started e o) f

  left_behind : LeftBehind p k
  unfolding branch_started
  left_behind = record {
    rush = rush_leaves;
    branch = λ a n pl e l s w u h f. (leave u s, (branch_comes a n pl e l w (sleeps s u) h f, one_left u s));
    branch_ends = λ a n pl e l v w u h f. branch_comes a n pl e l w (ends v u) h f;
  }

  -- the end of a scope
  ended_back : (q : Role) (outer : Scopes) (v : Val) (w : World) → scope_ended p k q outer v w ≡ ended_scope k q outer v w
  ended_back q outer v w = ap (λ x. on_went_task x (λ u. ends v (finished q v (set_behind u outer)))) (behind_back p k w.behind w)

  scopes_ended : ScopeEnds p k
  unfolding scope_end
  scopes_ended = record {
    with_value = λ q outer e v w. ended_back q outer v w;
    with_return = λ outer v w. ended_back body outer v w;
    root_return = λ entry outer v w. ended_back (root entry) outer v w;
    suspended_scope = λ q outer r w. refl;
    woken_behind = λ q r bs n v w h. ap (λ b. on_bool b (λ u. behind_came q r (resume_behind p k bs n v w)) (λ u. scope_end p k q w.behind
        (resume p k r n v (set_behind w bs)))) h;
    woken_element = λ s bs n v w h. ap (λ b. on_bool b (λ u. element_came (resume_scope p k s n v w) bs) (λ u. element_before s
        (resume_behind p k bs n v w))) h;
    woken_further = λ s bs n v w h. ap (λ b. on_bool b (λ u. element_came (resume_scope p k s n v w) bs) (λ u. element_before s
        (resume_behind p k bs n v w))) h;
  }

pub unfinished_goes_on : UnfinishedGoesOn
unfinished_goes_on p fuel = left_behind p (deeper p fuel)

pub scopes_end : ScopesEnd
scopes_end p fuel = scopes_ended p (deeper p fuel)
