-- How often a number is live or still to come, where what is suspended goes on, from turn to turn.
use Rattle.std.proofs.Common.{◌≡◌, ◌+◌, ◌≤◌, ℕ, zero, suc, ℤ, length, nat_lt, cond, List, [], ◌∷◌, ◌++◌, Option, Some, None, Bool, true}
use Rattle.std.proofs.Common.{false, refl, sym, subst}
use Rattle.std.proofs.Math.Path.{ap, ◌∙◌}
use Rattle.std.proofs.Math.Nat.{le_refl, le_trans}
use Rattle.verse_base.specs.declared.places.Place.{Place}
use Rattle.verse_tree.specs.ItemTree.{FunTree}
use Rattle.verse_tree.specs.Tree.{Tree, Trees}
use Rattle.verse_tree.specs.PostOrder.{parts}
use Rattle.verse_value.specs.declared.runs.Ending.TheVariants as ending
use Rattle.verse_value.specs.Val.{Val, unit}
use Rattle.verse_meaning_state.specs.Waits.{Due, Wait, eqn, has, least, ltn}
use Rattle.verse_meaning_state.specs.Turns.{Stage, amiss, broken, closed, going, run, turn, turn_at, turns}
use Rattle.verse_meaning_state.specs.State.{State, at_moment, begun, spending, stepped, with_entry}
use Rattle.verse_meaning.specs.Programs.{Program, fun_at, main_in}
use Rattle.verse_meaning.specs.Residuals as form
use Rattle.verse_meaning.specs.Residuals.{Arms, Env, Form, Generator, Residual, Role, Scope, Scopes, Values, also, args, arms}
use Rattle.verse_meaning.specs.Residuals.{arms_leaves, behind_leaves, body, called, deferred, filling, gave, generated, is_behind, leaf}
use Rattle.verse_meaning.specs.Residuals.{leaves, looped, no_arms, none, root, runs, scope, scope_leaves, seq}
use Rattle.verse_meaning.specs.Outcomes.{ArmsOutcome, BehindOutcome, Halt, Outcome, TaskOutcome, World, arm_before, arm_came, arms_came}
use Rattle.verse_meaning.specs.Outcomes.{behind_came, element_before, element_came, ends, fault, jammed, lost, out, set_behind, sleeps}
use Rattle.verse_meaning.specs.Outcomes.{stand, stays, stops, stops_arms, stops_behind, with_state, world, wrong}
use Rattle.verse_meaning.specs.Forms.{Deeper, next_value, with_taken}
use Rattle.verse_meaning.specs.Evaluating.{ev}
use Rattle.verse_meaning.specs.Resuming.{form_done, operands, resume, resume_arms, resume_behind, resume_scope, taken}
use Rattle.verse_meaning.specs.Runs.{started, Forest, came, deeper, ended_by, entered, forest_leaves, inputs_of, main_bound, main_found}
use Rattle.verse_meaning.specs.Runs.{main_spends, on_next, taking, turn_taken, with_params, with_this, woken}
use Rattle.verse_meaning.specs.RunLaws.{NumbersOnce, StageChances, chances, count, to_come}
use Rattle.verse_meaning.proofs.NumberingForms.{DeeperFits, apply_fits, defined_fits, filled_fits}
use Rattle.verse_meaning.proofs.Forms.{DeeperKeeps}
use Rattle.verse_meaning.proofs.Numbering.{Fits, FitsTask, OutcomeFits, TaskFits, attempted_fits, call_end_fits, call_end_out}
use Rattle.verse_meaning.proofs.Numbering.{closing_out, count_behind, count_both, count_forests, known_fits, spends_fits, stock}
use Rattle.verse_meaning.proofs.Numbering.{task_fits, turned_fits, turned_out, valued_fits, valued_out}
use Rattle.verse_meaning.proofs.Standing.{bool_both}
use Rattle.verse_meaning.proofs.NumberingEvaluating.{chosen_fits, clauses_fits, ev_fits, level_fits, scope_fits, scope_out, settled_fits}
use Rattle.verse_meaning.proofs.NumberingEvaluating.{statements_fits}
use Rattle.verse_meaning.proofs.Evaluating.{clauses_keep}
use Rattle.verse_meaning.proofs.Going.{deeper_keeps}
use native.Mathlib.Omega.{arith}
use Rattle.verse_meaning_state.proofs.Numbers.{eqn_same}

-- a number that is woken
abbrev hit : (i n : ℕ) → List Wait → ℕ
hit i n ws = cond (has n ws) (cond (eqn i n) 1 0) 0

cond_both : (a b x : Bool) → cond a true (cond b true x) ≡ cond (cond a true b) true x
cond_both true b x = refl
cond_both false b x = refl

has_both : (n : ℕ) (xs ys : List Wait) → has n (xs ++ ys) ≡ cond (has n xs) true (has n ys)
has_both n [] ys = refl
has_both n (w ∷ xs) ys =
    ap (λ z. cond (eqn n w.number) true z) (has_both n xs ys) ∙ cond_both (eqn n w.number) (has n xs) (has n ys)

hit_left : (i n : ℕ) (xs ys : List Wait) → has n xs ≡ true → hit i n (xs ++ ys) ≡ hit i n xs
hit_left i n xs ys e = ap (λ b. cond b (cond (eqn i n) 1 0) 0) (has_both n xs ys ∙ (ap (λ b. cond b true (has n ys)) e ∙ sym e))

hit_right : (i n : ℕ) (xs ys : List Wait) → has n xs ≡ false → hit i n (xs ++ ys) ≡ hit i n ys
hit_right i n xs ys e = ap (λ b. cond b (cond (eqn i n) 1 0) 0) (has_both n xs ys ∙ ap (λ b. cond b true (has n ys)) e)

has_behind : (n : ℕ) (bs : Scopes) (ws : List Wait) → has n (behind_leaves bs ws) ≡ cond (is_behind n bs) true (has n ws)
has_behind n none ws = refl
has_behind n (also s bs) ws = has_both n (scope_leaves s) (behind_leaves bs ws) ∙ (ap (λ z. cond (has n (scope_leaves s)) true z)
    (has_behind
    n bs ws) ∙ cond_both (has n (scope_leaves s)) (is_behind n bs) (has n ws))

hit_behind : (i n : ℕ) (bs : Scopes) (ws vs : List Wait) → is_behind n bs ≡ true →
    hit i n (behind_leaves bs ws) ≡ hit i n (behind_leaves bs vs)
hit_behind i n bs ws vs e = ap (λ b. cond b (cond (eqn i n) 1 0) 0) (has_behind n bs ws ∙ (ap (λ b. cond b true (has n ws)) e ∙ (ap (λ b.
    cond b true (has n vs)) (sym e) ∙ sym (has_behind n bs vs))))

hit_own : (i n : ℕ) (bs : Scopes) (ws : List Wait) → is_behind n bs ≡ false → hit i n (behind_leaves bs ws) ≡ hit i n ws
hit_own i n bs ws e = ap (λ b. cond b (cond (eqn i n) 1 0) 0) (has_behind n bs ws ∙ ap (λ b. cond b true (has n ws)) e)

same_number : (i n m : ℕ) → eqn n m ≡ true → eqn i n ≡ eqn i m
same_number i zero zero e = refl
same_number i zero (suc m) e = cc
same_number i (suc n) zero e = cc
same_number zero (suc n) (suc m) e = refl
same_number (suc i) (suc n) (suc m) e = same_number i n m e

one_hit : (i n m : ℕ) (b : Bool) → eqn n m ≡ b → cond b (cond (eqn i n) 1 0) 0 ≤ cond (eqn i m) 1 0
one_hit i n m true e = subst (λ y. cond (eqn i n) 1 0 ≤ cond y 1 0) (same_number i n m e) (le_refl (cond (eqn i n) 1 0))
one_hit i n m false e = omega arith

plain_test : (b : Bool) → b ≡ cond b true false
plain_test true = refl
plain_test false = refl

leaf_hit : (i n m : ℕ) → cond (cond (eqn n m) true false) (cond (eqn i n) 1 0) 0 ≤ cond (eqn i m) 1 0
leaf_hit i n m = subst (λ z. cond z (cond (eqn i n) 1 0) 0 ≤ cond (eqn i m) 1 0) (plain_test (eqn n m)) (one_hit i n m (eqn n m) refl)

module _ (i : ℕ) where
  taking_fits : (p : Program) (f : ℕ) (o : Option Val) (vs : List Val) (w : World) (go : FunTree → Env → Outcome) →
      ((fn : FunTree) (e : Env) → Fits i w (go fn e)) → Fits i w (taking p f o vs w go)
  taking_fits p f o vs w go h =
      known_fits i w (fun_at p f) _ (λ fn. known_fits i w (with_params fn.params vs (with_this o)) _ (λ e. h fn e))

  next_fits : (x : Option ((Val × Val) × Values)) (w : World) (o : Outcome) (go : Val × Val → Values → Outcome) → Fits i w o →
      ((v : Val × Val) (vs : Values) → Fits i w (go v vs)) → Fits i w (on_next x o go)
  unfolding on_next
  next_fits None w o go a f = a
  next_fits (Some x) w o go a f = f x.0 x.1

  entered_fits : (p : Program) (k : Deeper) (keeps : DeeperKeeps k) (d : DeeperFits i k) (q : Role) (f : FunTree) (e : Env) (m : Bool)
      (w : World) → FitsTask i w (entered p k q f e m w)
  entered_fits p k keeps d q f e m w = scope_fits i p k keeps d q w (ev p k f.body m e (set_behind w none)) (ev_fits i p k keeps d f.body
      m e (set_behind w none))

  pub deeper_fits : (p : Program) (n : ℕ) → DeeperFits i (deeper p n)
  deeper_fits p zero = record {
    calls = λ f o vs m e w. taking_fits p f o vs w _ (λ fn e1 c b h. tt);
    spawns = λ f o vs e w. taking_fits p f o vs w _ (λ fn e1 c b h. tt);
    loops = λ m go wrap e w q f c b h. tt;
    takes = λ m go wrap e vs a w q f. next_fits (next_value vs) w _ _ (λ c b h. h) (λ x left c b h. tt);
    parts = λ a e w c b h. tt;
    defaults = λ a m e w c b h. tt;
  }
  deeper_fits p (suc n) = record {
    calls = λ f o vs m e w. taking_fits p f o vs w _ (λ fn e1. spends_fits i w _ (λ u. call_end_fits i u e _ (entered_fits p (deeper p n)
        (deeper_keeps p n) (deeper_fits p n) body fn e1 m u)));
    spawns = λ f o vs e w. taking_fits p f o vs w _ (λ fn e1. spends_fits i w _ (λ u. task_fits i u e _ _ (entered_fits p (deeper p n)
        (deeper_keeps p n) (deeper_fits p n) (root (Some (length u.state.clock.results))) fn e1 true (with_state u (with_entry
        u.state)))));
    loops = λ m go wrap e w q f. spends_fits i w _ (λ u. turned_fits i u (go u) wrap e _ q (f u) (λ x. (deeper_fits p n).loops m go wrap e
        x q f));
    takes = λ m go wrap e vs a w q f. next_fits (next_value vs) w _ _ (λ c b h. h) (λ x left. spends_fits i w _ (λ u. valued_fits i u (go
        x a u) _ _ (q left) (f x a u) (λ y z. (deeper_fits p n).takes m go wrap e left y z q f)));
    parts = λ a e w. spends_fits i w _ (λ u. ev_fits i p (deeper p n) (deeper_keeps p n) (deeper_fits p n) a false e u);
    defaults = λ a m e w. spends_fits i w _ (λ u. call_end_fits i u e _ (scope_fits i p (deeper p n) (deeper_keeps p n) (deeper_fits p n)
        body u (ev p (deeper p n) a m [] (set_behind u none)) (ev_fits i p (deeper p n) (deeper_keeps p n) (deeper_fits p n) a m []
        (set_behind u none))));
  }

  -- what is behind, and the arms, as lists
  abbrev BehindFits : (c b : ℕ) → BehindOutcome → Type 0
  BehindFits c b (stays bs u) = c + (count i (behind_leaves bs []) + stock i u) ≤ b
  BehindFits c b (stops_behind h) = Unit {0}

  abbrev ArmsFit : (c b : ℕ) → ArmsOutcome → Type 0
  ArmsFit c b (stand gs u) = c + (count i (arms_leaves gs) + stock i u) ≤ b
  ArmsFit c b (stops_arms h) = Unit {0}

  element_out : (c b : ℕ) (o : TaskOutcome) (bs : Scopes) → TaskFits i (c + count i (behind_leaves bs [])) b o →
      BehindFits c b (element_came o bs)
  unfolding element_came
  element_out c b (ends v u) bs a = omega (arith, a)
  element_out c b (lost t) bs a = tt
  element_out c b (stops h) bs a = tt
  element_out c b (sleeps x u) bs a = omega (arith, a, count_both i (scope_leaves x) (behind_leaves bs []))

  before_out : (c b : ℕ) (s : Scope) (o : BehindOutcome) → BehindFits (c + count i (scope_leaves s)) b o → BehindFits c b (element_before s
      o)
  unfolding element_before
  before_out c b s (stays bs u) a = omega (arith, a, count_both i (scope_leaves s) (behind_leaves bs []))
  before_out c b s (stops_behind h) a = tt

  behind_out : (c b : ℕ) (q : Role) (r : Residual) (o : BehindOutcome) → BehindFits (c + count i (leaves r)) b o →
      TaskFits i c b (behind_came q r o)
  unfolding behind_came
  behind_out c b q r (stays bs u) a = omega (arith, a, count_behind i bs (leaves r))
  behind_out c b q r (stops_behind h) a = tt

  arm_out : (c b : ℕ) (o : TaskOutcome) (gs : Arms) → TaskFits i (c + count i (arms_leaves gs)) b o → ArmsFit c b (arm_came o gs)
  unfolding arm_came
  arm_out c b (ends v u) gs a = omega (arith, a)
  arm_out c b (lost t) gs a = tt
  arm_out c b (stops h) gs a = tt
  arm_out c b (sleeps x u) gs a = omega (arith, a, count_both i (scope_leaves x) (arms_leaves gs))

  gave_before : (c b : ℕ) (v : Val) (o : ArmsOutcome) → ArmsFit c b o → ArmsFit c b (arm_before (gave v) o)
  unfolding arm_before
  gave_before c b v (stand gs u) a = a
  gave_before c b v (stops_arms h) a = tt

  runs_before : (c b : ℕ) (s : Scope) (o : ArmsOutcome) → ArmsFit (c + count i (scope_leaves s)) b o → ArmsFit c b (arm_before (runs s) o)
  unfolding arm_before
  runs_before c b s (stand gs u) a = omega (arith, a, count_both i (scope_leaves s) (arms_leaves gs))
  runs_before c b s (stops_arms h) a = tt

  arms_came_out : (c b : ℕ) (o : ArmsOutcome) (go : Arms → World → Outcome) → ArmsFit c b o → ((gs : Arms) (u : World) → c + (count i
      (arms_leaves gs) + stock i u) ≤ b → OutcomeFits i c b (go gs u)) → OutcomeFits i c b (arms_came o go)
  unfolding arms_came
  arms_came_out c b (stand gs u) go a f = f gs u a
  arms_came_out c b (stops_arms h) go a f = tt

module _ (i : ℕ) (p : Program) (k : Deeper) (keeps : DeeperKeeps k) (d : DeeperFits i k) where
  done_fits : (f : Form) (vs : List Val) (e : Env) (w : World) → Fits i w (form_done p k f vs e w)
  done_fits (form.choosing ts) (v ∷ []) e w = chosen_fits i p k keeps d ts v true e w
  done_fits f vs e w = apply_fits i p k keeps d f vs true e w

  operands_fit : (e : Env) (f : Form) (vs : List Val) (left : List Tree) (w : World) → Fits i w (operands p k e f vs left w)
  operands_fit e f vs [] w = done_fits f vs e w
  operands_fit e f vs (a ∷ left) w =
      valued_fits i w _ _ _ (λ r. refl) (ev_fits i p k keeps d a true e w) (λ v u. operands_fit e f (vs ++ v ∷ []) left u)

  taken_fits : (g : Generator) (cs : Trees) (a : Tree) (pl : Place) (e : Env) (x : Val × Val) (so_far : Val) (w : World) →
      Fits i w (taken p k g cs a pl e x so_far w)
  taken_fits g cs a pl e x so_far w = attempted_fits i w _ _ _ (clauses_keep p k keeps cs false (with_taken g x e) unit w) (clauses_fits i
      p k keeps d cs false (with_taken g x e) unit w) (λ e1 y u. level_fits i p k keeps d cs a _ pl e1 y so_far true u (λ e z. ev_fits i p
      k keeps d a true e z)) (λ u c b h. h)

  mutual
    pub resume_fits : (r : Residual) (n : ℕ) (v : Val) (w : World) (c b : ℕ) →
        c + (count i (leaves r) + stock i w) ≤ hit i n (leaves r) + b → OutcomeFits i c b (resume p k r n v w)
    resume_fits (leaf x e) n v w c b h = omega (arith, h, leaf_hit i n x.number)
    resume_fits (args e f vs r left) n v w c b h =
        valued_out i c b _ _ _ (λ r. refl) (resume_fits r n v w c b h) (λ y u. operands_fit e f (vs ++ y ∷ []) left u)
    resume_fits (seq e x r left) n v w c b h = valued_out i c b _ _ _ (λ r. refl) (resume_fits r n v w c b h) (λ y u. defined_fits i p k
        keeps d x e y true u _ (λ e z x. statements_fits i p k keeps d left true e z x))
    resume_fits (deferred e a r) n v w c b h =
        closing_out i c b _ _ _ e (λ r. refl) (resume_fits r n v w c b h) (λ u. d.parts a e u)
    resume_fits (filling e x pl fs xs vs ss r) n v w c b h = valued_out i c b _ _ _ (λ r. refl) (resume_fits r n v w c b h) (λ y u.
        filled_fits i p k keeps d fs xs vs x (ss ++ y ∷ []) pl true e u)
    resume_fits (looped e a r) n v w c b h = turned_out i c b _ _ e _ (λ r. refl) (resume_fits r n v w c b h) (λ u. d.loops true _ _ e u
        (λ r. refl) (λ z. ev_fits i p k keeps d a true e z))
    resume_fits (generated e g cs a pl vs r) n v w c b h = valued_out i c b _ _ _ (λ r. refl) (resume_fits r n v w c b h) (λ y u. d.takes
        true _ _ e vs y u (λ vs r. refl) (λ x b z. taken_fits g cs a pl e x b z))
    resume_fits (called e s) n v w c b h = call_end_out i c b e _ (resume_scope_fits s n v w c b h)
    resume_fits (arms kd pl e gs) n v w c b h =
        arms_came_out i c b _ _ (resume_arms_fit gs n v w c b h) (λ gs u g. settled_fits i p k keeps d kd pl e gs u c b g)

    pub resume_scope_fits : (s : Scope) (n : ℕ) (v : Val) (w : World) (c b : ℕ) →
        c + (count i (scope_leaves s) + stock i w) ≤ hit i n (scope_leaves s) + b → TaskFits i c b (resume_scope p k s n v w)
    resume_scope_fits (scope q r bs) n v w c b h = bool_both (TaskFits i c b) (is_behind n bs) _ _
        (λ e. behind_out i c b q r _ (resume_behind_fits bs n v w (c + count i (leaves r)) b (omega (
          arith,
          h,
          count_behind i bs (leaves r),
          hit_behind i n bs (leaves r) [] e,
        ))))
        (λ e. scope_out i p k keeps d c b q w.behind _ (resume_fits r n v (set_behind w bs) (c + count i (behind_leaves w.behind [])) b
        (omega (arith, h, count_behind i bs (leaves r), hit_own i n bs (leaves r) e))))

    pub resume_behind_fits : (bs : Scopes) (n : ℕ) (v : Val) (w : World) (c b : ℕ) →
        c + (count i (behind_leaves bs []) + stock i w) ≤ hit i n (behind_leaves bs []) + b → BehindFits i c b (resume_behind p k bs n v w)
    resume_behind_fits none n v w c b h = omega (arith, h)
    resume_behind_fits (also s bs) n v w c b h = bool_both (BehindFits i c b) (has n (scope_leaves s)) _ _
        (λ e. element_out i c b _ bs (resume_scope_fits s n v w (c + count i (behind_leaves bs [])) b (omega (
          arith,
          h,
          count_both i
              (scope_leaves s) (behind_leaves bs []),
          hit_left i n (scope_leaves s) (behind_leaves bs []) e,
        ))))
        (λ e. before_out i c b s _ (resume_behind_fits bs n v w (c + count i (scope_leaves s)) b (omega (
          arith,
          h,
          count_both i
              (scope_leaves s) (behind_leaves bs []),
          hit_right i n (scope_leaves s) (behind_leaves bs []) e,
        ))))

    pub resume_arms_fit : (gs : Arms) (n : ℕ) (v : Val) (w : World) (c b : ℕ) →
        c + (count i (arms_leaves gs) + stock i w) ≤ hit i n (arms_leaves gs) + b → ArmsFit i c b (resume_arms p k gs n v w)
    resume_arms_fit no_arms n v w c b h = tt
    resume_arms_fit (gave y gs) n v w c b h = gave_before i c b y _ (resume_arms_fit gs n v w c b h)
    resume_arms_fit (runs s gs) n v w c b h = bool_both (ArmsFit i c b) (has n (scope_leaves s)) _ _
        (λ e. arm_out i c b _ gs (resume_scope_fits s n v w (c + count i (arms_leaves gs)) b (omega (
          arith,
          h,
          count_both i
              (scope_leaves s) (arms_leaves gs),
          hit_left i n (scope_leaves s) (arms_leaves gs) e,
        ))))
        (λ e. runs_before i c b s _ (resume_arms_fit gs n v w (c + count i (scope_leaves s)) b (omega (
          arith,
          h,
          count_both i
              (scope_leaves s) (arms_leaves gs),
          hit_right i n (scope_leaves s) (arms_leaves gs) e,
        ))))

-- the forest
halted_fits : (i b : ℕ) (h : Halt) → StageChances i b (ended_by h)
halted_fits i b (fault k pl s) = tt
halted_fits i b (out s) = tt
halted_fits i b (jammed s) = tt
halted_fits i b (wrong s) = tt

came_fits : (i b : ℕ) (before : Forest) (o : TaskOutcome) → TaskFits i (count i (forest_leaves before)) b o → StageChances i b (came before
    o)
came_fits i b before (ends v w) a = omega (arith, a, count_forests i before (None ∷ w.tasks))
came_fits i b before (lost t) a = tt
came_fits i b before (stops h) a = halted_fits i b h
came_fits i b before (sleeps s w) a = omega (
  arith,
  a,
  count_forests i before (Some s ∷ w.tasks),
  count_both i (scope_leaves s)
      (forest_leaves w.tasks),
)

cond_fits : (i b : ℕ) (t : Bool) (f g : Stage Forest) → StageChances i b f → StageChances i b g → StageChances i b (cond t f g)
cond_fits i b true f g x y = x
cond_fits i b false f g x y = y

found_fits : (i b : ℕ) (x : Option FunTree) (s : State) (go : FunTree → Stage Forest) → ((f : FunTree) → StageChances i b (go f)) →
    StageChances i b (main_found x s go)
unfolding main_found
found_fits i b None s go f = tt
found_fits i b (Some x) s go f = f x

bound_fits : (i b : ℕ) (x : Option Env) (s : State) (go : Env → Stage Forest) → ((e : Env) → StageChances i b (go e)) →
    StageChances i b (main_bound x s go)
unfolding main_bound
bound_fits i b None s go f = tt
bound_fits i b (Some x) s go f = f x

spent_stage : (i b left : ℕ) (s : State) (x : Stage Forest) (go : State → Stage Forest) → StageChances i b x → ((l : ℕ) →
    StageChances i b (go (stepped l s))) → StageChances i b (spending left s x go)
spent_stage i b zero s x go a f = a
spent_stage i b (suc l) s x go a f = f l

main_fits : (i b steps : ℕ) (s : State) (go : State → Stage Forest) → ((l : ℕ) → StageChances i b (go (stepped l s))) →
    StageChances i b (main_spends steps s go)
unfolding main_spends
main_fits i b steps s go f = spent_stage i b steps s _ go tt f

own_hit : (n : ℕ) (ws : List Wait) → has n ws ≡ true → hit n n ws ≡ 1
own_hit n ws e = ap (λ b. cond b (cond (eqn n n) 1 0) 0) e ∙ ap (λ b. cond b 1 0) (eqn_same n)

module _ (i : ℕ) (p : Program) where
  woken_fits : (n : ℕ) (v : Val) (before fs : Forest) (s : State) (b : ℕ) → count i (forest_leaves before) + (count i (forest_leaves fs) +
      to_come i s) ≤ hit i n (forest_leaves fs) + b → StageChances i b (woken p n v before fs s)
  woken_fits n v before [] s b h = tt
  woken_fits n v before (None ∷ fs) s b h =
      woken_fits n v (before ++ None ∷ []) fs s b (omega (arith, h, count_forests i before (None ∷ [])))
  woken_fits n v before (Some x ∷ fs) s b h = bool_both (StageChances i b) (has n (scope_leaves x)) _ _
      (λ e. came_fits i b before _ (resume_scope_fits i p (deeper p s.clock.left) (deeper_keeps p s.clock.left) (deeper_fits i p
      s.clock.left) x n v (world s none fs) (count i (forest_leaves before)) b (omega (
        arith,
        h,
        count_both i (scope_leaves x)
            (forest_leaves fs),
        hit_left i n (scope_leaves x) (forest_leaves fs) e,
      ))))
      (λ e. woken_fits n v (before ++ Some x ∷ []) fs s b (omega (
        arith,
        h,
        count_forests i before (Some x ∷ []),
        count_both i
            (scope_leaves x) [],
        count_both i (scope_leaves x) (forest_leaves fs),
        hit_right i n (scope_leaves x) (forest_leaves fs) e,
      )))

  at_fits : (until : ℕ) (x : Option Due) (s : State) (fs : Forest) → StageChances i (chances i s (forest_leaves fs)) (turn_at until x s fs
      (λ due s. woken p due.number due.given.value [] fs s))
  at_fits until None s fs = le_refl (chances i s (forest_leaves fs))
  at_fits until (Some due) s fs = cond_fits i (chances i s (forest_leaves fs)) (nat_lt until due.given.moment) _ _ (le_refl (chances i s
      (forest_leaves fs))) (spent_stage i (chances i s (forest_leaves fs)) s.clock.left s _ _ (le_refl (chances i s (forest_leaves fs)))
      (λ l. woken_fits due.number due.given.value [] fs (at_moment due.given.moment (stepped l s)) (chances i s (forest_leaves fs)) (omega
      arith)))

  waits_fit : (until : ℕ) (ws : List Wait) (s : State) (fs : Forest) → StageChances i (chances i s (forest_leaves fs)) (turn until ws s fs
      (λ due s. woken p due.number due.given.value [] fs s))
  waits_fit until [] s fs = le_refl (chances i s (forest_leaves fs))
  waits_fit until (w ∷ ws) s fs = at_fits until (least s (w ∷ ws)) s fs

  turn_fits : (until : ℕ) (s : State) (fs : Forest) → StageChances i (chances i s (forest_leaves fs)) (turn_taken p until s fs)
  turn_fits until s fs = waits_fit until (forest_leaves fs) s fs

  more_fits : (b c : ℕ) (x : Stage Forest) → b ≤ c → StageChances i b x → StageChances i c x
  more_fits b c (going s fs) h a = le_trans a h
  more_fits b c (closed e s fs) h a = le_trans a h
  more_fits b c (broken e s) h a = tt
  more_fits b c (amiss s) h a = tt

  turns_fit : (until k b : ℕ) (x : Stage Forest) → StageChances i b x → StageChances i b (turns (turn_taken p until) k x)
  turns_fit until zero b x a = a
  turns_fit until (suc k) b (going s fs) a = turns_fit until k b (turn_taken p until s fs) (more_fits (chances i s (forest_leaves fs)) b
      (turn_taken p until s fs) a (turn_fits until s fs))
  turns_fit until (suc k) b (closed e s fs) a = a
  turns_fit until (suc k) b (broken e s) a = tt
  turns_fit until (suc k) b (amiss s) a = tt

  at_most_one : (n : ℕ) (b : Bool) → 0 + (0 + (0 + cond b 0 1)) ≤ 1
  at_most_one n true = omega arith
  at_most_one n false = omega arith

  started_fits : (ns : List ℤ) (steps : ℕ) → StageChances i 1 (started p ns steps)
  started_fits ns steps = found_fits i 1 (main_in p.items) (begun steps) _ (λ f. bound_fits i 1 (with_params f.params (inputs_of f.params
      ns) []) (begun steps) _ (λ e. main_fits i 1 steps (begun steps) _ (λ l. came_fits i 1 [] _ (entered_fits i p (deeper p l)
      (deeper_keeps p l) (deeper_fits i p l) (root None) f e true (world (stepped l (begun steps)) none []) 0 1 (at_most_one i (ltn i
      0))))))

pub numbers_once : NumbersOnce
numbers_once p = record {
  turn = λ i until s fs. turn_fits i p until s fs;
  goes = λ n v fs s b e h. woken_fits n p n v [] fs s b (omega (arith, h, own_hit n (forest_leaves fs) e));
  run = λ ns i steps until k. turns_fit i p until k 1 (started p ns steps) (started_fits i p ns steps);
}
