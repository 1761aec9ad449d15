-- Groups of arms, and what a `branch` begins.
use Rattle.std.proofs.Common.{◌≡◌, ℕ, zero, suc, Bool, true, false, List, [], ◌∷◌, ◌++◌, Option, Some, None, refl, sym, subst}
use Rattle.std.proofs.Common.{append_assoc}
use Rattle.std.proofs.lemmas.List.{append-nil}
use Rattle.verse_base.specs.declared.places.Place.{Place}
use Rattle.verse_tree.specs.Tree.{Trees, no_trees, more_trees}
use Rattle.verse_value.specs.Val.{Val}
use Rattle.verse_value.specs.Operations.{tuple_of}
use Rattle.verse_meaning_state.specs.State.{State}
use Rattle.verse_meaning_state.specs.Waits.{has}
use Rattle.verse_meaning_state.specs.Turns.{Kind, sync, race, rush}
use Rattle.verse_meaning_state.specs.Effects.{still}
use Rattle.verse_sorts.specs.Sorts as s
use Rattle.verse_sorts.specs.Sorts.{Sort, Fits}
use Rattle.verse_sorts.specs.Typing.{at, Typing, Grows, Adds, Is, Are, are_no, are_so, is_unit}
use Rattle.verse_sorts.proofs.Fitting.{is_more, is_up, adds_itself, grows_itself, grows_on}
use Rattle.verse_sorts_values.proofs.Making as making
use Rattle.verse_meaning.specs.Programs.{Program}
use Rattle.verse_meaning.specs.Residuals.{Env, arms, Arms, no_arms, gave, runs, arms_leaves, Scope, Scopes, none, also}
use Rattle.verse_meaning.specs.Residuals.{scope_leaves, part, and_then}
use Rattle.verse_meaning.specs.Outcomes as o
use Rattle.verse_meaning.specs.Outcomes.{World, set_behind, leave, Outcome, TaskOutcome, ArmsOutcome, Went, on_went}
use Rattle.verse_meaning.specs.Outcomes.{armed as armed_do, arm_came}
use Rattle.verse_meaning.specs.Outcomes.{arm_before, arms_came, told, all_gave, one_more, first_gave, leave_all, with_arm}
use Rattle.verse_meaning.specs.Outcomes.{branch_started, outside}
use Rattle.verse_meaning.specs.Evaluating.{on_bool, or_stands, settled, arm_gave, begins_scope, started, ev, cancel_arms}
use Rattle.verse_meaning.specs.Evaluating.{cancel_scope_kids, cancel_scope_own}
use Rattle.verse_meaning.specs.Resuming.{resume_scope, resume_arms}
use Rattle.verse_meaning.specs.Runs.{deeper}
use Rattle.verse_meaning.specs.Laws.{CancelLeaves, KeepsWent}
use Rattle.verse_sound_rules.specs.Found.{Found, Allowed, armed}
use Rattle.verse_sound_trees.specs.Outcomes.{any_names, WentWell, goes_well, quits_fault, quits_steps, gives, faults}
use Rattle.verse_sound_trees.specs.Outcomes.{ends_steps, waits}
use Rattle.verse_sound_trees.specs.Outcomes.{task_ends, task_lost, task_faults, task_ends_steps, task_sleeps}
use Rattle.verse_sound_trees.specs.Waiting.{WaitsOf}
use Rattle.verse_sound_trees.specs.Going.{AllBehind, AllTasks, Dropped, Undoes, KeptIn, Left, LeftScope, Level, turns, Kept}
use Rattle.verse_sound_trees.specs.Going.{Comes, ComesTask, Within}
use Rattle.verse_sound_trees.proofs.Waiting.{clock_moves, waits_of_both}
use Rattle.verse_sound_trees.proofs.Worlds.{later_itself, adds_later, scope_more, behind_more, tasks_more}
use Rattle.verse_sound_trees.proofs.Going.{typed_from, told_typed, still_told, up_to, spends_typed}
use Rattle.verse_sound_trees.proofs.Suspending.{grows_later, outside_typed}
use Rattle.verse_sound_trees.proofs.Operands.{Well}
use Rattle.verse_sound_trees.specs.Bounds.{Bounds, ArmsAre, EachFits, GroupGives}
use Rattle.verse_sound_trees.proofs.Cancelling.{scope_cancels, scope_waits, both_undone, has_behind}
use Rattle.verse_sound_trees.proofs.Scopes.{scope_typed}

module _ (p : Program) (f : Found) where
  pub arms_more : (n : ℕ) (t u : Typing) (gs : Arms) (qs : List Sort) → Grows t u → ArmsAre f p n t gs qs → ArmsAre f p n u gs qs
  arms_more n t u no_arms [] g h = tt
  arms_more n t u no_arms (q ∷ qs) g h = absurd h
  arms_more n t u (gave y gs) [] g h = absurd h
  arms_more n t u (gave y gs) (q ∷ qs) g h = (is_more f.up g h.0, arms_more n t u gs qs g h.1)
  arms_more n t u (runs x gs) [] g h = absurd h
  arms_more n t u (runs x gs) (q ∷ qs) g h = (scope_more p f n t u false q x g h.0, arms_more n t u gs qs g h.1)

  arms_fewer : (n : ℕ) (t : Typing) (gs : Arms) (qs : List Sort) → ArmsAre f p (suc n) t gs qs → ArmsAre f p n t gs qs
  arms_fewer n t no_arms [] h = tt
  arms_fewer n t no_arms (q ∷ qs) h = absurd h
  arms_fewer n t (gave y gs) [] h = absurd h
  arms_fewer n t (gave y gs) (q ∷ qs) h = (h.0, arms_fewer n t gs qs h.1)
  arms_fewer n t (runs x gs) [] h = absurd h
  arms_fewer n t (runs x gs) (q ∷ qs) h = (h.0.0, arms_fewer n t gs qs h.1)

  arms_undone : (n : ℕ) (t : Typing) (gs : Arms) (qs : List Sort) → ArmsAre f p n t gs qs → Undoes p f (λ k w. cancel_arms p
      (deeper p k) gs w) t
  arms_undone n t no_arms qs h = λ u k w g c. goes_well adds_itself c
  arms_undone n t (gave y gs) [] h = absurd h
  arms_undone n t (gave y gs) (q ∷ qs) h = arms_undone n t gs qs h.1
  arms_undone n t (runs x gs) [] h = absurd h
  arms_undone n t (runs x gs) (q ∷ qs) h =
      let c = scope_cancels p f n t false q x h.0 in
      both_undone p f t (λ k w. cancel_arms p (deeper p k) gs w) (λ k w. o.went_on (cancel_scope_kids p (deeper p k) x w)
      (λ z. cancel_scope_own p (deeper p k) x z))
      (arms_undone n t gs qs h.1)
      (both_undone p f t (λ k w. cancel_scope_kids p (deeper p k) x w) (λ k w. cancel_scope_own p (deeper p k) x w) c.0 c.1)

  arms_waits : (n : ℕ) (t : Typing) (gs : Arms) (qs : List Sort) → ArmsAre f p n t gs qs → WaitsOf f.up t (arms_leaves gs)
  arms_waits n t no_arms qs h = tt
  arms_waits n t (gave y gs) [] h = absurd h
  arms_waits n t (gave y gs) (q ∷ qs) h = arms_waits n t gs qs h.1
  arms_waits n t (runs x gs) [] h = absurd h
  arms_waits n t (runs x gs) (q ∷ qs) h = waits_of_both f.up t (scope_leaves x) (arms_leaves gs) (scope_waits p f n t false q x h.0)
      (arms_waits n t gs qs h.1)

  -- one arm more
  with_arm_are : (n : ℕ) (t : Typing) (gs hs : Arms) (ds qs : List Sort) → ArmsAre f p n t gs ds → ArmsAre f p n t hs qs →
      ArmsAre f p n t (with_arm gs hs) (ds ++ qs)
  with_arm_are n t no_arms hs [] qs h i = i
  with_arm_are n t no_arms hs (d ∷ ds) qs h i = absurd h
  with_arm_are n t (gave y gs) hs [] qs h i = absurd h
  with_arm_are n t (gave y gs) hs (d ∷ ds) qs h i = (h.0, with_arm_are n t gs hs ds qs h.1 i)
  with_arm_are n t (runs x gs) hs [] qs h i = absurd h
  with_arm_are n t (runs x gs) hs (d ∷ ds) qs h i = (h.0, with_arm_are n t gs hs ds qs h.1 i)

  -- the values of arms
  abbrev pub AllGiven : Typing → List Sort → Option (List Val) → Type 0
  AllGiven t qs None = Unit {0}
  AllGiven t qs (Some vs) = Are f.up t vs qs

  one_given : (t : Typing) (q : Sort) (qs : List Sort) (y : Val) (m : Option (List Val)) → Is f.up t y q → AllGiven t qs m →
      AllGiven t (q ∷ qs) (one_more y m)
  one_given t q qs y None i h = tt
  one_given t q qs y (Some vs) i h = are_so i h

  all_given : (n : ℕ) (t : Typing) (gs : Arms) (qs : List Sort) → ArmsAre f p n t gs qs → AllGiven t qs (all_gave gs)
  all_given n t no_arms [] h = are_no
  all_given n t no_arms (q ∷ qs) h = absurd h
  all_given n t (gave y gs) [] h = absurd h
  all_given n t (gave y gs) (q ∷ qs) h = one_given t q qs y (all_gave gs) h.0 (all_given n t gs qs h.1)
  all_given n t (runs x gs) qs h = tt

  abbrev pub FirstGiven : Typing → Sort → Option Val → Type 0
  FirstGiven t r None = Unit {0}
  FirstGiven t r (Some y) = Is f.up t y r

  first_given : (n : ℕ) (t : Typing) (r : Sort) (gs : Arms) (qs : List Sort) → EachFits f qs r → ArmsAre f p n t gs qs →
      FirstGiven t r (first_gave gs)
  first_given n t r no_arms qs e h = tt
  first_given n t r (gave y gs) [] e h = absurd h
  first_given n t r (gave y gs) (q ∷ qs) e h = is_up f.up h.0 e.0
  first_given n t r (runs x gs) [] e h = absurd h
  first_given n t r (runs x gs) (q ∷ qs) e h = first_given n t r gs qs e.1 h.1

  -- what goes on behind
  also_behind : (n : ℕ) (t : Typing) (bs : Scopes) (x : Scope) → AllBehind (Dropped (LeftScope p f n) t) bs →
      Dropped (LeftScope p f n) t x →
      AllBehind (Dropped (LeftScope p f n) t) (and_then bs x)
  also_behind n t none x h d = (d, tt)
  also_behind n t (also y bs) x h d = (h.0, also_behind n t bs x h.1 d)

  pub leave_kept : (n : ℕ) (t : Typing) (w : World) (x : Scope) → KeptIn p f (LeftScope p f n) t w → Dropped (LeftScope p f n) t x →
      KeptIn p f (LeftScope p f n) t (leave w x)
  leave_kept n t w x k d = record { cells = k.cells; clock = k.clock; behind = also_behind n t w.behind x k.behind d; tasks = k.tasks }

  leave_all_kept : (n : ℕ) (t : Typing) (gs : Arms) (qs : List Sort) (w : World) → ArmsAre f p n t gs qs →
      KeptIn p f (LeftScope p f n) t w →
      KeptIn p f (LeftScope p f n) t (leave_all gs w)
  leave_all_kept n t no_arms qs w h k = k
  leave_all_kept n t (gave y gs) [] w h k = absurd h
  leave_all_kept n t (gave y gs) (q ∷ qs) w h k = leave_all_kept n t gs qs w h.1 k
  leave_all_kept n t (runs x gs) [] w h k = absurd h
  leave_all_kept n t (runs x gs) (q ∷ qs) w h k = leave_all_kept n t gs qs (leave w x) h.1 (leave_kept n t w x k (q, h.0))

  -- cancelled, and then on
  went_typed : (n : ℕ) (t : Typing) (a : Allowed) (r : Sort) (w : World) (x : Went) (go : World → Outcome) →
      KeptIn p f (LeftScope p f n) t w →
      WentWell f t x → KeepsWent w x → ((u : Typing) (z : World) → Adds t u → KeptIn p f (LeftScope p f n) u z →
      Comes p f (turns n) any_names t a r (go z)) →
      Comes p f (turns n) any_names t a r (on_went x go)
  unfolding on_went
  went_typed n t a r w x go k (goes_well {u} {w = z} g h) q next = next u z g (record {
    cells = h;
    clock = clock_moves f.up g q.1.1 k.clock;
    behind = subst (λ y. AllBehind (Dropped (LeftScope p f n) u) y) (sym q.0) (behind_more p f n t u w.behind g.grows k.behind);
    tasks = subst (λ y. AllTasks (Dropped (LeftScope p f n) u) y) (sym q.1.0) (tasks_more p f n t u w.tasks g.grows k.tasks);
  })
  went_typed n t a r w x go k quits_fault q next = faults
  went_typed n t a r w x go k quits_steps q next = ends_steps

  module _ (cancel : (g : ℕ) → CancelLeaves p (deeper p g)) where
    -- the group has its value, or stands
    settled_typed : (n g : ℕ) (t : Typing) (a : Allowed) (kd : Kind) (pl : Place) (e : Env) (gs : Arms) (qs : List Sort) (r : Sort)
        (w : World) → a.waits ≡ true →
        GroupGives f kd qs r → ArmsAre f p n t gs qs → Left p f n t a r (arms kd pl e gs) → KeptIn p f (LeftScope p f n) t w →
        Comes p f (turns n) any_names t a r (settled p (deeper p g) kd pl e gs w)
    unfolding settled or_stands
    settled_typed n g t a sync pl e gs qs r w m h i l k = by (all_gave gs) (all_given n t gs qs i)
      where
        by : (x : Option (List Val)) → AllGiven t qs x →
            Comes p f (turns n) any_names t a r (or_stands p (deeper p g) x (o.rests (arms sync pl e gs) w) (λ vs. told (still
            (tuple_of vs) w.state) pl e w))
        by None j = waits m (later_itself a.waits t) k l
        by (Some vs) j = up_to p f (turns n) h (told_typed p f (turns n) pl e k (still_told p f (turns n) a k (making.tuple f.up tt j)))
    settled_typed n g t a race pl e gs qs r w m h i l k = by (first_gave gs) (first_given n t r gs qs h i)
      where
        by : (x : Option Val) → FirstGiven t r x → Comes p f (turns n) any_names t a r (or_stands p (deeper p g) x (o.rests
            (arms race pl e gs) w)
            (λ y. on_went (cancel_arms p (deeper p g) gs w) (λ z. o.value e y z)))
        by None j = waits m (later_itself a.waits t) k l
        by (Some y) j =
            went_typed n t a r w (cancel_arms p (deeper p g) gs w) (λ z. o.value e y z) k
            (arms_undone n t gs qs i t g w grows_itself k.cells) ((cancel g).arms gs w)
            (λ u z d kp. gives (adds_later a.waits t u d) kp (is_more f.up d.grows j) tt)
    settled_typed n g t a rush pl e gs qs r w m h i l k = by (first_gave gs) (first_given n t r gs qs h i)
      where
        by : (x : Option Val) → FirstGiven t r x → Comes p f (turns n) any_names t a r (or_stands p (deeper p g) x (o.rests
            (arms rush pl e gs) w)
            (λ y. o.value e y (leave_all gs w)))
        by None j = waits m (later_itself a.waits t) k l
        by (Some y) j = gives (later_itself a.waits t) (leave_all_kept n t gs qs w i k) j tt

    -- arms that were woken
    pub data ArmsWell (n : ℕ) (t : Typing) (qs : List Sort) : ArmsOutcome → Type 0 where
      stand_well : {u : Typing} {gs : Arms} {w : World} → Grows t u → KeptIn p f (LeftScope p f n) u w → ArmsAre f p n u gs qs →
          ArmsWell n t qs (o.stand gs w)
      arms_fault : {k : Rattle.verse_base.specs.declared.refusals.Kind.Kind} {pl : Place} {st : State} →
          ArmsWell n t qs (o.stops_arms (o.fault k pl st))
      arms_steps : {st : State} → ArmsWell n t qs (o.stops_arms (o.out st))

    came_well : (n : ℕ) (t : Typing) (q : Sort) (qs : List Sort) (gs : Arms) {x : TaskOutcome} → ArmsAre f p n t gs qs →
        ComesTask p f (turns n) t false true q x → ArmsWell n t (q ∷ qs) (arm_came x gs)
    unfolding arm_came
    came_well n t q qs gs h (task_ends {u} g k i) = stand_well g k (i, arms_more n t u gs qs g h)
    came_well n t q qs gs h (task_lost z) = cc
    came_well n t q qs gs h task_faults = arms_fault
    came_well n t q qs gs h task_ends_steps = arms_steps
    came_well n t q qs gs h (task_sleeps {u} m g k l) = stand_well g k (l, arms_more n t u gs qs g h)

    before_gave : (n : ℕ) (t : Typing) (q : Sort) (qs : List Sort) (y : Val) {x : ArmsOutcome} → Is f.up t y q → ArmsWell n t qs x →
        ArmsWell n t (q ∷ qs) (arm_before (gave y) x)
    unfolding arm_before
    before_gave n t q qs y i (stand_well g k h) = stand_well g k (is_more f.up g i, h)
    before_gave n t q qs y i arms_fault = arms_fault
    before_gave n t q qs y i arms_steps = arms_steps

    before_runs : (n : ℕ) (t : Typing) (q : Sort) (qs : List Sort) (z : Scope) {x : ArmsOutcome} → LeftScope p f n t false q z →
        ArmsWell n t qs x →
        ArmsWell n t (q ∷ qs) (arm_before (runs z) x)
    unfolding arm_before
    before_runs n t q qs z l (stand_well {u} g k h) = stand_well g k (scope_more p f n t u false q z g l, h)
    before_runs n t q qs z l arms_fault = arms_fault
    before_runs n t q qs z l arms_steps = arms_steps

    arms_resumed : (n fuel i : ℕ) (x : Val) (d : Sort) (u t : Typing) (gs : Arms) (qs : List Sort) (w : World) →
        ArmsAre f p (suc n) u gs qs → Grows u t →
        at t.waits i ≡ Some d → Is f.up t x d → has i (arms_leaves gs) ≡ true → KeptIn p f (LeftScope p f n) t w →
        ArmsWell n t qs (resume_arms p (deeper p fuel) gs i x w)
    arms_resumed n fuel i x d u t no_arms qs w h g j y z k = cc
    arms_resumed n fuel i x d u t (gave v gs) [] w h g j y z k = absurd h
    arms_resumed n fuel i x d u t (gave v gs) (q ∷ qs) w h g j y z k =
        before_gave n t q qs v (is_more f.up g h.0) (arms_resumed n fuel i x d u t gs qs w h.1 g j y z k)
    arms_resumed n fuel i x d u t (runs s1 gs) [] w h g j y z k = absurd h
    arms_resumed n fuel i x d u t (runs s1 gs) (q ∷ qs) w h g j y z k =
        by (has i (scope_leaves s1)) refl (λ m. arms_resumed n fuel i x d u t gs qs w h.1 g j y m k)
      where
        by : (b : Bool) → has i (scope_leaves s1) ≡ b → (has i (arms_leaves gs) ≡ true → ArmsWell n t qs (resume_arms p
            (deeper p fuel) gs i x w)) →
            ArmsWell n t (q ∷ qs) (on_bool b (λ u. arm_came (resume_scope p (deeper p fuel) s1 i x w) gs) (λ u. arm_before (runs s1)
            (resume_arms p (deeper p fuel) gs i x w)))
        by true e m = came_well n t q qs gs (arms_more n u t gs qs g (arms_fewer n u gs qs h.1)) (h.0.1 t fuel i x d w g j y e k)
        by false e m = before_runs n t q qs s1 (scope_more p f n u t false q s1 g h.0.0) (m (has_behind i (scope_leaves s1)
            (arms_leaves gs) z e))

    -- a group goes on
    left_arms : (n : ℕ) (u : Typing) (a : Allowed) (kd : Kind) (pl : Place) (e : Env) (gs : Arms) (qs : List Sort) (r : Sort) →
        a.waits ≡ true →
        GroupGives f kd qs r → ArmsAre f p n u gs qs → Left p f n u a r (arms kd pl e gs)
    unfolding arms_came
    left_arms zero u a kd pl e gs qs r m h i = (
      (arms_undone zero u gs qs i, λ o k w g c. goes_well adds_itself c),
      arms_waits zero u gs
          qs i,
    )
    left_arms (suc n) u a kd pl e gs qs r m h i = (
      left_arms n u a kd pl e gs qs r m h (arms_fewer n u gs qs i),
      λ o fuel j x d w g z y k kp.
          by o fuel (λ v hs ar. left_arms n v a kd pl e hs qs r m h ar) (arms_resumed n fuel j x d u o gs qs w i g z y k kp),
    )
      where
        by : (t : Typing) (fuel : ℕ) {x : ArmsOutcome} → ((v : Typing) (hs : Arms) → ArmsAre f p n v hs qs →
            Left p f n v a r (arms kd pl e hs)) → ArmsWell n t qs x →
            Comes p f (turns n) any_names t a r (arms_came x (λ hs w. settled p (deeper p fuel) kd pl e hs w))
        by t fuel l (stand_well {u = v} {gs = hs} {w} g k ar) =
            typed_from p f (turns n) (grows_later p f a.waits t v m g) (settled_typed n fuel v a kd pl e hs qs r w m h ar (l v hs ar) k)
        by t fuel l arms_fault = faults
        by t fuel l arms_steps = ends_steps

    pub group_typed : (n g : ℕ) (t : Typing) (a : Allowed) (kd : Kind) (pl : Place) (e : Env) (gs : Arms) (qs : List Sort) (r : Sort)
        (w : World) → a.waits ≡ true →
        GroupGives f kd qs r → ArmsAre f p n t gs qs → KeptIn p f (LeftScope p f n) t w → Comes p f (turns n) any_names t a r (settled p
        (deeper p g) kd pl e gs w)
    group_typed n g t a kd pl e gs qs r w m h i k = settled_typed n g t a kd pl e gs qs r w m h i (left_arms n t a kd pl e gs qs r m h i) k

    -- an arm or the body of a `branch`
    in_arm : (a : Allowed) (q : Sort) → Bounds f part (armed a) false q q
    in_arm a q = record {
      fails = λ h. no_true h;
      returns = λ z h. absurd (no_some z h);
      breaks = λ h. no_true h;
      value = Rattle.verse_sorts.proofs.Fitting.fits_itself f.up q;
    }
      where
        no_true : false ≡ true → ⊥
        no_true h = cc

        no_some : (z : Sort) → None ≡ Some z → ⊥
        no_some z h = cc

    module _ (top : Level) (fuel : ℕ) (a : Allowed) (waits_here : a.waits ≡ true) where
      begins_typed : (n g : ℕ) → Within top fuel (turns n) g → (t : Typing) (q r : Sort) (go : ℕ → World →
          Outcome) (w : World) (on : TaskOutcome → Outcome) →
          Well p f top fuel t (armed a) q go → (u : Typing) → Grows t u → KeptIn p f (LeftScope p f n) u w →
          ((x : TaskOutcome) → ComesTask p f (turns n) u false true q x → Comes p f (turns n) any_names u a r (on x)) →
          Comes p f (turns n) any_names u a r (begins_scope p (deeper p g) w (go g) on)
      unfolding begins_scope
      begins_typed n g sp t q r go w on h u gr k next = spends_typed p f (turns n) w w.state.clock.left _ k (λ z kz.
          next _ (scope_typed p f cancel n g part u (armed a) false q q z.behind (in_arm a q) tt kz.behind
          (h (turns n) g sp tt u (set_behind z none) gr (record { cells = kz.cells; clock = kz.clock; behind = tt; tasks = kz.tasks }))))

      branch_ends : (n : ℕ) (t : Typing) (q r : Sort) (e : Env) → Fits f.up s.unit r → (x : TaskOutcome) →
          ComesTask p f (turns n) t false true q x →
          Comes p f (turns n) any_names t a r (branch_started e x)
      unfolding branch_started
      branch_ends n t q r e h x (task_ends {u} g k i) = gives (grows_later p f a.waits t u waits_here g) k (is_up f.up is_unit h) tt
      branch_ends n t q r e h x (task_lost m) = cc
      branch_ends n t q r e h x task_faults = faults
      branch_ends n t q r e h x task_ends_steps = ends_steps
      branch_ends n t q r e h x (task_sleeps {u} {q = y} {w} m g k l) =
          gives (grows_later p f a.waits t u waits_here g) (leave_kept n u w y k (q, l)) (is_up f.up is_unit h) tt

      pub branch_well : (t : Typing) (q r : Sort) (e : Env) (go : ℕ → World → Outcome) → Fits f.up s.unit r →
          Well p f top fuel t (armed a) q go →
          Well p f top fuel t a r (λ g w. outside a.waits w (λ w. begins_scope p (deeper p g) w (go g) (branch_started e)))
      branch_well t q r e go h b l g sp rd u w gr k = outside_typed p f l u a r w _ waits_here rd (λ n same.
          subst (λ l. Comes p f l any_names u a r (begins_scope p (deeper p g) w (go g) (branch_started e))) (sym same)
          (begins_typed n g (subst (λ l. Within top fuel l g) same sp) t q r go w (branch_started e) b u gr (subst
          (λ l. Kept p f l u w) same k)
          (λ x i. branch_ends n u q r e h x i)))

      -- the arms of a group that have not begun
      abbrev pub AllArms : Typing → Env → Trees → List Sort → Type 0
      AllArms t e no_trees [] = Unit {0}
      AllArms t e (more_trees b ts) (q ∷ qs) = Well p f top fuel t (armed a) q (λ g w. ev p (deeper p g) b true e w) × AllArms t e ts qs
      AllArms t e ts qs = ⊥

      first_fits : (r : Sort) (ds : List Sort) (q : Sort) (qs : List Sort) → EachFits f (ds ++ (q ∷ qs)) r → EachFits f (ds ++ q ∷ []) r
      first_fits r [] q qs h = (h.0, tt)
      first_fits r (d ∷ ds) q qs h = (h.0, first_fits r ds q qs h.1)

      started_typed : (n g : ℕ) → Within top fuel (turns n) g → (t : Typing) (kd : Kind) (pl : Place) (e : Env) (r : Sort) (ts : Trees)
          (qs : List Sort) (gs : Arms)
          (ds : List Sort) (u : Typing) (w : World) → GroupGives f kd (ds ++ qs) r → AllArms t e ts qs → Grows t u →
          ArmsAre f p n u gs ds → KeptIn p f (LeftScope p f n) u w →
          Comes p f (turns n) any_names u a r (started p (deeper p g) kd pl ts e gs w)
      unfolding armed_do arm_gave
      started_typed n g sp t kd pl e r no_trees [] gs ds u w h b gr i k =
          group_typed n g u a kd pl e gs ds r w waits_here (subst (λ z. GroupGives f kd z r) (append-nil ds) h) i k
      started_typed n g sp t kd pl e r no_trees (q ∷ qs) gs ds u w h b gr i k = absurd b
      started_typed n g sp t kd pl e r (more_trees x ts) [] gs ds u w h b gr i k = absurd b
      started_typed n g sp t kd pl e r (more_trees x ts) (q ∷ qs) gs ds u w h b gr i k =
          begins_typed n g sp t q r (λ g w. ev p (deeper p g) x true e w) w _ b.0 u gr k (λ y c. by kd h y c
          (λ v z hs gv ar kp. started_typed n g sp t kd pl e r ts qs hs (ds ++ q ∷ []) v z
          (subst (λ z. GroupGives f kd z r) (sym (append_assoc ds (q ∷ []) qs)) h) b.1 (grows_on gr gv) ar kp))
        where
          by : (kd : Kind) → GroupGives f kd (ds ++ (q ∷ qs)) r → (y : TaskOutcome) → ComesTask p f (turns n) u false true q y →
              ((v : Typing) (z : World) (hs : Arms) → Grows u v → ArmsAre f p n v hs (ds ++ q ∷ []) → KeptIn p f (LeftScope p f n) v z →
              Comes p f (turns n) any_names v a r (started p (deeper p g) kd pl ts e hs z)) →
              Comes p f (turns n) any_names u a r (armed_do y
              (λ y w. arm_gave p (deeper p g) kd pl e (with_arm gs (gave y no_arms)) w (λ w. started p (deeper p g) kd pl ts e
              (with_arm gs (gave y no_arms)) w))
              (λ s1 w. started p (deeper p g) kd pl ts e (with_arm gs (runs s1 no_arms)) w))
          by sync h y (task_ends {u = v} {v = x1} {w = z} gv kp j) next =
              typed_from p f (turns n) (grows_later p f a.waits u v waits_here gv)
              (next v z (with_arm gs (gave x1 no_arms)) gv (with_arm_are n v gs (gave x1 no_arms) ds (q ∷ []) (arms_more n u v gs ds gv i)
              (j, tt)) kp)
          by race h y (task_ends {u = v} {v = x1} {w = z} gv kp j) next =
              typed_from p f (turns n) (grows_later p f a.waits u v waits_here gv)
              (group_typed n g v a race pl e (with_arm gs (gave x1 no_arms)) (ds ++ q ∷ []) r z waits_here (first_fits r ds q qs h)
              (with_arm_are n v gs (gave x1 no_arms) ds (q ∷ []) (arms_more n u v gs ds gv i) (j, tt)) kp)
          by rush h y (task_ends {u = v} {v = x1} {w = z} gv kp j) next =
              typed_from p f (turns n) (grows_later p f a.waits u v waits_here gv)
              (next v z (with_arm gs (gave x1 no_arms)) gv (with_arm_are n v gs (gave x1 no_arms) ds (q ∷ []) (arms_more n u v gs ds gv i)
              (j, tt)) kp)
          by kd h y (task_lost m) next = cc
          by kd h y task_faults next = faults
          by kd h y task_ends_steps next = ends_steps
          by kd h y (task_sleeps {u = v} {q = x1} {w = z} m gv kp l) next =
              typed_from p f (turns n) (grows_later p f a.waits u v waits_here gv)
              (next v z (with_arm gs (runs x1 no_arms)) gv (with_arm_are n v gs (runs x1 no_arms) ds (q ∷ []) (arms_more n u v gs ds gv i)
              (l, tt)) kp)

      pub group_well : (t : Typing) (kd : Kind) (pl : Place) (e : Env) (r : Sort) (ts : Trees) (qs : List Sort) → GroupGives f kd qs r →
          AllArms t e ts qs →
          Well p f top fuel t a r (λ g w. outside a.waits w (λ w. started p (deeper p g) kd pl ts e no_arms w))
      group_well t kd pl e r ts qs h b l g sp rd u w gr k = outside_typed p f l u a r w _ waits_here rd (λ n same.
          subst (λ l. Comes p f l any_names u a r (started p (deeper p g) kd pl ts e no_arms w)) (sym same)
          (started_typed n g (subst (λ l. Within top fuel l g) same sp) t kd pl e r ts qs no_arms [] u w h b gr tt (subst
          (λ l. Kept p f l u w) same k)))
