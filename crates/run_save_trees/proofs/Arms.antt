-- The children of a task that are arms of its group began last.
use Rattle.std.proofs.Common.{◌≡◌, ℕ, zero, suc, ◌+◌, ◌<◌, ◌≤◌, Bool, true, false, ◌&&◌, cond, List, [], ◌∷◌, ◌++◌, length, Option, Some}
use Rattle.std.proofs.Common.{None}
use Rattle.std.proofs.Common.{refl, sym, ap, subst, ◌∙◌, arith}
use Rattle.std.proofs.lemmas.Bool.{eq-eqb, eqb-true, lt-leb}
use Rattle.task_tree.specs.Tasks.{is_child, suits}
use Rattle.task_tree.specs.declared.tasks.Role.{Role}
use Rattle.task_tree.specs.declared.tasks.Role.TheVariants.{Root, Arm, Behind}
use Rattle.verse_code.specs.declared.codes.Code.{Code}
use Rattle.verse_value.specs.Val.{Val}
use Rattle.verse_meaning_state.specs.Waits.{eqn, ltn, nth}
use Rattle.verse_meaning_state.proofs.Numbers.{eqn_same, ltn_yes, ltn_no}
use Rattle.verse_code_machine.specs.Tasks.{Part}
use Rattle.verse_code_machine.specs.Ends.{is_run}
use Rattle.vm_tasks_laws.specs.Slots.{arms_at, ArmedBy}
use Rattle.run_save_shots.specs.Lists.{Each, EachAt, EachTwo, count}
use Rattle.run_save_shots.specs.Kept.{KeptTask, KeptRest, leaf, group, Kept}
use Rattle.run_save_shots.specs.Fitting.{Stand, calls, sleeps, stays, awaits_task, awaits_event, gathers, goes_on, task_stand, arms_of}
use Rattle.run_save_shots.specs.Fitting.{unfinished, frames_of, is_child_of, is_arm_of, TaskFits, ArmsRun, DepthFits, InOrder, MayFollow}
use Rattle.run_save_shots.specs.Fitting.{Fits}
use Rattle.run_save_shots.specs.Naming.{number_at, is_since, is_begun_since, arm_at}
use Rattle.run_save_shots.specs.Spelling.{gathered, parts_from, rest}
use Rattle.run_save_trees.specs.Arms.{above, AreKin}
use Rattle.run_save_trees.proofs.Firsts.{nth_here, each_here, each_at_here, each_two_here, count_behind, count_some}
use Rattle.run_save_trees.proofs.Firsts.{no_later, the_one, another, all_later}

-- ---- numbers

eqn_not : (n k : ℕ) → (k ≡ n → ⊥) → eqn n k ≡ false
eqn_not zero zero d = absurd (d refl)
eqn_not zero (suc k) d = refl
eqn_not (suc n) zero d = refl
eqn_not (suc n) (suc k) d = eqn_not n k (λ e. d (ap suc e))

-- ---- the arms of a group

module _ (c : Code) (s : Kept) (at : ℕ) (t : KeptTask) (ts : List KeptTask) (n : ℕ) where
  one_runs : (place : ℕ) (vs : List (Option Val)) (q : ℕ) → nth vs q ≡ Some None → arm_at s at (place + q) ts ≡ n →
      is_run n (parts_from c s at t ts place vs) ≡ true
  one_runs place [] q e f = absurd (cc)
  one_runs place (Some v ∷ vs) zero e f = absurd (cc)
  one_runs place (None ∷ vs) zero e f =
      let here : place + 0 ≡ place = omega arith in
      let is : arm_at s at place ts ≡ n = ap (λ p. arm_at s at p ts) (sym here) ∙ f in
      ap (λ b. cond b true (is_run n (parts_from c s at t ts (suc place) vs))) (ap (eqn n) is ∙ eqn_same n)
  one_runs place (Some v ∷ vs) (suc q) e f =
      let there : place + suc q ≡ suc place + q = omega arith in
      one_runs (suc place) vs q e (ap (λ p. arm_at s at p ts) (sym there) ∙ f)
  one_runs place (None ∷ vs) (suc q) e f =
      let there : place + suc q ≡ suc place + q = omega arith in
      by (eqn n (arm_at s at place ts)) (one_runs (suc place) vs q e (ap (λ p. arm_at s at p ts) (sym there) ∙ f))
    where
      by : (b : Bool) → is_run n (parts_from c s at t ts (suc place) vs) ≡ true →
          cond b true (is_run n (parts_from c s at t ts (suc place) vs)) ≡ true
      by true h = refl
      by false h = h

  none_runs : (place : ℕ) (vs : List (Option Val)) → ((q : ℕ) → arm_at s at q ts ≡ n → ⊥) →
      is_run n (parts_from c s at t ts place vs) ≡ false
  none_runs place [] d = refl
  none_runs place (Some v ∷ vs) d = none_runs (suc place) vs d
  none_runs place (None ∷ vs) d =
      ap (λ b. cond b true (is_run n (parts_from c s at t ts (suc place) vs))) (eqn_not n (arm_at s at place ts) (d place)) ∙
      none_runs (suc place) vs d

  -- whatever operation it stands at
  in_group : (since : ℕ) (b : Bool) (st : Stand) (gs : List Part) → ltn n since ≡ b → is_run n gs ≡ b →
      ArmedBy since (arms_at (gathered c st gs)) n
  in_group since b calls gs e f = e ∙ sym f
  in_group since b sleeps gs e f = e ∙ sym f
  in_group since b stays gs e f = e ∙ sym f
  in_group since b awaits_task gs e f = e ∙ sym f
  in_group since b awaits_event gs e f = e ∙ sym f
  in_group since b (gathers k m p) gs e f = e ∙ sym f
  in_group since b goes_on gs e f = e ∙ sym f

-- ---- a task and one of its children

module _ (c : Code) (s : Kept) (before : List KeptTask) (t : KeptTask) (mid : List KeptTask) (u : KeptTask) (behind : List KeptTask)
    (fits : Fits c s) (kin : AreKin s before t mid u behind) where
  abbrev ts : List KeptTask
  ts = mid ++ u ∷ behind

  abbrev at : ℕ
  at = length before

  abbrev frames : ℕ
  frames = length t.frames

  abbrev number : ℕ
  number = number_at s (u ∷ behind)

  its_child : is_child_of at u ≡ true
  its_child = ap (λ p. is_child (Some at) p) kin.parent ∙ eq-eqb at at refl

  all : s.tasks ≡ (before ++ t ∷ mid) ++ u ∷ behind
  all = kin.all ∙ regrouped before
    where
      regrouped : (xs : List KeptTask) → xs ++ t ∷ (mid ++ u ∷ behind) ≡ (xs ++ t ∷ mid) ++ u ∷ behind
      regrouped [] = refl
      regrouped (x ∷ xs) = ap (λ w. x ∷ w) (regrouped xs)

  suited : suits (Some at) u.role ≡ true
  suited =
      sym (ap (λ p. suits p u.role) kin.parent) ∙
      (each_here (TaskFits c s) (before ++ t ∷ mid) u behind (subst (λ xs. Each (TaskFits c s) xs) all fits.tasks)).role

  -- an arm
  module _ (p : ℕ) (is_arm : u.role ≡ Arm p) where
    arm_begun : is_begun_since at frames u ≡ true
    arm_begun = rw (its_child, is_arm) refl

    arm_here : is_arm_of at p u ≡ true
    arm_here = rw (its_child, is_arm) (eq-eqb p p refl)

    arm_first : number ≤ above s at t ts
    arm_first = no_later s u behind (is_begun_since at frames) mid arm_begun

    arms_run : ArmsRun s.tasks at t
    arms_run = each_at_here (ArmsRun s.tasks) 0 before t ts (subst (λ xs. EachAt (ArmsRun s.tasks) 0 xs) kin.all fits.arms) at (omega arith)

    counted : (ks : List KeptTask) → ks ≡ before ++ t ∷ (mid ++ u ∷ behind) → count (is_arm_of at p) ts ≤ count (is_arm_of at p) ks
    counted ks e =
        let more = count_behind (is_arm_of at p) before (t ∷ ts) in
        let here = count_behind (is_arm_of at p) (t ∷ []) ts in
        omega (arith, more, here, ap (count (is_arm_of at p)) e)

    some : 1 ≤ count (is_arm_of at p) ts
    some = count_some (is_arm_of at p) mid u behind arm_here

    unfinished_one : (o : Option (Option Val)) → 1 ≤ unfinished o → (o ≡ Some None) × (unfinished o ≤ 1)
    unfinished_one None l = absurd (omega (arith, l))
    unfinished_one (Some None) l = (refl, omega arith)
    unfinished_one (Some (Some v)) l = absurd (omega (arith, l))

    arm_runs : (arms : List (Option Val)) → t.rest ≡ group arms → is_run number (parts_from c s at t ts 0 arms) ≡ true
    arm_runs arms e =
        let same : count (is_arm_of at p) s.tasks ≡ unfinished (nth arms p) = arms_run p ∙ ap (λ r. unfinished (nth (arms_of r) p)) e in
        let one = unfinished_one (nth arms p) (omega (arith, same, counted s.tasks kin.all, some)) in
        let start : 0 + p ≡ p = omega arith in
        one_runs c s at t ts number 0 arms p one.0
        (ap (λ k. arm_at s at k ts) start ∙
        the_one s u behind (is_arm_of at p) mid arm_here (omega (arith, one.1, same, counted s.tasks kin.all)))

  -- a task in the background
  module _ (d : ℕ) (is_behind : u.role ≡ Behind d) where
    deep : d < frames
    deep =
        let here = each_here (DepthFits s.tasks) (before ++ t ∷ mid) u behind (subst (λ xs. Each (DepthFits s.tasks) xs) all fits.depths) in
        subst (λ o. d < frames_of o) (ap (λ xs. nth xs at) kin.all ∙ nth_here before t ts) (here at d kin.parent is_behind)

    own : is_begun_since at frames u ≡ false
    own = rw (its_child, is_behind) (lt-leb frames d deep)

    earlier : (m : KeptTask) → InOrder m u → is_begun_since at frames m ≡ false
    earlier m o = by m.parent refl
      where
        of : (r : Role) → m.role ≡ r → MayFollow r (Behind d) → is_since frames r ≡ false
        of Root e f = refl
        of (Arm p) e f = absurd f
        of (Behind b) e f = lt-leb frames b (omega (arith, f, deep))

        in_it : m.parent ≡ Some at → is_since frames m.role ≡ false
        in_it e = of m.role refl (subst (λ r. MayFollow m.role r) is_behind (o at e kin.parent))

        both : (b : Bool) → (b ≡ true → is_since frames m.role ≡ false) → (b && is_since frames m.role) ≡ false
        both true f = f refl
        both false f = refl

        by : (q : Option ℕ) → m.parent ≡ q → is_begun_since at frames m ≡ false
        by None e = both (is_child_of at m) (λ f. absurd (none (sym (ap (λ q. is_child (Some at) q) e) ∙ f)))
          where
            none : is_child (Some at) None ≡ true → ⊥
            none f = absurd (cc)
        by (Some q) e = both (is_child_of at m) (λ f.
            let same : at ≡ q = eqb-true at q (sym (ap (λ k. is_child (Some at) k) e) ∙ f) in
            in_it (e ∙ ap (λ k. Some k) (sym same)))

    mids : (ms : List KeptTask) → EachTwo InOrder (ms ++ u ∷ behind) → Each (λ m. is_begun_since at frames m ≡ false) ms
    mids [] e = tt
    mids (m ∷ ms) e = (earlier m (each_here (InOrder m) ms u behind e.0), mids ms e.1)

    behind_before : above s at t ts < number
    behind_before = all_later s u behind (is_begun_since at frames) mid own
        (mids mid (each_two_here InOrder before t ts (subst (λ xs. EachTwo InOrder xs) kin.all fits.order)))

    behind_runs : (arms : List (Option Val)) → is_run number (parts_from c s at t ts 0 arms) ≡ false
    behind_runs arms = none_runs c s at t ts number 0 arms (λ q. another s u behind (is_arm_of at q) mid (rw (its_child, is_behind) refl))

  armed : ArmedBy (suc (above s at t ts)) (arms_at (rest c s at t ts t.rest)) number
  armed = of t.rest refl
    where
      by_role : (arms : List (Option Val)) → t.rest ≡ group arms → (r : Role) → u.role ≡ r → suits (Some at) r ≡ true →
          ArmedBy (suc (above s at t ts)) (arms_at (gathered c (task_stand c t) (parts_from c s at t ts 0 arms))) number
      by_role arms e Root f k = absurd (cc)
      by_role arms e (Arm p) f k =
          in_group c s at t ts number (suc (above s at t ts)) true (task_stand c t) (parts_from c s at t ts 0 arms)
          (ltn_yes number (suc (above s at t ts)) (omega (arith, arm_first p f))) (arm_runs p f arms e)
      by_role arms e (Behind d) f k =
          in_group c s at t ts number (suc (above s at t ts)) false (task_stand c t) (parts_from c s at t ts 0 arms)
          (ltn_no number (suc (above s at t ts)) (omega (arith, behind_before d f))) (behind_runs d f arms)

      of : (r : KeptRest) → t.rest ≡ r → ArmedBy (suc (above s at t ts)) (arms_at (rest c s at t ts r)) number
      of (leaf n cause) e = tt
      of (group arms) e = by_role arms e u.role refl suited

pub arms_youngest : (c : Code) (s : Kept) (before : List KeptTask) (t : KeptTask) (mid : List KeptTask) (u : KeptTask)
    (behind : List KeptTask) → Fits c s → AreKin s before t mid u behind →
    ArmedBy (suc (above s (length before) t (mid ++ u ∷ behind)))
    (arms_at (rest c s (length before) t (mid ++ u ∷ behind) t.rest)) (number_at s (u ∷ behind))
arms_youngest c s before t mid u behind fits kin = armed c s before t mid u behind fits kin
