-- Of tasks at which no rule is broken: parents, Main, arms, depths, the order of siblings, and frames.
use Rattle.std.proofs.Common.{◌≡◌, ◌≢◌, ◌⊎◌, inl, inr, ℕ, zero, suc, ◌+◌, ◌<◌, ◌≤◌, Bool, true, false, cond, ltb, leb, eqb, not, ◌&&◌, ◌||◌}
use Rattle.std.proofs.Common.{List, [], ◌∷◌, ◌++◌, length, Option, Some, None, slice_get, refl, sym, ap, subst, ◌∙◌, arith}
use Rattle.std.proofs.Common.{append-nil}
use Rattle.std.proofs.lemmas.Bool.{cases_lt, leb-false, leb-true, le-leb, eqb-true, eqb-false, eq-eqb, or_parts, not-false}
use Rattle.std.proofs.Math.Bool.{and-false}
use Rattle.verse_base.proofs.Facts.{not_second, length_more, rejoin}
use Rattle.task_tree.specs.declared.tasks.Role.{Role}
use Rattle.task_tree.specs.declared.tasks.Role.TheVariants.{Root, Arm, Behind}
use Rattle.task_tree.specs.Tasks.{is_child}
use Rattle.verse_code.specs.declared.codes.Code.{Code}
use Rattle.verse_value.specs.Val.{Val}
use Rattle.verse_meaning_state.specs.Waits.{Cause, nth}
use Rattle.verse_meaning_state.proofs.Numbers.{slice_is}
use Rattle.run_save_shots.specs.Lists.{Each, EachAt, EachTwo, count}
use Rattle.run_save_shots.specs.Kept.{KeptFrame, KeptRest, leaf, group, KeptTask}
use Rattle.run_save_shots.specs.Fitting.{ArmsRun, DepthFits, GroupStands, InOrder, MayFollow, ParentBefore, Stand}
use Rattle.run_save_shots.specs.Fitting.{arms_of, calls, sleeps, stays}
use Rattle.run_save_shots.specs.Fitting.{awaits_task, awaits_event, gathers, goes_on, frames_in, frames_of, is_arm_of, is_child_of, is_root}
use Rattle.run_save_shots.specs.Fitting.{is_running, task_stand, unfinished}
use Rattle.run_save_shots.proofs.Lists.{each_as}
use Rattle.run_save_format.specs.Whole.{any, arms_break, child_breaks, group_breaks, is_beyond, is_disordered}
use Rattle.run_save_format.specs.Whole.{is_group, is_later, may_follow}
use Rattle.run_save_format.specs.Whole.{rest_breaks, role_breaks}
use Rattle.run_save_reads.proofs.Together.{AllStand, Stands, at_place, none_counted}

-- ---- words on lists

none_more : (n : ℕ) → n ≡ 0 + n
none_more n = omega arith

suc_plus : (a b : ℕ) → suc (a + b) ≡ suc a + b
suc_plus a b = omega arith

count_last : {A : Type 0} (test : A → Bool) (xs : List A) (x : A) → count test (xs ++ x ∷ []) ≡ count test xs + cond {A = ℕ} (test x) 1 0
count_last test [] x = one (test x)
  where
    one : (b : Bool) → cond b (suc 0) 0 ≡ 0 + cond b 1 0
    one true = refl
    one false = refl
count_last test (y ∷ xs) x = two (test y) (count_last test xs x)
  where
    two : (b : Bool) → count test (xs ++ x ∷ []) ≡ count test xs + cond {A = ℕ} (test x) 1 0 →
        cond b (suc (count test (xs ++ x ∷ []))) (count test (xs ++ x ∷ [])) ≡ cond b (suc (count test xs))
        (count test xs) + cond {A = ℕ} (test x) 1 0
    two true e = ap suc e ∙ suc_plus (count test xs) (cond {A = ℕ} (test x) 1 0)
    two false e = e

none_pass : {A : Type 0} (test : A → Bool) (xs : List A) → any test xs ≡ false → Each (λ x. test x ≡ false) xs
none_pass test [] e = tt
none_pass test (x ∷ xs) e = let p = or_parts (test x) (any test xs) e in (p.0, none_pass test xs p.1)

count_none : {A : Type 0} (test : A → Bool) (xs : List A) → Each (λ x. test x ≡ false) xs → count test xs ≡ 0
count_none test [] p = refl
count_none test (x ∷ xs) p = ap (λ b. cond b (suc (count test xs)) (count test xs)) p.0 ∙ count_none test xs p.1

two_last : {A : Type 0} (R : A → A → Type 0) (xs : List A) (t : A) → EachTwo R xs → Each (λ u. R u t) xs → EachTwo R (xs ++ t ∷ [])
two_last R [] t p q = (tt, tt)
two_last {A = A} R (x ∷ xs) t p q = (last xs p.0, two_last R xs t p.1 q.1)
  where
    last : (ys : List A) → Each (R x) ys → Each (R x) (ys ++ t ∷ [])
    last [] a = (q.0, tt)
    last (y ∷ ys) a = (a.0, last ys a.1)

module _ (c : Code) (spent : ℕ) (all : List KeptTask) where
  pub parents_before : (before : List KeptTask) (frames : ℕ) (ts : List KeptTask) → AllStand c spent all before frames ts →
      EachAt ParentBefore (length before) ts
  parents_before before frames [] a = tt
  parents_before before frames (t ∷ ts) a = (
    λ p e. leb-false _ _ (subst (λ o. is_later (length before) o ≡ false) e a.0.later),
    subst (λ n. EachAt ParentBefore n ts) (length_more before t) (parents_before (before ++ t ∷ []) (frames + length t.frames) ts a.1),
  )

  pub main_once : (before : List KeptTask) (frames : ℕ) (ts : List KeptTask) → AllStand c spent all before frames ts →
      count (is_root None) before ≤ 1 → count (is_root None) (before ++ ts) ≤ 1
  main_once before frames [] a low = subst (λ us. count (is_root None) us ≤ 1) (sym (append-nil before)) low
  main_once before frames (t ∷ ts) a low =
      subst (λ us. count (is_root None) us ≤ 1) (rejoin before t ts)
      (main_once (before ++ t ∷ []) (frames + length t.frames) ts a.1 (two (is_root None t) refl))
    where
      two : (b : Bool) → is_root None t ≡ b → count (is_root None) (before ++ t ∷ []) ≤ 1
      two true e =
          (let none = none_counted (is_root None) before (not_second (is_root None t) (any (is_root None) before) a.0.main e) in
          let sum = count_last (is_root None) before t in
          let one : cond {A = ℕ} (is_root None t) 1 0 ≡ 1 = ap (λ b. cond {A = ℕ} b 1 0) e in
          omega arith)
      two false e =
          (let sum = count_last (is_root None) before t in
          let one : cond {A = ℕ} (is_root None t) 1 0 ≡ 0 = ap (λ b. cond {A = ℕ} b 1 0) e in
          omega arith)

  abbrev pub ChildStands : KeptTask → Type 0
  ChildStands t = child_breaks all t.parent t.role ≡ false

  pub children_stand : (before : List KeptTask) (frames : ℕ) (ts : List KeptTask) → AllStand c spent all before frames ts →
      Each ChildStands ts
  children_stand before frames [] a = tt
  children_stand before frames (t ∷ ts) a = (a.0.child, children_stand (before ++ t ∷ []) (frames + length t.frames) ts a.1)

  pub depths_fit : (ts : List KeptTask) → Each ChildStands ts → Each (DepthFits all) ts
  depths_fit ts p =
      each_as ChildStands (DepthFits all) ts
      (λ t e q d parent role. (
      let there : role_breaks (slice_get all q) (Behind d) ≡ false =
      subst (λ r. role_breaks (slice_get all q) r ≡ false) role (subst (λ o. child_breaks all o t.role ≡ false) parent e) in
      subst (λ o. d < frames_of o) (slice_is all q) (leb-false _ _ there)
      )) p

  follows : (r s : Role) → may_follow r s ≡ true → MayFollow r s
  follows (Behind d) (Behind e) f = leb-true _ _ f
  follows (Behind d) Root f = tt
  follows (Behind d) (Arm q) f = tt
  follows (Arm p) (Behind e) f = absurd (cc)
  follows (Arm p) Root f = tt
  follows (Arm p) (Arm q) f = tt
  follows Root Root f = tt
  follows Root (Arm q) f = tt
  follows Root (Behind e) f = tt

  in_order : (t u : KeptTask) → is_disordered t.parent t.role u ≡ false → InOrder u t
  in_order t u e p own other =
      let there : (is_child (Some p) u.parent && not (may_follow u.role t.role)) ≡ false =
      subst (λ o. is_disordered o t.role u ≡ false) other e in
      let child : is_child (Some p) u.parent ≡ true = subst (λ o. is_child (Some p) o ≡ true) (sym own) (eq-eqb p p refl) in
      follows u.role t.role (not-false (may_follow u.role t.role) (not_second (is_child (Some p) u.parent)
      (not (may_follow u.role t.role)) there child))

  pub all_in_order : (before : List KeptTask) (frames : ℕ) (ts : List KeptTask) → AllStand c spent all before frames ts →
      EachTwo InOrder before → EachTwo InOrder (before ++ ts)
  all_in_order before frames [] a p = subst (EachTwo InOrder) (sym (append-nil before)) p
  all_in_order before frames (t ∷ ts) a p =
      subst (EachTwo InOrder) (rejoin before t ts)
      (all_in_order (before ++ t ∷ []) (frames + length t.frames) ts a.1
      (two_last InOrder before t p
      (each_as (λ u. is_disordered t.parent t.role u ≡ false) (λ u. InOrder u t) before (in_order t)
      (none_pass (is_disordered t.parent t.role) before a.0.order))))

  frames_last : (before : List KeptTask) (t : KeptTask) → frames_in (before ++ t ∷ []) ≡ frames_in before + length t.frames
  frames_last [] t = omega arith
  frames_last (u ∷ before) t = let rest = frames_last before t in omega arith

  pub frames_few : (before : List KeptTask) (frames : ℕ) (ts : List KeptTask) → AllStand c spent all before frames ts →
      frames ≡ frames_in before → frames_in before ≤ suc spent → frames_in (before ++ ts) ≤ suc spent
  frames_few before frames [] a e low = subst (λ us. frames_in us ≤ suc spent) (sym (append-nil before)) low
  frames_few before frames (t ∷ ts) a e low =
      let sum = frames_last before t in
      let few = a.0.few in
      subst (λ us. frames_in us ≤ suc spent) (rejoin before t ts)
      (frames_few (before ++ t ∷ []) (frames + length t.frames) ts a.1 (omega arith) (omega arith))

  -- ---- arms

  module _ (children : Each ChildStands all) where
    -- the child of a task that is at no group is no arm
    no_arm : (at place : ℕ) (t : KeptTask) → slice_get all at ≡ Some t → is_group (Some t) ≡ false → (parent : Option ℕ) (role : Role)
        (root : Option ℕ) (frames : List KeptFrame) (rest : KeptRest) → child_breaks all parent role ≡ false →
        is_arm_of at place (record { parent = parent; role = role; root = root; frames = frames; rest = rest }) ≡ false
    no_arm at place t there other None role root frames rest e = refl
    no_arm at place t there other (Some q) Root root frames rest e = and-false (eqb at q)
    no_arm at place t there other (Some q) (Behind d) root frames rest e = and-false (eqb at q)
    no_arm at place t there other (Some q) (Arm p) root frames rest e = two (eqb at q) refl
      where
        two : (b : Bool) → eqb at q ≡ b → (b && eqb p place) ≡ false
        two true f =
            (let same : at ≡ q = eqb-true at q f in
            let here : slice_get all q ≡ Some t = subst (λ n. slice_get all n ≡ Some t) same there in
            let group_is : is_group (slice_get all q) ≡ true = not-false (is_group (slice_get all q)) e in
            absurd (cc (here, group_is, other)))
        two false f = refl

    -- an arm of a place that there is not
    not_beyond : (at n place : ℕ) → n ≤ place → (parent : Option ℕ) (role : Role) (root : Option ℕ) (frames : List KeptFrame)
        (rest : KeptRest) →
        is_beyond at n (record { parent = parent; role = role; root = root; frames = frames; rest = rest }) ≡ false →
        is_arm_of at place (record { parent = parent; role = role; root = root; frames = frames; rest = rest }) ≡ false
    not_beyond at n place low None role root frames rest e = refl
    not_beyond at n place low (Some q) Root root frames rest e = and-false (eqb at q)
    not_beyond at n place low (Some q) (Behind d) root frames rest e = and-false (eqb at q)
    not_beyond at n place low (Some q) (Arm p) root frames rest e = two (eqb at q) refl
      where
        three : (b : Bool) → eqb p place ≡ b → leb n p ≡ false → b ≡ false
        three true f g = (let same = eqb-true p place f in let less = leb-false n p g in absurd (omega arith))
        three false f g = refl

        two : (b : Bool) → eqb at q ≡ b → (b && eqb p place) ≡ false
        two true f = three (eqb p place) refl (not_second (eqb at q) (leb n p) e f)
        two false f = refl

    arms_each : (at first i : ℕ) (arms : List (Option Val)) → arms_break all at first arms ≡ false → i < length arms →
        count (is_arm_of at (first + i)) all ≡ unfinished (nth arms i)
    arms_each at first i [] e low = absurd (omega arith)
    arms_each at first zero (arm ∷ arms) e low =
        let p = or_parts (not (eqb (count (is_arm_of at first) all) (unfinished (Some arm)))) (arms_break all at (suc first) arms) e in
        let same : first + 0 ≡ first = omega arith in
        ap (λ n. count (is_arm_of at n) all) same ∙
        eqb-true _ _ (not-false (eqb (count (is_arm_of at first) all) (unfinished (Some arm))) p.0)
    arms_each at first (suc i) (arm ∷ arms) e low =
        let p = or_parts (not (eqb (count (is_arm_of at first) all) (unfinished (Some arm)))) (arms_break all at (suc first) arms) e in
        let same : first + suc i ≡ suc first + i = omega arith in
        ap (λ n. count (is_arm_of at n) all) same ∙ arms_each at (suc first) i arms p.1 (omega arith)

    none_there : (arms : List (Option Val)) (i : ℕ) → length arms ≤ i → nth arms i ≡ None
    none_there [] i low = refl
    none_there (a ∷ arms) zero low = absurd (omega arith)
    none_there (a ∷ arms) (suc i) low = none_there arms i (omega arith)

    is_no_group : (t : KeptTask) (n : ℕ) (cause : Cause) → t.rest ≡ leaf n cause → is_group (Some t) ≡ false
    is_no_group t n cause e = rw e refl

    arms_run : (at : ℕ) (t : KeptTask) (r : KeptRest) → slice_get all at ≡ Some t → t.rest ≡ r → rest_breaks c all at t r ≡ false →
        (place : ℕ) → count (is_arm_of at place) all ≡ unfinished (nth (arms_of r) place)
    arms_run at t (leaf n cause) there same e place =
        count_none (is_arm_of at place) all
        (each_as ChildStands (λ u. is_arm_of at place u ≡ false) all
        (λ u p. no_arm at place t there (is_no_group t n cause same) u.parent u.role u.root u.frames u.rest p) children)
    arms_run at t (group arms) there same e place =
        let p = or_parts (arms_break all at 0 arms || any (is_beyond at (length arms)) all) (group_breaks (task_stand c t) arms) e in
        let q = or_parts (arms_break all at 0 arms) (any (is_beyond at (length arms)) all) p.0 in
        elim (cases_lt place (length arms)) [
          | inl low ↦ ap (λ n. count (is_arm_of at n) all) (none_more place) ∙ arms_each at 0 place arms q.0 low
          | inr high ↦
              count_none (is_arm_of at place) all
              (each_as (λ u. is_beyond at (length arms) u ≡ false) (λ u. is_arm_of at place u ≡ false) all
              (λ u z. not_beyond at (length arms) place high u.parent u.role u.root u.frames u.rest z)
              (none_pass (is_beyond at (length arms)) all q.1))
              ∙ ap unfinished (sym (none_there arms place high))
        ]

    pub all_arms_run : (before : List KeptTask) (frames : ℕ) (ts : List KeptTask) → all ≡ before ++ ts →
        AllStand c spent all before frames ts →
        EachAt (ArmsRun all) (length before) ts
    all_arms_run before frames [] e a = tt
    all_arms_run before frames (t ∷ ts) e a = (
      arms_run (length before) t t.rest (subst (λ us. slice_get us (length before) ≡ Some t) (sym e) (at_place before t ts)) refl a.0.rest,
      subst (λ n. EachAt (ArmsRun all) n ts) (length_more before t)
          (all_arms_run (before ++ t ∷ []) (frames + length t.frames) ts (e ∙ sym (rejoin before t ts)) a.1),
    )

  -- ---- groups

  group_stands : (s : Stand) (arms : List (Option Val)) → group_breaks s arms ≡ false → GroupStands s arms
  group_stands (gathers k m p) arms e =
      let n = count is_running arms in
      let q = or_parts (eqb n 0) (not (eqb k 0 || eqb n (length arms))) e in (
        some n q.0,
        either (eqb k 0) (eqb n (length arms)) refl refl (not-false (eqb k 0 || eqb n (length arms)) q.1),
      )
    where
      some : (n : ℕ) → eqb n 0 ≡ false → 1 ≤ n
      some zero f = absurd (cc)
      some (suc n) f = omega arith

      either : (a b : Bool) → eqb k 0 ≡ a → eqb (count is_running arms) (length arms) ≡ b → (a || b) ≡ true →
          (k ≡ 0) ⊎ (count is_running arms ≡ length arms)
      either true b f g h = inl (eqb-true k 0 f)
      either false true f g h = inr (eqb-true _ _ g)
      either false false f g h = absurd (cc)
  group_stands calls arms e = absurd (cc)
  group_stands sleeps arms e = absurd (cc)
  group_stands stays arms e = absurd (cc)
  group_stands awaits_task arms e = absurd (cc)
  group_stands awaits_event arms e = absurd (cc)
  group_stands goes_on arms e = absurd (cc)

  -- where a task is at a group its arms are as they may be
  abbrev pub ArmsMayStand : KeptTask → Type 0
  ArmsMayStand t = (arms : List (Option Val)) → t.rest ≡ group arms → GroupStands (task_stand c t) arms

  pub groups_stand : (before : List KeptTask) (frames : ℕ) (ts : List KeptTask) → AllStand c spent all before frames ts →
      Each ArmsMayStand ts
  groups_stand before frames [] a = tt
  groups_stand before frames (t ∷ ts) a = (
    λ arms e. (
        let there : rest_breaks c all (length before) t (group arms) ≡ false =
        subst (λ r. rest_breaks c all (length before) t r ≡ false) e a.0.rest in
        let p = or_parts (arms_break all (length before) 0 arms || any (is_beyond (length before) (length arms)) all)
        (group_breaks (task_stand c t) arms) there in
        group_stands (task_stand c t) arms p.1
        ),
    groups_stand (before ++ t ∷ []) (frames + length t.frames) ts a.1,
  )
