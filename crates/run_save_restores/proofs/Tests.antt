-- Of tasks that fit the tests on each fail, one by one.
use Rattle.std.proofs.Common.{◌≡◌, ◌⊎◌, inl, inr, ℕ, suc, ◌+◌, ◌<◌, ◌≤◌, Bool, true, false, eqb, leb, not, ◌&&◌, ◌||◌}
use Rattle.std.proofs.Common.{List, [], ◌∷◌, ◌++◌, length, Option, Some, None, slice_get, refl, sym, ap, subst, ◌∙◌, arith, length-append}
use Rattle.std.proofs.lemmas.Bool.{and_from, and_left, and_right, eq-eqb, eqb-true, le-leb, leb-true, lt-leb, ne_eqb, not_from_true}
use Rattle.std.proofs.lemmas.Bool.{or_from, or_left, or_right}
use Rattle.verse_base.proofs.Facts.{not_first}
use Rattle.task_tree.specs.declared.tasks.Role.{Role}
use Rattle.task_tree.specs.declared.tasks.Role.TheVariants.{Root, Arm, Behind}
use Rattle.task_tree.specs.Tasks.{is_child}
use Rattle.verse_code.specs.declared.codes.Code.{Code}
use Rattle.verse_value.specs.Val.{Val}
use Rattle.verse_meaning_state.specs.Waits.{nth}
use Rattle.verse_meaning_state.proofs.Numbers.{nth_past, slice_is}
use Rattle.run_save_shots.specs.Lists.{Each, EachAt, count}
use Rattle.run_save_shots.specs.Kept.{KeptFrame, KeptRest, leaf, group, KeptTask, Kept}
use Rattle.run_save_shots.specs.Fitting.{ArmsRun, DepthFits, GroupStands, InOrder, MayFollow, ParentBefore, RestFits, Stand, arms_of}
use Rattle.run_save_shots.specs.Fitting.{calls, sleeps, stays, awaits_task, awaits_event, gathers, goes_on, frames_of, is_arm_of}
use Rattle.run_save_shots.specs.Fitting.{is_running, task_stand, unfinished}
use Rattle.run_save_shots.proofs.Lists.{get_some}
use Rattle.run_save_format.specs.Whole.{any, arms_break, child_breaks, group_breaks, is_beyond, is_disordered, is_group, is_later}
use Rattle.run_save_format.specs.Whole.{may_follow, rest_breaks}
use Rattle.run_save_restores.proofs.Counts.{any_none, at_place, each_fails, each_here}

-- ---- parents

pub not_later : (at : ℕ) (t : KeptTask) → ParentBefore at t → is_later at t.parent ≡ false
not_later at t before = by t.parent refl
  where
    by : (parent : Option ℕ) → t.parent ≡ parent → is_later at parent ≡ false
    by None e = refl
    by (Some p) e = lt-leb at p (before p e)

-- ---- arms

-- the arm of a place of the task that stands there
is_an_arm : (at place : ℕ) (parent : Option ℕ) (role : Role) (root : Option ℕ) (frames : List KeptFrame) (rest : KeptRest) →
    parent ≡ Some at → role ≡ Arm place →
    is_arm_of at place (record { parent = parent; role = role; root = root; frames = frames; rest = rest }) ≡ true
is_an_arm at place None role root frames rest e k = absurd (cc)
is_an_arm at place (Some q) Root root frames rest e k = absurd (cc)
is_an_arm at place (Some q) (Behind d) root frames rest e k = absurd (cc)
is_an_arm at place (Some q) (Arm p) root frames rest e k =
    let one : at ≡ q = cc in
    let two : p ≡ place = cc in
    and_from (eqb at q) (eqb p place) (eq-eqb at q one) (eq-eqb p place two)

is_a_group : (t : KeptTask) (arms : List (Option Val)) → t.rest ≡ group arms → is_group (Some t) ≡ true
is_a_group t arms e = rw e refl

-- no task of the list is this arm
abbrev NoneIs : (all : List KeptTask) → (at place : ℕ) → Type 0
NoneIs all at place = Each (λ u. is_arm_of at place u ≡ false) all

none_is : (all : List KeptTask) (at place : ℕ) → count (is_arm_of at place) all ≡ 0 → NoneIs all at place
none_is all at place e = each_fails (is_arm_of at place) all e

module _ {all : List KeptTask} (arms_run : EachAt (ArmsRun all) 0 all) (before : List KeptTask) (t : KeptTask) (ts : List KeptTask) where
  module _ (here : all ≡ before ++ t ∷ ts) where
    -- a task one of whose arms is in the list is at a group
    parent_gathers : (p place : ℕ) (u : KeptTask) → t.parent ≡ Some p → t.role ≡ Arm place → slice_get all p ≡ Some u →
        (r : KeptRest) → u.rest ≡ r → is_group (Some u) ≡ true
    parent_gathers p place u e k there (group arms) same = is_a_group u arms same
    parent_gathers p place u e k there (leaf n cause) same =
        let run = at_place (ArmsRun all) p all u there arms_run in
        let none : count (is_arm_of p place) all ≡ 0 =
        subst (λ r. count (is_arm_of p place) all ≡ unfinished (nth (arms_of r) place)) same (run place) in
        let no : is_arm_of p place t ≡ false =
        each_here (λ u. is_arm_of p place u ≡ false) before t ts here (none_is all p place none) in
        let yes = is_an_arm p place t.parent t.role t.root t.frames t.rest e k in
        absurd (cc (yes, no))

    pub child_stands : ParentBefore (length before) t → DepthFits all t → child_breaks all t.parent t.role ≡ false
    child_stands first deep = by t.parent t.role refl refl
      where
        at_group : (p place : ℕ) → t.parent ≡ Some p → t.role ≡ Arm place → (o : Option KeptTask) → slice_get all p ≡ o →
            is_group o ≡ true
        at_group p place e k (Some u) there = parent_gathers p place u e k there u.rest refl
        at_group p place e k None there =
            let low = first p e in
            let long : length all ≡ length before + suc (length ts) = ap length here ∙ length-append before (t ∷ ts) in
            absurd (get_some all p (omega arith) there)

        by : (parent : Option ℕ) (role : Role) → t.parent ≡ parent → t.role ≡ role → child_breaks all parent role ≡ false
        by None role e k = refl
        by (Some p) Root e k = refl
        by (Some p) (Arm place) e k = not_from_true (is_group (slice_get all p)) (at_group p place e k (slice_get all p) refl)
        by (Some p) (Behind d) e k =
            lt-leb (frames_of (slice_get all p)) d (subst (λ o. d < frames_of o) (sym (slice_is all p)) (deep p d e k))

arms_hold : (all : List KeptTask) (at first : ℕ) (arms : List (Option Val)) →
    ((i : ℕ) → count (is_arm_of at (first + i)) all ≡ unfinished (nth arms i)) → arms_break all at first arms ≡ false
arms_hold all at first [] h = refl
arms_hold all at first (arm ∷ arms) h =
    let here : first ≡ first + 0 = omega arith in
    let test = eqb (count (is_arm_of at first) all) (unfinished (Some arm)) in
    let one : test ≡ true = eq-eqb _ _ (ap (λ n. count (is_arm_of at n) all) here ∙ h 0) in
    or_from (not test) (arms_break all at (suc first) arms) (not_from_true test one) (arms_hold all at (suc first) arms others)
  where
    others : (i : ℕ) → count (is_arm_of at (suc first + i)) all ≡ unfinished (nth arms i)
    others i = let same : suc first + i ≡ first + suc i = omega arith in ap (λ n. count (is_arm_of at n) all) same ∙ h (suc i)

module _ (at n : ℕ) where
  not_beyond : (parent : Option ℕ) (role : Role) (root : Option ℕ) (frames : List KeptFrame) (rest : KeptRest) →
      ((place : ℕ) → n ≤ place →
      is_arm_of at place (record { parent = parent; role = role; root = root; frames = frames; rest = rest }) ≡ false) →
      is_beyond at n (record { parent = parent; role = role; root = root; frames = frames; rest = rest }) ≡ false
  not_beyond None role root frames rest h = refl
  not_beyond (Some q) Root root frames rest h = and_right (eqb at q) false refl
  not_beyond (Some q) (Behind d) root frames rest h = and_right (eqb at q) false refl
  not_beyond (Some q) (Arm p) root frames rest h = two (leb n p) refl
    where
      two : (b : Bool) → leb n p ≡ b → (eqb at q && b) ≡ false
      two true e = and_left (eqb at q) true (not_first (eqb at q) (eqb p p) (h p (leb-true n p e)) (eq-eqb p p refl))
      two false e = and_right (eqb at q) false refl

  none_beyond : (xs : List KeptTask) → ((place : ℕ) → n ≤ place → NoneIs xs at place) → Each (λ u. is_beyond at n u ≡ false) xs
  none_beyond [] h = tt
  none_beyond (x ∷ xs) h = (
    not_beyond x.parent x.role x.root x.frames x.rest (λ place low. (h place low).0),
    none_beyond xs (λ place low. (h place low).1),
  )

group_holds : (s : Stand) (arms : List (Option Val)) → GroupStands s arms → group_breaks s arms ≡ false
group_holds (gathers k m p) arms g =
    or_from (eqb n 0) (not (eqb k 0 || eqb n (length arms))) (ne_eqb n 0 some) (not_from_true (eqb k 0 || eqb n (length arms)) (either g.1))
  where
    n : ℕ
    n = count is_running arms

    some : n ≡ 0 → ⊥
    some e = omega (arith, g.0, e)

    either : (k ≡ 0) ⊎ (n ≡ length arms) → (eqb k 0 || eqb n (length arms)) ≡ true
    either (inl e) = or_left (eqb k 0) (eqb n (length arms)) (eq-eqb k 0 e)
    either (inr e) = or_right (eqb k 0) (eqb n (length arms)) (eq-eqb n (length arms) e)
group_holds calls arms g = absurd g
group_holds sleeps arms g = absurd g
group_holds stays arms g = absurd g
group_holds awaits_task arms g = absurd g
group_holds awaits_event arms g = absurd g
group_holds goes_on arms g = absurd g

-- a task with its arms, whatever it waits for
pub rest_stands : (c : Code) (s : Kept) (all : List KeptTask) (at : ℕ) (t : KeptTask) → ArmsRun all at t →
    RestFits s (task_stand c t) t.rest → rest_breaks c all at t t.rest ≡ false
rest_stands c s all at t run fits = by t.rest refl
  where
    by : (r : KeptRest) → t.rest ≡ r → rest_breaks c all at t r ≡ false
    by (leaf number cause) e = refl
    by (group arms) e =
        or_from (arms_break all at 0 arms || any (is_beyond at (length arms)) all) (group_breaks (task_stand c t) arms)
        (or_from (arms_break all at 0 arms) (any (is_beyond at (length arms)) all) (arms_hold all at 0 arms each)
        (any_none (is_beyond at (length arms)) all (none_beyond at (length arms) all beyond)))
        (group_holds (task_stand c t) arms stand.1)
      where
        stand : RestFits s (task_stand c t) (group arms)
        stand = subst (RestFits s (task_stand c t)) e fits

        own : (place : ℕ) → count (is_arm_of at place) all ≡ unfinished (nth arms place)
        own place = subst (λ r. count (is_arm_of at place) all ≡ unfinished (nth (arms_of r) place)) e (run place)

        each : (i : ℕ) → count (is_arm_of at (0 + i)) all ≡ unfinished (nth arms i)
        each i = let same : 0 + i ≡ i = omega arith in ap (λ n. count (is_arm_of at n) all) same ∙ own i

        beyond : (place : ℕ) → length arms ≤ place → NoneIs all at place
        beyond place low = none_is all at place (own place ∙ ap unfinished (nth_past arms place low))

-- ---- siblings

parent_is : (p : ℕ) (parent : Option ℕ) → is_child (Some p) parent ≡ true → parent ≡ Some p
parent_is p None e = absurd (cc)
parent_is p (Some q) e = ap Some (sym (eqb-true p q e))

may : (r s : Role) → MayFollow r s → may_follow r s ≡ true
may (Behind d) (Behind e) m = le-leb d e m
may (Behind d) Root m = refl
may (Behind d) (Arm q) m = refl
may (Arm p) (Behind e) m = absurd m
may (Arm p) Root m = refl
may (Arm p) (Arm q) m = refl
may Root Root m = refl
may Root (Arm q) m = refl
may Root (Behind e) m = refl

pub is_ordered : (t u : KeptTask) → InOrder u t → is_disordered t.parent t.role u ≡ false
is_ordered t u order = by t.parent refl
  where
    follows : (p : ℕ) → t.parent ≡ Some p → (b : Bool) → is_child (Some p) u.parent ≡ b → (b && not (may_follow u.role t.role)) ≡ false
    follows p e true f =
        not_from_true (may_follow u.role t.role) (may u.role t.role (order p (parent_is p u.parent f) e))
    follows p e false f = refl

    by : (parent : Option ℕ) → t.parent ≡ parent → is_disordered parent t.role u ≡ false
    by None e = refl
    by (Some p) e = follows p e (is_child (Some p) u.parent) refl
