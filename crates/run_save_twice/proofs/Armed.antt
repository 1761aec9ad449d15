-- The arms of a group that is kept, and the other children of its task.
use Rattle.std.proofs.Common.{◌≡◌, ℕ, zero, suc, ◌+◌, ◌<◌, ◌≤◌, Bool, true, false, cond, eqb, List, [], ◌∷◌, ◌++◌}
use Rattle.std.proofs.Common.{length}
use Rattle.std.proofs.Common.{Option, Some, None, refl, sym, ap, subst, ◌∙◌, append_assoc, arith}
use Rattle.std.proofs.Math.Nat.{mul-suc}
use Rattle.std.proofs.lemmas.Bool.{eqb-true, and_parts}
use Rattle.std.proofs.lemmas.List.{length-append}
use Rattle.task_tree.specs.Tasks.{is_child}
use Rattle.task_tree.specs.declared.tasks.Role.{Role}
use Rattle.task_tree.specs.declared.tasks.Role.TheVariants.{Root, Arm, Behind}
use Rattle.verse_code.specs.declared.codes.Code.{Code}
use Rattle.verse_value.specs.Val.{Val}
use Rattle.verse_meaning_state.specs.Waits.{eqn, ltn, nth}
use Rattle.verse_meaning_state.proofs.Numbers.{eqn_is, ltn_is, ltn_yes}
use Rattle.verse_code_machine.specs.Tasks.{Part, did, runs}
use Rattle.verse_code_machine.specs.Ends.{is_run}
use Rattle.vm_tasks_laws.specs.Slots.{arms_at, ArmedBy}
use Rattle.run_save_shots.specs.Lists.{EachAt, count, from}
use Rattle.run_save_shots.specs.Kept.{KeptFrame, KeptRest, group, KeptTask, Kept}
use Rattle.run_save_shots.specs.Fitting.{Stand, calls, sleeps, stays, awaits_task, awaits_event, gathers, goes_on, task_stand, arms_of}
use Rattle.run_save_shots.specs.Fitting.{unfinished}
use Rattle.run_save_shots.specs.Fitting.{is_arm_of, ParentBefore, ArmsRun, Fits}
use Rattle.run_save_shots.specs.Naming.{number_at, arm_at}
use Rattle.run_save_shots.specs.Spelling.{gathered, parts_from, rest}
use Rattle.run_save_fits.specs.Held.{one}
use Rattle.run_save_kept.specs.Orders.{runs_in}
use Rattle.run_save_numbers.proofs.Firsts.{number_more}
use Rattle.run_save_trees.specs.Arms.{above}
use Rattle.run_save_trees.proofs.Firsts.{each_at_here}
use Rattle.run_save_trees.proofs.Arms.{arms_youngest}

-- ---- lists

module _ {A : Type 0} where
  -- the first that passes a test
  pub record First (test : A → Bool) (xs : List A) : Type 0 where
    pub mid : List A
    pub it : A
    pub behind : List A
    pub is : xs ≡ mid ++ it ∷ behind
    pub passes : test it ≡ true
    pub first : from test xs ≡ it ∷ behind

  find_first : (test : A → Bool) (xs : List A) → 1 ≤ count test xs → First test xs
  find_first test [] l = absurd (omega (arith, l))
  find_first test (x ∷ xs) l = by (test x) refl l (λ k. find_first test xs k)
    where
      by : (b : Bool) → test x ≡ b → 1 ≤ cond b (suc (count test xs)) (count test xs) → (1 ≤ count test xs → First test xs) →
          First test (x ∷ xs)
      by true e k f = record {
        mid = [];
        it = x;
        behind = xs;
        is = refl;
        passes = e;
        first = ap (λ b. cond b (x ∷ xs) (from test xs)) e;
      }
      by false e k f = let r = f k in record {
        mid = x ∷ r.mid;
        it = r.it;
        behind = r.behind;
        is = ap (λ w. x ∷ w) r.is;
        passes = r.passes;
        first = ap (λ b. cond b (x ∷ xs) (from test xs)) e ∙ r.first;
      }

  count_join : (test : A → Bool) (xs ys : List A) → count test (xs ++ ys) ≡ count test xs + count test ys
  count_join test [] ys = omega arith
  count_join test (x ∷ xs) ys = by (test x) (count_join test xs ys)
    where
      by : (b : Bool) → count test (xs ++ ys) ≡ count test xs + count test ys →
          cond b (suc (count test (xs ++ ys))) (count test (xs ++ ys)) ≡ cond b (suc (count test xs)) (count test xs) + count test ys
      by true e = omega (arith, e)
      by false e = e

  at_front : (P : ℕ → A → Type 0) (n : ℕ) (xs ys : List A) → EachAt P n (xs ++ ys) → EachAt P n xs
  at_front P n [] ys e = tt
  at_front P n (x ∷ xs) ys e = (e.0, at_front P (suc n) xs ys e.1)

  -- what stands behind one place and before another
  pub record Between (ts : List A) (u : A) (us : List A) : Type 0 where
    pub mid : List A
    pub is : ts ≡ mid ++ u ∷ us

  pub between : (xs : List A) (t : A) (ts zs : List A) (u : A) (us : List A) → xs ++ t ∷ ts ≡ zs ++ u ∷ us → length xs < length zs →
      Between ts u us
  between [] t ts [] u us e l = absurd (omega (arith, l))
  between [] t ts (z ∷ zs) u us e l = record { mid = zs; is = cc }
  between (x ∷ xs) t ts [] u us e l = absurd (omega (arith, l))
  between (x ∷ xs) t ts (z ∷ zs) u us e l =
      let tails : xs ++ t ∷ ts ≡ zs ++ u ∷ us = cc in between xs t ts zs u us tails (omega (arith, l))

-- ---- roles

its_parent : (at : ℕ) (o : Option ℕ) → is_child (Some at) o ≡ true → o ≡ Some at
its_parent at None e = absurd (cc)
its_parent at (Some p) e = ap (λ n. Some n) (sym (eqb-true at p e))

arm_parent : (at place : ℕ) (u : KeptTask) → is_arm_of at place u ≡ true → u.parent ≡ Some at
arm_parent at place u e = its_parent at u.parent (and_parts (is_child (Some at) u.parent) _ e).0

arm_role : (at place : ℕ) (parent : Option ℕ) (r : Role) (root : Option ℕ) (fs : List KeptFrame) (q : KeptRest) →
    is_arm_of at place (record { parent = parent; role = r; root = root; frames = fs; rest = q }) ≡ true → r ≡ Arm place
arm_role at place parent Root root fs q e =
    let f : false ≡ true = (and_parts (is_child (Some at) parent) false e).1 in absurd (cc)
arm_role at place parent (Behind d) root fs q e =
    let f : false ≡ true = (and_parts (is_child (Some at) parent) false e).1 in absurd (cc)
arm_role at place parent (Arm p) root fs q e = ap (λ n. Arm n) (eqb-true p place (and_parts (is_child (Some at) parent) (eqb p place) e).1)

role_of : (at place : ℕ) (u : KeptTask) → is_arm_of at place u ≡ true → u.role ≡ Arm place
role_of at place u e = arm_role at place u.parent u.role u.root u.frames u.rest e

-- ---- parts

run_some : (n : ℕ) (gs : List Part) → is_run n gs ≡ true → 1 ≤ runs_in n gs
run_some n [] e = absurd (cc)
run_some n (did v ∷ gs) e = run_some n gs e
run_some n (runs m ∷ gs) e = by (eqn n m) e (run_some n gs)
  where
    by : (b : Bool) → cond b true (is_run n gs) ≡ true → (is_run n gs ≡ true → 1 ≤ runs_in n gs) → 1 ≤ one b + runs_in n gs
    by true f g = omega arith
    by false f g = let l = g f in omega (arith, l)

-- whatever operation it stands at
armed_in : (c : Code) (since n : ℕ) (st : Stand) (gs : List Part) → ArmedBy since (arms_at (gathered c st gs)) n → ltn n since ≡ is_run n gs
armed_in c since n calls gs a = a
armed_in c since n sleeps gs a = a
armed_in c since n stays gs a = a
armed_in c since n awaits_task gs a = a
armed_in c since n awaits_event gs a = a
armed_in c since n (gathers i m p) gs a = a
armed_in c since n goes_on gs a = a

-- ---- numbers

module _ (s : Kept) where
  next : (t : KeptTask) (ts : List KeptTask) → number_at s (t ∷ ts) ≡ number_at s ts + suc s.spent
  next t ts = omega (arith, mul-suc (suc s.spent) (length ts))

  deeper : (mid ts : List KeptTask) → number_at s ts ≤ number_at s (mid ++ ts)
  deeper [] ts = omega arith
  deeper (m ∷ mid) ts = let a = deeper mid ts in let b = number_more s m (mid ++ ts) in omega (arith, a, b)

  -- the number tells the task
  same_number : (mid : List KeptTask) (u : KeptTask) (us nid : List KeptTask) (v : KeptTask) (vs : List KeptTask) →
      mid ++ u ∷ us ≡ nid ++ v ∷ vs → number_at s (u ∷ us) ≡ number_at s (v ∷ vs) → u ≡ v
  same_number [] u us [] v vs e f = cc
  same_number [] u us (n ∷ nid) v vs e f =
      let tails : us ≡ nid ++ v ∷ vs = cc in
      let a = deeper nid (v ∷ vs) in
      let b = next u us in
      let d = ap (number_at s) tails in absurd (omega (arith, a, b, d, f))
  same_number (m ∷ mid) u us [] v vs e f =
      let tails : mid ++ u ∷ us ≡ vs = cc in
      let a = deeper mid (u ∷ us) in
      let b = next v vs in
      let d = ap (number_at s) tails in absurd (omega (arith, a, b, d, f))
  same_number (m ∷ mid) u us (n ∷ nid) v vs e f =
      let tails : mid ++ u ∷ us ≡ nid ++ v ∷ vs = cc in same_number mid u us nid v vs tails f

-- ---- a task that is kept

module _ (c : Code) (s : Kept) (fits : Fits c s) (before : List KeptTask) (t : KeptTask) (ts : List KeptTask) (all : s.tasks ≡ before ++ t
    ∷ ts)
  where
    abbrev at : ℕ
    at = length before

    -- its child of a number
    pub record ChildOf (n : ℕ) : Type 0 where
      pub mid : List KeptTask
      pub it : KeptTask
      pub behind : List KeptTask
      pub is : ts ≡ mid ++ it ∷ behind
      pub parent : it.parent ≡ Some at
      pub number : number_at s (it ∷ behind) ≡ n

    -- which is the arm of a place
    record ArmOf (place n : ℕ) : Type 0 where
      pub child : ChildOf n
      pub role : child.it.role ≡ Arm place

    none_before : (place n : ℕ) (xs : List KeptTask) → EachAt ParentBefore n xs → n + length xs ≤ suc at → count (is_arm_of at place) xs ≡ 0
    none_before place n [] e l = refl
    none_before place n (x ∷ xs) e l = by (is_arm_of at place x) refl (none_before place (suc n) xs e.1 (omega (arith, l)))
      where
        by : (b : Bool) → is_arm_of at place x ≡ b → count (is_arm_of at place) xs ≡ 0 →
            cond b (suc (count (is_arm_of at place) xs)) (count (is_arm_of at place) xs) ≡ 0
        by true f g = let k = e.0 at (arm_parent at place x f) in absurd (omega (arith, k, l))
        by false f g = g

    whole : s.tasks ≡ (before ++ t ∷ []) ++ ts
    whole = all ∙ sym (append_assoc before (t ∷ []) ts)

    arm_found : (place : ℕ) → First (is_arm_of at place) ts → ArmOf place (arm_at s at place ts)
    arm_found place r = record {
      child = record {
        mid = r.mid;
        it = r.it;
        behind = r.behind;
        is = r.is;
        parent = arm_parent at place r.it r.passes;
        number = ap (number_at s) (sym r.first);
      };
      role = role_of at place r.it r.passes;
    }

    arm_there : (place : ℕ) → nth (arms_of t.rest) place ≡ Some None → ArmOf place (arm_at s at place ts)
    arm_there place e =
        let runs_there : ArmsRun s.tasks at t =
        each_at_here (ArmsRun s.tasks) 0 before t ts (subst (λ xs. EachAt (ArmsRun s.tasks) 0 xs) all fits.arms) at (omega arith) in
        let none = none_before place 0 (before ++ t ∷ [])
        (at_front ParentBefore 0 (before ++ t ∷ []) ts (subst (λ xs. EachAt ParentBefore 0 xs) whole fits.parents))
        (omega (arith, length-append before (t ∷ []))) in
        let sum = ap (count (is_arm_of at place)) whole ∙ count_join (is_arm_of at place) (before ++ t ∷ []) ts in
        let one_arm : count (is_arm_of at place) s.tasks ≡ 1 = runs_there place ∙ ap unfinished e in
        arm_found place (find_first (is_arm_of at place) ts (omega (arith, none, sum, one_arm)))

    -- a place of the arms that run as the task of a number
    record PlaceOf (place n : ℕ) (vs : List (Option Val)) : Type 0 where
      pub further : ℕ
      pub there : nth vs further ≡ Some None
      pub number : arm_at s at (place + further) ts ≡ n

    place_of : (place n : ℕ) (vs : List (Option Val)) → 1 ≤ runs_in n (parts_from c s at t ts place vs) → PlaceOf place n vs
    place_of place n [] l = absurd (omega (arith, l))
    place_of place n (Some v ∷ vs) l =
        let r = place_of (suc place) n vs l in
        let same : place + suc r.further ≡ suc place + r.further = omega arith in
        record { further = suc r.further; there = r.there; number = ap (λ p. arm_at s at p ts) same ∙ r.number }
    place_of place n (None ∷ vs) l = by (eqn n (arm_at s at place ts)) refl l (place_of (suc place) n vs)
      where
        by : (b : Bool) → eqn n (arm_at s at place ts) ≡ b → 1 ≤ one b + runs_in n (parts_from c s at t ts (suc place) vs) →
            (1 ≤ runs_in n (parts_from c s at t ts (suc place) vs) → PlaceOf (suc place) n vs) → PlaceOf place n (None ∷ vs)
        by true e k f =
            let same : place + 0 ≡ place = omega arith in
            record {
              further = 0;
              there = refl;
              number = ap (λ p. arm_at s at p ts) same ∙ sym (eqn_is n (arm_at s at place ts) e);
            }
        by false e k f =
            let r = f (omega (arith, k)) in
            let same : place + suc r.further ≡ suc place + r.further = omega arith in
            record { further = suc r.further; there = r.there; number = ap (λ p. arm_at s at p ts) same ∙ r.number }

    one_place : (p q n : ℕ) → ArmOf p n → ArmOf q n → p ≡ q
    one_place p q n a b =
        let same = same_number s a.child.mid a.child.it a.child.behind b.child.mid b.child.it b.child.behind
        (sym a.child.is ∙ b.child.is) (a.child.number ∙ sym b.child.number) in
        let roles : Arm p ≡ Arm q = sym a.role ∙ (ap (λ (u : KeptTask). u.role) same ∙ b.role) in cc

    runs_once : (place n : ℕ) (vs : List (Option Val)) →
        ((q : ℕ) → nth vs q ≡ Some None → ArmOf (place + q) (arm_at s at (place + q) ts)) → runs_in n (parts_from c s at t ts place vs) ≤ 1
    runs_once place n [] f = omega arith
    runs_once place n (Some v ∷ vs) f = runs_once (suc place) n vs (later place vs (λ q. f (suc q)))
      where
        later : (place : ℕ) (vs : List (Option Val)) → ((q : ℕ) → nth vs q ≡ Some None →
            ArmOf (place + suc q) (arm_at s at (place + suc q) ts)) →
            (q : ℕ) → nth vs q ≡ Some None → ArmOf (suc place + q) (arm_at s at (suc place + q) ts)
        later place vs f q e = let same : place + suc q ≡ suc place + q = omega arith in
            subst (λ p. ArmOf p (arm_at s at p ts)) same (f q e)
    runs_once place n (None ∷ vs) f = by (eqn n (arm_at s at place ts)) refl (runs_once (suc place) n vs more)
      where
        more : (q : ℕ) → nth vs q ≡ Some None → ArmOf (suc place + q) (arm_at s at (suc place + q) ts)
        more q e = let same : place + suc q ≡ suc place + q = omega arith in
            subst (λ p. ArmOf p (arm_at s at p ts)) same (f (suc q) e)

        none_more : n ≡ arm_at s at place ts → (m : ℕ) → runs_in n (parts_from c s at t ts (suc place) vs) ≡ m → m ≡ 0
        none_more e zero g = refl
        none_more e (suc m) g =
            let r = place_of (suc place) n vs (omega (arith, g)) in
            let start : place + 0 ≡ place = omega arith in
            let here : ArmOf place n =
            subst (λ k. ArmOf place k) (sym e) (subst (λ p. ArmOf p (arm_at s at p ts)) start (f 0 refl)) in
            let there : ArmOf (suc place + r.further) n =
            subst (λ k. ArmOf (suc place + r.further) k) r.number (more r.further r.there) in
            let same = one_place place (suc place + r.further) n here there in absurd (omega (arith, same))

        by : (b : Bool) → eqn n (arm_at s at place ts) ≡ b → runs_in n (parts_from c s at t ts (suc place) vs) ≤ 1 →
            one b + runs_in n (parts_from c s at t ts (suc place) vs) ≤ 1
        by true e l = let z = none_more (eqn_is n (arm_at s at place ts) e) _ refl in omega (arith, z)
        by false e l = omega (arith, l)

    module _ (arms : List (Option Val)) (stands : t.rest ≡ group arms) where
      abbrev parts : List Part
      parts = parts_from c s at t ts 0 arms

      arm_at_place : (q : ℕ) → nth arms q ≡ Some None → ArmOf (0 + q) (arm_at s at (0 + q) ts)
      arm_at_place q e =
          let start : q ≡ 0 + q = omega arith in
          subst (λ p. ArmOf p (arm_at s at p ts)) start (arm_there q (ap (λ r. nth (arms_of r) q) stands ∙ e))

      pub once : (n : ℕ) → runs_in n parts ≤ 1
      once n = runs_once 0 n arms arm_at_place

      -- an arm that runs is a child
      pub arm_is_child : (n : ℕ) → 1 ≤ runs_in n parts → ChildOf n
      arm_is_child n l =
          let r = place_of 0 n arms l in subst (λ k. ChildOf k) r.number (arm_at_place r.further r.there).child

      -- a child is an arm where it began late enough
      armed : (n : ℕ) → ChildOf n → ltn n (suc (above s at t ts)) ≡ is_run n parts
      armed n a =
          armed_in c (suc (above s at t ts)) n (task_stand c t) parts
          (subst (λ r. ArmedBy (suc (above s at t ts)) (arms_at (rest c s at t ts r)) n) stands
          (subst (λ k. ArmedBy (suc (above s at t ts)) (arms_at (rest c s at t ts t.rest)) k) a.number
          (subst (λ xs. ArmedBy (suc (above s at t xs)) (arms_at (rest c s at t xs t.rest)) (number_at s (a.it ∷ a.behind))) (sym a.is)
          (arms_youngest c s before t a.mid a.it a.behind fits (record {
            all = all ∙ ap (λ xs. before ++ t ∷ xs) a.is;
            parent = a.parent;
          })))))

      -- so a child that began no earlier than an arm is one
      pub later_is_arm : (n m : ℕ) → n ≤ m → is_run m parts ≡ true → ChildOf n → is_run n parts ≡ true
      later_is_arm n m le e a =
          let b = armed m (arm_is_child m (run_some m parts e)) in
          let l = ltn_is m (suc (above s at t ts)) (b ∙ e) in
          sym (armed n a) ∙ ltn_yes n (suc (above s at t ts)) (omega (arith, le, l))
