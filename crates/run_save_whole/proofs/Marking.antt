-- What is counted of the arms of a task decides whether they run.
use Rattle.std.proofs.Common.{◌≡◌, ℕ, suc, ◌+◌, ◌<◌, ◌≤◌, Bool, true, false, ◌&&◌, ◌||◌, cond, eqb, ltb, List, [], ◌∷◌}
use Rattle.std.proofs.Common.{length, map, get_or, replicate, Option, Some, None, refl, sym, ap, ◌∙◌, arith}
use Rattle.std.proofs.lemmas.Bool.{ltb-true, ltb-false, le-leb, lt-leb, eqb-true, eqb-false, eq-eqb, ne_eqb}
use Rattle.std.proofs.lemmas.List.{get_or-replicate, get_or-map, length-set, length-map, length-replicate}
use Rattle.std.specs.Prelude.{nat_le}
use Rattle.std.proofs.Math.Bool.{or-false}
use Rattle.task_tree.specs.declared.tasks.Role.{Role}
use Rattle.task_tree.specs.declared.tasks.Role.TheVariants.{Root, Arm, Behind}
use Rattle.verse_code.specs.declared.codes.Code.{Code}
use Rattle.verse_value.specs.Val.{Val}
use Rattle.run_save_shots.specs.Lists.{count}
use Rattle.run_save_shots.specs.Kept.{KeptRest, leaf, group, KeptTask}
use Rattle.run_save_shots.specs.Fitting.{task_stand, arms_of, is_arm_of, unfinished}
use Rattle.run_save_format.specs.Whole.{any, arms_break, is_beyond, rest_breaks}
use Rattle.run_save_whole.specs.Tallies.{one_more, Marks, unmarked, marked, with_arm, with_arms, no_marks, all_marks}
use Rattle.run_save_whole.specs.Tallies.{wrong_arm, wrong_rest, rest_wrong}
use Rattle.run_save_whole.proofs.Counting.{mores, decides, one_of_more, put, more_at}

-- ---- one task

-- what a task more does to the marks of the one at a place
abbrev step : ℕ → Option ℕ → Role → Marks → Marks
step at (Some parent) (Arm place) m = cond (eqb at parent) (marked m place) m
step at parent role m = m

abbrev pub after : ℕ → List KeptTask → Marks → Marks
after at [] m = m
after at (t ∷ ts) m = after at ts (step at t.parent t.role m)

same_marks : (ms : List Marks) (at parent place : ℕ) →
    cond (eqb at parent) (marked (get_or ms parent unmarked) place) (get_or ms at unmarked) ≡
    cond (eqb at parent) (marked (get_or ms at unmarked) place) (get_or ms at unmarked)
same_marks ms at parent place = by (eqb at parent) refl
  where
    by : (b : Bool) → eqb at parent ≡ b →
        cond (eqb at parent) (marked (get_or ms parent unmarked) place) (get_or ms at unmarked) ≡
        cond (eqb at parent) (marked (get_or ms at unmarked) place) (get_or ms at unmarked)
    by true e = let same : at ≡ parent = eqb-true at parent e in
        rw e (ap (λ n. marked (get_or ms n unmarked) place) (sym same))
    by false e = rw e refl

arm_at : (ms : List Marks) (parent : Option ℕ) (role : Role) (at : ℕ) → at < length ms →
    get_or (with_arm ms parent role) at unmarked ≡ step at parent role (get_or ms at unmarked)
arm_at ms None role at lt = refl
arm_at ms (Some parent) Root at lt = refl
arm_at ms (Some parent) (Behind depth) at lt = refl
arm_at ms (Some parent) (Arm place) at lt =
    put ms parent at (marked (get_or ms parent unmarked) place) unmarked lt ∙ same_marks ms at parent place

arm_long : (ms : List Marks) (parent : Option ℕ) (role : Role) → length (with_arm ms parent role) ≡ length ms
arm_long ms None role = refl
arm_long ms (Some parent) Root = refl
arm_long ms (Some parent) (Behind depth) = refl
arm_long ms (Some parent) (Arm place) = length-set ms parent (marked (get_or ms parent unmarked) place)

arms_at : (ts : List KeptTask) (ms : List Marks) (at : ℕ) → at < length ms →
    get_or (with_arms ms ts) at unmarked ≡ after at ts (get_or ms at unmarked)
arms_at [] ms at lt = refl
arms_at (t ∷ ts) ms at lt =
    let l : length (with_arm ms t.parent t.role) ≡ length ms = arm_long ms t.parent t.role in
    arms_at ts (with_arm ms t.parent t.role) at (omega (arith, l, lt)) ∙ ap (after at ts) (arm_at ms t.parent t.role at lt)

pub arms_long : (ts : List KeptTask) (ms : List Marks) → length (with_arms ms ts) ≡ length ms
arms_long [] ms = refl
arms_long (t ∷ ts) ms = arms_long ts (with_arm ms t.parent t.role) ∙ arm_long ms t.parent t.role

-- ---- its marks

marked_long : (m : Marks) (place : ℕ) → length (marked m place).0 ≡ length m.0
marked_long m place = by (ltb place (length m.0)) refl
  where
    by : (b : Bool) → ltb place (length m.0) ≡ b → length (marked m place).0 ≡ length m.0
    by true e = rw e (length-set m.0 place (one_more (get_or m.0 place 0)))
    by false e = rw e refl

step_long : (at : ℕ) (parent : Option ℕ) (role : Role) (m : Marks) → length (step at parent role m).0 ≡ length m.0
step_long at None role m = refl
step_long at (Some parent) Root m = refl
step_long at (Some parent) (Behind depth) m = refl
step_long at (Some parent) (Arm place) m = by (eqb at parent) refl
  where
    by : (b : Bool) → eqb at parent ≡ b → length (step at (Some parent) (Arm place) m).0 ≡ length m.0
    by true e = rw e (marked_long m place)
    by false e = rw e refl

pub after_long : (at : ℕ) (ts : List KeptTask) (m : Marks) → length (after at ts m).0 ≡ length m.0
after_long at [] m = refl
after_long at (t ∷ ts) m = after_long at ts (step at t.parent t.role m) ∙ step_long at t.parent t.role m

marked_at : (m : Marks) (here place : ℕ) → place < length m.0 →
    get_or (marked m here).0 place 0 ≡ cond (eqb here place) (one_more (get_or m.0 place 0)) (get_or m.0 place 0)
marked_at m here place lt = by (ltb here (length m.0)) refl
  where
    turned : (b : Bool) → eqb place here ≡ b → cond (eqb place here) (one_more (get_or m.0 place 0)) (get_or m.0 place 0) ≡
        cond (eqb here place) (one_more (get_or m.0 place 0)) (get_or m.0 place 0)
    turned true e = let o : eqb here place ≡ true = eq-eqb here place (sym (eqb-true place here e)) in rw (e, o) refl
    turned false e = let o : eqb here place ≡ false = ne_eqb here place (λ k. eqb-false place here e (sym k)) in rw (e, o) refl

    by : (b : Bool) → ltb here (length m.0) ≡ b →
        get_or (marked m here).0 place 0 ≡ cond (eqb here place) (one_more (get_or m.0 place 0)) (get_or m.0 place 0)
    by true e = rw e (more_at m.0 here place lt ∙ turned (eqb place here) refl)
    by false e =
        let o : eqb here place ≡ false = ne_eqb here place (λ k. omega (arith, k, lt, ltb-false here (length m.0) e)) in rw (e, o) refl

is_marked : (at place : ℕ) (t : KeptTask) (m : Marks) → place < length m.0 → get_or (step at t.parent t.role m).0 place 0 ≡
    cond (is_arm_of at place t) (one_more (get_or m.0 place 0)) (get_or m.0 place 0)
is_marked at place t m lt = of t.parent t.role refl refl
  where
    of : (p : Option ℕ) (r : Role) → t.parent ≡ p → t.role ≡ r → get_or (step at t.parent t.role m).0 place 0 ≡
        cond (is_arm_of at place t) (one_more (get_or m.0 place 0)) (get_or m.0 place 0)
    of None r e f = rw (e, f) refl
    of (Some p) Root e f = rw (e, f) (none (eqb at p))
      where
        none : (b : Bool) → get_or m.0 place 0 ≡ cond (b && false) (one_more (get_or m.0 place 0)) (get_or m.0 place 0)
        none true = refl
        none false = refl
    of (Some p) (Behind d) e f = rw (e, f) (none (eqb at p))
      where
        none : (b : Bool) → get_or m.0 place 0 ≡ cond (b && false) (one_more (get_or m.0 place 0)) (get_or m.0 place 0)
        none true = refl
        none false = refl
    of (Some p) (Arm here) e f = rw (e, f) (some (eqb at p))
      where
        some : (b : Bool) → get_or (cond b (marked m here) m).0 place 0 ≡
            cond (b && eqb here place) (one_more (get_or m.0 place 0)) (get_or m.0 place 0)
        some true = marked_at m here place lt
        some false = refl

counts_at : (at place : ℕ) (ts : List KeptTask) (m : Marks) → place < length m.0 →
    get_or (after at ts m).0 place 0 ≡ mores (count (is_arm_of at place) ts) (get_or m.0 place 0)
counts_at at place [] m lt = refl
counts_at at place (t ∷ ts) m lt =
    let l : length (step at t.parent t.role m).0 ≡ length m.0 = step_long at t.parent t.role m in
    counts_at at place ts (step at t.parent t.role m) (omega (arith, l, lt)) ∙
    ap (mores (count (is_arm_of at place) ts)) (is_marked at place t m lt) ∙
    sym (one_of_more (is_arm_of at place) t ts (get_or m.0 place 0))

-- ---- arms of other places

marked_beyond : (m : Marks) (here : ℕ) → (marked m here).1 ≡ (nat_le (length m.0) here || m.1)
marked_beyond m here = by (ltb here (length m.0)) refl
  where
    by : (b : Bool) → ltb here (length m.0) ≡ b → (marked m here).1 ≡ (nat_le (length m.0) here || m.1)
    by true e = let o : nat_le (length m.0) here ≡ false = lt-leb (length m.0) here (ltb-true here (length m.0) e) in rw (e, o) refl
    by false e = let o : nat_le (length m.0) here ≡ true = le-leb (length m.0) here (ltb-false here (length m.0) e) in rw (e, o) refl

is_other : (at : ℕ) (t : KeptTask) (m : Marks) → (step at t.parent t.role m).1 ≡ (is_beyond at (length m.0) t || m.1)
is_other at t m = of t.parent t.role refl refl
  where
    of : (p : Option ℕ) (r : Role) → t.parent ≡ p → t.role ≡ r →
        (step at t.parent t.role m).1 ≡ (is_beyond at (length m.0) t || m.1)
    of None r e f = rw (e, f) refl
    of (Some p) Root e f = rw (e, f) (none (eqb at p))
      where
        none : (b : Bool) → m.1 ≡ ((b && false) || m.1)
        none true = refl
        none false = refl
    of (Some p) (Behind d) e f = rw (e, f) (none (eqb at p))
      where
        none : (b : Bool) → m.1 ≡ ((b && false) || m.1)
        none true = refl
        none false = refl
    of (Some p) (Arm here) e f = rw (e, f) (some (eqb at p))
      where
        some : (b : Bool) → (cond b (marked m here) m).1 ≡ ((b && nat_le (length m.0) here) || m.1)
        some true = marked_beyond m here
        some false = refl

turn : (a b c : Bool) → (a || (b || c)) ≡ ((b || a) || c)
turn true true c = refl
turn true false c = refl
turn false true c = refl
turn false false c = refl

beyond_at : (at : ℕ) (ts : List KeptTask) (m : Marks) → (after at ts m).1 ≡ (any (is_beyond at (length m.0)) ts || m.1)
beyond_at at [] m = refl
beyond_at at (t ∷ ts) m =
    let l : length (step at t.parent t.role m).0 ≡ length m.0 = step_long at t.parent t.role m in
    beyond_at at ts (step at t.parent t.role m) ∙ ap (λ n. any (is_beyond at n) ts || (step at t.parent t.role m).1) l ∙
    ap (λ b. any (is_beyond at (length m.0)) ts || b) (is_other at t m) ∙
    turn (any (is_beyond at (length m.0)) ts) (is_beyond at (length m.0) t) m.1

-- ---- together

few : (arm : Option Val) → unfinished (Some arm) ≤ 1
few None = omega arith
few (Some v) = omega arith

arms_decided : (ts : List KeptTask) (at : ℕ) (counts : List ℕ) (arms n : ℕ) (vs : List (Option Val)) → n + length vs ≡ arms →
    ((place : ℕ) → place < arms → get_or counts place 0 ≡ mores (count (is_arm_of at place) ts) 0) →
    wrong_arm counts n vs ≡ arms_break ts at n vs
arms_decided ts at counts arms n [] long h = refl
arms_decided ts at counts arms n (v ∷ vs) long h =
    let same : eqb (get_or counts n 0) (unfinished (Some v)) ≡ eqb (count (is_arm_of at n) ts) (unfinished (Some v)) =
    ap (λ k. eqb k (unfinished (Some v))) (h n (omega (arith, long))) ∙
    decides (count (is_arm_of at n) ts) (unfinished (Some v)) (few v) in
    let rest : wrong_arm counts (suc n) vs ≡ arms_break ts at (suc n) vs =
    arms_decided ts at counts arms (suc n) vs (omega (arith, long)) h in
    rw (same, rest) refl

rest_with : (c : Code) (ts : List KeptTask) (at : ℕ) (t : KeptTask) (r : KeptRest) →
    wrong_rest (task_stand c t) (after at ts (replicate (length (arms_of r)) 0, false)) r ≡ rest_breaks c ts at t r
rest_with c ts at t (leaf number cause) = refl
rest_with c ts at t (group arms) =
    let l : length {A = ℕ} (replicate (length arms) 0) ≡ length arms = length-replicate (length arms) 0 in
    let one : wrong_arm (after at ts (replicate (length arms) 0, false)).0 0 arms ≡ arms_break ts at 0 arms =
    arms_decided ts at (after at ts (replicate (length arms) 0, false)).0 (length arms) 0 arms (omega arith)
    (λ place lt. counts_at at place ts (replicate (length arms) 0, false) (omega (arith, l, lt)) ∙
    ap (mores (count (is_arm_of at place) ts)) (get_or-replicate (length arms) place 0 0 lt)) in
    let two : (after at ts (replicate (length arms) 0, false)).1 ≡ any (is_beyond at (length arms)) ts =
    beyond_at at ts (replicate (length arms) 0, false) ∙ or-false _ ∙ ap (λ n. any (is_beyond at n) ts) l in
    rw (one, two) refl

-- the marks of the task at a place
pub marks_at : (ts : List KeptTask) (at : ℕ) (d : KeptTask) → at < length ts →
    get_or (all_marks ts) at unmarked ≡ after at ts (no_marks (get_or ts at d))
marks_at ts at d lt =
    let l : length (map no_marks ts) ≡ length ts = length-map ts no_marks in
    arms_at ts (map no_marks ts) at (omega (arith, l, lt)) ∙ ap (after at ts) (get_or-map no_marks ts at d unmarked lt)

pub rest_decided : (c : Code) (ts : List KeptTask) (at : ℕ) (t : KeptTask) → at < length ts → get_or ts at t ≡ t →
    rest_wrong c t (get_or (all_marks ts) at unmarked) ≡ rest_breaks c ts at t t.rest
rest_decided c ts at t lt e = rw (marks_at ts at t lt, e) (rest_with c ts at t t.rest)

-- a task has a count for each arm
pub marks_long : (ts : List KeptTask) (at : ℕ) (t : KeptTask) → at < length ts → get_or ts at t ≡ t →
    length (get_or (all_marks ts) at unmarked).0 ≡ length (arms_of t.rest)
marks_long ts at t lt e =
    rw (marks_at ts at t lt, e) (after_long at ts (no_marks t) ∙ length-replicate (length (arms_of t.rest)) 0)
