-- What is counted of the tasks before one decides whether it breaks a rule.
use Rattle.std.proofs.Common.{◌≡◌, ℕ, suc, ◌+◌, ◌<◌, ◌≤◌, Bool, true, false, not, ◌&&◌, ◌||◌, cond, eqb, max, List, [], ◌∷◌, ◌++◌}
use Rattle.std.proofs.Common.{length, get_or, replicate, Option, Some, None, refl, sym, ap, ◌∙◌, arith}
use Rattle.std.proofs.lemmas.Bool.{ltb-true, ltb-false, lt-ltb, le-ltb, leb-true, leb-false, eqb-true}
use Rattle.std.proofs.lemmas.List.{get_or-replicate, length-set, length-replicate, length-append, append_assoc}
use Rattle.std.specs.Prelude.{nat_le, nat_lt, if◌then◌else◌}
use Rattle.std.proofs.Math.Bool.{or-false}
use Rattle.task_tree.specs.declared.tasks.Role.{Role}
use Rattle.task_tree.specs.declared.tasks.Role.TheVariants.{Root, Arm, Behind}
use Rattle.verse_code.specs.declared.codes.Code.{Code}
use Rattle.run_save_shots.specs.Kept.{KeptTask}
use Rattle.run_save_shots.specs.Fitting.{is_root, is_child_of}
use Rattle.run_save_format.specs.Whole.{any, is_later, child_breaks, may_follow, is_disordered, rest_breaks, breaks_task, broken_task}
use Rattle.run_save_whole.specs.declared.order.Floor.{Floor}
use Rattle.run_save_whole.specs.Tallies.{unmarked, all_marks, open_floor, raised, is_under, with_child, with_children, is_low}
use Rattle.run_save_whole.specs.Tallies.{rest_wrong, breaks_at, wrong_task}
use Rattle.run_save_whole.proofs.Counting.{put}
use Rattle.run_save_whole.proofs.Marking.{rest_decided}

-- ---- one child more

higher : (d depth e : ℕ) → nat_lt e (max d depth) ≡ (not (nat_le depth e) || nat_lt e d)
higher d depth e = by (nat_le depth e) refl
  where
    by : (b : Bool) → nat_le depth e ≡ b → nat_lt e (max d depth) ≡ (not (nat_le depth e) || nat_lt e d)
    by false f = let o : nat_lt e (max d depth) ≡ true = lt-ltb e (max d depth) (omega (arith, leb-false depth e f)) in rw (f, o) refl
    by true f = rw f (low (nat_lt e d) refl)
      where
        low : (b : Bool) → nat_lt e d ≡ b → nat_lt e (max d depth) ≡ nat_lt e d
        low true g = let o : nat_lt e (max d depth) ≡ true = lt-ltb e (max d depth) (omega (arith, ltb-true e d g)) in rw (g, o) refl
        low false g =
            let o : nat_lt e (max d depth) ≡ false =
            le-ltb e (max d depth) (omega (arith, leb-true depth e f, ltb-false e d g)) in rw (g, o) refl

swap : (a b c : Bool) → (a || (b || c)) ≡ (b || (a || c))
swap true true c = refl
swap true false c = refl
swap false b c = refl

regroup : (a b c : Bool) → ((a || b) || c) ≡ (b || (a || c))
regroup true true c = refl
regroup true false c = refl
regroup false b c = refl

-- a child of this role leaves less room
raises : (f : Floor) (role : Role) (e : ℕ) → is_under (raised f role) e ≡ (not (may_follow role (Behind e)) || is_under f e)
raises f Root e = refl
raises f (Arm place) e = refl
raises f (Behind depth) e =
    ap (λ b. f.closed || b) (higher f.depth depth e) ∙ swap f.closed (not (nat_le depth e)) (nat_lt e f.depth)

abbrev step : ℕ → Option ℕ → Role → Floor → Floor
step p None role f = f
step p (Some parent) role f = cond (eqb p parent) (raised f role) f

same_floor : (fs : List Floor) (p parent : ℕ) (role : Role) →
    cond (eqb p parent) (raised (get_or fs parent open_floor) role) (get_or fs p open_floor) ≡
    cond (eqb p parent) (raised (get_or fs p open_floor) role) (get_or fs p open_floor)
same_floor fs p parent role = by (eqb p parent) refl
  where
    by : (b : Bool) → eqb p parent ≡ b → cond (eqb p parent) (raised (get_or fs parent open_floor) role) (get_or fs p open_floor) ≡
        cond (eqb p parent) (raised (get_or fs p open_floor) role) (get_or fs p open_floor)
    by true e = rw e (ap (λ n. raised (get_or fs n open_floor) role) (sym (eqb-true p parent e)))
    by false e = rw e refl

child_at : (fs : List Floor) (parent : Option ℕ) (role : Role) (p : ℕ) → p < length fs →
    get_or (with_child fs parent role) p open_floor ≡ step p parent role (get_or fs p open_floor)
child_at fs None role p lt = refl
child_at fs (Some parent) role p lt =
    put fs parent p (raised (get_or fs parent open_floor) role) open_floor lt ∙ same_floor fs p parent role

child_long : (fs : List Floor) (parent : Option ℕ) (role : Role) → length (with_child fs parent role) ≡ length fs
child_long fs None role = refl
child_long fs (Some parent) role = length-set fs parent (raised (get_or fs parent open_floor) role)

pub children_long : (ts : List KeptTask) (fs : List Floor) → length (with_children fs ts) ≡ length fs
children_long [] fs = refl
children_long (t ∷ ts) fs = children_long ts (with_child fs t.parent t.role) ∙ child_long fs t.parent t.role

leaves_less : (p e : ℕ) (t : KeptTask) (f : Floor) →
    is_under (step p t.parent t.role f) e ≡ (is_disordered (Some p) (Behind e) t || is_under f e)
leaves_less p e t f = of t.parent refl
  where
    of : (parent : Option ℕ) → t.parent ≡ parent →
        is_under (step p t.parent t.role f) e ≡ (is_disordered (Some p) (Behind e) t || is_under f e)
    of None g = rw g refl
    of (Some parent) g = rw g (by (eqb p parent))
      where
        by : (b : Bool) → is_under (cond b (raised f t.role) f) e ≡ ((b && not (may_follow t.role (Behind e))) || is_under f e)
        by true = raises f t.role e
        by false = refl

lower : (p e : ℕ) (ts : List KeptTask) (fs : List Floor) → p < length fs →
    is_under (get_or (with_children fs ts) p open_floor) e ≡
    (any (is_disordered (Some p) (Behind e)) ts || is_under (get_or fs p open_floor) e)
lower p e [] fs lt = refl
lower p e (t ∷ ts) fs lt =
    let l : length (with_child fs t.parent t.role) ≡ length fs = child_long fs t.parent t.role in
    lower p e ts (with_child fs t.parent t.role) (omega (arith, l, lt)) ∙
    ap (λ f. any (is_disordered (Some p) (Behind e)) ts || is_under f e) (child_at fs t.parent t.role p lt) ∙
    ap (λ b. any (is_disordered (Some p) (Behind e)) ts || b) (leaves_less p e t (get_or fs p open_floor)) ∙
    sym (regroup (is_disordered (Some p) (Behind e) t) (any (is_disordered (Some p) (Behind e)) ts) (is_under (get_or fs p open_floor) e))

-- ---- a task

-- any role but one in the background may follow
none_disordered : (p : ℕ) (role : Role) → ((t : KeptTask) → is_disordered (Some p) role t ≡ false) → (ts : List KeptTask) →
    any (is_disordered (Some p) role) ts ≡ false
none_disordered p role h [] = refl
none_disordered p role h (t ∷ ts) = rw (h t) (none_disordered p role h ts)

none_orphan : (role : Role) (ts : List KeptTask) → any (is_disordered None role) ts ≡ false
none_orphan role [] = refl
none_orphan role (t ∷ ts) = none_orphan role ts

follows_root : (p : ℕ) (t : KeptTask) → is_disordered (Some p) Root t ≡ false
follows_root p t = of t.role refl
  where
    both : (b : Bool) → (b && false) ≡ false
    both true = refl
    both false = refl

    of : (r : Role) → t.role ≡ r → is_disordered (Some p) Root t ≡ false
    of Root e = rw e (both (is_child_of p t))
    of (Arm place) e = rw e (both (is_child_of p t))
    of (Behind d) e = rw e (both (is_child_of p t))

follows_arm : (p place : ℕ) (t : KeptTask) → is_disordered (Some p) (Arm place) t ≡ false
follows_arm p place t = of t.role refl
  where
    both : (b : Bool) → (b && false) ≡ false
    both true = refl
    both false = refl

    of : (r : Role) → t.role ≡ r → is_disordered (Some p) (Arm place) t ≡ false
    of Root e = rw e (both (is_child_of p t))
    of (Arm here) e = rw e (both (is_child_of p t))
    of (Behind d) e = rw e (both (is_child_of p t))

-- where the parent stands before
low_decided : (ts : List KeptTask) (n : ℕ) (parent : Option ℕ) (role : Role) → is_later n parent ≡ false → (long : ℕ) → n ≤ long →
    is_low (with_children (replicate long open_floor) ts) parent role ≡ any (is_disordered parent role) ts
low_decided ts n None role e long le = sym (none_orphan role ts)
low_decided ts n (Some p) Root e long le = sym (none_disordered p Root (follows_root p) ts)
low_decided ts n (Some p) (Arm place) e long le = sym (none_disordered p (Arm place) (follows_arm p place) ts)
low_decided ts n (Some p) (Behind d) e long le =
    let l : length (replicate long open_floor) ≡ long = length-replicate long open_floor in
    let f : get_or (replicate long open_floor) p open_floor ≡ open_floor =
    get_or-replicate long p open_floor open_floor (omega (arith, leb-false n p e, le)) in
    lower p d ts (replicate long open_floor) (omega (arith, l, leb-false n p e, le)) ∙
    ap (λ g. any (is_disordered (Some p) (Behind d)) ts || is_under g d) f ∙
    ap (λ b. any (is_disordered (Some p) (Behind d)) ts || b) (le-ltb d 0 (omega arith)) ∙
    or-false (any (is_disordered (Some p) (Behind d)) ts)

in_turn : (later main child low disordered rest frames : Bool) → (later ≡ false → low ≡ disordered) →
    (later || main || child || low || rest || frames) ≡ (later || main || child || disordered || rest || frames)
in_turn true main child low disordered rest frames h = refl
in_turn false main child low disordered rest frames h = rw (h refl) refl

module _ (c : Code) (spent : ℕ) (ts : List KeptTask) where
  decided : (before : List KeptTask) (t : KeptTask) (others : List KeptTask) (frames : ℕ) → ts ≡ before ++ t ∷ others →
      breaks_at c spent ts (length before) (get_or (all_marks ts) (length before) unmarked) (any (is_root None) before)
      (with_children (replicate (length ts) open_floor) before) frames t ≡ breaks_task c spent ts before frames t
  decided before t others frames e =
      let long : length ts ≡ length before + suc (length others) = ap length e ∙ length-append before (t ∷ others) in
      let here : get_or ts (length before) t ≡ t = ap (λ xs. get_or xs (length before) t) e ∙ there before in
      let rest : rest_wrong c t (get_or (all_marks ts) (length before) unmarked) ≡ rest_breaks c ts (length before) t t.rest =
      rest_decided c ts (length before) t (omega (arith, long)) here in
      rw rest (in_turn (is_later (length before) t.parent) (is_root None t && any (is_root None) before)
      (child_breaks ts t.parent t.role) (is_low (with_children (replicate (length ts) open_floor) before) t.parent t.role)
      (any (is_disordered t.parent t.role) before) (rest_breaks c ts (length before) t t.rest)
      (nat_lt (suc spent) (frames + length t.frames))
      (λ f. low_decided before (length before) t.parent t.role f (length ts) (omega (arith, long))))
    where
      there : (xs : List KeptTask) → get_or (xs ++ t ∷ others) (length xs) t ≡ t
      there [] = refl
      there (x ∷ xs) = there xs

  any_last : (test : KeptTask → Bool) (xs : List KeptTask) (t : KeptTask) → any test (xs ++ t ∷ []) ≡ (any test xs || test t)
  any_last test [] t = or-false (test t)
  any_last test (x ∷ xs) t = ap (λ b. test x || b) (any_last test xs t) ∙ sym (joined (test x) (any test xs) (test t))
    where
      joined : (a b d : Bool) → ((a || b) || d) ≡ (a || (b || d))
      joined true b d = refl
      joined false b d = refl

  children_last : (xs : List KeptTask) (t : KeptTask) (fs : List Floor) →
      with_children fs (xs ++ t ∷ []) ≡ with_child (with_children fs xs) t.parent t.role
  children_last [] t fs = refl
  children_last (x ∷ xs) t fs = children_last xs t (with_child fs x.parent x.role)

  first_decided : (before others : List KeptTask) (frames : ℕ) → ts ≡ before ++ others →
      wrong_task c spent ts (all_marks ts) (length before) (any (is_root None) before)
      (with_children (replicate (length ts) open_floor) before) frames others ≡ broken_task c spent ts before frames others
  first_decided before [] frames e = refl
  first_decided before (t ∷ others) frames e =
      let next : length (before ++ t ∷ []) ≡ suc (length before) = length-append before (t ∷ []) ∙ omega arith in
      let main : any (is_root None) (before ++ t ∷ []) ≡ (any (is_root None) before || is_root None t) = any_last (is_root None) before t in
      let floors : with_children (replicate (length ts) open_floor) (before ++ t ∷ []) ≡
      with_child (with_children (replicate (length ts) open_floor) before) t.parent t.role =
      children_last before t (replicate (length ts) open_floor) in
      let goes_on = first_decided (before ++ t ∷ []) others (frames + length t.frames) (e ∙ sym (append_assoc before (t ∷ []) others)) in
      rw (decided before t others frames e) (ap (λ r. if breaks_task c spent ts before frames t then Some (length before) else r)
      (rw (next, main, floors) at goes_on))

pub tasks_decided : (c : Code) (spent : ℕ) (ts : List KeptTask) →
    wrong_task c spent ts (all_marks ts) 0 false (replicate (length ts) open_floor) 0 ts ≡ broken_task c spent ts [] 0 ts
tasks_decided c spent ts = first_decided c spent ts [] ts 0 refl
