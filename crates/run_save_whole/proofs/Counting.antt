-- Counts up to 2 decide whether there is one.
use Rattle.std.proofs.Common.{◌≡◌, ℕ, zero, suc, ◌+◌, ◌<◌, ◌≤◌, Bool, true, false, ◌&&◌, cond, eqb, List, [], ◌∷◌, length, set, get_or}
use Rattle.std.proofs.Common.{replicate, Option, Some, None, refl, sym, ap, subst, ◌∙◌, arith}
use Rattle.std.proofs.lemmas.Bool.{eqb-true, eqb-false, ne_eqb}
use Rattle.std.proofs.lemmas.List.{get_or-set_same, get_or-set_other, get_or-replicate, length-set, length-replicate}
use Rattle.task_tree.specs.Tasks.{is_child}
use Rattle.verse_meaning_state.specs.State.{Given}
use Rattle.run_save_shots.specs.Lists.{count}
use Rattle.run_save_shots.specs.Kept.{KeptTask}
use Rattle.run_save_shots.specs.Fitting.{is_root, runs_once}
use Rattle.run_save_format.specs.Whole.{broken_entry}
use Rattle.run_save_whole.specs.Tallies.{one_more, counted, with_root, with_roots, wrong_entry}

-- ---- so many more

abbrev pub mores : ℕ → ℕ → ℕ
mores zero c = c
mores (suc n) c = mores n (one_more c)

at_two : (n : ℕ) → mores n 2 ≡ 2
at_two zero = refl
at_two (suc n) = at_two n

-- whether there is one, or none
pub decides : (n r : ℕ) → r ≤ 1 → eqb (mores n 0) r ≡ eqb n r
decides zero r le = refl
decides (suc zero) r le = refl
decides (suc (suc n)) zero le = rw (at_two n) (sym (ne_eqb (suc (suc n)) 0 (λ e. omega (arith, e))))
decides (suc (suc n)) (suc zero) le = rw (at_two n) (sym (ne_eqb (suc (suc n)) 1 (λ e. omega (arith, e))))
decides (suc (suc n)) (suc (suc r)) le = absurd (omega arith)

pub one_of_more : {A : Type 0} (test : A → Bool) (x : A) (xs : List A) (c : ℕ) →
    mores (count test (x ∷ xs)) c ≡ mores (count test xs) (cond (test x) (one_more c) c)
one_of_more test x xs c = by (test x) refl
  where
    by : (b : Bool) → test x ≡ b → mores (count test (x ∷ xs)) c ≡ mores (count test xs) (cond (test x) (one_more c) c)
    by true e = rw e refl
    by false e = rw e refl

-- an element in another one's place
pub put : {A : Type 0} (xs : List A) (at place : ℕ) (x d : A) → place < length xs →
    get_or (set xs at x) place d ≡ cond (eqb place at) x (get_or xs place d)
put xs at place x d lt = by (eqb place at) refl
  where
    by : (b : Bool) → eqb place at ≡ b → get_or (set xs at x) place d ≡ cond (eqb place at) x (get_or xs place d)
    by true e =
        let same : place ≡ at = eqb-true place at e in
        rw e (subst (λ n. get_or (set xs n x) place d ≡ x) same (get_or-set_same xs place x d lt))
    by false e = rw e (get_or-set_other xs at place x d (eqb-false place at e))

pub more_at : (counts : List ℕ) (at place : ℕ) → place < length counts →
    get_or (counted counts at) place 0 ≡ cond (eqb place at) (one_more (get_or counts place 0)) (get_or counts place 0)
more_at counts at place lt = put counts at place (one_more (get_or counts at 0)) 0 lt ∙ by (eqb place at) refl
  where
    by : (b : Bool) → eqb place at ≡ b → cond (eqb place at) (one_more (get_or counts at 0)) (get_or counts place 0) ≡
        cond (eqb place at) (one_more (get_or counts place 0)) (get_or counts place 0)
    by true e = let same : place ≡ at = eqb-true place at e in rw e (ap (λ n. one_more (get_or counts n 0)) (sym same))
    by false e = rw e refl

-- ---- the tasks of an entry

as_long : (counts : List ℕ) (parent root : Option ℕ) → length (with_root counts parent root) ≡ length counts
as_long counts None (Some entry) = length-set counts entry (one_more (get_or counts entry 0))
as_long counts None None = refl
as_long counts (Some p) root = refl

root_at : (counts : List ℕ) (parent root : Option ℕ) (entry : ℕ) → entry < length counts → get_or (with_root counts parent root) entry 0 ≡
    cond (is_child None parent && is_child (Some entry) root) (one_more (get_or counts entry 0)) (get_or counts entry 0)
root_at counts None (Some at) entry lt = more_at counts at entry lt
root_at counts None None entry lt = refl
root_at counts (Some p) root entry lt = refl

roots_at : (ts : List KeptTask) (counts : List ℕ) (entry : ℕ) → entry < length counts →
    get_or (with_roots counts ts) entry 0 ≡ mores (count (is_root (Some entry)) ts) (get_or counts entry 0)
roots_at [] counts entry lt = refl
roots_at (t ∷ ts) counts entry lt =
    let l : length (with_root counts t.parent t.root) ≡ length counts = as_long counts t.parent t.root in
    roots_at ts (with_root counts t.parent t.root) entry (omega (arith, l, lt)) ∙
    ap (mores (count (is_root (Some entry)) ts)) (root_at counts t.parent t.root entry lt) ∙
    sym (one_of_more (is_root (Some entry)) t ts (get_or counts entry 0))

pub roots_count : (entries : ℕ) (ts : List KeptTask) (entry : ℕ) → entry < entries →
    get_or (with_roots (replicate entries 0) ts) entry 0 ≡ mores (count (is_root (Some entry)) ts) 0
roots_count entries ts entry lt =
    let l : length {A = ℕ} (replicate entries 0) ≡ entries = length-replicate entries 0 in
    roots_at ts (replicate entries 0) entry (omega (arith, l, lt)) ∙
    ap (mores (count (is_root (Some entry)) ts)) (get_or-replicate entries entry 0 0 lt)

few : (g : Option Given) → runs_once g ≤ 1
few None = omega arith
few (Some g) = omega arith

wrong_is_broken : (ts : List KeptTask) (counts : List ℕ) (entries n : ℕ) (gs : List (Option Given)) → n + length gs ≡ entries →
    ((entry : ℕ) → entry < entries → get_or counts entry 0 ≡ mores (count (is_root (Some entry)) ts) 0) →
    wrong_entry counts n gs ≡ broken_entry ts n gs
wrong_is_broken ts counts entries n [] long h = refl
wrong_is_broken ts counts entries n (g ∷ gs) long h =
    let same : eqb (get_or counts n 0) (runs_once g) ≡ eqb (count (is_root (Some n)) ts) (runs_once g) =
    ap (λ k. eqb k (runs_once g)) (h n (omega (arith, long))) ∙ decides (count (is_root (Some n)) ts) (runs_once g) (few g) in
    let rest : wrong_entry counts (suc n) gs ≡ broken_entry ts (suc n) gs =
    wrong_is_broken ts counts entries (suc n) gs (omega (arith, long)) h in
    rw (same, rest) refl

pub entries_decided : (ts : List KeptTask) (gs : List (Option Given)) →
    wrong_entry (with_roots (replicate (length gs) 0) ts) 0 gs ≡ broken_entry ts 0 gs
entries_decided ts gs =
    wrong_is_broken ts (with_roots (replicate (length gs) 0) ts) (length gs) 0 gs (omega arith) (roots_count (length gs) ts)

pub entries_decided_as : (ts : List KeptTask) (gs : List (Option Given)) (n : ℕ) → n ≡ length gs →
    wrong_entry (with_roots (replicate n 0) ts) 0 gs ≡ broken_entry ts 0 gs
entries_decided_as ts gs n e = rw e (entries_decided ts gs)

pub roots_long : (ts : List KeptTask) (counts : List ℕ) → length (with_roots counts ts) ≡ length counts
roots_long [] counts = refl
roots_long (t ∷ ts) counts = roots_long ts (with_root counts t.parent t.root) ∙ as_long counts t.parent t.root
