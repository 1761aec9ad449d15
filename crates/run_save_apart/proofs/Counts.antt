-- How many tasks have a number: at most one, and none has one that is to come.
use Rattle.std.proofs.Common.{◌≡◌, ℕ, zero, suc, ◌+◌, ◌≤◌, List, [], ◌∷◌, Bool, true, false, cond, ap, arith}
use Rattle.verse_meaning_state.specs.Waits.{eqn, ltn}
use Rattle.verse_meaning_state.proofs.Keeping.{result_left}
use Rattle.verse_code_machine.specs.Tasks.{Task}
use Rattle.verse_code_machine.specs.Runs.{Forest}
use Rattle.verse_code_machine_parents.specs.Parents.{whos, Rooted, TreesRooted}
use Rattle.verse_code_machine_parents.proofs.Lists.{rooted_number, rooted_tail}
use Rattle.run_save_shots.specs.Lists.{count}
use Rattle.run_save_fits.specs.Held.{one, tasks_sum, trees_sum}
use Rattle.run_save_fits.proofs.Counted.{ltn_less, one_most}
use Rattle.run_save_fits.proofs.Measures.{Measure}
use Rattle.run_save_apart.specs.Numbers.{numbered}

-- ---- the numbers that a task may have

-- those that are not below the steps left
abbrev pub taken : (left n : ℕ) → ℕ
taken left n = one (ltn left (suc n))

pub taken_most : (left n : ℕ) → taken left n ≤ 1
taken_most left n = one_most (ltn left (suc n))

pub taken_more : (l k n : ℕ) → l ≤ k → taken k n ≤ taken l n
taken_more l k n h = ltn_less l k (suc n) h

-- the number with which a task begins was no task's
begun_once : (n l : ℕ) → one (eqn n l) + one (ltn l n) ≤ one (ltn l (suc n))
begun_once zero zero = omega arith
begun_once zero (suc l) = omega arith
begun_once (suc n) zero = omega arith
begun_once (suc n) (suc l) = begun_once n l

pub begins_so : (n l k : ℕ) → suc l ≡ k → one (eqn n l) + taken k n ≤ taken l n
begins_so n l k e = let a = begun_once n l in let b = ap (λ i. taken i n) e in omega (arith, a, b)

pub spends_so : (n l k : ℕ) → suc l ≡ k → taken k n ≤ taken l n
spends_so n l k e = taken_more l k n (omega (arith, e))

-- ---- the tasks of a number

abbrev pub number_of : ℕ → Measure
number_of n = record {
  live = λ w k. one (eqn n w.number);
  lost = λ w k. one (eqn n w.number);
  task = λ t. one (eqn n t.thread.who.number);
  result = λ e. 0;
  passes = 0;
  wake = 0;
  bound = λ s. taken s.clock.left n;
  used = λ s. 0;
  fewer = λ w k. omega arith;
  fewer_lost = λ w k. omega arith;
  passed = λ w k. omega arith;
  ticks = λ s u t. let a = taken_more u.clock.left s.clock.left n t.left in omega (arith, a);
  enters = λ w k l s e. let a = spends_so n l s.clock.left e in omega (arith, a);
  begins = λ w l s e. let a = begins_so n l s.clock.left e in omega (arith, a);
  spawns = λ l s e. let a = begins_so n l s.clock.left e in omega (arith, a);
  draws = λ w f fs q s. omega arith;
  stands = λ x k p gs. omega arith;
  woken = λ y w e. omega arith;
  joins = λ y k p gs e. omega arith;
  dies = λ w k. omega arith;
  gone = λ t. omega arith;
  clears = λ w k l s e. let a = spends_so n l s.clock.left e in omega (arith, a);
  finishes = λ w k d r. omega arith;
  gives = λ d v s. let a = ap (λ k. taken k n) (result_left d v s) in omega (arith, a);
  turns = λ l i s e. let a = spends_so n l s.clock.left e in omega (arith, a);
}

-- ---- in the words of the law

abbrev pub sum_of : ℕ → Forest → ℕ
sum_of n tss = trees_sum (λ (t : Task). one (eqn n t.thread.who.number)) tss

counted : (n : ℕ) (ts : List Task) →
    count (λ (t : Task). eqn n t.thread.who.number) ts ≡ tasks_sum (λ (t : Task). one (eqn n t.thread.who.number)) ts
counted n [] = omega arith
counted n (t ∷ ts) = by_test (eqn n t.thread.who.number) (count (λ (y : Task). eqn n y.thread.who.number) ts) _ (counted n ts)
  where
    by_test : (b : Bool) (i j : ℕ) → i ≡ j → cond b (suc i) i ≡ one b + j
    by_test true i j e = omega (arith, e)
    by_test false i j e = omega (arith, e)

pub numbered_is : (n : ℕ) (tss : Forest) → numbered n tss ≡ sum_of n tss
numbered_is n [] = omega arith
numbered_is n (ts ∷ tss) = let a = counted n ts in let b = numbered_is n tss in omega (arith, a, b)

-- a number below the steps left is no task's
below_none : (left n k : ℕ) → left ≤ k → one (eqn n k) ≤ taken left n
below_none zero n k h = one_most (eqn n k)
below_none (suc left) zero zero h = omega (arith, h)
below_none (suc left) zero (suc k) h = omega arith
below_none (suc left) (suc n) zero h = omega (arith, h)
below_none (suc left) (suc n) (suc k) h = below_none left n k (omega (arith, h))

none_taken : (left n : ℕ) (ts : List Task) → Rooted left (whos ts) → taken left n ≡ 0 →
    tasks_sum (λ (t : Task). one (eqn n t.thread.who.number)) ts ≡ 0
none_taken left n [] r e = omega arith
none_taken left n (t ∷ ts) r e =
    let a = below_none left n t.thread.who.number (rooted_number r) in let b = none_taken left n ts (rooted_tail r) e in
    omega (arith, a, b, e)

trees_none : (left n : ℕ) (tss : Forest) → TreesRooted left tss → taken left n ≡ 0 → sum_of n tss ≡ 0
trees_none left n [] r e = omega arith
trees_none left n (ts ∷ tss) r e = let a = none_taken left n ts r.0 e in let b = trees_none left n tss r.2 e in omega (arith, a, b)

pub within : (left n : ℕ) (tss : Forest) → TreesRooted left tss → sum_of n tss ≤ 1 → sum_of n tss ≤ taken left n
within left n tss r h = by_taken (ltn left (suc n)) (trees_none left n tss r)
  where
    by_taken : (b : Bool) → (one b ≡ 0 → sum_of n tss ≡ 0) → sum_of n tss ≤ one b
    by_taken true f = omega (arith, h)
    by_taken false f = let a = f (omega arith) in omega (arith, a)
