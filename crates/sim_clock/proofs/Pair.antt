-- How pairs of numbers are compared.
use Rattle.std.proofs.Common.{◌≡◌, ◌≢◌, ℕ, eqb, ltb, Bool, IsTrue, ◌||◌, true, false, ◌&&◌, cond, refl, sym, ap, ◌∙◌, arith}
use Rattle.std.specs.Cmp.{tied_then}
use Rattle.std.specs.Ordering.{nat_cmp, ordering_then, is_eq, is_gt}
use Rattle.std.specs.declared.cmp.Ordering.{Ordering}
use Rattle.std.specs.declared.cmp.Ordering.TheVariants.{Less, Equal, Greater}
use Rattle.std.specs.BTreeMap.{is_at}
use Rattle.std.specs.BTreeSet.{BTreeSet, Updates, IsLowerBound, contains}
use Rattle.std.proofs.lemmas.Bool.Decides.{nat_tests}
use Rattle.std.proofs.lemmas.Cmp.{ranked, by_ranked}
use Rattle.sim_clock.specs.Marked.{pair_cmp, has, Marks, IsLeast, comes_first}

pub number_tied : (a b : ℕ) → is_eq (nat_cmp a b) ≡ eqb b a
number_tied a b = by_ranked _ _ _ (nat_cmp a b) (ranked a b _ refl) (λ o h. rw o (grind (arith, nat_tests)))
    (λ o h. rw o (grind (arith, nat_tests))) (λ o h. rw o (grind (arith, nat_tests)))

pub pair_tied : (a n x m : ℕ) → is_at (pair_cmp (a, n)) (x, m) ≡ (eqb x a && eqb m n)
pair_tied a n x m = sym (tied_then (nat_cmp a x) (nat_cmp n m)) ∙ ap (λ b. b && is_eq (nat_cmp n m)) (number_tied a x) ∙
    ap (λ b. eqb x a && b) (number_tied n m)

-- a set that was changed at one pair
pub marks_from_updates : (s t : BTreeSet (ℕ × ℕ)) (a n : ℕ) (there : Bool) → Updates pair_cmp s t (a, n) there →
    Marks (has s) (has t) a n there
marks_from_updates s t a n there updates x m = updates.0 (x, m) ∙ ap (λ b. cond b there (has s x m)) (pair_tied a n x m)

number_below : (a b : ℕ) → is_gt (nat_cmp a b) ≡ ltb b a
number_below a b = by_ranked _ _ _ (nat_cmp a b) (ranked a b _ refl) (λ o h. rw o (grind (arith, nat_tests)))
    (λ o h. rw o (grind (arith, nat_tests))) (λ o h. rw o (grind (arith, nat_tests)))

after_then : (o r : Ordering) → is_gt (ordering_then o r) ≡ (is_gt o || (is_eq o && is_gt r))
after_then Less r = refl
after_then Equal r = refl
after_then Greater r = refl

pub pair_below : (a n b m : ℕ) → is_gt (pair_cmp (a, n) (b, m)) ≡ comes_first b m a n
pair_below a n b m = after_then (nat_cmp a b) (nat_cmp n m) ∙ ap (λ t. t || (is_eq (nat_cmp a b) && is_gt (nat_cmp n m)))
    (number_below a b) ∙ ap (λ t. ltb b a || (t && is_gt (nat_cmp n m))) (number_tied a b) ∙
    ap (λ t. ltb b a || (eqb b a && t)) (number_below n m)

-- the least pair of a set
pub least_from_bound : (s : BTreeSet (ℕ × ℕ)) (p : ℕ × ℕ) → IsTrue (contains pair_cmp s p) → IsLowerBound pair_cmp s p →
    IsLeast (has s) p.0 p.1
least_from_bound s p there bound = record { member = there; least = λ b m member. sym (pair_below p.0 p.1 b m) ∙ bound (b, m) member }

-- each pair with this first number lies at or behind the least
pub from_first : (f n : ℕ) → is_gt (pair_cmp (f, 0) (f, n)) ≡ false
from_first f n = pair_below f 0 f n ∙ grind (arith, nat_tests)

-- where the first pair from there on has another first number, none has this one
pub not_with_first : (s : BTreeSet (ℕ × ℕ)) (f n : ℕ) (p : ℕ × ℕ) → is_gt (pair_cmp (f, 0) p) ≡ false →
    (has s f n ≡ true → is_gt (pair_cmp p (f, n)) ≡ false) → p.0 ≢ f → has s f n ≡ false
not_with_first s f n p from upto other =
    let above : comes_first p.0 p.1 f 0 ≡ false = sym (pair_below f 0 p.0 p.1) ∙ from in
    let below : has s f n ≡ true → comes_first f n p.0 p.1 ≡ false = λ there. sym (pair_below p.0 p.1 f n) ∙ upto there in
    grind (arith, nat_tests, above, below, other)
