-- Pairs of numbers in order: where one stands, and what an edit there changes.
use Rattle.std.proofs.Common.{◌≡◌, ℕ, ◌≤◌, inl, inr, true, if◌then◌else◌, List, length, Result, Ok, Err, IfErr, refl, sym, ap, ◌∙◌, arith}
use Rattle.std.specs.Ordering.{nat_cmp, ordering_index}
use Rattle.std.specs.declared.cmp.Ordering.TheVariants.{Less, Greater}
use Rattle.std.specs.List.Sorted.{IsSearchInRange, IsBinarySearchResult, IsNonDecreasingBy}
use Rattle.std.proofs.lemmas.Cmp.{ranked, by_ranked}
use Rattle.std.proofs.lemmas.Bool.{cases_lt}
use Rattle.std.proofs.lemmas.List.Sorted.{IsNonDecreasingBy-from_default}
use Rattle.std.proofs.lemmas.Bool.Decides.{nat_tests}
use Rattle.sim_clock.specs.Marked.{pair_cmp, comes_first}
use Rattle.sim_clock.specs.Queued.{pair_at, InOrder, IsGap}

-- 0, 1 or 2, as the first pair is below, at or above the second
abbrev pub rank : ℕ → ℕ → ℕ → ℕ → ℕ
rank a n b m = if comes_first a n b m then 0 else if comes_first b m a n then 2 else 1

pub ranks : (a n b m : ℕ) → ordering_index (pair_cmp (a, n) (b, m)) ≡ rank a n b m
ranks a n b m = by_ranked _ _ _ (nat_cmp a b) (ranked a b _ refl)
    (λ o h. rw o (grind (arith, nat_tests)))
    (λ o h. rw o (by_ranked _ _ _ (nat_cmp n m) (ranked n m _ refl) (λ q k. rw q (grind (arith, nat_tests)))
    (λ q k. rw q (grind (arith, nat_tests))) (λ q k. rw q (grind (arith, nat_tests)))))
    (λ o h. rw o (grind (arith, nat_tests)))

-- pairs in order rise against any pair
rises : (a n b m c k : ℕ) → comes_first a n b m ≡ true → rank a n c k ≤ rank b m c k
rises a n b m c k h = grind (arith, nat_tests)

less_first : (a n b m : ℕ) → pair_cmp (a, n) (b, m) ≡ Less → comes_first a n b m ≡ true
less_first a n b m h = let e : 0 ≡ rank a n b m = sym (ap ordering_index h) ∙ ranks a n b m in grind (arith, nat_tests)

greater_first : (a n b m : ℕ) → pair_cmp (a, n) (b, m) ≡ Greater → comes_first b m a n ≡ true
greater_first a n b m h = let e : 2 ≡ rank a n b m = sym (ap ordering_index h) ∙ ranks a n b m in grind (arith, nat_tests)

module _ (ps : List (ℕ × ℕ)) (order : InOrder ps) (a n : ℕ) where
  ranks_rise : IsNonDecreasingBy (λ y. ordering_index (pair_cmp y (a, n))) ps
  ranks_rise = IsNonDecreasingBy-from_default (λ y. ordering_index (pair_cmp y (a, n))) ps (0, 0) (λ i j le within. elim (cases_lt i j) [
    | inl lt ↦ rw (ranks (pair_at ps i).0 (pair_at ps i).1 a n, ranks (pair_at ps j).0 (pair_at ps j).1 a n)
        (rises _ _ _ _ a n (order i j lt within))
    | inr ge ↦ let same : i ≡ j = omega arith in rw same (omega arith)
  ])

  -- where the search finds nothing, the pair would stand at its answer
  pub gap_from_search : (r : Result ℕ ℕ) → IsSearchInRange r (length ps) → IsBinarySearchResult (λ y. pair_cmp y (a, n)) ps r →
      IfErr r (IsGap ps a n)
  gap_from_search (Ok i) within result = tt
  gap_from_search (Err i) within parted = record {
    within = within;
    before = λ j lt. less_first _ _ a n ((parted ranks_rise).0 j (0, 0) (omega arith) lt);
    behind = λ j le lt. greater_first _ _ a n ((parted ranks_rise).1 j (0, 0) le lt);
  }
