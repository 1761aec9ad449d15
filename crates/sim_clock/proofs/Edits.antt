-- What an edit of pairs in order changes.
use Rattle.std.proofs.Common.{◌≡◌, ℕ, zero, suc, eqb, ◌<◌, ◌≤◌, ◌+◌, ◌-◌, ◌⊎◌, inl, inr, Bool, true, false, ◌&&◌, ◌||◌, List, [], ◌∷◌}
use Rattle.std.proofs.Common.{length, refl, sym, ap, subst, ◌∙◌, arith}
use Rattle.std.specs.List.{insert, remove}
use Rattle.std.proofs.lemmas.Bool.{cases_lt}
use mathlib.Core.Bool.{false≢true}
use Rattle.std.proofs.lemmas.Bool.Decides.{nat_tests}
use Rattle.std.proofs.lemmas.List.Edits.{length-insert, get_or-insert_below, get_or-insert_at, get_or-insert_above, length-remove}
use Rattle.std.proofs.lemmas.List.Edits.{get_or-remove_below, get_or-remove_above}
use Rattle.sim_clock.specs.Marked.{comes_first, Marks, IsLeast}
use Rattle.sim_clock.specs.Queued.{has_in, pair_at, InOrder, IsPlace, IsGap}

abbrev pub is_pair : ℕ × ℕ → ℕ → ℕ → Bool
is_pair p x m = eqb p.0 x && eqb p.1 m

has_insert : (ps : List (ℕ × ℕ)) (i : ℕ) (p : ℕ × ℕ) (x m : ℕ) → has_in (insert ps i p) x m ≡ (is_pair p x m || has_in ps x m)
has_insert [] zero p x m = refl
has_insert [] (suc i) p x m = refl
has_insert (q ∷ ps) zero p x m = refl
has_insert (q ∷ ps) (suc i) p x m = ap (λ b. is_pair q x m || b) (has_insert ps i p x m) ∙
    swapped (is_pair q x m) (is_pair p x m) (has_in ps x m)
  where
    swapped : (a b c : Bool) → (a || (b || c)) ≡ (b || (a || c))
    swapped true true c = refl
    swapped true false c = refl
    swapped false b c = refl

-- at another pair than the one that is removed
has_remove : (ps : List (ℕ × ℕ)) (i x m : ℕ) → is_pair (pair_at ps i) x m ≡ false → has_in (remove ps i) x m ≡ has_in ps x m
has_remove [] zero x m other = refl
has_remove [] (suc i) x m other = refl
has_remove (q ∷ ps) zero x m other = sym (ap (λ b. b || has_in ps x m) other)
has_remove (q ∷ ps) (suc i) x m other = ap (λ b. is_pair q x m || b) (has_remove ps i x m other)

has_place : (ps : List (ℕ × ℕ)) (i x m : ℕ) → i < length ps → is_pair (pair_at ps i) x m ≡ true → has_in ps x m ≡ true
has_place [] i x m within same = absurd (omega (arith, within))
has_place (q ∷ ps) zero x m within same = ap (λ b. b || has_in ps x m) same
has_place (q ∷ ps) (suc i) x m within same = ap (λ b. is_pair q x m || b) (has_place ps i x m (omega (arith, within)) same) ∙
    always (is_pair q x m)
  where
    always : (a : Bool) → (a || true) ≡ true
    always true = refl
    always false = refl

has_none : (ps : List (ℕ × ℕ)) (x m : ℕ) → ((j : ℕ) → j < length ps → is_pair (pair_at ps j) x m ≡ false) → has_in ps x m ≡ false
has_none [] x m none = refl
has_none (q ∷ ps) x m none = rw (none 0 (omega arith)) (has_none ps x m (λ j lt. none (suc j) (omega (arith, lt))))

first_apart : (a n b m : ℕ) → comes_first a n b m ≡ true → is_pair (a, n) b m ≡ false
first_apart a n b m h = grind (arith, nat_tests)

first_apart_back : (a n b m : ℕ) → comes_first a n b m ≡ true → is_pair (b, m) a n ≡ false
first_apart_back a n b m h = grind (arith, nat_tests)

module _ (ps : List (ℕ × ℕ)) (a n i : ℕ) (gap : IsGap ps a n i) where
  pub absent_in_gap : has_in ps a n ≡ false
  absent_in_gap = has_none ps a n (λ j lt. elim (cases_lt j i) [
    | inl below ↦ first_apart _ _ a n (gap.before j below)
    | inr above ↦ first_apart_back a n _ _ (gap.behind j above lt)
  ])

  pub marks_insert : Marks (has_in ps) (has_in (insert ps i (a, n))) a n true
  marks_insert x m = has_insert ps i (a, n) x m ∙ grind (arith, nat_tests)

  pub unmarked : Marks (has_in ps) (has_in ps) a n false
  unmarked x m = grind (arith, nat_tests, absent_in_gap)

module _ (ps : List (ℕ × ℕ)) (a n i : ℕ) (place : IsPlace ps a n i) where
  pub marked : Marks (has_in ps) (has_in ps) a n true
  marked x m = let there = has_place ps i a n place.within (grind (arith, nat_tests, place.first, place.second)) in
      grind (arith, nat_tests, there)

first_after : (a n b m c k : ℕ) → comes_first a n b m ≡ true → comes_first b m c k ≡ true → comes_first a n c k ≡ true
first_after a n b m c k h g = grind (arith, nat_tests)

abbrev pub Before : ℕ × ℕ → ℕ × ℕ → Type 0
Before p q = comes_first p.0 p.1 q.0 q.1 ≡ true

module _ (ps : List (ℕ × ℕ)) (order : InOrder ps) (a n i : ℕ) (gap : IsGap ps a n i) where
  pub in_order_insert : InOrder (insert ps i (a, n))
  in_order_insert j k lt within =
      let qs = insert ps i (a, n) in
      let all = length-insert ps i (a, n) gap.within in
      let below : (l : ℕ) → l < i → pair_at qs l ≡ pair_at ps l = λ l h. get_or-insert_below ps i (a, n) (0, 0) l h gap.within in
      let here : (l : ℕ) → l ≡ i → pair_at qs l ≡ (a, n) = λ l h. rw h (get_or-insert_at ps i (a, n) (0, 0) gap.within) in
      let above : (l : ℕ) → i < l → pair_at qs l ≡ pair_at ps (l - 1) =
      λ l h. subst (λ q. pair_at qs q ≡ pair_at ps (l - 1)) {x = l - 1 + 1} (omega arith)
      (get_or-insert_above ps i (a, n) (0, 0) (l - 1) (omega arith) gap.within) in
      elim (cases_lt k i) [
        | inl k_below ↦ rw (below j (omega arith), below k k_below) (order j k lt (omega arith))
        | inr k_from ↦ elim (cases_lt j i) [
          | inl j_below ↦ elim (cases_lt i k) [
            | inl k_above ↦ rw (below j j_below, above k k_above) (order j (k - 1) (omega arith) (omega arith))
            | inr k_here ↦ rw (below j j_below, here k (omega arith)) (gap.before j j_below)
          ]
          | inr j_from ↦ elim (cases_lt i j) [
            | inl j_above ↦ rw (above j j_above, above k (omega arith)) (order (j - 1) (k - 1) (omega arith) (omega arith))
            | inr j_here ↦ rw (here j (omega arith), above k (omega arith)) (gap.behind (k - 1) (omega arith) (omega arith))
          ]
        ]
      ]

module _ (ps : List (ℕ × ℕ)) (order : InOrder ps) (a n i : ℕ) (place : IsPlace ps a n i) where
  below : (l : ℕ) → l < i → pair_at (remove ps i) l ≡ pair_at ps l
  below l h = get_or-remove_below ps i (0, 0) l h place.within

  above : (l : ℕ) → i ≤ l → pair_at (remove ps i) l ≡ pair_at ps (l + 1)
  above l h = get_or-remove_above ps i (0, 0) l h place.within

  pub in_order_remove : InOrder (remove ps i)
  in_order_remove j k lt within =
      let all = length-remove ps i place.within in
      elim (cases_lt k i) [
        | inl k_below ↦ rw (below j (omega arith), below k k_below) (order j k lt (omega arith))
        | inr k_from ↦ elim (cases_lt j i) [
          | inl j_below ↦ rw (below j j_below, above k k_from) (order j (k + 1) (omega arith) (omega arith))
          | inr j_from ↦ rw (above j j_from, above k k_from) (order (j + 1) (k + 1) (omega arith) (omega arith))
        ]
      ]

  gap_left : IsGap (remove ps i) a n i
  gap_left =
      let all = length-remove ps i place.within in
      record {
        within = omega arith;
        before = λ j lt. rw (below j lt, ← place.first, ← place.second) (order j i lt place.within);
        behind = λ j le lt. rw (above j le, ← place.first, ← place.second) (order i (j + 1) (omega arith) (omega arith));
      }

  pub marks_remove : Marks (has_in ps) (has_in (remove ps i)) a n false
  marks_remove x m =
      let gone = absent_in_gap (remove ps i) a n i gap_left in
      let others = has_remove ps i x m in
      grind (arith, nat_tests, gone, others, place.first, place.second)

has_index : (ps : List (ℕ × ℕ)) (x m : ℕ) → has_in ps x m ≡ true → (i : ℕ) × (i < length ps) × (is_pair (pair_at ps i) x m ≡ true)
has_index [] x m there = absurd (false≢true there)
has_index (q ∷ ps) x m there = elim (cases_eq (is_pair q x m)) [
  | inl same ↦ (0, omega arith, same)
  | inr other ↦ let h = has_index ps x m (rw other at there) in (suc h.0, omega (arith, h.1), h.2)
]
  where
    cases_eq : (b : Bool) → (b ≡ true) ⊎ (b ≡ false)
    cases_eq true = inl refl
    cases_eq false = inr refl

not_before : (p q : ℕ × ℕ) (b m : ℕ) → Before p q ⊎ (p ≡ q) → is_pair q b m ≡ true → comes_first b m p.0 p.1 ≡ false
not_before p q b m (inl before) same = grind (arith, nat_tests)
not_before p q b m (inr e) same = let f = ap (λ (x : ℕ × ℕ). x.0) e in let g = ap (λ (x : ℕ × ℕ). x.1) e in grind (arith, nat_tests)

-- the first of pairs in order is the least
pub least_front : (ps : List (ℕ × ℕ)) (p : ℕ × ℕ) → InOrder ps → 0 < length ps → pair_at ps 0 ≡ p → IsLeast (has_in ps) p.0 p.1
least_front ps p order within here = record {
  member = has_place ps 0 p.0 p.1 within (rw here (grind (arith, nat_tests)));
  least = λ b m there.
      let h = has_index ps b m there in
      not_before p (pair_at ps h.0) b m (elim (cases_lt 0 h.0) [
        | inl later ↦ inl (rw (← here) (order 0 h.0 later h.1))
        | inr first ↦ let same : h.0 ≡ 0 = omega arith in inr (rw (same, here) refl)
      ]) h.2;
}

pub none_in_empty : (ps : List (ℕ × ℕ)) (x m : ℕ) → ps ≡ [] → has_in ps x m ≡ false
none_in_empty ps x m e = rw e refl
