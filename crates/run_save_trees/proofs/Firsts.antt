-- A task of a list, and the first one that passes a test.
use Rattle.std.proofs.Common.{◌≡◌, ℕ, suc, ◌+◌, ◌<◌, ◌≤◌, Bool, true, false, cond, List, [], ◌∷◌, ◌++◌, length, Some}
use Rattle.std.proofs.Common.{refl, sym, ap, ◌∙◌, arith}
use Rattle.std.proofs.Math.Nat.{mul-suc}
use Rattle.verse_meaning_state.specs.Waits.{nth}
use Rattle.run_save_shots.specs.Lists.{Each, EachAt, EachTwo, count}
use Rattle.run_save_shots.specs.Kept.{KeptTask, Kept}
use Rattle.run_save_shots.specs.Naming.{number_at}
use Rattle.run_save_numbers.proofs.Firsts.{first, first_step, first_least, number_more}

-- ---- one task of a list

module _ {A : Type 0} where
  pub nth_here : (before : List A) (t : A) (ts : List A) → nth (before ++ t ∷ ts) (length before) ≡ Some t
  nth_here [] t ts = refl
  nth_here (x ∷ before) t ts = nth_here before t ts

  pub each_here : (P : A → Type 0) (before : List A) (t : A) (ts : List A) → Each P (before ++ t ∷ ts) → P t
  each_here P [] t ts e = e.0
  each_here P (x ∷ before) t ts e = each_here P before t ts e.1

  pub each_at_here : (P : ℕ → A → Type 0) (n : ℕ) (before : List A) (t : A) (ts : List A) → EachAt P n (before ++ t ∷ ts) →
      (k : ℕ) → k ≡ n + length before → P k t
  each_at_here P n [] t ts e k f = let same : k ≡ n = omega (arith, f) in rw same e.0
  each_at_here P n (x ∷ before) t ts e k f = each_at_here P (suc n) before t ts e.1 k (omega (arith, f))

  pub each_two_here : (R : A → A → Type 0) (before : List A) (t : A) (ts : List A) → EachTwo R (before ++ t ∷ ts) → EachTwo R ts
  each_two_here R [] t ts e = e.1
  each_two_here R (x ∷ before) t ts e = each_two_here R before t ts e.1

  pub count_behind : (test : A → Bool) (before ts : List A) → count test ts ≤ count test (before ++ ts)
  count_behind test [] ts = omega arith
  count_behind test (x ∷ before) ts = by (test x) (count_behind test before ts)
    where
      by : (b : Bool) → count test ts ≤ count test (before ++ ts) →
          count test ts ≤ cond b (suc (count test (before ++ ts))) (count test (before ++ ts))
      by true l = omega (arith, l)
      by false l = l

  pub count_some : (test : A → Bool) (mid : List A) (u : A) (behind : List A) → test u ≡ true → 1 ≤ count test (mid ++ u ∷ behind)
  count_some test [] u behind e = by (test u) e
    where
      by : (b : Bool) → b ≡ true → 1 ≤ cond b (suc (count test behind)) (count test behind)
      by true e = omega arith
      by false e = absurd (cc)
  count_some test (x ∷ mid) u behind e = by (test x) (count_some test mid u behind e)
    where
      by : (b : Bool) → 1 ≤ count test (mid ++ u ∷ behind) →
          1 ≤ cond b (suc (count test (mid ++ u ∷ behind))) (count test (mid ++ u ∷ behind))
      by true l = omega arith
      by false l = l

-- ---- numbers

module _ (s : Kept) (u : KeptTask) (behind : List KeptTask) where
  pub next : (t : KeptTask) (ts : List KeptTask) → number_at s (t ∷ ts) ≡ number_at s ts + suc s.spent
  next t ts = omega (arith, mul-suc (suc s.spent) (length ts))

  later : (mid : List KeptTask) → number_at s (u ∷ behind) ≤ number_at s (mid ++ u ∷ behind)
  later [] = omega arith
  later (m ∷ mid) = omega (arith, later mid, number_more s m (mid ++ u ∷ behind))

  module _ (test : KeptTask → Bool) where
    -- it passes the test itself
    pub no_later : (mid : List KeptTask) → test u ≡ true → number_at s (u ∷ behind) ≤ first s test (mid ++ u ∷ behind)
    no_later [] e = omega (arith, first_step s test u behind ∙ ap (λ b. cond b (number_at s (u ∷ behind)) (first s test behind)) e)
    no_later (m ∷ mid) e = by (test m) refl (no_later mid e) (later (m ∷ mid))
      where
        by : (b : Bool) → test m ≡ b → number_at s (u ∷ behind) ≤ first s test (mid ++ u ∷ behind) →
            number_at s (u ∷ behind) ≤ number_at s (m ∷ (mid ++ u ∷ behind)) →
            number_at s (u ∷ behind) ≤ first s test (m ∷ (mid ++ u ∷ behind))
        by true e l k = rw e k
        by false e l k = rw e l

    -- and is the only one
    pub the_one : (mid : List KeptTask) → test u ≡ true → count test (mid ++ u ∷ behind) ≤ 1 →
        first s test (mid ++ u ∷ behind) ≡ number_at s (u ∷ behind)
    the_one [] e l = first_step s test u behind ∙ ap (λ b. cond b (number_at s (u ∷ behind)) (first s test behind)) e
    the_one (m ∷ mid) e l = by (test m) refl l (the_one mid e)
      where
        by : (b : Bool) → test m ≡ b → cond b (suc (count test (mid ++ u ∷ behind))) (count test (mid ++ u ∷ behind)) ≤ 1 →
            (count test (mid ++ u ∷ behind) ≤ 1 → first s test (mid ++ u ∷ behind) ≡ number_at s (u ∷ behind)) →
            first s test (m ∷ (mid ++ u ∷ behind)) ≡ number_at s (u ∷ behind)
        by true f k rest = absurd (omega (arith, k, count_some test mid u behind e))
        by false f k rest = rw f (rest k)

    -- it does not pass the test
    pub another : (mid : List KeptTask) → test u ≡ false → first s test (mid ++ u ∷ behind) ≡ number_at s (u ∷ behind) → ⊥
    another [] e f =
        omega (
          arith,
          f,
          first_step s test u behind ∙ ap (λ b. cond b (number_at s (u ∷ behind)) (first s test behind)) e,
          first_least s test behind,
          next u behind,
        )
    another (m ∷ mid) e f = by (test m) refl f (another mid e)
      where
        by : (b : Bool) → test m ≡ b → first s test (m ∷ (mid ++ u ∷ behind)) ≡ number_at s (u ∷ behind) →
            (first s test (mid ++ u ∷ behind) ≡ number_at s (u ∷ behind) → ⊥) → ⊥
        by true g f rest =
            omega (
              arith,
              f,
              first_step s test m (mid ++ u ∷ behind) ∙
                  ap (λ b. cond b (number_at s (m ∷ (mid ++ u ∷ behind))) (first s test (mid ++ u ∷ behind))) g,
              later mid,
              next m (mid ++ u ∷ behind),
            )
        by false g f rest =
            rest (sym (first_step s test m (mid ++ u ∷ behind) ∙
            ap (λ b. cond b (number_at s (m ∷ (mid ++ u ∷ behind))) (first s test (mid ++ u ∷ behind))) g) ∙ f)

    -- nor does one before it
    pub all_later : (mid : List KeptTask) → test u ≡ false → Each (λ m. test m ≡ false) mid →
        first s test (mid ++ u ∷ behind) < number_at s (u ∷ behind)
    all_later [] e ms =
        omega (
          arith,
          first_step s test u behind ∙ ap (λ b. cond b (number_at s (u ∷ behind)) (first s test behind)) e,
          first_least s test behind,
          next u behind,
        )
    all_later (m ∷ mid) e ms =
        omega (
          arith,
          first_step s test m (mid ++ u ∷ behind) ∙
              ap (λ b. cond b (number_at s (m ∷ (mid ++ u ∷ behind))) (first s test (mid ++ u ∷ behind))) ms.0,
          all_later mid e ms.1,
        )
