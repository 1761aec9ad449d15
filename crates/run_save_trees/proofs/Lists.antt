-- Plain lists.
use Rattle.std.proofs.Common.{◌≡◌, ℕ, zero, suc, ◌<◌, Bool, true, false, cond, List, [], ◌∷◌, ◌++◌, length, get_or, Some}
use Rattle.std.proofs.Common.{refl, ap, ◌∙◌, arith}
use Rattle.verse_meaning_state.specs.Waits.{nth}
use Rattle.vm_tasks_laws.proofs.Lists as laws
use Rattle.run_save_shots.specs.Lists.{Each, count}

module _ {A : Type 0} where
  pub nth_old : (xs : List A) (y : A) (p : ℕ) → p < length xs → nth (xs ++ y ∷ []) p ≡ nth xs p
  nth_old [] y p l = absurd (omega (arith, l))
  nth_old (x ∷ xs) y zero l = refl
  nth_old (x ∷ xs) y (suc p) l = nth_old xs y p (omega (arith, l))

  pub nth_new : (xs : List A) (y : A) → nth (xs ++ y ∷ []) (length xs) ≡ Some y
  nth_new [] y = refl
  nth_new (x ∷ xs) y = nth_new xs y

  pub get_old : (xs : List A) (y d : A) (p : ℕ) → p < length xs → get_or (xs ++ y ∷ []) p d ≡ get_or xs p d
  get_old [] y d p l = absurd (omega (arith, l))
  get_old (x ∷ xs) y d zero l = refl
  get_old (x ∷ xs) y d (suc p) l = get_old xs y d p (omega (arith, l))

  pub each_laws : (P : A → Type 0) (xs : List A) → Each P xs → laws.Each P xs
  each_laws P [] e = tt
  each_laws P (x ∷ xs) e = (e.0, each_laws P xs e.1)

  pub laws_each : (P : A → Type 0) (xs : List A) → laws.Each P xs → Each P xs
  laws_each P [] e = tt
  laws_each P (x ∷ xs) e = (e.0, laws_each P xs e.1)

  pub each_here : (P : A → Type 0) (before : List A) (t : A) (ts : List A) → Each P (before ++ t ∷ ts) → P t
  each_here P [] t ts e = e.0
  each_here P (x ∷ before) t ts e = each_here P before t ts e.1

  -- ---- how many pass a test

  pub count_none : (test : A → Bool) (xs : List A) → Each (λ x. test x ≡ false) xs → count test xs ≡ 0
  count_none test [] e = refl
  count_none test (x ∷ xs) e = ap (λ b. cond b (suc (count test xs)) (count test xs)) e.0 ∙ count_none test xs e.1

  pub count_between : (test : A → Bool) (front : List A) (x : A) (back : List A) →
      count test (front ++ x ∷ back) ≡ cond (test x) (suc (count test (front ++ back))) (count test (front ++ back))
  count_between test [] x back = refl
  count_between test (y ∷ front) x back =
      by (test y) (test x) (count test (front ++ x ∷ back)) (count test (front ++ back)) (count_between test front x back)
    where
      by : (a b : Bool) (m n : ℕ) → m ≡ cond b (suc n) n → cond a (suc m) m ≡ cond b (suc (cond a (suc n) n)) (cond a (suc n) n)
      by true true m n e = ap suc e
      by true false m n e = ap suc e
      by false true m n e = e
      by false false m n e = e

  pub count_last : (test : A → Bool) (xs : List A) (x : A) →
      count test (xs ++ x ∷ []) ≡ cond (test x) (suc (count test xs)) (count test xs)
  count_last test [] x = refl
  count_last test (y ∷ xs) x = by (test y) (test x) (count test (xs ++ x ∷ [])) (count test xs) (count_last test xs x)
    where
      by : (a b : Bool) (m n : ℕ) → m ≡ cond b (suc n) n → cond a (suc m) m ≡ cond b (suc (cond a (suc n) n)) (cond a (suc n) n)
      by true true m n e = ap suc e
      by true false m n e = ap suc e
      by false true m n e = e
      by false false m n e = e

  -- ---- a list in two parts

  -- the second part goes on with the rest of the first
  pub record Later (t : A) (behind : List A) (u : A) (us : List A) : Type 0 where
    pub mid : List A
    pub is : behind ≡ mid ++ u ∷ us

  pub later : (front : List A) (t : A) (behind done : List A) (u : A) (us : List A) → front ++ t ∷ behind ≡ done ++ u ∷ us →
      length front < length done → Later t behind u us
  later [] t behind [] u us e l = absurd (omega (arith, l))
  later [] t behind (d ∷ done) u us e l = record { mid = done; is = cc }
  later (f ∷ front) t behind [] u us e l = absurd (omega (arith, l))
  later (f ∷ front) t behind (d ∷ done) u us e l =
      let tails : front ++ t ∷ behind ≡ done ++ u ∷ us = cc in later front t behind done u us tails (omega (arith, l))
