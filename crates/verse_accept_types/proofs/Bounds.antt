-- Types without a bound of their levels, and with one.
use Rattle.std.proofs.Common.{ℕ, zero, suc, ◌<◌, ◌≤◌, arith}
use Rattle.verse_rules_types.specs.Types as t
use Rattle.verse_rules_types.specs.Types.{Ty, Tys}
use Rattle.verse_rules_types.specs.Kinds.{levels, most_levels}
use Rattle.verse_check_typing.specs.Loops.{index_of}
use Rattle.verse_accept_types.specs.Told.{IsNumber, how_many, IsTold, AreTold}

some_levels : (a : Ty) → 1 ≤ levels a
some_levels (t.option a) = omega arith
some_levels (t.array a) = omega arith
some_levels (t.task a) = omega arith
some_levels (t.event a) = omega arith
some_levels (t.mapping k a) = omega arith
some_levels (t.tuple xs) = omega arith
some_levels a = omega arith

module _ (classes enums : ℕ) where
  abbrev mutual
    pub IsNamed : Ty → Type 0
    IsNamed (t.enum e) = e < enums
    IsNamed (t.class c) = c < classes
    IsNamed (t.option a) = IsNamed a
    IsNamed (t.array a) = IsNamed a
    IsNamed (t.task a) = IsNamed a
    IsNamed (t.event a) = IsNamed a
    IsNamed (t.mapping k a) = IsNamed k × IsNamed a
    IsNamed (t.tuple xs) = IsNumber (how_many xs) × AreNamed xs
    IsNamed a = Unit {0}

    pub AreNamed : Tys → Type 0
    AreNamed t.no_tys = Unit {0}
    AreNamed (t.more_tys a xs) = IsNamed a × AreNamed xs

  mutual
    pub told : (n : ℕ) (a : Ty) → IsNamed a → levels a ≤ n → IsTold classes enums n a
    told zero a h l = absurd (omega (arith, some_levels a, l))
    told (suc n) (t.enum e) h l = h
    told (suc n) (t.class c) h l = h
    told (suc n) (t.option a) h l = told n a h (omega (arith, l))
    told (suc n) (t.array a) h l = told n a h (omega (arith, l))
    told (suc n) (t.task a) h l = told n a h (omega (arith, l))
    told (suc n) (t.event a) h l = told n a h (omega (arith, l))
    told (suc n) (t.mapping k a) h l = (told n k h.0 (omega (arith, l)), told n a h.1 (omega (arith, l)))
    told (suc n) (t.tuple xs) h l = (h.0, all_told n xs h.1 (omega (arith, l)))
    told (suc n) a h l = tt

    all_told : (n : ℕ) (xs : Tys) → AreNamed xs → most_levels xs ≤ n → AreTold classes enums n xs
    all_told n t.no_tys h l = tt
    all_told n (t.more_tys a xs) h l = (told n a h.0 (omega (arith, l)), all_told n xs h.1 (omega (arith, l)))

  -- of the levels that types may have
  abbrev pub Good : Ty → Type 0
  Good a = IsNamed a × (levels a ≤ 32)

  pub good_told : (a : Ty) → Good a → IsTold classes enums 32 a
  good_told a h = told 32 a h.0 h.1

  pub never_good : Good t.never
  never_good = (tt, omega arith)

  -- what is less deep
  pub inner_good : (a : Ty) (n : ℕ) → IsNamed a → levels a < n → n ≤ 32 → Good a
  inner_good a n h l m = (h, omega (arith, l, m))

  pub index_good : (a : Ty) → Good a → Good (index_of a)
  index_good (t.array a) h = (tt, omega arith)
  index_good (t.mapping k a) h = inner_good k (levels (t.mapping k a)) h.0.0 (omega arith) h.1
  index_good a h = never_good
