-- The sort of a type that tables tell is one that bytes can spell.
use Rattle.std.proofs.Common.{◌≡◌, ℕ, zero, suc, ◌<◌, ◌≤◌, List, length, refl, sym, ap, subst, arith}
use Rattle.verse_rules_types.specs.Types as t
use Rattle.verse_rules_types.specs.Types.{Ty, Tys}
use Rattle.verse_sorts.specs.Sorts as s
use Rattle.verse_sorts_types.specs.SortOf.{sort_of, sorts_of}
use Rattle.verse_code.specs.declared.codes.Code.{Code}
use Rattle.verse_verify_bytes.specs.Bytes as bytes
use Rattle.verse_verify_bytes.specs.Suits.{IsSort, AreSorts}
use Rattle.verse_accept_types.specs.Told.{how_many, IsTold, AreTold}

as_many : (xs : Tys) → bytes.how_many (sorts_of xs) ≡ how_many xs
as_many t.no_tys = refl
as_many (t.more_tys a xs) = ap suc (as_many xs)

module _ (c : Code) where
  pub any_spelled : (n : ℕ) → 32 ≤ n → IsSort c n s.any
  any_spelled zero l = absurd (omega (arith, l))
  any_spelled (suc n) l = tt

  module _ (classes enums : ℕ) (same : length c.classes ≡ classes) (few : enums ≤ 4294967295) where
    mutual
      pub sort_spelled : (n m : ℕ) (a : Ty) → n ≤ m → IsTold classes enums n a → IsSort c m (sort_of a)
      sort_spelled zero m a l h = absurd h
      sort_spelled (suc n) zero a l h = absurd (omega (arith, l))
      sort_spelled (suc n) (suc m) (t.enum e) l h = omega (arith, h, few)
      sort_spelled (suc n) (suc m) (t.class k) l h = subst (λ x. k < x) (sym same) h
      sort_spelled (suc n) (suc m) (t.option a) l h = sort_spelled n m a (omega (arith, l)) h
      sort_spelled (suc n) (suc m) (t.array a) l h = sort_spelled n m a (omega (arith, l)) h
      sort_spelled (suc n) (suc m) (t.task a) l h = sort_spelled n m a (omega (arith, l)) h
      sort_spelled (suc n) (suc m) (t.event a) l h = sort_spelled n m a (omega (arith, l)) h
      sort_spelled (suc n) (suc m) (t.mapping k a) l h =
          (sort_spelled n m k (omega (arith, l)) h.0, sort_spelled n m a (omega (arith, l)) h.1)
      sort_spelled (suc n) (suc m) (t.tuple xs) l h =
          (subst (λ x. x ≤ 4294967295) (sym (as_many xs)) h.0, sorts_spelled n m xs (omega (arith, l)) h.1)
      sort_spelled (suc n) (suc m) a l h = tt

      sorts_spelled : (n m : ℕ) (xs : Tys) → n ≤ m → AreTold classes enums n xs → AreSorts c m (sorts_of xs)
      sorts_spelled n m t.no_tys l h = tt
      sorts_spelled n m (t.more_tys a xs) l h = (sort_spelled n m a l h.0, sorts_spelled n m xs l h.1)
