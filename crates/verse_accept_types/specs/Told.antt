-- Types that the tables of a program tell: their classes and enums are there, and they nest no
-- deeper and are no wider than types may be.
use Rattle.std.specs.Prelude.{ℕ, zero, suc, ◌<◌, ◌≤◌}
use Rattle.verse_rules_types.specs.Types as t
use Rattle.verse_rules_types.specs.Types.{Ty, Tys}

-- of 32 bits
abbrev pub IsNumber : ℕ → Type 0
IsNumber n = n ≤ 4294967295

abbrev pub how_many : Tys → ℕ
how_many t.no_tys = 0
how_many (t.more_tys a xs) = suc (how_many xs)

module _ (classes enums : ℕ) where
  -- a type of at most so many levels, with classes and enums that are numbered below their counts
  abbrev mutual
    pub IsTold : (levels : ℕ) → Ty → Type 0
    IsTold zero a = ⊥
    IsTold (suc n) t.never = Unit {0}
    IsTold (suc n) t.nil = Unit {0}
    IsTold (suc n) t.void = Unit {0}
    IsTold (suc n) t.int = Unit {0}
    IsTold (suc n) t.logic = Unit {0}
    IsTold (suc n) t.char = Unit {0}
    IsTold (suc n) (t.enum e) = e < enums
    IsTold (suc n) (t.class c) = c < classes
    IsTold (suc n) (t.option a) = IsTold n a
    IsTold (suc n) (t.array a) = IsTold n a
    IsTold (suc n) (t.task a) = IsTold n a
    IsTold (suc n) (t.event a) = IsTold n a
    IsTold (suc n) (t.mapping k a) = IsTold n k × IsTold n a
    IsTold (suc n) (t.tuple xs) = IsNumber (how_many xs) × AreTold n xs

    pub AreTold : (levels : ℕ) → Tys → Type 0
    AreTold n t.no_tys = Unit {0}
    AreTold n (t.more_tys a xs) = IsTold n a × AreTold n xs
