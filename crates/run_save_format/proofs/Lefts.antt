-- Steps that are left, none more than a bound.
use Rattle.std.proofs.Common.{ℕ, ◌≤◌, List, Option, Some, None, zero, suc, [], ◌∷◌, slice_get, ◌++◌}
use Rattle.run_save_shots.specs.Lists.{Each}
use Rattle.run_save_format.specs.Whole.{or_else, left_at}

abbrev pub AllLeft : ℕ → List ℕ → Type 0
AllLeft most lefts = Each (λ left. left ≤ most) lefts

abbrev pub Noted : {S : Type 0} → ℕ → S × List ℕ → Type 0
Noted most s = AllLeft most s.1

abbrev pub IfLeft : ℕ → Option ℕ → Type 0
IfLeft most None = Unit {0}
IfLeft most (Some left) = left ≤ most

pub one_left : (most : ℕ) (lefts : List ℕ) (n : ℕ) → AllLeft most lefts → IfLeft most (slice_get lefts n)
one_left most [] n all = tt
one_left most (left ∷ lefts) zero all = all.0
one_left most (left ∷ lefts) (suc n) all = one_left most lefts n all.1

pub one_more_left : (most left : ℕ) (lefts : List ℕ) → AllLeft most lefts → left ≤ most → AllLeft most (lefts ++ left ∷ [])
one_more_left most left [] all low = (low, tt)
one_more_left most left (other ∷ lefts) all low = (all.0, one_more_left most left lefts all.1 low)

pub or_left : (most : ℕ) (o other : Option ℕ) → IfLeft most o → IfLeft most other → IfLeft most (or_else o other)
or_left most None other p q = q
or_left most (Some left) other p q = p

pub some_left : (most : ℕ) (lefts : List ℕ) (o : Option ℕ) → AllLeft most lefts → IfLeft most (left_at lefts o)
some_left most lefts None all = tt
some_left most lefts (Some n) all = one_left most lefts n all

abbrev pub IfThere : {A : Type 0} → (A → Type 0) → Option A → Type 0
IfThere P None = Unit {0}
IfThere P (Some x) = P x
