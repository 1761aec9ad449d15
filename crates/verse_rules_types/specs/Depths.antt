-- How many classes stand above one, and where two classes with as many above them meet.
use Rattle.std.specs.Prelude.{◌≡◌, ℕ, zero, suc, ◌+◌, ◌-◌, cond, nat_eq, List, length, Option, Some, None}
use Rattle.verse_rules_types.specs.Types.{Class}
use Rattle.verse_rules_types.specs.Fitting.{parent_of, above}

abbrev pub height_on : ℕ → Option ℕ → (ℕ → Option ℕ) → Option ℕ
height_on i None f = Some i
height_on i (Some p) f = f p

-- how many classes stand above a class, and i more; none where that is not known in n steps
abbrev pub height_from : List Class → ℕ → ℕ → ℕ → Option ℕ
height_from cs zero i c = None
height_from cs (suc n) i c = height_on i (parent_of cs c) (height_from cs n (i + 1))

-- how many classes stand above a class; none where they stand in a circle
abbrev pub height : List Class → ℕ → Option ℕ
height cs c = height_from cs (length cs) 0 c

abbrev pub lift_on : ℕ → Option ℕ → (ℕ → ℕ) → ℕ
lift_on c None f = c
lift_on c (Some p) f = f p

-- the class so many above one; the last one where there are fewer
abbrev pub lifted : List Class → ℕ → ℕ → ℕ
lifted cs zero c = c
lifted cs (suc n) c = lift_on c (parent_of cs c) (lifted cs n)

-- where two classes meet that go up in step
abbrev pub meeting : List Class → ℕ → ℕ → ℕ → Option ℕ
meeting cs zero c d = None
meeting cs (suc n) c d = cond (nat_eq c d) (Some c)
    (above (parent_of cs c) (λ p. above (parent_of cs d) (λ q. meeting cs n p q)))

-- where two classes meet above which so many stand
abbrev pub meeting_from : List Class → (c d h k : ℕ) → Option ℕ
meeting_from cs c d h k = meeting cs (length cs) (lifted cs (h - k) c) (lifted cs (k - h) d)

-- so many classes stand above a class
pub data Ends (cs : List Class) : ℕ → ℕ → Type 0 where
  top : {c : ℕ} → parent_of cs c ≡ None → Ends cs zero c
  up : {k c p : ℕ} → parent_of cs c ≡ Some p → Ends cs k p → Ends cs (suc k) c
