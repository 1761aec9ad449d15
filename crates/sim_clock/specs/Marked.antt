-- A set of pairs of numbers, as a test of its pairs.
use Rattle.std.specs.Prelude.{◌≡◌, ℕ, nat_eq, nat_lt, Bool, true, false, ◌&&◌, ◌||◌, if◌then◌else◌}
use Rattle.std.specs.Ordering.{nat_cmp, ordering_then}
use Rattle.std.specs.declared.cmp.Ordering.{Ordering}
use Rattle.std.specs.BTreeSet.{BTreeSet, contains}

-- by the first number, and then by the second
abbrev pub pair_cmp : ℕ × ℕ → ℕ × ℕ → Ordering
pair_cmp x y = ordering_then (nat_cmp x.0 y.0) (nat_cmp x.1 y.1)

abbrev pub has : BTreeSet (ℕ × ℕ) → ℕ → ℕ → Bool
has pairs a n = contains pair_cmp pairs (a, n)

-- the new set has this pair exactly where `there` says so, and others as the old one
abbrev pub Marks : (ℕ → ℕ → Bool) → (ℕ → ℕ → Bool) → ℕ → ℕ → Bool → Type 0
Marks old new a n there = (x m : ℕ) →
    new x m ≡ (if nat_eq x a && nat_eq m n then there else old x m)

abbrev pub comes_first : ℕ → ℕ → ℕ → ℕ → Bool
comes_first a n b m = nat_lt a b || (nat_eq a b && nat_lt n m)

-- the pair is there, and no other comes before it
pub record IsLeast (there : ℕ → ℕ → Bool) (a n : ℕ) : Type 0 where
  pub member : there a n ≡ true
  pub least : (b m : ℕ) → there b m ≡ true → comes_first b m a n ≡ false
