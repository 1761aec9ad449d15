-- Pairs of numbers in a list, in order.
use Rattle.std.specs.Prelude.{◌≡◌, ◌<◌, ◌≤◌, ℕ, nat_eq, Bool, true, ◌&&◌, List, length}
use Rattle.std.specs.Prelude.{slice_index_or}
use Rattle.std.specs.List.{list_any}
use Rattle.sim_clock.specs.Marked.{comes_first}

-- the pairs of a queue, and how many it has room for
pub record Queued : Type 0 where
  pub pairs : List (ℕ × ℕ)
  pub room : ℕ

abbrev pub has_in : List (ℕ × ℕ) → ℕ → ℕ → Bool
has_in ps a n = list_any (λ p. nat_eq p.0 a && nat_eq p.1 n) ps

abbrev pub pair_at : List (ℕ × ℕ) → ℕ → ℕ × ℕ
pair_at ps i = slice_index_or ps i (0, 0)

-- each pair comes before all behind it
abbrev pub InOrder : List (ℕ × ℕ) → Type 0
InOrder ps = (i j : ℕ) → i < j → j < length ps →
    comes_first (pair_at ps i).0 (pair_at ps i).1 (pair_at ps j).0 (pair_at ps j).1 ≡ true

-- the pair stands at this place
pub record IsPlace (ps : List (ℕ × ℕ)) (a n i : ℕ) : Type 0 where
  pub within : i < length ps
  pub first : (pair_at ps i).0 ≡ a
  pub second : (pair_at ps i).1 ≡ n

-- the pair would stand at this place
pub record IsGap (ps : List (ℕ × ℕ)) (a n i : ℕ) : Type 0 where
  pub within : i ≤ length ps
  pub before : (j : ℕ) → j < i → comes_first (pair_at ps j).0 (pair_at ps j).1 a n ≡ true
  pub behind : (j : ℕ) → i ≤ j → j < length ps →
      comes_first a n (pair_at ps j).0 (pair_at ps j).1 ≡ true
