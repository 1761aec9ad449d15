-- Calls that are counted, and calls that are chosen to fail.
use Rattle.std.specs.Prelude.{ℕ, ◌+◌, List, Bool, min, ◌==◌}
use Rattle.std.specs.List.{list_any}

-- a count after one more, which stands still at the end of its range
abbrev pub counted : ℕ → ℕ
counted n = min (n + 1) 18446744073709551615

-- whether the call of this number, from 0, was chosen to fail
abbrev pub is_chosen : List ℕ → ℕ → Bool
is_chosen failing call = list_any (λ n. n == call) failing
