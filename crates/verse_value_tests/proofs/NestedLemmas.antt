-- One option more.
use Rattle.std.proofs.Common.{◌≡◌, refl, ℕ, suc, ◌+◌, arith}
use Rattle.verse_value.specs.Val.{Val, some}
use Rattle.verse_value_tests.specs.Nested.{in_options}

pub one_more : (n : ℕ) (v : Val) → in_options (n + 1) v ≡ some (in_options n v)
one_more n v =
    let next : n + 1 ≡ suc n = omega arith in
    rw next refl
