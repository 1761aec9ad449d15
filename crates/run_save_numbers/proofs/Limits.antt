-- Numbers are far below 2^64.
use Rattle.std.proofs.Common.{ℕ, suc, ◌+◌, ◌*◌, ◌≤◌, arith}
use Rattle.std.proofs.lemmas.Nat.{mul-le}
use Rattle.verse_base.specs.declared.limits.TheConstants.{MOST_STEPS}

pub few : (left spent n : ℕ) → left + spent ≤ MOST_STEPS → n ≤ spent → left + suc spent * n ≤ 10000000200000000
few left spent n sum le =
    let most : suc spent * n ≤ 100000001 * 100000000 =
    mul-le (suc spent) n 100000001 100000000 (omega (arith, sum)) (omega (arith, sum, le)) in
    omega (arith, most, sum)
