-- Places past the last element.
use Rattle.std.proofs.Common.{◌≡◌, ℕ, zero, suc, ◌≤◌, arith, refl}
use Rattle.verse_value.specs.Val.{Val, Vals, no_vals, more_vals}
use Rattle.verse_value.specs.Answer.{stuck, given_or}
use Rattle.verse_value.specs.Places.{nth}
use Rattle.verse_value.specs.Operations.{count}

pub no_element : (vs : Vals) (n : ℕ) → count vs ≤ n → given_or {A = Val} stuck (nth vs n) ≡ stuck
no_element no_vals n h = refl
no_element (more_vals v vs) zero h = absurd (omega arith)
no_element (more_vals v vs) (suc n) h = no_element vs n (omega arith)
