-- A class without a method of its parent.
use Rattle.std.proofs.Common.{◌≡◌, ℕ, zero, suc, ◌<◌, List, [], ◌∷◌, length, drop, false, refl, arith}
use Rattle.verse_code.specs.declared.codes.Code.{Code}
use Rattle.verse_verify_faults.specs.Spots.{Table}
use Rattle.verse_verify_faults.specs.Faults.{all_override}

pub lacks : (c : Code) (t : Table) (fs gs : List ℕ) (i : ℕ) → i < length fs → length gs ≡ 0 → all_override c t (drop i fs) gs ≡ false
lacks c t [] gs i h e = absurd (omega (arith, h))
lacks c t (f ∷ fs) [] zero h e = refl
lacks c t (f ∷ fs) (g ∷ gs) zero h e = absurd (omega (arith, e))
lacks c t (f ∷ fs) gs (suc i) h e = lacks c t fs gs i (omega (arith, h)) e
