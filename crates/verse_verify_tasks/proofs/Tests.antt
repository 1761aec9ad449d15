-- Tests and what they come to.
use Rattle.std.proofs.Common.{◌≡◌, Bool, true, false, refl, sym}
use Rattle.std.specs.Prelude.{◌&&◌, Option, Some, None}
use Rattle.std.proofs.lemmas.Bool.{and_parts}
use Rattle.verse_verify_faults.specs.Spots.{Spot}
use Rattle.verse_verify_faults.specs.Faults.{on_spot}

no_both : {A : Type 0} → true ≡ false → A
no_both e = cc

pub spot_is : (q : Option Spot) (test : Spot → Bool) → on_spot q test ≡ true → (x : Spot) × (q ≡ Some x) × (test x ≡ true)
spot_is None test e = no_both (sym e)
spot_is (Some x) test e = (x, refl, e)

pub second : (a b c d e : Bool) → a && b && c && d && e ≡ true → b ≡ true
second a b c d e h = (and_parts a b (and_parts (a && b) c (and_parts (a && b && c) d (and_parts (a && b && c && d) e h).0).0).0).1

pub first : (a b c d e : Bool) → a && b && c && d && e ≡ true → a ≡ true
first a b c d e h = (and_parts a b (and_parts (a && b) c (and_parts (a && b && c) d (and_parts (a && b && c && d) e h).0).0).0).0

pub and_true : (b : Bool) → b && true ≡ b
and_true true = refl
and_true false = refl
