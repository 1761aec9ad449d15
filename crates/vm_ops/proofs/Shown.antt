-- A text from its parts, and what it weighs.
use Rattle.std.proofs.Common.{◌≡◌, ℕ, ◌≤◌, ◌<◌, List, ◌++◌, length, Option, Some, None, true, false, nat_le, arith, refl}
use Rattle.std.proofs.lemmas.Bool.Decides.{nat_tests}
use Rattle.verse_base.specs.declared.refusals.Kind.TheVariants.{Size}
use Rattle.verse_value.specs.Val.{Val}
use Rattle.verse_value.specs.Answer.{Answer, gives, error, stuck}
use Rattle.verse_value.specs.Sizes.{weight_of, levels_of}
use Rattle.verse_value.specs.Operations.{text_val, sized}
use Rattle.verse_value.proofs.Sums.{chars_weigh, chars_flat}

flat : (bs : List ℕ) → nat_le (levels_of (text_val bs)) 200 ≡ true
flat bs = let few : levels_of (text_val bs) ≤ 200 = omega (arith, chars_flat bs) in grind (arith, nat_tests)

pub light_text : (bs : List ℕ) → length bs < 4000000 → sized (text_val bs) ≡ gives (text_val bs)
light_text bs h =
    let light : weight_of (text_val bs) ≤ 4000000 = omega (arith, chars_weigh bs) in
    let is : nat_le (weight_of (text_val bs)) 4000000 ≡ true = grind (arith, nat_tests) in
    rw is (rw (flat bs) refl)

pub heavy_text : (bs : List ℕ) → 4000000 ≤ length bs → sized (text_val bs) ≡ error Size
heavy_text bs h =
    let heavy : 4000001 ≤ weight_of (text_val bs) = omega (arith, chars_weigh bs) in
    let is : nat_le (weight_of (text_val bs)) 4000000 ≡ false = grind (arith, nat_tests) in
    rw is refl

-- a text from its front and what the other parts show
abbrev pub text_from : List ℕ → Option (List ℕ) → Answer Val
text_from front (Some bytes) = sized (text_val (front ++ bytes))
text_from front None = stuck
