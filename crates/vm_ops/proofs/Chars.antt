-- The chars of a text.
use Rattle.std.proofs.Common.{◌≡◌, ℕ, List, [], ◌∷◌, map, refl, ap}
use Rattle.verse_value.specs.Val.{char, vals, more_vals}
use Rattle.verse_value.specs.Keys.{chars}

pub chars_are : (bs : List ℕ) → vals (map char bs) ≡ chars bs
chars_are [] = refl
chars_are (b ∷ bs) = ap (more_vals (char b)) (chars_are bs)
