-- How a list is made.
use Rattle.std.specs.Prelude.{◌≡◌, ◌<◌, List, [], ◌∷◌, ◌++◌, length}
use Rattle.shared_list.specs.declared.Halves.{Halves}
use Rattle.shared_list.specs.declared.Halves.TheVariants as h

-- neither of two halves is empty
abbrev pub AreHalves : {T : Type 0} → List T → Halves T → Type 0
AreHalves xs h.Nothing = xs ≡ []
AreHalves xs (h.One x) = xs ≡ x.now ∷ []
AreHalves xs (h.Two l r) = (xs ≡ l.now ++ r.now) × ((0 < length l.now) × (0 < length r.now))
