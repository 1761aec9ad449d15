-- What comes of the rules over a whole program.
use Rattle.std.proofs.Common.{◌≡◌, ◌≤◌, List, inl, inr, refl}
use Rattle.verse_base.specs.declared.refusals.Refusal.{Refusal}
use Rattle.verse_tree.specs.ItemTree.{ItemTree}
use Rattle.verse_rules.specs.Sound.{IsSound, IsUnsound, size_of, most_size}
use Rattle.verse_accept.specs.Fronts.{bounding, testing}

pub all_fine : (is : List ItemTree) → IsSound is → size_of is ≤ most_size → testing.makes is is
all_fine is h small = (is, (is, (refl, h.named), (refl, h.typed)), (refl, small))

pub unsound : (is : List ItemTree) (r : Refusal) → IsUnsound is r → testing.refuses is r
unsound is r (inl x) = inl (inl x)
unsound is r (inr x) = inl (inr (is, (refl, x.0), x.1))

pub too_large : (is : List ItemTree) (r : Refusal) → IsSound is → bounding.refuses is r → testing.refuses is r
too_large is r h x = inr (is, (is, (refl, h.named), (refl, h.typed)), x)
