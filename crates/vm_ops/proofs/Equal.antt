-- Equal values, and unequal ones.
use Rattle.std.proofs.Common.{◌≡◌, true, false, refl}
use Rattle.std.proofs.lemmas.Bool.{false_from_ne_true}
use Rattle.verse_value.specs.Val.{Val}
use Rattle.verse_value.specs.Answer.{gives, fails}
use Rattle.verse_value.specs.Equality.{val_eq}
use Rattle.verse_value.specs.Operations.{equal_of, unequal_of}
use Rattle.verse_value.proofs.EqualityLaw.{equality_is_tested}

pub same_is : (a b : Val) → a ≡ b → val_eq a b ≡ true
same_is a b same = (equality_is_tested a b).1 same

pub other_is : (a b : Val) → (a ≡ b → ⊥) → val_eq a b ≡ false
other_is a b other = false_from_ne_true (val_eq a b) (λ e. other ((equality_is_tested a b).0 e))

pub equal_gives : (a b : Val) → a ≡ b → equal_of a b ≡ gives a
equal_gives a b same = rw (same_is a b same) refl

pub equal_fails : (a b : Val) → (a ≡ b → ⊥) → equal_of a b ≡ fails
equal_fails a b other = rw (other_is a b other) refl

pub unequal_gives : (a b : Val) → (a ≡ b → ⊥) → unequal_of a b ≡ gives a
unequal_gives a b other = rw (other_is a b other) refl

pub unequal_fails : (a b : Val) → a ≡ b → unequal_of a b ≡ fails
unequal_fails a b same = rw (same_is a b same) refl
