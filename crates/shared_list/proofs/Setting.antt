-- An item replaced in two lists one behind the other.
use Rattle.std.proofs.Common.{◌≡◌, ◌<◌, ◌≤◌, ◌-◌, ℕ, List, ◌++◌, length, slice_set, refl}
use Rattle.std.proofs.lemmas.List.{set-append_left, set-append_right}

module _ {T : Type 0} where
  pub set_left : (xs ys : List T) (i : ℕ) (y : T) → i < length xs →
      slice_set (xs ++ ys) i y ≡ slice_set xs i y ++ ys
  set_left xs ys i y h = set-append_left xs ys i y h

  pub set_right : (xs ys : List T) (i : ℕ) (y : T) → length xs ≤ i →
      slice_set (xs ++ ys) i y ≡ xs ++ slice_set ys (i - length xs) y
  set_right xs ys i y h = set-append_right xs ys (length xs) i y refl h
