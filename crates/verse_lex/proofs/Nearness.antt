-- Places are near each other.
use Rattle.std.proofs.Common.{◌≡◌, ℕ, ◌+◌, ◌==◌, Bool, true, false, refl, arith}
use Rattle.verse_base.specs.declared.places.Place.{Place}
use Rattle.verse_lex.specs.Cut.{next_place, IsNear}

pub next_place_near : (p q : Place) (n b : ℕ) → IsNear p n q → IsNear p (n + 1) (next_place q b)
next_place_near p q n b near = by_byte (b == 10) refl
  where
    by_byte : (v : Bool) → (b == 10) ≡ v → IsNear p (n + 1) (next_place q b)
    by_byte true e = rw e (record { first = omega arith; line = omega (arith, near.line); col = omega (arith, near.first, near.col) })
    by_byte false e = rw e (record { first = omega (arith, near.first); line = omega (arith, near.line); col = omega (arith, near.col) })
