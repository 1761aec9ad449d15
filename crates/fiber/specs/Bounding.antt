-- Where handlers let a frame go on.
use Rattle.std.specs.Prelude.{◌≡◌, ◌≤◌, ◌<◌, ℕ, List, [], ◌∷◌, Bool, true, false, cond, nat_lt}
use Rattle.fiber_stacks.specs.declared.heads.Bounds.{Bounds}
use Rattle.fiber.specs.declared.bounding.Window.{Window}

abbrev pub allows : Bounds → ℕ → Bool
allows b q = cond (nat_lt b.made q) (nat_lt q b.label) false

abbrev pub within : List Bounds → ℕ → Bool
within [] q = true
within (b ∷ bs) q = cond (allows b q) (within bs q) false

-- at each place of the window the handlers let a frame go on
abbrev pub Within : List Bounds → Window → Type 0
Within bs w = (q : ℕ) → w.low ≤ q → q < w.high → within bs q ≡ true
