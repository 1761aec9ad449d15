-- What a frame has beside its levels: a place, locals, and the bounds of its handlers.
use Rattle.std.specs.Prelude.{ℕ, suc, ◌+◌, List, [], ◌∷◌, ◌++◌, length, reverse, set, Bool, true}
use Rattle.std.specs.Prelude.{false}
use Rattle.fiber_stacks.specs.declared.heads.Bounds.{Bounds}
use Rattle.fiber_stacks.specs.Layers.{top, closed}

-- the bounds of the innermost handler first
pub record Head (T : Type 0) : Type 0 where
  pub place : ℕ
  pub locals : List T
  pub bounds : List Bounds

abbrev pub heads : {T : Type 0} → List ℕ → List (List T) → List (List Bounds) → List (Head T)
heads [] ls bs = []
heads (p ∷ ps) ls bs = record { place = p; locals = top ls; bounds = reverse (top bs) } ∷
    heads ps (closed ls) (closed bs)

abbrev pub new_head : {T : Type 0} → ℕ → Head T
new_head place = record { place = place; locals = []; bounds = [] }

abbrev pub with_place : {T : Type 0} → ℕ → List (Head T) → List (Head T)
with_place q [] = []
with_place q (h ∷ hs) = record h { place = q } ∷ hs

abbrev pub with_local : {T : Type 0} → ℕ → T → List (Head T) → List (Head T)
with_local i x [] = []
with_local i x (h ∷ hs) = record h { locals = set h.locals i x } ∷ hs

abbrev pub with_locals : {T : Type 0} → List T → List (Head T) → List (Head T)
with_locals xs [] = []
with_locals xs (h ∷ hs) = record h { locals = h.locals ++ xs } ∷ hs

abbrev pub with_bounds : {T : Type 0} → Bounds → List (Head T) → List (Head T)
with_bounds b [] = []
with_bounds b (h ∷ hs) = record h { bounds = b ∷ h.bounds } ∷ hs

-- of the top frame
abbrev pub place_on : {T : Type 0} → List (Head T) → ℕ
place_on [] = 0
place_on (h ∷ hs) = h.place

abbrev pub locals_on : {T : Type 0} → List (Head T) → List T
locals_on [] = []
locals_on (h ∷ hs) = h.locals

abbrev pub bounds_on : {T : Type 0} → List (Head T) → List Bounds
bounds_on [] = []
bounds_on (h ∷ hs) = h.bounds

-- whether a frame has a handler
abbrev pub has_bounds : List Bounds → Bool → Bool
has_bounds [] rest = rest
has_bounds (b ∷ bs) rest = true

abbrev pub any_bounds : {T : Type 0} → List (Head T) → Bool
any_bounds [] = false
any_bounds (h ∷ hs) = has_bounds h.bounds (any_bounds hs)

-- how many levels the frames have: one each, and one for each handler
abbrev pub height : {T : Type 0} → List (Head T) → ℕ
height [] = 0
height (h ∷ hs) = suc (length h.bounds) + height hs
