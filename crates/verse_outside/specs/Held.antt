-- What an object of the outside holds or has taken, where it tells.
use Rattle.std.specs.Prelude.{◌≡◌, ℕ, ◌≤◌, List, ◌++◌, Option, Some, None, option_map, length, take}

-- the bytes held under each name, where the object tells them; there need not be any under a name
abbrev pub Holding : Type 0
Holding = Option (List ℕ → Option (List ℕ))

-- the object tells, and holds these bytes under the name
abbrev pub Holds : Holding → List ℕ → List ℕ → Type 0
Holds None name bytes = ⊥
Holds (Some held) name bytes = held name ≡ Some bytes

-- the object tells, and holds nothing under the name
abbrev pub Lacks : Holding → List ℕ → Type 0
Lacks None name = ⊥
Lacks (Some held) name = held name ≡ None

-- the first `most` bytes of what is held under the name; nothing is known where the object does not
-- tell
abbrev pub Loads : Holding → List ℕ → ℕ → List ℕ → Type 0
Loads None name most bytes = Unit {0}
Loads (Some held) name most bytes = (all : List ℕ) × (held name ≡ Some all) ×
    (bytes ≡ take most all)

-- the bytes taken, with more behind them
abbrev pub with_more : Option (List ℕ) → List ℕ → Option (List ℕ)
with_more taken more = option_map (λ bytes. bytes ++ more) taken

-- a prefix of the piece was taken
abbrev pub TookPrefix : Option (List ℕ) → List ℕ → Option (List ℕ) → Type 0
TookPrefix old piece new = (n : ℕ) × (n ≤ length piece) × (new ≡ with_more old (take n piece))
