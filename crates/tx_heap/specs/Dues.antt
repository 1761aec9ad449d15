-- How the dues of open marks change, the newest first.
use Rattle.std.specs.Prelude.{◌≡◌, ◌≤◌, ◌+◌, ℕ, List, [], ◌∷◌}

-- the last due rises by at most `most`
abbrev pub Raised : ℕ → List ℕ → List ℕ → Type 0
Raised most [] new = new ≡ []
Raised most (d ∷ ds) new = (e : ℕ) × (e ≤ d + most) × (new ≡ e ∷ ds)

-- the last due is taken off, and the one before it rises by at most that
abbrev pub Joined : List ℕ → List ℕ → Type 0
Joined [] new = new ≡ []
Joined (d ∷ []) new = new ≡ []
Joined (d ∷ c ∷ ds) new = (e : ℕ) × (e ≤ c + d) × (new ≡ e ∷ ds)

-- the last due is taken off
abbrev pub TakenOff : List ℕ → List ℕ → Type 0
TakenOff [] new = new ≡ []
TakenOff (d ∷ ds) new = new ≡ ds

-- the count rises by at most the last due
abbrev pub Spent : List ℕ → ℕ → ℕ → Type 0
Spent [] old new = new ≤ old
Spent (d ∷ ds) old new = new ≤ old + d
