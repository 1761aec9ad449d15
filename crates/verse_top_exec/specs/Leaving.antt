-- What a command that writes as it goes on leaves in a sink.
use Rattle.std.specs.Prelude.{◌≡◌, ◌⊎◌, ℕ, List, Option, Result, Ok, Err}
use Rattle.verse_outside.specs.Causes.{Rose}
use Rattle.verse_outside.specs.Held.{TookPrefix, with_more}
use Rattle.verse_top_exec.specs.declared.stops.Stop.{Stop}
use Rattle.verse_top_exec.specs.declared.stops.Stop.TheVariants as stop

-- a text of this kind was written
abbrev pub Wrote : (List ℕ → Type 0) → (old new : Option (List ℕ)) → Type 0
Wrote Kind old new = (text : List ℕ) × (Kind text × (new ≡ with_more old text))

-- a prefix of a text of this kind was written
abbrev pub WroteFront : (List ℕ → Type 0) → (old new : Option (List ℕ)) → Type 0
WroteFront Kind old new = (text : List ℕ) × (Kind text × TookPrefix old text new)

-- memory ran out behind a text of one kind, or the sink failed within a text of another
abbrev pub Stopped : (SoFar Cut : List ℕ → Type 0) → (before now : ℕ) →
    (old new : Option (List ℕ)) → Stop → Type 0
Stopped SoFar Cut before now old new stop.Memory = Wrote SoFar old new
Stopped SoFar Cut before now old new stop.Failed = Rose before now × WroteFront Cut old new

-- a text that is whole, with any status, or one that stands before it
abbrev pub Either : (Whole : ℕ → List ℕ → Type 0) → (SoFar : List ℕ → Type 0) → List ℕ → Type 0
Either Whole SoFar text = ((status : ℕ) × Whole status text) ⊎ SoFar text

-- the whole text was written, or it stopped within it
abbrev pub Leaves : (Whole : ℕ → List ℕ → Type 0) → (SoFar : List ℕ → Type 0) → (before now : ℕ) →
    (old new : Option (List ℕ)) → Result ℕ Stop → Type 0
Leaves Whole SoFar before now old new (Ok status) = Wrote (Whole status) old new
Leaves Whole SoFar before now old new (Err s) =
    Stopped SoFar (Either Whole SoFar) before now old new s
