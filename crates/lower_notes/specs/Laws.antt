-- There is one state for each operation, and what stands behind a tree.
use Rattle.std.specs.Prelude.{◌≡◌, ◌⊎◌, ℕ, Bool, length, Option, None, option_map}
use Rattle.verse_tree.specs.Tree.{Tree}
use Rattle.verse_code.specs.declared.codes.Code.{Code}
use Rattle.verse_meaning.specs.Programs.{Program}
use Rattle.verse_meaning.specs.Evaluating.{number_of}
use Rattle.verse_sorts.specs.Sorts.{Sort}
use Rattle.verse_sound_rules.specs.Found.{Found}
use Rattle.verse_verify_faults.specs.Spots.{Table}
use Rattle.lower_code.specs.declared.arounds.Around.{Around}
use Rattle.lower_code.specs.Pieces.{Spot, Maker, deepest}
use Rattle.lower_code.specs.Scopes.{Scope}
use Rattle.lower_code.specs.Lowering.{piece}
use Rattle.lower_code.specs.Programs.{code_of}
use Rattle.lower_notes.specs.States.{State, gives}
use Rattle.lower_notes.specs.Stretches.{Walk}
use Rattle.lower_notes.specs.Noting.{walk}
use Rattle.lower_notes.specs.Programs.{notes_of}

-- of a stretch of code, wherever it stands and whatever the state at it; a loop is left from as
-- deep
pub record Beside (f : Maker) (g : Walk) : Type 0 where
  pub count : (s : Spot) (at : ℕ) (x : Option State) → length (f s).items ≡ length (g at x).states
  pub deep : (s : Spot) (at : ℕ) (x : Option State) → deepest (f s).items ≡ (g at x).deep

-- of a code: as many classes, functions and states as it has classes, functions and operations
pub record SameCounts (code : Code) (notes : Table) : Type 0 where
  pub classes : length notes.classes ≡ length code.classes
  pub functions : length notes.functions ≡ length code.functions
  pub spots : length notes.spots ≡ length code.ops

-- behind what begins with the first state stands that one with a value of the sort, or it never
-- ends
abbrev pub Exits : Sort → (before behind : Option State) → Type 0
Exits q x y = (y ≡ None) ⊎ (y ≡ option_map (gives 0 q) x)

pub record StatesStand (p : Program) (found : Found) (differ : ℕ → ℕ → Bool) : Type 0 where
  pub trees : (b : Tree) (sc : Scope) (a : Around) → Beside (piece p differ b sc a)
      (walk p found differ b sc a)
  pub exits : (b : Tree) (sc : Scope) (a : Around) (at : ℕ) (x : Option State) →
      Exits (found.sort (number_of b)) x (walk p found differ b sc a at x).exit
  pub whole : (files : ℕ) → SameCounts (code_of p differ files) (notes_of p found differ
      (code_of p differ files))

-- of each program, whatever the checker has found of it
abbrev pub OneForEach : Type 0
OneForEach = (p : Program) (found : Found) (differ : ℕ → ℕ → Bool) → StatesStand p found differ
