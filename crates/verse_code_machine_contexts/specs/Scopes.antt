-- Scopes: where a frame ends, the tasks that it has begun are cancelled, before what waits for the
-- frame goes on.
use Rattle.std.specs.Prelude.{◌≡◌, ◌⊎◌, ℕ, ◌<◌, ℤ, List, [], ◌∷◌, ◌++◌, Option, Some, Bool, true}
use Rattle.verse_code.specs.declared.operations.Op.TheVariants as does
use Rattle.verse_code.specs.declared.codes.Code.{Code}
use Rattle.verse_value.specs.Val.{Val}
use Rattle.verse_value.specs.declared.runs.Ending.TheVariants as ending
use Rattle.verse_code_machine.specs.Tasks.{Frame, root, part, thread, After, resuming, closing}
use Rattle.verse_code_machine.specs.Tasks.{finishing, Machine, Step, Over, since}
use Rattle.verse_code_machine.specs.Runs.{step}
use Rattle.verse_code_machine_contexts.specs.Runs.{op_at, Comes, InRun}
use Rattle.verse_code_machine_contexts.specs.Cancels.{Cancels}

-- The operation ends the frame on top with a value. Then the frame below goes on, or an arm or a
-- task behind is over, or a task of its own.
pub data EndsFrame (c : Code) (m : Machine) : After → Type 0 where
  returns : (f : Frame) (fs : List Frame) (v : Val) (st : List Val) →
      op_at c m ≡ Some does.Return → m.below ≡ f ∷ fs → m.frame.stack ≡ v ∷ st →
      EndsFrame c m (resuming (thread m.who f fs) v)
  finishes : (entry : Option ℕ) (v : Val) (st : List Val) → op_at c m ≡ Some does.Return →
      m.below ≡ [] → m.who.role ≡ root entry → m.frame.stack ≡ v ∷ st →
      EndsFrame c m (finishing m.who entry v)
  ends : (v : Val) (st : List Val) → op_at c m ≡ Some does.ArmEnd → m.below ≡ [] →
      m.who.role ≡ part → m.frame.stack ≡ v ∷ st → EndsFrame c m (closing m.who v)

-- the names of what the frame on top has begun
abbrev pub begun_by : Machine → List ℕ → Bool
begun_by m = since m.who.path m.frame.life.born

-- Such a name goes on from that of the frame's task, by the number of a task that began when fewer
-- steps were left than when the frame did.
pub record BegunBy (m : Machine) (x : List ℕ) : Type 0 where
  pub number : ℕ
  pub rest : List ℕ
  pub beneath : x ≡ m.who.path ++ number ∷ rest
  pub since : number < m.frame.life.born

-- These are all such names: with a task all that it encloses.
pub record NamesBegun (m : Machine) : Type 0 where
  pub are : (x : List ℕ) → begun_by m x ≡ true → BegunBy m x
  pub all : (x : List ℕ) → BegunBy m x → begun_by m x ≡ true

-- Where the frame cannot end, for a context or a deferred block that is left, the run is stuck.
abbrev pub ScopeEnds : Code → After → Machine → Step → Type 0
ScopeEnds c a m r =
    (step c m ≡ Over ending.Stuck m.state) ⊎ Cancels c a (begun_by m) m.world m.state r

-- In every run: from where a frame ends, after any number of operations.
abbrev pub ScopesEnd : Type 0
ScopesEnd = (c : Code) (ns : List ℤ) (steps until : ℕ) (m : Machine) →
    InRun c ns steps until m → (a : After) → EndsFrame c m a →
    NamesBegun m × ((r : Step) → Comes c (step c m) r → ScopeEnds c a m r)
