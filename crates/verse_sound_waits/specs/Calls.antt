-- What it is that a program says which of its functions suspend, and what that promises.
use Rattle.std.specs.Prelude.{◌≡◌, ℕ, Bool, true, false, List, Option, Some}
use Rattle.verse_tree.specs.ItemTree.{FunTree}
use Rattle.verse_value.specs.Val.{Val}
use Rattle.verse_sorts.specs.Sorts.{Inherits}
use Rattle.verse_sorts.specs.Typing.{Typing, Are}
use Rattle.verse_meaning.specs.Programs.{Program, fun_at, method_at}
use Rattle.verse_meaning.specs.Residuals.{Env}
use Rattle.verse_meaning.specs.Outcomes.{World}
use Rattle.verse_meaning.specs.Runs.{deeper}
use Rattle.verse_sound_rules.specs.Found.{Found}
use Rattle.verse_sound_rules.specs.Programs.{FineProgram}
use Rattle.verse_sound_trees.specs.Names.{HasThis}
use Rattle.verse_sound_trees.specs.Going.{Kept, turns}
use Rattle.verse_sound_waits.specs.Waits.{Stays, NoWaits}

-- nothing waits in the body of a function that does not suspend, and what overrides it does not
-- suspend either
pub record Marked (p : Program) (f : Found) (suspends : ℕ → Bool) : Type 0 where
  pub bodies : (g : ℕ) (function : FunTree) → fun_at p g ≡ Some function → suspends g ≡ false →
      NoWaits p f suspends (f.signature g).this function.body
  pub overrides : (c d g by m : ℕ) → Inherits f.up c d → method_at p d m ≡ Some g →
      method_at p c m ≡ Some by → suspends g ≡ false → suspends by ≡ false

-- of a function that does not suspend, with an object and arguments of its sorts, in a world that
-- is kept; what lasts is called only where it may
abbrev pub CallsNeverRest : Type 0
CallsNeverRest = (p : Program) (h : FineProgram p) (suspends : ℕ → Bool) →
    Marked p h.found suspends → (turn_count fuel : ℕ) (t : Typing) (g : ℕ) (function : FunTree)
    (o : Option Val) (vs : List Val) (m : Bool) (e : Env) (w : World) →
    fun_at p g ≡ Some function → suspends g ≡ false →
    ((h.found.signature g).lasts ≡ true → m ≡ true) →
    HasThis h.found t (h.found.signature g).this o →
    Are h.found.up t vs (h.found.signature g).params → Kept p h.found (turns turn_count) t w →
    Stays ((deeper p fuel).calls g o vs m e w)
