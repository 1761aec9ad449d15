-- What an open failure context changes of an evaluation: nothing, but that what takes time and what
-- cannot be undone is stuck there.
use Rattle.std.specs.Prelude.{ℕ, List, Option, true, false}
use Rattle.verse_tree.specs.Tree.{Tree}
use Rattle.verse_value.specs.Val.{Val}
use Rattle.verse_meaning_state.specs.State.{State}
use Rattle.verse_meaning.specs.Programs.{Program}
use Rattle.verse_meaning.specs.Residuals.{Env}
use Rattle.verse_meaning.specs.Outcomes.{World, jammed, Outcome, halted}
use Rattle.verse_meaning.specs.Forms.{Deeper}
use Rattle.verse_meaning.specs.Evaluating.{ev}
use Rattle.verse_meaning.specs.Runs.{deeper}

-- the first is the second, or stuck
pub data SameOrStuck : Outcome → Outcome → Type 0 where
  same : {x : Outcome} → SameOrStuck x x
  is_stuck : {s : State} {y : Outcome} → SameOrStuck (halted (jammed s)) y

-- with a failure context open, and with none
pub record OpenAndClosed (p : Program) (k : Deeper) : Type 0 where
  pub form : (a : Tree) (e : Env) (w : World) → SameOrStuck (ev p k a false e w) (ev p k a true e w)
  pub calls : (g : ℕ) (o : Option Val) (vs : List Val) (e : Env) (w : World) →
      SameOrStuck (k.calls g o vs false e w) (k.calls g o vs true e w)

abbrev pub ContextsChangeNothing : Type 0
ContextsChangeNothing = (p : Program) (fuel : ℕ) → OpenAndClosed p (deeper p fuel)
