-- What the effects of a function promise of each call of it, wherever it is called.
use Rattle.std.specs.Prelude.{◌≡◌, ℕ, Bool, true, false, List, Option, Some}
use Rattle.verse_base.specs.declared.places.Place.{Place}
use Rattle.verse_base.specs.declared.refusals.Kind.{Kind as Error}
use Rattle.verse_tree.specs.ItemTree.{FunTree}
use Rattle.verse_value.specs.Val.{Val}
use Rattle.verse_meaning_state.specs.State.{State}
use Rattle.verse_sorts.specs.Typing.{Typing, Are}
use Rattle.verse_meaning.specs.Programs.{Program, fun_at}
use Rattle.verse_meaning.specs.Residuals.{Env, Residual}
use Rattle.verse_meaning.specs.Outcomes.{World, fault, out, Outcome, value, failed, halted, rests}
use Rattle.verse_meaning.specs.Runs.{deeper}
use Rattle.verse_meaning.specs.Laws.{Calm, Leaves}
use Rattle.verse_sound_rules.specs.Found.{Signature}
use Rattle.verse_sound_rules.specs.Programs.{FineProgram}
use Rattle.verse_sound_trees.specs.Names.{HasThis}
use Rattle.verse_sound_trees.specs.Going.{Kept, turns}

-- It fails only if the function decides. If the function does nothing lasting, the call ends at
-- once, and tasks, waits, signals and the background are as they were.
pub data Promised (g : Signature) (w : World) : Outcome → Type 0 where
  gives : {e : Env} {v : Val} {u : World} → (g.lasts ≡ false → Leaves false w u) → Promised g w (value e v u)
  fails : {s : State} → g.decides ≡ true → (g.lasts ≡ false → Calm w.state.clock s.clock) →
      Promised g w (failed s)
  waits : {r : Residual} {u : World} → g.lasts ≡ true → Promised g w (rests r u)
  faults : {k : Error} {pl : Place} {s : State} → Promised g w (halted (fault k pl s))
  ends_steps : {s : State} → Promised g w (halted (out s))

-- with an object and arguments of its sorts, in a world that is kept; what lasts is called only
-- where it may
abbrev pub CallsArePromised : Type 0
CallsArePromised = (p : Program) (h : FineProgram p) (turn_count fuel : ℕ) (t : Typing) (g : ℕ)
    (function : FunTree) (o : Option Val) (vs : List Val) (m : Bool) (e : Env) (w : World) →
    fun_at p g ≡ Some function → ((h.found.signature g).lasts ≡ true → m ≡ true) →
    HasThis h.found t (h.found.signature g).this o →
    Are h.found.up t vs (h.found.signature g).params → Kept p h.found (turns turn_count) t w →
    Promised (h.found.signature g) w ((deeper p fuel).calls g o vs m e w)
