-- What effects promise in a program that the front end accepts, by the effects of its functions as
-- they are written.
use Rattle.std.specs.Prelude.{◌≡◌, ℕ, Bool, true, false, List, map, Option, Some, slice_get}
use Rattle.verse_base.specs.declared.places.Place.{Place}
use Rattle.verse_base.specs.declared.refusals.Kind.{Kind as Error}
use Rattle.verse_tree.specs.ItemTree.{FunTree, ItemTree}
use Rattle.verse_tree.specs.declared.tables.Effects.{Effects}
use Rattle.verse_tree.specs.declared.tables.FunInfo.{FunInfo}
use Rattle.verse_names_tables.specs.Names.{Table}
use Rattle.verse_rules.specs.Sound.{completed}
use Rattle.verse_accept.specs.Fronts.{Accepts}
use Rattle.verse_value.specs.Val.{Val}
use Rattle.verse_meaning_state.specs.State.{State}
use Rattle.verse_meaning.specs.Programs.{fun_at}
use Rattle.verse_meaning.specs.Residuals.{Env, Residual}
use Rattle.verse_meaning.specs.Outcomes.{World, fault, out, Outcome, value, failed, halted, rests}
use Rattle.verse_meaning.specs.Runs.{deeper}
use Rattle.verse_meaning.specs.Laws.{Calm, Leaves}
use Rattle.verse_sorts.specs.Typing.{Typing, Are}
use Rattle.verse_sound_rules.specs.Found.{Allowed}
use Rattle.verse_sound_trees.specs.Names.{HasThis, Sees}
use Rattle.verse_sound_trees.specs.Going.{Kept, turns}
use Rattle.verse_sound_effects.specs.Contexts.{ContextsEnd}
use Rattle.verse_accept_fine.specs.Sorted.{sorted, up, program, made_sort, lasts}
use Rattle.verse_accept_trees.specs.Laws.{Told}

-- It fails only if the function is `decides`. If it is `transacts` or `computes`, and not
-- `suspends`, the call ends at once, and tasks, waits, signals and the background are as they were.
pub data Promised (f : Effects) (w : World) : Outcome → Type 0 where
  gives : {e : Env} {v : Val} {u : World} → (lasts f ≡ false → Leaves false w u) → Promised f w (value e v u)
  fails : {s : State} → f.decides ≡ true → (lasts f ≡ false → Calm w.state.clock s.clock) →
      Promised f w (failed s)
  waits : {r : Residual} {u : World} → lasts f ≡ true → Promised f w (rests r u)
  faults : {k : Error} {pl : Place} {s : State} → Promised f w (halted (fault k pl s))
  ends_steps : {s : State} → Promised f w (halted (out s))

-- the function of a number is called with an object and arguments of its sorts, in a world that is
-- kept
abbrev pub AcceptedCallsArePromised : Type 0
AcceptedCallsArePromised = (files : List (List ℕ)) (is : List ItemTree) → Accepts files is →
    (arrays events : ℕ → Bool) → Told is arrays events →
    (turn_count fuel : ℕ) (t : Typing) (g : ℕ) (info : FunInfo) (function : FunTree)
    (o : Option Val) (vs : List Val) (m : Bool) (e : Env) (w : World) →
    slice_get (completed is).funs g ≡ Some info →
    fun_at (program is arrays events) g ≡ Some function → (lasts info.effects ≡ true → m ≡ true) →
    HasThis (sorted is) t ((sorted is).signature g).this o →
    Are (up is) t vs (map made_sort info.params) →
    Kept (program is arrays events) (sorted is) (turns turn_count) t w →
    Promised info.effects w ((deeper (program is arrays events) fuel).calls g o vs m e w)

-- the conditions of every form with a failure context end at once
abbrev pub AcceptedContextsEndAtOnce : Type 0
AcceptedContextsEndAtOnce = (files : List (List ℕ)) (is : List ItemTree) → Accepts files is →
    (arrays events : ℕ → Bool) → Told is arrays events →
    (turn_count fuel : ℕ) (t : Typing) (a : Allowed) (xs : Table) (e : Env) (w : World) (n : ℕ)
    (pl : Place) → Sees (sorted is) t a.this xs e →
    Kept (program is arrays events) (sorted is) (turns turn_count) t w →
    ContextsEnd (program is arrays events) (sorted is) fuel t a xs e w n pl
