-- What is written without `suspends` is never suspended.
use Rattle.std.specs.Prelude.{◌≡◌, ℕ, Bool, true, false, List, map, Option, Some, slice_get}
use Rattle.verse_tree.specs.ItemTree.{FunTree, ItemTree}
use Rattle.verse_tree.specs.declared.tables.FunInfo.{FunInfo}
use Rattle.verse_rules.specs.Sound.{completed}
use Rattle.verse_accept.specs.Fronts.{Accepts}
use Rattle.verse_value.specs.Val.{Val}
use Rattle.verse_meaning.specs.Programs.{fun_at}
use Rattle.verse_meaning.specs.Residuals.{Env}
use Rattle.verse_meaning.specs.Outcomes.{World}
use Rattle.verse_meaning.specs.Runs.{deeper}
use Rattle.verse_sorts.specs.Typing.{Typing, Are}
use Rattle.verse_sound_trees.specs.Names.{HasThis}
use Rattle.verse_sound_trees.specs.Going.{Kept, turns}
use Rattle.verse_sound_waits.specs.Waits.{Stays}
use Rattle.verse_accept_fine.specs.Sorted.{sorted, up, program, made_sort, lasts}
use Rattle.verse_accept_trees.specs.Laws.{Told}

-- the function of a number is called with an object and arguments of its sorts, in a world that is
-- kept; one that is neither `transacts` nor `computes` only where it may be
abbrev pub AcceptedCallsNeverRest : Type 0
AcceptedCallsNeverRest = (files : List (List ℕ)) (is : List ItemTree) → Accepts files is →
    (arrays events : ℕ → Bool) → Told is arrays events → (turn_count fuel : ℕ) (t : Typing) (g : ℕ)
    (info : FunInfo) (function : FunTree) (o : Option Val) (vs : List Val) (m : Bool) (e : Env)
    (w : World) → slice_get (completed is).funs g ≡ Some info →
    fun_at (program is arrays events) g ≡ Some function → info.effects.suspends ≡ false →
    (lasts info.effects ≡ true → m ≡ true) →
    HasThis (sorted is) t ((sorted is).signature g).this o →
    Are (up is) t vs (map made_sort info.params) →
    Kept (program is arrays events) (sorted is) (turns turn_count) t w →
    Stays ((deeper (program is arrays events) fuel).calls g o vs m e w)
