-- What the effects of a function promise of a call of it.
use Rattle.std.specs.Prelude.{◌≡◌, ℕ, Bool, true, List, [], ◌∷◌, Option, Some}
use Rattle.verse_tree.specs.ItemTree.{FunTree}
use Rattle.verse_value.specs.Val.{Val}
use Rattle.verse_sorts.specs.Typing.{Typing, Are}
use Rattle.verse_meaning.specs.Programs.{Program, fun_at}
use Rattle.verse_meaning.specs.Residuals.{Env}
use Rattle.verse_meaning.specs.Outcomes.{World, Outcome, value, failed, returned, broke, halted}
use Rattle.verse_meaning.specs.Outcomes.{rests}
use Rattle.verse_meaning.specs.Runs.{deeper}
use Rattle.verse_sound_rules.specs.Found.{Signature}
use Rattle.verse_sound_rules.specs.Programs.{FineProgram}
use Rattle.verse_sound_trees.specs.Names.{HasThis}
use Rattle.verse_sound_trees.specs.Going.{Kept, turns}

-- it fails only if the function decides, and waits only if it may last; `return` and `break` leave
-- no call
abbrev pub KeepsPromises : Signature → Outcome → Type 0
KeepsPromises g (value e v w) = Unit {0}
KeepsPromises g (failed st) = g.decides ≡ true
KeepsPromises g (returned v w) = ⊥
KeepsPromises g (broke w) = ⊥
KeepsPromises g (halted h) = Unit {0}
KeepsPromises g (rests r w) = g.lasts ≡ true

-- where it may wait only if it may last, with a `Self` and arguments of its sorts, in a world that
-- is kept
abbrev pub CallsKeepPromises : Type 0
CallsKeepPromises = (p : Program) (h : FineProgram p) (n fuel : ℕ) (t : Typing) (g : ℕ)
    (function : FunTree) (o : Option Val) (vs : List Val) (e : Env) (w : World) →
    fun_at p g ≡ Some function → HasThis h.found t (h.found.signature g).this o →
    Are h.found.up t vs (h.found.signature g).params → Kept p h.found (turns n) t w →
    KeepsPromises (h.found.signature g)
    ((deeper p fuel).calls g o vs (h.found.signature g).lasts e w)
