-- What is asked of all that begins by a step: calls, spawned calls, defaults.
use Rattle.std.specs.Prelude.{◌≡◌, ℕ, true, false, List, Option, Some}
use Rattle.verse_tree.specs.Tree.{Tree}
use Rattle.verse_tree.specs.ItemTree.{FunTree}
use Rattle.verse_value.specs.Val.{Val}
use Rattle.verse_sorts.specs.Sorts as s
use Rattle.verse_sorts.specs.Sorts.{Sort}
use Rattle.verse_sorts.specs.Typing.{Typing, Are}
use Rattle.verse_meaning.specs.Programs.{Program, fun_at}
use Rattle.verse_meaning.specs.Residuals.{Env}
use Rattle.verse_meaning.specs.Outcomes.{World}
use Rattle.verse_meaning.specs.Forms.{Deeper}
use Rattle.verse_meaning.specs.Runs.{deeper}
use Rattle.verse_meaning.specs.Laws.{ContextLeaves, ContextUndoes, CancelLeaves}
use Rattle.verse_sound_rules.specs.Found.{Found, Allowed}
use Rattle.verse_sound_rules.specs.Forms.{IsDefault}
use Rattle.verse_sound_rules.specs.Programs.{FineFound}
use Rattle.verse_sound_trees.specs.Names.{HasThis}
use Rattle.verse_sound_trees.specs.Outcomes.{any_names}
use Rattle.verse_sound_trees.specs.Going.{Level, Kept, Ready, Comes, Within}

module _ (p : Program) (f : Found) where
  pub record DeepTyped (l : Level) (k : Deeper) : Type 0 where
    pub calls : (t : Typing) (a : Allowed) (g : ℕ) (function : FunTree) (o : Option Val)
        (vs : List Val) (e : Env) (w : World) → fun_at p g ≡ Some function → Ready l a.waits →
        ((f.signature g).decides ≡ true → a.fails ≡ true) →
        ((f.signature g).lasts ≡ true → a.waits ≡ true) → HasThis f t (f.signature g).this o →
        Are f.up t vs (f.signature g).params → Kept p f l t w →
        Comes p f l any_names t a (f.signature g).result (k.calls g o vs a.waits e w)
    pub spawns : (t : Typing) (a : Allowed) (g : ℕ) (function : FunTree) (o : Option Val)
        (vs : List Val) (e : Env) (w : World) → fun_at p g ≡ Some function → Ready l a.waits →
        a.waits ≡ true → (f.signature g).decides ≡ false → HasThis f t (f.signature g).this o →
        Are f.up t vs (f.signature g).params → Kept p f l t w →
        Comes p f l any_names t a (s.task (f.signature g).result) (k.spawns g o vs e w)
    pub defaults : (t : Typing) (a : Allowed) (b : Tree) (q : Sort) (e : Env) (w : World) →
        IsDefault p f b q → Ready l a.waits → Kept p f l t w →
        Comes p f l any_names t a q (k.defaults b a.waits e w)

  -- what is known before a level and a depth: the laws of the meaning, what the checker has found,
  -- and what begins by a step
  pub record Known (top : Level) (fuel : ℕ) : Type 0 where
    pub leave : (g : ℕ) → ContextLeaves p g
    pub undo : (g : ℕ) → ContextUndoes p (deeper p g)
    pub cancel : (g : ℕ) → CancelLeaves p (deeper p g)
    pub fine : FineFound p f
    pub deep : (l : Level) (g : ℕ) → Within top fuel l g → DeepTyped l (deeper p g)
