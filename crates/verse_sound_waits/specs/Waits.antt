-- Trees in which nothing waits, where it is known which functions suspend.
use Rattle.std.specs.Prelude.{◌≡◌, ℕ, Bool, false, List, [], ◌∷◌, Option, Some, None}
use Rattle.verse_base.specs.declared.places.Place.{Place}
use Rattle.verse_tree.specs.Tree.{Tree, tree, Shape, Trees, no_trees, more_trees, Holes, no_holes}
use Rattle.verse_tree.specs.Tree.{more_holes, Givens}
use Rattle.verse_tree.specs.Tree.{no_givens, more_givens}
use Rattle.verse_tree.specs.Tree as t
use Rattle.verse_sorts.specs.Sorts as s
use Rattle.verse_sorts.specs.Sorts.{Sort, Fits}
use Rattle.verse_meaning.specs.Programs.{Program, method_at}
use Rattle.verse_meaning.specs.Residuals as form
use Rattle.verse_meaning.specs.Residuals.{Form}
use Rattle.verse_meaning.specs.Outcomes.{Outcome, rests}
use Rattle.verse_meaning.specs.Evaluating.{Callee, alone, of_object, of_value, of_quotient}
use Rattle.verse_meaning.specs.Evaluating.{no_callee}
use Rattle.verse_meaning.specs.Evaluating.{callee_of, spawned_callee, picked}
use Rattle.verse_sound_rules.specs.Found.{Found}
use Rattle.verse_sound_rules.specs.Fine.{object_sort}

-- it does not rest
abbrev pub Stays : Outcome → Type 0
Stays (rests r w) = ⊥
Stays x = Unit {0}

module _ (p : Program) (f : Found) (suspends : ℕ → Bool) where
  -- no method that objects of a sort have at a place suspends
  abbrev pub MethodStays : Sort → ℕ → Type 0
  MethodStays q m = (c g : ℕ) → Fits f.up q (s.obj c) → method_at p c m ≡ Some g →
      suspends g ≡ false

  -- `class` is that of `Self`
  module _ (class : Option ℕ) where
    abbrev pub OwnStays : ℕ → Type 0
    OwnStays m = (c g : ℕ) → class ≡ Some c → method_at p c m ≡ Some g → suspends g ≡ false

    -- a form whose first operands are of these sorts
    abbrev pub FormStays : Form → List Sort → Type 0
    FormStays (form.calling g) qs = suspends g ≡ false
    FormStays (form.calling_own m) qs = OwnStays m
    FormStays (form.calling_method m) [] = ⊥
    FormStays (form.calling_method m) (q ∷ qs) = MethodStays q m
    FormStays (form.awaiting e) qs = ⊥
    FormStays x qs = Unit {0}

    -- what is called has an object that stays, or none: its sort has no value
    pub data ObjectStays (x : Form) (q : Sort) : Type 0 where
      no_object : q ≡ s.never → ObjectStays x q
      object_stays : FormStays x (q ∷ []) → ObjectStays x q

    -- by what a callee stands for; q is the sort of its object
    abbrev pub CalleeStays : Callee → Sort → Type 0
    CalleeStays (alone x) q = FormStays x []
    CalleeStays (of_object x) q = ObjectStays x q
    CalleeStays (of_value x) q = FormStays x []
    CalleeStays (of_quotient x) q = FormStays x []
    CalleeStays no_callee q = Unit {0}

    abbrev mutual
      -- Nothing waits in conditions and deferred blocks of a fine program, nor in what is spawned
      -- here.
      pub NoWaits : Tree → Type 0
      NoWaits (tree n pl x) = NoWaitsIn x pl

      pub NoWaitsIn : Shape → Place → Type 0
      NoWaitsIn (t.Shape.block ts) pl = NoneWaits ts
      NoWaitsIn (t.Shape.definition x b) pl = NoWaits b
      NoWaitsIn (t.Shape.typed x y b) pl = NoWaits b
      NoWaitsIn (t.Shape.variable x y b) pl = NoWaits b
      NoWaitsIn (t.Shape.assignment m b d) pl = NoTargetWaits b × NoWaits d
      NoWaitsIn (t.Shape.returned b) pl = NoWaits b
      NoWaitsIn (t.Shape.if_else ts b d) pl = NoWaits b × NoWaits d
      NoWaitsIn (t.Shape.if_alone ts b) pl = NoWaits b
      NoWaitsIn (t.Shape.for_form ts b) pl = NoWaits b
      NoWaitsIn (t.Shape.chained o b d) pl = NoWaits b × NoWaits d
      NoWaitsIn (t.Shape.compared o b d) pl = NoWaits b × NoWaits d
      NoWaitsIn (t.Shape.minus b) pl = NoWaits b
      NoWaitsIn (t.Shape.query b) pl = NoWaits b
      NoWaitsIn (t.Shape.member b x) pl = NoWaits b
      NoWaitsIn (t.Shape.call b ts) pl =
          CalleeStays (callee_of p b (picked ts) pl) (object_sort p f b) × NoWaits b × NoneWaits ts
      NoWaitsIn (t.Shape.index b ts) pl =
          CalleeStays (callee_of p b form.indexing pl) (object_sort p f b) × NoWaits b ×
          NoneWaits ts
      NoWaitsIn (t.Shape.holes x hs) pl = NoHoleWaits hs
      NoWaitsIn (t.Shape.tuple ts) pl = NoneWaits ts
      NoWaitsIn (t.Shape.array ts) pl = NoneWaits ts
      NoWaitsIn (t.Shape.mapping ps) pl = NoPairWaits ps
      NoWaitsIn (t.Shape.instance x gs) pl = NoGivenWaits gs
      NoWaitsIn (t.Shape.loop_form b) pl = NoWaits b
      NoWaitsIn (t.Shape.block_form b) pl = NoWaits b
      NoWaitsIn (t.Shape.cases b ts) pl = NoWaits b × NoneWaits ts
      NoWaitsIn (t.Shape.arm b d) pl = NoWaits d
      NoWaitsIn (t.Shape.branch b) pl = ⊥
      NoWaitsIn (t.Shape.sync ts) pl = ⊥
      NoWaitsIn (t.Shape.race ts) pl = ⊥
      NoWaitsIn (t.Shape.rush ts) pl = ⊥
      NoWaitsIn (t.Shape.spawn b) pl = NoSpawnedWaits b
      NoWaitsIn (t.Shape.sleep d) pl = ⊥
      NoWaitsIn t.Shape.sleep_forever pl = ⊥
      NoWaitsIn x pl = Unit {0}

      pub NoneWaits : Trees → Type 0
      NoneWaits no_trees = Unit {0}
      NoneWaits (more_trees b ts) = NoWaits b × NoneWaits ts

      pub NoHoleWaits : Holes → Type 0
      NoHoleWaits no_holes = Unit {0}
      NoHoleWaits (more_holes b x hs) = NoWaits b × NoHoleWaits hs

      pub NoPairWaits : t.Pairs → Type 0
      NoPairWaits t.Pairs.no_pairs = Unit {0}
      NoPairWaits (t.Pairs.more_pairs b d ps) = NoWaits b × NoWaits d × NoPairWaits ps

      pub NoGivenWaits : Givens → Type 0
      NoGivenWaits no_givens = Unit {0}
      NoGivenWaits (more_givens x b gs) = NoWaits b × NoGivenWaits gs

      -- what `set` writes to
      pub NoTargetWaits : Tree → Type 0
      NoTargetWaits (tree n pl x) = NoTargetWaitsIn x

      pub NoTargetWaitsIn : Shape → Type 0
      NoTargetWaitsIn (t.Shape.member b x) = NoWaits b
      NoTargetWaitsIn (t.Shape.index b ts) = NoTargetWaits b × NoneWaits ts
      NoTargetWaitsIn x = Unit {0}

      -- the call that a `spawn` starts, which is not waited for
      pub NoSpawnedWaits : Tree → Type 0
      NoSpawnedWaits (tree n pl x) = NoSpawnedWaitsIn x pl

      pub NoSpawnedWaitsIn : Shape → Place → Type 0
      NoSpawnedWaitsIn (t.Shape.call b ts) pl =
          CalleeStays (spawned_callee (callee_of p b (form.picking None) pl)) (object_sort p f b) ×
          NoWaits b × NoneWaits ts
      NoSpawnedWaitsIn x pl = Unit {0}
