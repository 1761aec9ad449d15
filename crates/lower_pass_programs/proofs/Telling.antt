-- What is asked of what the checker has found, beside that it is fine.
use Rattle.std.specs.Prelude.{◌≡◌, ℕ, ◌<◌, List, [], ◌∷◌, length, Option, Some, None, true, false, slice_get}
use Rattle.verse_tree.specs.ItemTree.{FunTree, ParamTree}
use Rattle.verse_sorts.specs.Sorts.{Sort}
use Rattle.verse_sorts.specs.Typing.{at}
use Rattle.verse_meaning.specs.Programs.{Program, fun_at, main_in}
use Rattle.verse_sound_rules.specs.Found.{Found}
use Rattle.verse_sound_rules.specs.Programs.{Inputs}
use Rattle.lower_code.specs.Programs.{main_from}
use Rattle.lower_simulation_runs.specs.Programs.{Defined, a_function, a_method, defined_in}

-- the sorts of the nodes of parameters
abbrev pub param_sorts : Found → List ParamTree → List Sort
param_sorts f [] = []
param_sorts f (x ∷ ps) = f.sort x.number ∷ param_sorts f ps

-- a function has no object, a method that of a class
abbrev pub HasThis : Defined → Option ℕ → Type 0
HasThis (a_function f) t = t ≡ None
HasThis (a_method f) t = (c : ℕ) × (t ≡ Some c)

pub record Told (p : Program) (f : Found) : Type 0 where
  pub this : (g : ℕ) (d : Defined) → slice_get (defined_in p.items) g ≡ Some d → HasThis d (f.signature g).this
  -- a function takes what its parameters are
  pub params : (g : ℕ) (function : FunTree) → fun_at p g ≡ Some function →
      (f.signature g).params ≡ param_sorts f function.params
  -- none can fail and do what lasts
  pub either : (g : ℕ) (function : FunTree) → fun_at p g ≡ Some function → (f.signature g).decides ≡ true →
      (f.signature g).lasts ≡ true → ⊥
  -- Main takes nothing or the inputs, and does not fail
  pub main : (function : FunTree) → main_in p.items ≡ Some function →
      Inputs (f.signature (main_from 0 p.items)).params × ((f.signature (main_from 0 p.items)).decides ≡ false)
  -- what has fields is a class of the table, and so is what inherits, and from what
  pub slots : (c i : ℕ) (q : Sort) → at (f.slots c) i ≡ Some q → c < length p.names.classes
  pub below : (c d : ℕ) → f.up c ≡ Some d → c < length p.names.classes
  pub above : (c d : ℕ) → f.up c ≡ Some d → d < length p.names.classes
