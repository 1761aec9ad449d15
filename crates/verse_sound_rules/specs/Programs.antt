-- What the checker has found of a program: its functions, classes and Main.
use Rattle.std.specs.Prelude.{◌≡◌, ℕ, List, [], ◌∷◌, ◌++◌, Some, None, Bool, true, false}
use Rattle.verse_tree.specs.Tree.{Tree}
use Rattle.verse_tree.specs.ItemTree.{ParamTree, FunTree}
use Rattle.verse_tree.specs.declared.tables.Ref.TheVariants as ref
use Rattle.verse_names_tables.specs.Names.{Table}
use Rattle.verse_sorts.specs.Sorts as s
use Rattle.verse_sorts.specs.Sorts.{Sort, Fits, Inherits}
use Rattle.verse_sorts.specs.Typing.{at}
use Rattle.verse_meaning.specs.Programs.{Program, fun_at, method_at, main_in}
use Rattle.verse_sound_rules.specs.Found.{Found, AllKnown, in_function, in_default, New}
use Rattle.verse_sound_rules.specs.Forms.{IsDefault}
use Rattle.verse_sound_rules.specs.Fine.{Fine, sort_at}

-- the names of parameters, behind others
abbrev pub params_behind : List ParamTree → Table → Table
params_behind [] xs = xs
params_behind (x ∷ ps) xs = params_behind ps (xs ++ (x.name, ref.Local x.number) ∷ [])

-- what Main takes: nothing, or the inputs
pub data Inputs : List Sort → Type 0 where
  no_inputs : Inputs []
  has_inputs : Inputs (s.list s.int ∷ [])

module _ (p : Program) (f : Found) where
  -- parameters whose arguments are of these sorts
  abbrev pub FineParams : Table → List ParamTree → List Sort → Type 0
  FineParams xs [] [] = Unit {0}
  FineParams xs (x ∷ ps) (q ∷ qs) =
      Fits f.up q (f.sort x.number) × New x.name xs × (f.is_var x.number ≡ false) ×
      FineParams (xs ++ (x.name, ref.Local x.number) ∷ []) ps qs
  FineParams xs ps qs = ⊥

  -- a function of a number. Where nothing may wait it is called only if it does nothing lasting.
  pub record FineFunction (g : ℕ) (function : FunTree) : Type 0 where
    pub params : FineParams [] function.params (f.signature g).params
    pub body : (m : Bool) → ((f.signature g).lasts ≡ true → m ≡ true) →
        Fine p f (in_function (f.signature g) m) (params_behind function.params []) function.body
    pub result : Fits f.up (sort_at p f function.body) (f.signature g).result

  -- the default of a field of this sort
  pub record FineDefault (b : Tree) (q : Sort) : Type 0 where
    pub value : (m : Bool) → Fine p f (in_default m) [] b
    pub fits : Fits f.up (sort_at p f b) q

  -- in a class stands a method for the one that an ancestor has at its place
  pub record Overrides (c g m : ℕ) : Type 0 where
    pub by : ℕ
    pub method : method_at p c m ≡ Some by
    pub function : FunTree
    pub found : fun_at p by ≡ Some function
    pub params : (f.signature by).params ≡ (f.signature g).params
    pub result : Fits f.up (f.signature by).result (f.signature g).result
    pub decides : (f.signature by).decides ≡ (f.signature g).decides
    pub lasts : (f.signature by).lasts ≡ (f.signature g).lasts
    pub class : ℕ
    pub this : (f.signature by).this ≡ Some class
    pub inherits : Inherits f.up c class

  pub record FineMain : Type 0 where
    pub function : FunTree
    pub found : main_in p.items ≡ Some function
    pub inputs : List Sort
    pub are : Inputs inputs
    pub params : FineParams [] function.params inputs
    pub result : Sort
    pub body : Fine p f (record {
      fails = false;
      result = Some result;
      breaks = false;
      waits = true;
      this = None;
    }) (params_behind function.params []) function.body

  pub record FineFound : Type 0 where
    pub known : AllKnown f
    pub functions : (g : ℕ) (function : FunTree) → fun_at p g ≡ Some function →
        FineFunction g function
    pub defaults : (b : Tree) (q : Sort) → IsDefault p f b q → FineDefault b q
    -- a class has all fields and methods of its ancestors, at their places
    pub slots : (c d i : ℕ) (q : Sort) → Inherits f.up c d → at (f.slots d) i ≡ Some q →
        at (f.slots c) i ≡ Some q
    pub methods : (c d g m : ℕ) → Inherits f.up c d → method_at p d m ≡ Some g → Overrides c g m
    pub main : FineMain

-- the checker has found sorts for all of a program
pub record FineProgram (p : Program) : Type 0 where
  pub found : Found
  pub fine : FineFound p found
