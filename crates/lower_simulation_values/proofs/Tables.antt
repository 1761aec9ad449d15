-- What the tables of the program and of the code say of functions, methods and classes, and what is claimed of their calls.
use Rattle.std.proofs.Common.{◌≡◌, ℕ, suc, ◌≤◌, List, [], ◌∷◌, length, Option, Some, None, Bool, true, false}
use Rattle.std.specs.Prelude.{slice_get, map}
use Rattle.verse_tree.specs.Tree.{Tree}
use Rattle.verse_tree.specs.ItemTree.{FieldTree, FunTree}
use Rattle.verse_tree.specs.declared.tables.Ref.TheVariants as ref
use Rattle.verse_code.specs.declared.codes.Func.{Func}
use Rattle.verse_code.specs.declared.codes.Class.{Class}
use Rattle.verse_code.specs.declared.operations.Op.TheVariants as op
use Rattle.verse_value.specs.Val.{Val, event, task}
use Rattle.verse_meaning.specs.Residuals as form
use Rattle.verse_meaning.specs.Forms.{apply}
use Rattle.verse_meaning.specs.Programs.{ref_at, fun_at, method_at, fields_of}
use Rattle.verse_meaning.specs.Outcomes.{World}
use Rattle.verse_meaning.specs.Runs.{deeper}
use Rattle.verse_code_machine.specs.Tasks.{thread}
use Rattle.verse_code_machine.specs.Frames.{fits, free, enters}
use Rattle.verse_code_machine.specs.Acts.{frame, spawns}
use Rattle.lower_code.specs.Defaults.{default_number}
use Rattle.lower_code.specs.Programs.{class_of}
use Rattle.lower_simulation.proofs.Claims.{Setting, Ctx, Around, at, on, Good, Here}
use Rattle.lower_simulation.proofs.Leading.{LeadsTo}

-- each of a list
abbrev pub Every : {A : Type 0} → (A → Type 0) → List A → Type 0
Every P [] = Unit {0}
Every P (x ∷ xs) = P x × Every P xs

-- some node stands for the function, or for the class
abbrev pub Is_function : Setting → ℕ → Type 0
Is_function z f = (n : ℕ) × (ref_at z.program n ≡ Some (ref.Fun f))

abbrev pub Is_class : Setting → ℕ → Type 0
Is_class z c = (n : ℕ) × (ref_at z.program n ≡ Some (ref.Class c))

-- the function is a method of some class
abbrev pub Is_method : Setting → ℕ → Type 0
Is_method z f = (c : ℕ) × (m : ℕ) × (method_at z.program c m ≡ Some f)

-- what is called without an object is a function, with an object a method
abbrev pub Called_as : Setting → ℕ → Option Val → Type 0
Called_as z f None = Is_function z f
Called_as z f (Some o) = Is_method z f

-- the object stands before the arguments
abbrev pub with_object : Option Val → List Val → List Val
with_object None vs = vs
with_object (Some o) vs = o ∷ vs

-- the code has a function of a number, with so many parameters
pub record There (z : Setting) (f params : ℕ) : Type 0 where
  pub func : Func
  pub is : slice_get z.code.functions f ≡ Some func
  pub many : func.params ≡ params

pub record Method_there (z : Setting) (f : ℕ) : Type 0 where
  pub function : FunTree
  pub is : fun_at z.program f ≡ Some function
  pub code : There z f (suc (length function.params))

pub record Class_there (z : Setting) (c : ℕ) : Type 0 where
  pub class : Class
  pub is : slice_get z.code.classes c ≡ Some class
  pub many : class.slots ≡ length (fields_of z.program c)

abbrev pub Default_there : Setting → FieldTree → Type 0
Default_there z f = (d : Tree) → f.default ≡ Some d → There z (default_number z.program f.number) 0

-- the tables of the code are those of the program
pub record Tables (z : Setting) : Type 0 where
  pub functions : (f : ℕ) → Is_function z f → (fn : FunTree) → fun_at z.program f ≡ Some fn → There z f (length fn.params)
  pub methods : (f : ℕ) → Is_method z f → Method_there z f
  pub classes : z.code.classes ≡ map class_of z.program.names.classes
  pub instances : (c : ℕ) → Is_class z c → Class_there z c
  pub defaults : (c : ℕ) → Is_class z c → Every (Default_there z) (fields_of z.program c)

-- ---- claims, for bodies that begin with fewer steps

module _ (z : Setting) (top : ℕ) where
  -- what a call comes to from its begin
  abbrev pub CallsLead : Type 0
  CallsLead = (f : ℕ) (this : Option Val) (fn : FunTree) (fc : Func) (vs : List Val) → Called_as z f this →
      fun_at z.program f ≡ Some fn → slice_get z.code.functions f ≡ Some fc → length vs ≡ length fn.params →
      (w : Bool) (M j n : ℕ) (c : Ctx) (o : Around) (y : World) (ls st : List Val) (q : ℕ) →
      free c.handlers c.life.noted c.below ≡ w → n ≤ top → n ≤ M → fits c.handlers q ≡ true →
      Good n c.who.path o c.held c.also c.size y.state ls → LeadsTo z j n c o y.behind y.tasks
      (enters fc (with_object this vs) c.who o.world y.state (frame c.life ls st q c.handlers ∷ c.below)) (on q st)
      ((deeper z.program M).calls f this vs w c.env y)

  -- the same of a task of its own
  abbrev pub SpawnsLead : Type 0
  SpawnsLead = (f : ℕ) (this : Option Val) (fn : FunTree) (fc : Func) (vs : List Val) → Called_as z f this →
      fun_at z.program f ≡ Some fn → slice_get z.code.functions f ≡ Some fc → length vs ≡ length fn.params →
      (M j n : ℕ) (c : Ctx) (o : Around) (y : World) (ls st : List Val) (q : ℕ) →
      free c.handlers c.life.noted c.below ≡ true → n ≤ top → n ≤ M → fits c.handlers q ≡ true →
      Good n c.who.path o c.held c.also c.size y.state ls → LeadsTo z j n c o y.behind y.tasks
      (spawns fc (with_object this vs) (thread c.who (frame c.life ls st q c.handlers) c.below) o.world y.state) (on q st)
      ((deeper z.program M).spawns f this vs c.env y)

  -- the default of a field is called
  abbrev pub Default_leads : FieldTree → Type 0
  Default_leads f = (d : Tree) (fc : Func) → f.default ≡ Some d →
      slice_get z.code.functions (default_number z.program f.number) ≡ Some fc →
      (w : Bool) (M j n : ℕ) (c : Ctx) (o : Around) (y : World) (ls st : List Val) (q : ℕ) →
      free c.handlers c.life.noted c.below ≡ w → n ≤ top → n ≤ M → fits c.handlers q ≡ true →
      Good n c.who.path o c.held c.also c.size y.state ls → LeadsTo z j n c o y.behind y.tasks
      (enters fc [] c.who o.world y.state (frame c.life ls st q c.handlers ∷ c.below)) (on q st)
      ((deeper z.program M).defaults d w c.env y)

  abbrev pub DefaultsLead : Type 0
  DefaultsLead = (c : ℕ) → Is_class z c → Every Default_leads (fields_of z.program c)

  -- Await of a task and of an event
  pub record AwaitsLead : Type 0 where
    pub of_task : (entry : ℕ) (w : Bool) (M j n : ℕ) (c : Ctx) (o : Around) (y : World) (ls st : List Val) (a : ℕ) →
        Here z.code a op.AwaitTask → free c.handlers c.life.noted c.below ≡ w → n ≤ top → n ≤ M →
        Good n c.who.path o c.held c.also c.size y.state ls → LeadsTo z j n c o y.behind y.tasks
        (at c o y.state ls (task entry ∷ st) a) (on (suc a) st)
        (apply z.program (deeper z.program M) (form.awaiting false) (task entry ∷ []) w c.env y)
    pub of_event : (e : ℕ) (w : Bool) (M j n : ℕ) (c : Ctx) (o : Around) (y : World) (ls st : List Val) (a : ℕ) →
        Here z.code a op.AwaitEvent → free c.handlers c.life.noted c.below ≡ w → n ≤ top → n ≤ M →
        Good n c.who.path o c.held c.also c.size y.state ls → LeadsTo z j n c o y.behind y.tasks
        (at c o y.state ls (event e ∷ st) a) (on (suc a) st)
        (apply z.program (deeper z.program M) (form.awaiting true) (event e ∷ []) w c.env y)
