-- Residual trees: what is left of an evaluation that is suspended.
use Rattle.std.specs.Prelude.{ℕ, ℤ, List, [], ◌∷◌, ◌++◌, Option, Bool, true, false, cond}
use Rattle.verse_base.specs.declared.places.Place.{Place}
use Rattle.verse_tree.specs.ItemTree.{FieldTree}
use Rattle.verse_tree.specs.Tree.{Bytes, Tree, Trees}
use Rattle.verse_tree.specs.declared.exprs.Comparison.{Comparison}
use Rattle.verse_tree.specs.declared.exprs.Operator.{Operator}
use Rattle.verse_value.specs.Val.{Val}
use Rattle.verse_value.specs.declared.modes.Mode.{Mode}
use Rattle.verse_meaning_state.specs.Waits.{Wait, has}
use Rattle.verse_meaning_state.specs.Turns.{Kind}

-- what a name stands for: a value, or the cell of a variable
pub data Bound : Type 0 where
  constant : Val → Bound
  variable : ℕ → Bound

pub record Binding : Type 0 where
  pub name : Bytes
  pub bound : Bound

-- the names that are visible, the innermost first
abbrev pub Env : Type 0
Env = List Binding

-- what `set` writes to: a variable, a field of `Self`, a field of the object that is the first
-- operand, or nothing that can be written
pub data Base : Type 0 where
  in_variable : Bytes → Base
  in_self : (slot : ℕ) → Base
  in_object : (slot : ℕ) → Base
  nowhere : Base

-- a form with operands, without them; a place is where its errors are
pub data Form : Type 0 where
  computing : Operator → (of_arrays : Bool) → Place → Form
  comparing : Comparison → Form
  negating : Place → Form
  querying : Form
  reading : (slot : ℕ) → Form
  measuring : Form
  making_tuple making_array making_map : Place → Form
  joining : (pieces : List Bytes) → Place → Form
  -- the element of a tuple, by the literal that is its number
  picking : Option ℕ → Form
  indexing : Form
  -- a function; a method of `Self`; a method of the object that is the first operand
  calling : (function : ℕ) → Form
  calling_own : (method : ℕ) → Form
  calling_method : (method : ℕ) → Form
  printing : Place → Form
  flooring ceiling : Place → Form
  taking_modulo : Form
  awaiting : (of_event : Bool) → Form
  signalling : Form
  spawning : (function : ℕ) → Form
  spawning_own : (method : ℕ) → Form
  spawning_method : (method : ℕ) → Form
  storing : Base → Mode → Place → Form
  instancing : (class : ℕ) → (given : List Bytes) → Place → Form
  defining : Form
  -- a `var` whose name is visible nowhere
  varying : Place → Form
  returning : Form
  -- the arms of a `case`, behind its subject
  choosing : Trees → Form
  -- what a `for` has so far, behind its body
  appending : Val → Place → Form

-- what a statement defines
pub data Binder : Type 0 where
  no_name : Binder
  a_constant : Bytes → Binder
  a_variable : Bytes → Place → Binder

-- the names of a generator: of elements; of an index or key and an element; of a range
pub data Generator : Type 0 where
  of_elements : Bytes → Generator
  of_entries : Bytes → Bytes → Generator
  of_range : Bytes → Generator

-- values not yet taken: each with its index or key; or the ints between two
pub data Values : Type 0 where
  listed : List (Val × Val) → Values
  between : ℤ → ℤ → Values

pub data Role : Type 0 where
  -- an arm or the body of a `branch`; the body of a call; the call that a spawned entry or Main
  -- runs
  part : Role
  body : Role
  root : Option ℕ → Role

mutual
  pub data Residual : Type 0 where
    -- Wait, TaskWait or EventWait
    leaf : Wait → Env → Residual
    args : Env → Form → (done : List Val) → Residual → (left : List Tree) → Residual
    seq : Env → Binder → Residual → (left : Trees) → Residual
    -- a block with a deferred block that was reached, in the environment of its `defer`
    deferred : Env → Tree → Residual → Residual
    looped : Env → (body : Tree) → Residual → Residual
    -- an instance: the fields left, the names and values given, and the slots so far
    filling : Env → (class : ℕ) → Place → (left : List FieldTree) → (given : List Bytes) →
        (values slots : List Val) → Residual → Residual
    -- one generator of a `for`: the clauses behind it, the body, and the values not yet taken
    generated : Env → Generator → (clauses : Trees) → (body : Tree) → Place → Values → Residual →
        Residual
    called : Env → Scope → Residual
    -- Sync, Race or Rush
    arms : Kind → Place → Env → Arms → Residual

  -- a task scope, with what is in its background
  pub data Scope : Type 0 where
    scope : Role → Residual → (behind : Scopes) → Scope

  pub data Scopes : Type 0 where
    none : Scopes
    also : Scope → Scopes → Scopes

  pub data Arms : Type 0 where
    no_arms : Arms
    -- an arm that is a value, or a scope
    gave : Val → Arms → Arms
    runs : Scope → Arms → Arms

-- one more, behind all others
abbrev pub and_then : Scopes → Scope → Scopes
and_then none s = also s none
and_then (also x xs) s = also x (and_then xs s)

abbrev mutual
  pub leaves : Residual → List Wait
  leaves (leaf w e) = w ∷ []
  leaves (args e f vs r left) = leaves r
  leaves (seq e b r left) = leaves r
  leaves (deferred e d r) = leaves r
  leaves (looped e a r) = leaves r
  leaves (filling e c pl fs xs vs ss r) = leaves r
  leaves (generated e g cs a p vs r) = leaves r
  leaves (called e s) = scope_leaves s
  leaves (arms k p e gs) = arms_leaves gs

  pub scope_leaves : Scope → List Wait
  scope_leaves (scope q r bs) = behind_leaves bs (leaves r)

  -- those behind stand first
  pub behind_leaves : Scopes → List Wait → List Wait
  behind_leaves none ws = ws
  behind_leaves (also s bs) ws = scope_leaves s ++ behind_leaves bs ws

  pub arms_leaves : Arms → List Wait
  arms_leaves no_arms = []
  arms_leaves (gave v gs) = arms_leaves gs
  arms_leaves (runs s gs) = scope_leaves s ++ arms_leaves gs

-- the wait is one of those behind
abbrev pub is_behind : ℕ → Scopes → Bool
is_behind n none = false
is_behind n (also s bs) = cond (has n (scope_leaves s)) true (is_behind n bs)
