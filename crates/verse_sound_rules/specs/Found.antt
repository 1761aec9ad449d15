-- What the checker has found of a program, as sorts; and what stands round a node.
use Rattle.std.specs.Prelude.{◌≡◌, ℕ, Bool, true, false, List, Option, Some, None}
use Rattle.verse_tree.specs.Tree.{Bytes}
use Rattle.verse_names_tables.specs.Names.{Table, look}
use Rattle.verse_meaning.specs.Programs.{same_name}
use Rattle.verse_meaning.specs.Forms.{this_name}
use Rattle.verse_sorts.specs.Sorts.{Sort, IsKnown}
use Rattle.verse_sorts.specs.Typing.{at}

-- a function or a method
pub record Signature : Type 0 where
  pub params : List Sort
  pub result : Sort
  -- a call of it can fail
  pub decides : Bool
  -- a call of it can wait, or cannot be undone
  pub lasts : Bool
  -- of a method the class in which it stands
  pub this : Option ℕ

pub record Found : Type 0 where
  -- by the number of a node, what its value is
  pub sort : ℕ → Sort
  -- what K of `K -> V : M` is, by the number of that node
  pub key : ℕ → Sort
  -- the node defines a variable
  pub is_var : ℕ → Bool
  -- the class from which a class inherits
  pub up : ℕ → Option ℕ
  -- all fields of a class, the root's first
  pub slots : ℕ → List Sort
  -- by the number of a function
  pub signature : ℕ → Signature

-- each sort that is found is known
pub record AllKnown (f : Found) : Type 0 where
  pub sort : (n : ℕ) → IsKnown (f.sort n)
  pub key : (n : ℕ) → IsKnown (f.key n)
  pub slots : (c i : ℕ) (q : Sort) → at (f.slots c) i ≡ Some q → IsKnown q
  pub params : (g i : ℕ) (q : Sort) → at (f.signature g).params i ≡ Some q → IsKnown q
  pub result : (g : ℕ) → IsKnown (f.signature g).result

-- what may happen at a node, by what stands round it
pub record Allowed : Type 0 where
  -- a failure is taken
  pub fails : Bool
  -- where `return` may stand, the sort of the result
  pub result : Option Sort
  -- a `break` may leave the innermost loop
  pub breaks : Bool
  -- no failure context is open in the task, and no `defer` runs
  pub waits : Bool
  -- the class of `Self`
  pub this : Option ℕ

-- in a failure context
abbrev pub tried : Allowed → Allowed
tried a = record { fails = true; result = None; breaks = false; waits = false; this = a.this }

-- in an arm, or in the body of a `branch`
abbrev pub armed : Allowed → Allowed
armed a = record { fails = false; result = None; breaks = false; waits = true; this = a.this }

-- in a deferred block
abbrev pub deferred : Allowed → Allowed
deferred a = record { fails = false; result = None; breaks = false; waits = false; this = a.this }

-- in the body of a loop, which a `break` may leave
abbrev pub looped : Bool → Allowed → Allowed
looped c a = record {
  fails = a.fails;
  result = a.result;
  breaks = c;
  waits = a.waits;
  this =
      a.this;
}

-- in the body of a function
abbrev pub in_function : Signature → Bool → Allowed
in_function g m = record {
  fails = g.decides;
  result = Some g.result;
  breaks = false;
  waits = m;
  this = g.this;
}

-- in the default of a field
abbrev pub in_default : Bool → Allowed
in_default m = record { fails = false; result = None; breaks = false; waits = m; this = None }

-- the name may be defined where these names are visible; no definition has the name of `Self`
abbrev pub New : Bytes → Table → Type 0
New x xs = (look x xs ≡ None) × (same_name this_name x ≡ false)
