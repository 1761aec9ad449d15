-- What notes say of a code: classes, functions, and the state at each operation.
use Rattle.std.specs.Prelude.{ℕ, List, [], ◌∷◌, ◌++◌, Option, Some, None, Bool, slice_get}
use Rattle.verse_sorts.specs.Sorts.{Sort}

pub record ClassNote : Type 0 where
  pub parent : Option ℕ
  pub slots : List Sort

pub record FuncNote : Type 0 where
  pub params : List Sort
  pub result : Sort
  pub may_fail : Bool
  pub may_wait : Bool

-- a Try that is open, and the operands beneath it
pub record Open : Type 0 where
  pub index : ℕ
  pub beneath : List Sort

-- The state at an operation. The stack is what lies above the innermost open Try, its top first;
-- the innermost Try is the first.
pub record Point : Type 0 where
  pub func : ℕ
  -- of the first frame of an arm or of a task behind: the sort of its value
  pub arm : Option Sort
  pub locals : List Sort
  pub stack : List Sort
  pub tries : List Open
  -- The index of the deferred block in which it stands, the Trys that were open where the block was
  -- deferred, how many blocks are deferred beneath it, and those that were deferred since, the last
  -- first. Outside of blocks: none, none, 0.
  pub block : Option ℕ
  pub outer : List ℕ
  pub under : ℕ
  pub defers : List ℕ

pub record Notes : Type 0 where
  pub classes : List ClassNote
  pub functions : List FuncNote
  -- none where the operation is never reached
  pub points : List (Option Point)

abbrev pub parent_in : Option ClassNote → Option ℕ
parent_in None = None
parent_in (Some c) = c.parent

abbrev pub parent_of : Notes → ℕ → Option ℕ
parent_of n c = parent_in (slice_get n.classes c)

abbrev pub live : Option (Option Point) → Option Point
live None = None
live (Some p) = p

abbrev pub point_at : Notes → ℕ → Option Point
point_at n q = live (slice_get n.points q)

abbrev pub indices : List Open → List ℕ
indices [] = []
indices (t ∷ ts) = t.index ∷ indices ts

-- all Trys of the frame that are open, the innermost first
abbrev pub names : Point → List ℕ
names p = indices p.tries ++ p.outer
