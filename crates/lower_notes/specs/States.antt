-- The state at an operation, and what becomes of it.
use Rattle.std.specs.Prelude.{ℕ, zero, suc, ◌+◌, ◌-◌, List, [], ◌∷◌, ◌++◌, length, drop, map}
use Rattle.std.specs.Prelude.{Option, Some, None}
use Rattle.verse_sorts.specs.Sorts as s
use Rattle.verse_sorts.specs.Sorts.{Sort}
use Rattle.verse_verify_faults.specs.Spots.{Mark, Spot}

-- a block that was deferred: its first operation, and the locals that it is run with
pub record Deferred : Type 0 where
  pub entry : ℕ
  pub locals : List Sort

-- The top of the stack, the innermost Try and the block that was deferred last are the first.
pub record State : Type 0 where
  pub func : ℕ
  -- in an arm or in a task behind: the sort of what that gives
  pub arm : Option Sort
  pub locals : List Sort
  pub stack : List Sort
  pub tries : List Mark
  -- The deferred block in which it stands, the Trys that were open where that was deferred, how
  -- many blocks are deferred beneath it, and those that were deferred since.
  pub block : Option ℕ
  pub outer : List ℕ
  pub under : ℕ
  pub defers : List Deferred

abbrev pub spot_of : State → Spot
spot_of x = record {
  func = x.func;
  arm = x.arm;
  locals = x.locals;
  stack = x.stack;
  tries = x.tries;
  block = x.block;
  outer = x.outer;
  under = x.under;
  defers = map (λ (d : Deferred). d.entry) x.defers;
}

abbrev pub Change : Type 0
Change = State → State

-- Locals and operands

abbrev pub top : List Sort → Sort
top [] = s.any
top (a ∷ st) = a

abbrev pub local_in : List Sort → ℕ → Sort
local_in [] l = s.none
local_in (a ∷ ls) zero = a
local_in (a ∷ ls) (suc l) = local_in ls l

abbrev pub with_local : ℕ → Sort → List Sort → List Sort
with_local l a [] = []
with_local zero a (b ∷ ls) = a ∷ ls
with_local (suc l) a (b ∷ ls) = b ∷ with_local l a ls

-- so many operands fewer
abbrev pub pops : ℕ → Change
pops n x = record x { stack = drop n x.stack }

-- and then one of this sort
abbrev pub gives : ℕ → Sort → Change
gives n a x = record x { stack = a ∷ drop n x.stack }

abbrev pub gets : ℕ → Change
gets l x = record x { stack = local_in x.locals l ∷ x.stack }

-- the operand on top goes into a local, which is of this sort
abbrev pub puts : ℕ → Sort → Change
puts l a x = record x { stack = drop 1 x.stack; locals = with_local l a x.locals }

-- a domain, or both ends of a range, go into the local l, and a count into the next one
abbrev pub takes_domain : ℕ → Change
takes_domain l x = record x {
  stack = drop 1 x.stack;
  locals = with_local (suc l) s.int
      (with_local l (top x.stack) x.locals);
}

abbrev pub takes_range : ℕ → Change
takes_range l x = record x {
  stack = drop 2 x.stack;
  locals = with_local (suc l) s.int
      (with_local l s.span x.locals);
}

-- what a turn takes, and what stands beside it
abbrev pub turns_with : ℕ → (value beside : Sort) → Change
turns_with l a b x = record x { locals = with_local (suc l) b (with_local l a x.locals) }

-- Trys

abbrev pub indices : List Mark → List ℕ
indices [] = []
indices (m ∷ ms) = m.index ∷ indices ms

-- in the Try of index `at`
abbrev pub tried : (at : ℕ) → Change
tried at x = record x { tries = record { index = at; height = length x.stack } ∷ x.tries }

-- out of the innermost Try
abbrev pub untried : Change
untried x = record x { tries = drop 1 x.tries }

-- Arms and deferred blocks

-- at the first operation of an arm that gives this
abbrev pub in_arm : Sort → Change
in_arm a x = record {
  func = x.func;
  arm = Some a;
  locals = x.locals;
  stack = [];
  tries = [];
  block = None;
  outer = [];
  under = 0;
  defers = [];
}

-- at the first operation of the block that the operation of index `at` defers
abbrev pub in_block : (at : ℕ) → Change
in_block at x = record {
  func = x.func;
  arm = x.arm;
  locals = x.locals;
  stack = [];
  tries = [];
  block = Some (suc at);
  outer = indices x.tries ++ x.outer;
  under = x.under + length x.defers;
  defers = [];
}

-- behind that operation
abbrev pub deferred : (at : ℕ) → Change
deferred at x = record x { defers = record { entry = suc at; locals = x.locals } ∷ x.defers }

-- a Leave leaves the locals of the last of the n blocks that it runs
abbrev pub locals_behind : (n : ℕ) → List Deferred → List Sort → List Sort
locals_behind zero ds ls = ls
locals_behind (suc n) [] ls = ls
locals_behind (suc n) (d ∷ ds) ls = locals_behind n ds d.locals

abbrev pub left_behind : (n : ℕ) → Change
left_behind n x = record x {
  defers = drop n x.defers;
  locals = locals_behind n x.defers x.locals;
}

-- m blocks stay deferred, with those beneath
abbrev pub left_with : ℕ → Change
left_with m x = left_behind (x.under + length x.defers - m) x
