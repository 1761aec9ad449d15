-- Failure contexts: what a failed one leaves, said from its Try to where the machine goes on.
use Rattle.std.specs.Prelude.{◌≡◌, ℕ, suc, ◌+◌, ◌≤◌, ◌<◌, ℤ, List, [], ◌∷◌, ◌++◌, length, Some}
use Rattle.std.specs.Prelude.{cond}
use Rattle.verse_code.specs.declared.operations.Op.{Op}
use Rattle.verse_code.specs.declared.operations.Op.TheVariants as o
use Rattle.verse_code.specs.declared.codes.Code.{Code}
use Rattle.verse_value.specs.Val.{Val}
use Rattle.verse_meaning_state.specs.State.{State, Clock}
use Rattle.verse_meaning_state.specs.Waits.{eqn}
use Rattle.verse_code_machine.specs.Tasks.{Frame, Machine, Next, Turn}
use Rattle.verse_code_machine.specs.Frames.{only_where, fits}
use Rattle.verse_code_machine.specs.Runs.{step, Forest}
use Rattle.verse_code_machine_contexts.specs.Runs.{op_at, InRun}

-- ---- what stands open

abbrev pub open_in : List Frame → ℕ
open_in [] = 0
open_in (f ∷ fs) = length f.handlers + open_in fs

-- how many contexts the task that runs has open, in all its frames
abbrev pub contexts : Machine → ℕ
contexts m = length m.frame.handlers + open_in m.below

-- operations one after another; before and behind each more than d contexts are open
pub data Within (c : Code) (d : ℕ) : Machine → Machine → Type 0 where
  stands : {m : Machine} → d < contexts m → Within c d m m
  goes_on : {m k n : Machine} → d < contexts m → step c m ≡ Next k → Within c d k n →
      Within c d m n

-- ---- where a context closes

-- one clock and a later one differ in nothing but steps
pub record StepsAlone (k l : Clock) : Type 0 where
  pub same : l ≡ record k { left = l.left; spent = l.spent }
  pub sum : l.left + l.spent ≡ k.left + k.spent

-- the locals of the frame below which so many stand
abbrev pub locals_above : ℕ → List Val → List Frame → List Val
locals_above n ls [] = ls
locals_above n ls (f ∷ fs) = cond (eqn n (suc (length fs))) ls (locals_above n f.locals fs)

-- The machine m of a Try, with the memory that it had then, at the label. Of the machine k, in
-- which an operation fails, it has the clock and what the frame's locals are now.
abbrev pub failed : Machine → (label : ℕ) → Machine → Machine
failed m label k = record {
  who = m.who;
  world = m.world;
  state = record { memory = m.state.memory; clock = k.state.clock };
  frame = record {
    life = m.frame.life;
    locals = locals_above (length m.below) k.frame.locals k.below;
    stack = m.frame.stack;
    place = label;
    handlers = m.frame.handlers;
  };
  below = m.below;
}

-- behind a Commit or an Undo, which end a context with a state and the operands of both sides
abbrev pub ended : Machine → State → Machine → Machine
ended m s k = record {
  who = m.who;
  world = m.world;
  state = s;
  frame = record {
    life = k.frame.life;
    locals = k.frame.locals;
    stack = k.frame.stack ++ m.frame.stack;
    place = suc k.frame.place;
    handlers = m.frame.handlers;
  };
  below = m.below;
}

-- Commit keeps what the context wrote, Undo takes it back; any other operation that closes the
-- context fails
abbrev pub closed_by : Op → Machine → (label : ℕ) → Machine → Machine
closed_by o.Commit m label k = ended m k.state k
closed_by o.Undo m label k =
    ended m (record { memory = m.state.memory; clock = k.state.clock }) k
closed_by op m label k = failed m label k

-- The machine k is within the context that the machine m has opened by a Try with this label.
pub record InContext (c : Code) (m : Machine) (label : ℕ) (k : Machine) : Type 0 where
  -- the same task runs, and all others are as they were
  pub who : k.who ≡ m.who
  pub world : k.world ≡ m.world
  pub clock : StepsAlone m.state.clock k.state.clock
  -- it is not suspended
  pub runs : (s : State) (tss : Forest) → step c k ≡ Turn s tss → ⊥
  -- at most one context closes
  pub closes : (n : Machine) → step c k ≡ Next n → contexts n ≤ contexts m →
      (op : Op) × (op_at c k ≡ Some op) × (n ≡ closed_by op m label k)
  -- where it is the innermost a failure is taken by it
  pub fails : contexts k ≡ suc (contexts m) → op_at c k ≡ Some o.Fail →
      step c k ≡ only_where (fits m.frame.handlers label) k.state (Next (failed m label k))

-- A Try opens one context, and changes nothing else but what the frame has on its stack.
pub record Opens (m j : Machine) : Type 0 where
  pub context : contexts j ≡ suc (contexts m)
  pub same : j ≡ record m { frame = j.frame }
  pub locals : j.frame.locals ≡ m.frame.locals

-- In every run: from a Try, any number of operations later, as long as its context stands.
abbrev pub ContextsUndo : Type 0
ContextsUndo = (c : Code) (ns : List ℤ) (steps until : ℕ) (m : Machine) →
    InRun c ns steps until m → (label : ℕ) → op_at c m ≡ Some (o.Try label) →
    (j : Machine) → step c m ≡ Next j →
    Opens m j × ((k : Machine) → Within c (contexts m) j k → InContext c m label k)
