-- The state of a run: its memory, which a failed context puts back, and its clock, which only goes
-- on.
use Rattle.std.specs.Prelude.{ℕ, zero, suc, List, [], ◌∷◌, ◌++◌, Option, Some, None}
use Rattle.verse_value.specs.Val.{Val}
use Rattle.verse_value.specs.Store.{Store}
use Rattle.verse_value.specs.Runs.{Line}

pub record Memory : Type 0 where
  pub store : Store
  -- the oldest line first
  pub trace : List Line

-- a value, and the moment in which it came
pub record Given : Type 0 where
  pub value : Val
  pub moment : ℕ

-- a signal of an event, with the number that the next wait had then
pub record Signal : Type 0 where
  pub event : ℕ
  pub next : ℕ
  pub given : Given

-- what was printed before the trace begins
pub record Before : Type 0 where
  pub bytes : ℕ
  pub lines : ℕ

pub record Clock : Type 0 where
  -- the steps that are left, and those that are spent
  pub left : ℕ
  pub spent : ℕ
  -- the moment in milliseconds
  pub now : ℕ
  -- the number of the next wait
  pub next : ℕ
  -- for each spawned task what it gave; nothing while it runs
  pub results : List (Option Given)
  pub signals : List Signal
  -- nothing, but in a run that was resumed
  pub before : Before

pub record State : Type 0 where
  pub memory : Memory
  pub clock : Clock

abbrev pub begun : ℕ → State
begun steps = record {
  memory = record { store = []; trace = [] };
  clock = record {
    left = steps;
    spent = 0;
    now = 0;
    next = 0;
    results =
        [];
    signals = [];
    before = record { bytes = 0; lines = 0 };
  };
}

abbrev pub with_store : State → Store → State
with_store s store = record s { memory = record { store = store; trace = s.memory.trace } }

abbrev pub with_line : State → Line → State
with_line s line = record s {
  memory =
      record { store = s.memory.store; trace = s.memory.trace ++ line ∷ [] };
}

-- what a failed context leaves: the memory of its entry, and the clock as it is
abbrev pub restored : Memory → State → State
restored m s = record s { memory = m }

-- one step fewer is left
abbrev pub stepped : ℕ → State → State
stepped left s = record s { clock = record s.clock { left = left; spent = suc s.clock.spent } }

-- spends a step before something begins, or none is left
abbrev pub spending : {A : Type 0} → ℕ → State → A → (State → A) → A
spending zero s out go = out
spending (suc left) s out go = go (stepped left s)

-- one wait more has its number
abbrev pub drawn : State → State
drawn s = record s { clock = record s.clock { next = suc s.clock.next } }

abbrev pub at_moment : ℕ → State → State
at_moment moment s = record s { clock = record s.clock { now = moment } }

abbrev pub signalled : ℕ → Val → State → State
signalled event v s = record s {
  clock = record s.clock {
    signals = s.clock.signals ++ record {
      event = event;
      next =
          s.clock.next;
      given = record { value = v; moment = s.clock.now };
    } ∷ [];
  };
}

-- one spawned task more, which runs
abbrev pub with_entry : State → State
with_entry s = record s { clock = record s.clock { results = s.clock.results ++ None ∷ [] } }

-- the list with another element at a place
abbrev pub set_at : {A : Type 0} → List A → ℕ → A → List A
set_at [] n v = []
set_at (x ∷ xs) zero v = v ∷ xs
set_at (x ∷ xs) (suc n) v = x ∷ set_at xs n v

-- the task of an entry has given a value; Main has none
abbrev pub with_result : Option ℕ → Val → State → State
with_result None v s = s
with_result (Some entry) v s =
    record s {
      clock = record s.clock {
        results = set_at s.clock.results entry (Some (record { value = v; moment = s.clock.now }));
      };
    }
