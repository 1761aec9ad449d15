-- What is kept of a run between two turns.
use Rattle.std.specs.Prelude.{ℕ, List, Option}
use Rattle.task_tree.specs.declared.tasks.Role.{Role}
use Rattle.verse_value.specs.Val.{Val}
use Rattle.verse_value.specs.Store.{Store}
use Rattle.verse_meaning_state.specs.State.{Given}
use Rattle.verse_meaning_state.specs.Waits.{Cause}

-- a frame: the operation at which it stands, its locals, its operands and its deferred blocks, the
-- last one of each at the end
pub record KeptFrame : Type 0 where
  pub place : ℕ
  pub locals : List Val
  pub stack : List Val
  pub defers : List ℕ

-- a wait by its number, or a group with the values of those arms that have one
pub data KeptRest : Type 0 where
  leaf : (number : ℕ) → Cause → KeptRest
  group : List (Option Val) → KeptRest

pub record KeptTask : Type 0 where
  -- where its parent stands in the list of tasks
  pub parent : Option ℕ
  pub role : Role
  -- of a spawned task its entry
  pub root : Option ℕ
  -- the lowest frame first
  pub frames : List KeptFrame
  pub rest : KeptRest

pub record Kept : Type 0 where
  pub left : ℕ
  pub spent : ℕ
  pub now : ℕ
  pub next : ℕ
  -- what was printed
  pub bytes : ℕ
  pub lines : ℕ
  pub cells : Store
  -- for each spawned task what it gave; nothing while it runs
  pub spawned : List (Option Given)
  pub tasks : List KeptTask
