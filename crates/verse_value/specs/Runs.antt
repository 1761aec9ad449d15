-- The result of a run.
use Rattle.std.specs.Prelude.{ℕ, List, Option}
use Rattle.verse_value.specs.Store.{Store}
use Rattle.verse_value.specs.declared.runs.Ending.{Ending}

-- a printed line, and the moment in milliseconds
pub record Line : Type 0 where
  pub moment : ℕ
  pub bytes : List ℕ

pub record Run : Type 0 where
  pub trace : List Line
  pub store : Store
  pub ending : Ending
  -- the moment of the last turn that was begun, 0 before the first
  pub now : ℕ
  -- the steps spent
  pub steps : ℕ
  -- how many waits are live, where the ending is Done, Waiting or Until
  pub live : Option ℕ
