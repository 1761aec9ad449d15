-- What an operation comes to.
use Rattle.std.specs.Prelude.{Option, Some, None}
use Rattle.verse_base.specs.declared.refusals.Kind.{Kind}

pub data Answer (A : Type 0) : Type 0 where
  gives : A → Answer A
  -- a failure, which a failure context takes
  fails : Answer A
  -- a runtime error, which ends the run
  error : Kind → Answer A
  -- an operand is of no kind that the operation takes; no program comes to it
  stuck : Answer A

-- what is given goes on, anything else ends it
pub and_then : {A B : Type 0} → Answer A → (A → Answer B) → Answer B
and_then (gives a) next = next a
and_then fails next = fails
and_then (error k) next = error k
and_then stuck next = stuck

-- what is there, or else another answer
abbrev pub given_or : {A : Type 0} → Answer A → Option A → Answer A
given_or other (Some a) = gives a
given_or other None = other
