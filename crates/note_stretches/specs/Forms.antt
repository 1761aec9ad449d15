-- What the calls of forms make of what is noted so far.
use Rattle.std.specs.Prelude.{ℕ, suc, length, Option}
use Rattle.verse_sorts.specs.Sorts.{Sort}
use Rattle.lower_notes.specs.States.{State, Change, gives, pops, tried, untried}
use Rattle.note_stretches.specs.Noted.{Noted, marked, skipped, resumed, stopped, changed}

-- a Try begins
abbrev pub tried_begun : Noted → Noted
tried_begun b = changed (tried (length b.spots)) (marked b)

-- behind a jump another stretch begins, where x stands
abbrev pub other_begun : Option State → Noted → Noted
other_begun x b = resumed x (marked b)

-- behind the body of a loop, where x stood before it: Drop, and Again
abbrev pub turned : Option State → Noted → Noted
turned x b = stopped (marked (resumed x (changed (pops 1) (marked b))))

-- behind the operations of a generator with its domain
abbrev pub turn_state : (domain : Change) → Noted → Noted
turn_state domain b = changed domain (marked (changed untried (marked b)))

-- behind its jump, a turn begins with a Try
abbrev pub turn_begun : (turn : Change) → Noted → Noted
turn_begun turn b = tried_begun (changed turn (marked b))

-- a group of m arms, whose value is of the sort a: what stands before its arms
abbrev pub group_state : (m : ℕ) → Sort → Noted → Noted
group_state m a b = marked (changed (gives 0 a) (skipped m (marked b)))
