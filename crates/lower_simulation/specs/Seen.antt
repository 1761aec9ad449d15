-- What is seen of a run, be it that of a program or that of a code.
use Rattle.std.specs.Prelude.{List}
use Rattle.verse_value.specs.declared.runs.Ending.{Ending}
use Rattle.verse_value.specs.declared.runs.Ending.TheVariants as ending
use Rattle.verse_meaning_state.specs.State.{State}
use Rattle.verse_meaning_state.specs.Waits.{Wait}
use Rattle.verse_meaning_state.specs.Turns.{Stage, going, closed, broken, amiss}

-- After some turns: the whole state, how the run has ended where it has, and the waits that are
-- live, each with its number and its cause, in order; none are told of a run that has ended within
-- a turn.
pub data Seen : Type 0 where
  between : State → List Wait → Seen
  ended : Ending → State → List Wait → Seen
  broke_off : Ending → State → Seen

abbrev pub seen_of : {A : Type 0} → (A → List Wait) → Stage A → Seen
seen_of waits (going s x) = between s (waits x)
seen_of waits (closed e s x) = ended e s (waits x)
seen_of waits (broken e s) = broke_off e s
seen_of waits (amiss s) = broke_off ending.Stuck s
