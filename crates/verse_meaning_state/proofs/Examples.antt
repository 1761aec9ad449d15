-- Waits, endings and texts, computed.
use Rattle.std.proofs.Common.{◌≡◌, ℕ, [], ◌∷◌, Some, None, true, refl}
use Rattle.std.specs.Prelude.{pos, codes}
use Rattle.std.specs.Fmt.{digits}
use Rattle.verse_value.specs.Val.{unit, int, object, array}
use Rattle.verse_value.specs.Keys.{chars}
use Rattle.verse_value.specs.Runs.{Run}
use Rattle.verse_value.specs.declared.runs.CellKind.TheVariants as cell
use Rattle.verse_value.specs.declared.runs.Ending.TheVariants as ending
use Rattle.verse_meaning_state.specs.State.{State, begun, signalled, drawn, at_moment, with_entry, with_result}
use Rattle.verse_meaning_state.specs.Waits.{till, never, done, heard, due_of, least}
use Rattle.verse_meaning_state.specs.Turns.{closed, turn}
use Rattle.verse_meaning_state.specs.Texts.{run_text}

-- two signals of the event 0, at the moments 5 and 7, with three waits drawn before, between and behind them
signals : State
signals = drawn (signalled 0 (int (pos 2)) (at_moment 7 (drawn (signalled 0 (int (pos 1)) (at_moment 5 (drawn (begun 9)))))))

-- a wait is reached by the first signal behind it
first : due_of signals 0 (heard 0) ≡ Some (record { value = int (pos 1); moment = 5 })
unfolding signals
first = refl

second : due_of signals 1 (heard 0) ≡ Some (record { value = int (pos 2); moment = 7 })
unfolding signals
second = refl

third : due_of signals 2 (heard 0) ≡ None
unfolding signals
third = refl

-- a task that has finished
finished : due_of (with_result (Some 0) unit (at_moment 4 (with_entry (begun 9)))) 3 (done 0) ≡ Some (record { value = unit; moment = 4 })
finished = refl

-- the least moment, and of those the least number
next : least (begun 9) (record { number = 4; cause = till 6 } ∷ record { number = 2; cause = never } ∷ record {
  number = 3;
  cause =
      till 6;
} ∷ record { number = 1; cause = till 8 } ∷ []) ≡ Some (record { number = 3; given = record { value = unit; moment = 6 } })
next = refl

-- a wait at the horizon is taken; one above it ends the run, and so does a want of steps behind that
above : turn {A = ℕ} 5 (record { number = 0; cause = till 6 } ∷ []) (begun 0) 1 (λ d s. closed ending.Done s 0) ≡ closed ending.Until
    (begun 0) 1
above = refl

no_step : turn {A = ℕ} 6 (record { number = 0; cause = till 6 } ∷ []) (begun 0) 1 (λ d s. closed ending.Done s 0) ≡ closed ending.Steps
    (begun 0) 1
no_step = refl

-- a trace line, two cells and the ending
ended : Run
ended = record {
  trace = record { moment = 12; bytes = codes "hi" } ∷ [];
  store = record { kind = cell.Var; slots = int (pos 7) ∷ [] } ∷ record {
    kind = cell.Object 3;
    slots =
        array (chars (codes "a")) ∷ object 0 ∷ [];
  } ∷ [];
  ending = ending.Waiting;
  now = 12;
  steps = 4;
  live = Some 1;
}

text : run_text ended true 1 ≡ codes "12 hi\n@0 var 7\n@1 obj 3 \"a\" @0\n= waiting at 12 steps 4 live 1\n"
unfolding ended digits
text = refl
