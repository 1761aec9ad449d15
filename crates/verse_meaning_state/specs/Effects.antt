-- What each operation does with memory and clock, as an answer with a value and the state after it.
use Rattle.std.specs.Prelude.{ℕ, ◌+◌, cond, nat_le, List, [], ◌∷◌, length, Option, Some, None}
use Rattle.std.specs.Prelude.{slice_get}
use Rattle.std.specs.List.{flat_map}
use Rattle.verse_base.specs.TraceLine.{line_bytes}
use Rattle.verse_base.specs.declared.limits.TheConstants.{MOST_TRACE_BYTES}
use Rattle.verse_base.specs.declared.refusals.Kind.TheVariants as kind
use Rattle.verse_value.specs.Val.{Val, unit, object, event, task, array}
use Rattle.verse_value.specs.Keys.{bytes_of}
use Rattle.verse_value.specs.Store.{Store, Cell}
use Rattle.verse_value.specs.Answer.{Answer, gives, fails, error, stuck}
use Rattle.verse_value.specs.Storing.{read_slot, add_cell, write_slot}
use Rattle.verse_value.specs.Runs.{Line}
use Rattle.verse_value.specs.declared.runs.CellKind.{CellKind}
use Rattle.verse_value.specs.declared.runs.CellKind.TheVariants as cell
use Rattle.verse_value.specs.declared.modes.Mode.{Mode}
use Rattle.verse_meaning_state.specs.State.{State, with_store, with_line, signalled}

abbrev pub Effect : Type 0
Effect = Answer (Val × State)

-- of values alone: the state is the same
abbrev pub still : Answer Val → State → Effect
still (gives v) s = gives (v, s)
still fails s = fails
still (error k) s = error k
still stuck s = stuck

-- a new cell, and the value that names it
abbrev pub added : Answer Store → Val → State → Effect
added (gives store) v s = gives (v, with_store s store)
added fails v s = fails
added (error k) v s = error k
added stuck v s = stuck

abbrev pub made : (ℕ → Val) → Cell → State → Effect
made names c s = added (add_cell s.memory.store c) (names (length s.memory.store)) s

abbrev pub variable_made : Val → State → Effect
variable_made v s = made object (record { kind = cell.Var; slots = v ∷ [] }) s

abbrev pub object_made : ℕ → List Val → State → Effect
object_made class slots s = made object (record { kind = cell.Object class; slots = slots }) s

abbrev pub event_made : State → Effect
event_made s = made event (record { kind = cell.Event; slots = [] }) s

-- the slot of the cell that a value names
abbrev pub slot_read : ℕ → Val → State → Effect
slot_read slot (object c) s = still (read_slot s.memory.store c slot) s
slot_read slot v s = stuck

abbrev pub changed : Answer (Store × Val) → State → Effect
changed (gives x) s = gives (x.1, with_store s x.0)
changed fails s = fails
changed (error k) s = error k
changed stuck s = stuck

-- writes at a path in a slot of the cell that a value names, and gives the value written
abbrev pub slot_written : ℕ → List Val → Mode → Val → Val → State → Effect
slot_written slot path mode v (object c) s =
    changed (write_slot s.memory.store c slot path mode v) s
slot_written slot path mode v other s = stuck

-- the bytes of the trace as it is printed
abbrev pub printed : List Line → List ℕ
printed lines = flat_map (λ (l : Line). line_bytes l.moment l.bytes) lines

-- how many bytes were printed, those before the trace too
abbrev pub printed_by : State → ℕ
printed_by s = s.clock.before.bytes + length (printed s.memory.trace)

abbrev pub line_told : List ℕ → State → Effect
line_told bytes s =
    cond (nat_le (printed_by s + length (line_bytes s.clock.now bytes)) MOST_TRACE_BYTES) (gives (
      unit,
      with_line s (record {
        moment = s.clock.now;
        bytes = bytes;
      }),
    )) (error kind.Trace)

abbrev pub text_printed : Option (List ℕ) → State → Effect
text_printed None s = stuck
text_printed (Some bytes) s = line_told bytes s

-- a line of the bytes of an array of chars
abbrev pub line_printed : Val → State → Effect
line_printed (array vs) s = text_printed (bytes_of vs) s
line_printed v s = stuck

abbrev pub class_in : CellKind → Option ℕ
class_in (cell.Object class) = Some class
class_in other = None

abbrev pub class_at : Option Cell → Option ℕ
class_at None = None
class_at (Some c) = class_in c.kind

-- the class of the object that a value names
abbrev pub class_of : Val → State → Option ℕ
class_of (object c) s = class_at (slice_get s.memory.store c)
class_of v s = None

abbrev pub event_in : ℕ → CellKind → Option ℕ
event_in c cell.Event = Some c
event_in c other = None

abbrev pub event_at : ℕ → Option Cell → Option ℕ
event_at c None = None
event_at c (Some x) = event_in c x.kind

-- the event that a value names
abbrev pub event_of : Val → State → Option ℕ
event_of (event c) s = event_at c (slice_get s.memory.store c)
event_of v s = None

-- the spawned task that a value names
abbrev pub task_of : Val → Option ℕ
task_of (task entry) = Some entry
task_of v = None

abbrev pub signal_sent : Option ℕ → Val → State → Effect
signal_sent None v s = stuck
signal_sent (Some e) v s = gives (unit, signalled e v s)
