-- What works on memory takes no step: it leaves the steps as they are.
use Rattle.std.proofs.Common.{◌≡◌, refl, ℕ, List, Bool, true, false, cond, Option, Some, None}
use Rattle.verse_base.specs.declared.refusals.Kind.{Kind as Error}
use Rattle.verse_value.specs.Answer.{gives, fails, error, stuck, Answer}
use Rattle.verse_value.specs.Val.{Val, unit, falsity, truth, int, char, enum, object, event, task, some, array, mapping, tuple}
use Rattle.verse_value.specs.Store.{Store}
use Rattle.verse_value.specs.Storing.{read_slot, write_slot}
use Rattle.verse_value.specs.declared.modes.Mode.{Mode}
use Rattle.verse_value.specs.Keys.{bytes_of}
use Rattle.verse_meaning_state.specs.State.{State, with_result}
use Rattle.verse_meaning_state.specs.Effects.{Effect, still, added, changed, slot_read, slot_written, text_printed, line_printed}
use Rattle.verse_meaning_state.specs.Effects.{signal_sent}

abbrev pub Keeps : State → Effect → Type 0
Keeps s (gives x) = x.1.clock.left ≡ s.clock.left
Keeps s fails = Unit {0}
Keeps s (error k) = Unit {0}
Keeps s stuck = Unit {0}

pub still_keeps : (a : Answer Val) (s : State) → Keeps s (still a s)
still_keeps (gives v) s = refl
still_keeps fails s = tt
still_keeps (error k) s = tt
still_keeps stuck s = tt

pub added_keeps : (a : Answer Store) (v : Val) (s : State) → Keeps s (added a v s)
added_keeps (gives store) v s = refl
added_keeps fails v s = tt
added_keeps (error k) v s = tt
added_keeps stuck v s = tt

pub changed_keeps : (a : Answer (Store × Val)) (s : State) → Keeps s (changed a s)
changed_keeps (gives x) s = refl
changed_keeps fails s = tt
changed_keeps (error k) s = tt
changed_keeps stuck s = tt

pub read_keeps : (slot : ℕ) (v : Val) (s : State) → Keeps s (slot_read slot v s)
read_keeps slot unit s = tt
read_keeps slot falsity s = tt
read_keeps slot truth s = tt
read_keeps slot (int n) s = tt
read_keeps slot (char n) s = tt
read_keeps slot (enum a b) s = tt
read_keeps slot (object c) s = still_keeps (read_slot s.memory.store c slot) s
read_keeps slot (event n) s = tt
read_keeps slot (task n) s = tt
read_keeps slot (some w) s = tt
read_keeps slot (array vs) s = tt
read_keeps slot (mapping ps) s = tt
read_keeps slot (tuple vs) s = tt

pub written_keeps : (slot : ℕ) (path : List Val) (m : Mode) (v c : Val) (s : State) → Keeps s (slot_written slot path m v c s)
written_keeps slot path m v unit s = tt
written_keeps slot path m v falsity s = tt
written_keeps slot path m v truth s = tt
written_keeps slot path m v (int n) s = tt
written_keeps slot path m v (char n) s = tt
written_keeps slot path m v (enum a b) s = tt
written_keeps slot path m v (object c) s = changed_keeps (write_slot s.memory.store c slot path m v) s
written_keeps slot path m v (event n) s = tt
written_keeps slot path m v (task n) s = tt
written_keeps slot path m v (some w) s = tt
written_keeps slot path m v (array vs) s = tt
written_keeps slot path m v (mapping ps) s = tt
written_keeps slot path m v (tuple vs) s = tt

pub told_keeps : (b : Bool) (x : Val × State) (k : Error) (s : State) → x.1.clock.left ≡ s.clock.left → Keeps s (cond b (gives x) (error k))
told_keeps true x k s e = e
told_keeps false x k s e = tt

pub text_keeps : (bytes : Option (List ℕ)) (s : State) → Keeps s (text_printed bytes s)
text_keeps None s = tt
text_keeps (Some bytes) s = told_keeps _ _ _ s refl

pub printed_keeps : (v : Val) (s : State) → Keeps s (line_printed v s)
printed_keeps unit s = tt
printed_keeps falsity s = tt
printed_keeps truth s = tt
printed_keeps (int n) s = tt
printed_keeps (char n) s = tt
printed_keeps (enum a b) s = tt
printed_keeps (object c) s = tt
printed_keeps (event n) s = tt
printed_keeps (task n) s = tt
printed_keeps (some w) s = tt
printed_keeps (array vs) s = text_keeps (bytes_of vs) s
printed_keeps (mapping ps) s = tt
printed_keeps (tuple vs) s = tt

pub sent_keeps : (e : Option ℕ) (v : Val) (s : State) → Keeps s (signal_sent e v s)
sent_keeps None v s = tt
sent_keeps (Some c) v s = refl

pub result_left : (entry : Option ℕ) (v : Val) (s : State) → (with_result entry v s).clock.left ≡ s.clock.left
result_left None v s = refl
result_left (Some entry) v s = refl
