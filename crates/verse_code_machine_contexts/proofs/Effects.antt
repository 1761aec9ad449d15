-- What operations do with memory leaves the clock as it is.
use Rattle.std.proofs.Common.{◌≡◌, ℕ, List, Option, Some, None, Bool, true, false, cond, refl}
use Rattle.verse_base.specs.declared.refusals.Kind.{Kind as Error}
use Rattle.verse_value.specs.Val.{Val, unit, falsity, truth, int, char, enum, object, event, task, some, array, mapping}
use Rattle.verse_value.specs.Val.{tuple}
use Rattle.verse_value.specs.Keys.{bytes_of}
use Rattle.verse_value.specs.Store.{Store, Cell}
use Rattle.verse_value.specs.Answer.{Answer, gives, fails, error, stuck}
use Rattle.verse_value.specs.Storing.{read_slot, add_cell, write_slot}
use Rattle.verse_value.specs.declared.modes.Mode.{Mode}
use Rattle.verse_meaning_state.specs.State.{State}
use Rattle.verse_meaning_state.specs.Effects.{Effect, still, added, made, slot_read, changed, slot_written}
use Rattle.verse_meaning_state.specs.Effects.{text_printed}
use Rattle.verse_meaning_state.specs.Effects.{line_printed}

module _ (s : State) where
  abbrev pub KeepsClock : Effect → Type 0
  KeepsClock (gives x) = x.1.clock ≡ s.clock
  KeepsClock fails = Unit {0}
  KeepsClock (error k) = Unit {0}
  KeepsClock stuck = Unit {0}

  pub still_keeps : (a : Answer Val) → KeepsClock (still a s)
  still_keeps (gives v) = refl
  still_keeps fails = tt
  still_keeps (error k) = tt
  still_keeps stuck = tt

  added_keeps : (a : Answer Store) (v : Val) → KeepsClock (added a v s)
  added_keeps (gives store) v = refl
  added_keeps fails v = tt
  added_keeps (error k) v = tt
  added_keeps stuck v = tt

  pub made_keeps : (names : ℕ → Val) (c : Cell) → KeepsClock (made names c s)
  made_keeps names c = added_keeps (add_cell s.memory.store c) _

  changed_keeps : (a : Answer (Store × Val)) → KeepsClock (changed a s)
  changed_keeps (gives x) = refl
  changed_keeps fails = tt
  changed_keeps (error k) = tt
  changed_keeps stuck = tt

  pub read_keeps : (slot : ℕ) (v : Val) → KeepsClock (slot_read slot v s)
  read_keeps slot unit = tt
  read_keeps slot falsity = tt
  read_keeps slot truth = tt
  read_keeps slot (int n) = tt
  read_keeps slot (char n) = tt
  read_keeps slot (enum a b) = tt
  read_keeps slot (object c) = still_keeps (read_slot s.memory.store c slot)
  read_keeps slot (event n) = tt
  read_keeps slot (task n) = tt
  read_keeps slot (some w) = tt
  read_keeps slot (array vs) = tt
  read_keeps slot (mapping ps) = tt
  read_keeps slot (tuple vs) = tt

  pub written_keeps : (slot : ℕ) (path : List Val) (m : Mode) (v c : Val) → KeepsClock (slot_written slot path m v c s)
  written_keeps slot path m v unit = tt
  written_keeps slot path m v falsity = tt
  written_keeps slot path m v truth = tt
  written_keeps slot path m v (int n) = tt
  written_keeps slot path m v (char n) = tt
  written_keeps slot path m v (enum a b) = tt
  written_keeps slot path m v (object c) = changed_keeps (write_slot s.memory.store c slot path m v)
  written_keeps slot path m v (event n) = tt
  written_keeps slot path m v (task n) = tt
  written_keeps slot path m v (some w) = tt
  written_keeps slot path m v (array vs) = tt
  written_keeps slot path m v (mapping ps) = tt
  written_keeps slot path m v (tuple vs) = tt

  told_keeps : (b : Bool) (x : Val × State) (k : Error) → x.1.clock ≡ s.clock → KeepsClock (cond b (gives x) (error k))
  told_keeps true x k e = e
  told_keeps false x k e = tt

  text_keeps : (bytes : Option (List ℕ)) → KeepsClock (text_printed bytes s)
  text_keeps None = tt
  text_keeps (Some bytes) = told_keeps _ _ _ refl

  pub printed_keeps : (v : Val) → KeepsClock (line_printed v s)
  printed_keeps unit = tt
  printed_keeps falsity = tt
  printed_keeps truth = tt
  printed_keeps (int n) = tt
  printed_keeps (char n) = tt
  printed_keeps (enum a b) = tt
  printed_keeps (object c) = tt
  printed_keeps (event n) = tt
  printed_keeps (task n) = tt
  printed_keeps (some w) = tt
  printed_keeps (array vs) = text_keeps (bytes_of vs)
  printed_keeps (mapping ps) = tt
  printed_keeps (tuple vs) = tt
