-- What an operation finds in a slot, and what the definitions pass on.
use Rattle.std.proofs.Common.{◌≡◌, ℕ, zero, suc, List, refl}
use Rattle.std.specs.Prelude.{Option, Some, None, slice_get}
use Rattle.verse_sorts.specs.Sorts as s
use Rattle.verse_sorts.specs.Sorts.{Sort}
use Rattle.verse_verify_kept.specs.Notes.{ClassNote}
use Rattle.verse_verify_faults.specs.Stepping.{Stepped, on_there, on_slot, slots_at}
use Rattle.verse_verify_operands.specs.Finds.{found, there}
use Rattle.verse_verify_cells.specs.Slots.{slot_in}

there_by : (m : Option Sort) (go : Sort → Stepped) → on_there 6 m go ≡ found (there 6 m) go
there_by None go = refl
there_by (Some a) go = refl

pub slots_by : (cs : List ClassNote) (a : Sort) (k : ℕ) (go : Sort → Stepped) → on_slot cs a k go ≡ found (slot_in cs a k) go
slots_by cs (s.var a) zero go = refl
slots_by cs (s.var a) (suc k) go = refl
slots_by cs (s.obj c) k go = there_by (slots_at cs (slice_get cs c) k) go
slots_by cs s.never k go = refl
slots_by cs a k go = refl
