-- What calls do to cells and their copies, one after another.
use Rattle.std.specs.Prelude.{◌≡◌, ◌≢◌, ◌<◌, ◌≤◌, ℕ, List, [], ◌∷◌, length, take, IsSome, Result}
use Rattle.std.specs.Prelude.{Ok, Err}
use Rattle.verse_value.specs.Val.{Val}
use Rattle.verse_value.specs.View.{val_of, vals_of}
use Rattle.verse_value.specs.Store.{Store, slot_of, stored, with_cell}
use Rattle.verse_value_writes.specs.declared.writes.WriteFault.{WriteFault}
use Rattle.tx_heap.specs.State.{State, new_cell, with_new, with_slot, marked, committed}
use Rattle.tx_heap.specs.State.{rolled_back, IsLight}
use Rattle.tx_heap.specs.Outcomes.{cells_written}
use Rattle.tx_heap.specs.declared.calls.Call.{Call}
use Rattle.tx_heap.specs.declared.calls.Call.TheVariants as call

-- the call may be made
abbrev pub Allowed : Call → State → Type 0
Allowed (call.AllocCell kind slots) s = (length s.cells < 4294967295) ×
    IsLight (with_cell s.cells (new_cell kind (vals_of slots)))
Allowed (call.Set cell slot value) s = IsSome (slot_of s.cells cell slot) ×
    IsLight (stored s.cells cell slot (val_of value))
Allowed (call.Write cell slot path mode value) s = IsSome (slot_of s.cells cell slot)
Allowed call.Mark s = Unit {0}
Allowed call.Commit s = s.copies ≢ []
Allowed call.Rollback s = s.copies ≢ []

-- a write that is refused changes nothing
abbrev pub after_write : State → Result (Store × Val) WriteFault → State
after_write s (Ok w) = record s { cells = w.0 }
after_write s (Err fault) = s

abbrev pub after : Call → State → State
after (call.AllocCell kind slots) s = with_new s (new_cell kind (vals_of slots))
after (call.Set cell slot value) s = with_slot s cell slot (val_of value)
after (call.Write cell slot path mode value) s =
    after_write s (cells_written s.cells cell slot (vals_of path) mode (val_of value))
after call.Mark s = marked s
after call.Commit s = committed s
after call.Rollback s = rolled_back s

-- each call may be made when its turn comes
abbrev pub AllAllowed : List Call → State → Type 0
AllAllowed [] s = Unit {0}
AllAllowed (c ∷ cs) s = Allowed c s × AllAllowed cs (after c s)

abbrev pub after_all : List Call → State → State
after_all [] s = s
after_all (c ∷ cs) s = after_all cs (after c s)

-- some of the calls were made, from the first on
abbrev pub AfterSome : List Call → State → State → Type 0
AfterSome cs old new = (n : ℕ) × (n ≤ length cs) × (new ≡ after_all (take n cs) old)
