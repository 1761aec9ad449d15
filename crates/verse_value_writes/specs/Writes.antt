-- What a write at a path comes to, and what undoes it.
use Rattle.std.specs.Prelude.{◌≡◌, List, Option, Some, None, Result, Ok, Err}
use Rattle.verse_value.specs.Val.{Val}
use Rattle.verse_value.specs.View.{val_of}
use Rattle.verse_value.specs.Answer.{Answer, gives, fails, error, stuck}
use Rattle.verse_value.specs.Operations.{combined, write_at}
use Rattle.verse_value.specs.Places.{there, end_of, put, pop, shorten, applied, Allows, IsArray}
use Rattle.verse_value.specs.Places.{path_to_map}
use Rattle.verse_value.specs.declared.modes.Mode.{Mode}
use Rattle.verse_value_writes.specs.Growing.{grown, parts_there}
use Rattle.verse_value_writes.specs.declared.writes.WriteFault.{WriteFault}
use Rattle.verse_value_writes.specs.declared.writes.WriteFault.TheVariants.{Memory, Fail, Fault}
use Rattle.verse_value_writes.specs.declared.writes.WriteFault.TheVariants.{Stuck}
use Rattle.verse_value_writes.specs.declared.writes.Undo.{Undo}
use Rattle.verse_value_writes.specs.declared.writes.Undo.TheVariants.{Put, DropLast, Shorten}
use Rattle.verse_value_writes.specs.declared.writes.Made.{Made}
use Rattle.verse_value_writes.specs.declared.writes.Made.TheVariants as made

-- an answer as a result of the code
abbrev pub result_of : {A : Type 0} → Answer A → Result A WriteFault
result_of (gives a) = Ok a
result_of fails = Err Fail
result_of (error kind) = Err (Fault kind)
result_of stuck = Err Stuck

-- the slot's new value and the value written, or why there is neither
abbrev pub written : List Val → Mode → Val → Val → Result (Val × Val) WriteFault
written path mode value slot = result_of (write_at path mode value slot)

-- the slot's new value alone
abbrev pub slot_after : Result (Val × Val) WriteFault → Option Val
slot_after (Ok w) = Some w.0
slot_after (Err fault) = None

-- the fault is the outcome's; want of memory may come at any time
abbrev pub Explains : {V : Type 0} → Result V WriteFault → WriteFault → Type 0
Explains outcome Memory = Unit {0}
Explains outcome fault = outcome ≡ Err fault

-- a slot went from one value to another by a write, and the path leads to the value written
pub record Wrote (path : List Val) (mode : Mode) (given before after : Val) : Type 0 where
  pub value : Val
  pub is : written path mode given before ≡ Ok (after, value)
  pub leads : end_of path after ≡ there value

-- what is written is a value in the old one's place, or parts added to it
abbrev pub Makes : Mode → Val → Val → Made → Type 0
Makes mode old value (made.Put new) = combined mode old value ≡ gives (val_of new)
Makes mode old value (made.Grow len more) =
    (combined mode old value ≡ gives (grown (there old) more)) × (len ≡ parts_there (there old)) ×
    IsArray old

-- what undoes a write: an old value goes back to the end of the path, the last key of the path's
-- map goes, or all parts of the path's array but the first go
abbrev pub undone : List Val → Undo → Val → Val
undone path (Put old) slot = applied path (put (val_of old)) slot
undone path DropLast slot = applied (path_to_map path) pop slot
undone path (Shorten len) slot = applied path (shorten len) slot

-- it can be done: the path leads to a value, to a map with a key, or to an array
abbrev pub CanUndo : List Val → Undo → Val → Type 0
CanUndo path (Put old) slot = Allows (end_of path slot) (put (val_of old))
CanUndo path DropLast slot = Allows (end_of (path_to_map path) slot) pop
CanUndo path (Shorten len) slot = Allows (end_of path slot) (shorten len)
