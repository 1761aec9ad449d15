-- Which value a `Value` is.
use Rattle.std.specs.Prelude.{List, map}
use Rattle.verse_value.specs.Val.{Val, unit, falsity, truth, int, char, enum, object, event, task}
use Rattle.verse_value.specs.Val.{some, array, mapping, tuple}
use Rattle.verse_value.specs.declared.values.Value.{Value}
use Rattle.verse_value.specs.declared.values.Value.TheVariants as value

abbrev pub val_of : Value → Val
val_of value.Unit = unit
val_of value.False = falsity
val_of value.True = truth
val_of (value.Int n) = int n
val_of (value.Char c) = char c
val_of (value.Enum of at) = enum of at
val_of (value.Obj cell) = object cell
val_of (value.Event cell) = event cell
val_of (value.Task number) = task number
val_of (value.Some held) = some held.value
val_of (value.Array parts) = array parts.value
val_of (value.Map entries) = mapping entries.value
val_of (value.Tuple parts) = tuple parts.value

-- the values of a list
abbrev pub vals_of : List Value → List Val
vals_of = map val_of
