-- The changes of the code, and what they hand out.
use Rattle.std.specs.Prelude.{◌≡◌, Option, Some, None}
use Rattle.verse_value.specs.View.{val_of}
use Rattle.verse_value.specs.Places.{Change, put, push, pop, extend, shorten, End, there}
use Rattle.verse_value.specs.declared.values.Value.{Value}
use Rattle.verse_value_writes.specs.declared.changes.Change.{Change as Made}
use Rattle.verse_value_writes.specs.declared.changes.Change.TheVariants as made

abbrev pub change_of : Made → Change
change_of (made.Put new) = put (val_of new)
change_of (made.Push k new) = push k (val_of new)
change_of made.Pop = pop
change_of (made.Extend more) = extend more
change_of (made.Shorten len) = shorten len

-- a value that was put hands out the one that stood there
abbrev pub Replaced : Change → Option Value → End → Type 0
Replaced (put new) (Some old) end = end ≡ there (val_of old)
Replaced (put new) None end = ⊥
Replaced change old end = Unit {0}

-- only what adds takes memory
abbrev pub TakesMemory : Change → Type 0
TakesMemory (push k new) = Unit {0}
TakesMemory (extend more) = Unit {0}
TakesMemory change = ⊥
