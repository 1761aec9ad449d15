-- An array that a path leads to, with parts added to it.
use Rattle.std.specs.Prelude.{ℕ}
use Rattle.verse_value.specs.Val.{Val, unit, array, Vals}
use Rattle.verse_value.specs.Parts.{joined}
use Rattle.verse_value.specs.Operations.{count}
use Rattle.verse_value.specs.Places.{End, there}

abbrev pub grown : End → Vals → Val
grown (there (array vs)) more = array (joined vs more)
grown end more = unit

-- how many parts it has before
abbrev pub parts_there : End → ℕ
parts_there (there (array vs)) = count vs
parts_there end = 0
