-- The functions that are written with `suspends`.
use Rattle.std.specs.Prelude.{ℕ, Bool, false, List, Option, Some, None, slice_get}
use Rattle.verse_tree.specs.ItemTree.{ItemTree}
use Rattle.verse_tree.specs.declared.tables.FunInfo.{FunInfo}
use Rattle.verse_rules.specs.Sound.{completed}

abbrev pub suspends_in : Option FunInfo → Bool
suspends_in None = false
suspends_in (Some f) = f.effects.suspends

-- the function of a number
abbrev pub suspending : List ItemTree → ℕ → Bool
suspending is g = suspends_in (slice_get (completed is).funs g)
