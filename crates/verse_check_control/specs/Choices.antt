-- The type of an `if`, with another part or without.
use Rattle.std.specs.Prelude.{Option, Some, None}
use Rattle.verse_tree.specs.Tree.{Tree}
use Rattle.verse_rules_types.specs.Types.{Ty, void}
use Rattle.verse_rules_types.specs.Fitting.{join}
use Rattle.verse_check_typing.specs.Facts.{Facts, classes, type_of}

-- the join of the part that is taken and the other one
abbrev pub choice_type : Facts → Tree → Option Tree → Ty
choice_type f a None = void
choice_type f a (Some b) = join (classes f) (type_of f a) (type_of f b)
