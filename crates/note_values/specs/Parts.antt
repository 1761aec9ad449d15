-- Operands with what stands behind them.
use Rattle.std.specs.Prelude.{ℕ, true, length}
use Rattle.verse_tree.specs.Tree.{Bytes, Tree}
use Rattle.verse_tree.specs.declared.exprs.Operator.{Operator}
use Rattle.verse_tree.specs.declared.programs.Program.{Program}
use Rattle.verse_meaning.specs.Evaluating.{number_of}
use Rattle.verse_sorts.specs.Sorts.{Sort}
use Rattle.lower_code.specs.Arounds.{up}
use Rattle.lower_code.specs.Scopes.{Scope}
use Rattle.lower_code.specs.declared.arounds.Around.{Around}
use Rattle.lower_notes.specs.States.{puts}
use Rattle.lower_notes.specs.Stretches.{Walk, one, last, widened, ◌then◌}
use Rattle.lower_notes.specs.Applied.{computing}
use Rattle.lower_notes.specs.Noting.{text_if}
use Rattle.note_sorts.specs.Tabled.{found_of}
use Rattle.note_parts.specs.Parts.{tree_walk}

abbrev pub one_ended : Program → Tree → Scope → Around → Walk
one_ended p a sc around = tree_walk p a sc around then last

abbrev pub two_walk : Program → Tree × Tree → Scope → Around → Walk
two_walk p two sc around = tree_walk p two.0 sc around then tree_walk p two.1 sc (up around)

-- an operator that computes a number or an array from two
abbrev pub arithmetic_walk : Program → Operator → Tree × Tree → Scope → Around → Walk
arithmetic_walk p x two sc a =
    tree_walk p two.0 sc a then tree_walk p two.1 sc (up a) then computing x

-- the value of a hole, and the piece of text behind it
abbrev pub hole_walk : Program → Tree × Bytes → Scope → Around → Walk
hole_walk p hole sc around = tree_walk p hole.0 sc around then text_if hole.1

-- a key of the sort k, and its value
abbrev pub pair_walk : Program → Sort → Tree × Tree → Scope → Around → Walk
pair_walk p k pair sc around =
    widened k (tree_walk p pair.0 sc around) then tree_walk p pair.1 sc (up around)

-- a value that goes into the next local
abbrev pub given_walk : Program → Tree → Scope → Around → Walk
given_walk p a sc around =
    tree_walk p a sc around then one (puts (length sc) ((found_of p).sort (number_of a)))
