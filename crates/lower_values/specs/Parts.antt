-- Operands with what ends them.
use Rattle.verse_tree.specs.Tree.{Bytes, Tree, Trees}
use Rattle.verse_base.specs.declared.places.Place.{Place}
use Rattle.verse_tree.specs.declared.exprs.Operator.{Operator}
use Rattle.verse_tree.specs.declared.programs.Program.{Program}
use Rattle.verse_meaning.specs.Programs.{program_of}
use Rattle.verse_meaning.specs.Residuals as form
use Rattle.lower_code.specs.Applied.{finish}
use Rattle.lower_code.specs.Lowering.{text_if}
use Rattle.std.specs.Prelude.{ℕ, true, length}
use Rattle.lower_code.specs.Pieces.{Maker, put_away, ◌then◌}
use Rattle.lower_code.specs.Arounds.{up}
use Rattle.lower_code.specs.Scopes.{Scope}
use Rattle.lower_code.specs.declared.arounds.Around.{Around}
use Rattle.lower_expr.specs.Endings.{ending_code}
use Rattle.lower_expr.specs.declared.endings.Ending.{Ending}
use Rattle.lower_parts.specs.Parts.{tree_code, operands_code}

abbrev pub one_ended : Program → Tree → Ending → Scope → Around → Maker
one_ended p a ending sc around = tree_code p a sc around then ending_code ending

abbrev pub two_ended : Program → Tree → Tree → Ending → Scope → Around → Maker
two_ended p a b ending sc around =
    tree_code p a sc around then tree_code p b sc (up around) then ending_code ending

-- an operator that computes a number or an array from two
abbrev pub arithmetic_code : Program → Operator → Tree × Tree → (n : ℕ) → Place →
    Scope → Around → Maker
arithmetic_code p x parts n pl sc a =
    tree_code p parts.0 sc a then tree_code p parts.1 sc (up a)
    then finish (form.computing x ((program_of p).is_array n) pl) 2 true

abbrev pub all_ended : Program → Trees → Ending → Scope → Around → Maker
all_ended p parts ending sc around = operands_code p parts sc around then ending_code ending

-- the value of a hole, and the piece of text behind it
abbrev pub hole_code : Program → Tree × Bytes → Scope → Around → Maker
hole_code p hole sc around = tree_code p hole.0 sc around then text_if hole.1

abbrev pub pair_code : Program → Tree × Tree → Scope → Around → Maker
pair_code p pair sc around = tree_code p pair.0 sc around then tree_code p pair.1 sc (up around)

-- a value that goes into the next local
abbrev pub given_code : Program → Tree → Scope → Around → Maker
given_code p a sc around = tree_code p a sc around then put_away (length sc)
