-- Whether nodes have different types.
use Rattle.std.specs.Prelude.{ℕ, Bool, true, false, cond, Option, Some, None, slice_get}
use Rattle.verse_tree.specs.declared.tables.Ty.{Ty}
use Rattle.verse_tree.specs.declared.programs.Program.{Program}
use Rattle.verse_rules_types.specs.Types.{ty_of}
use Rattle.verse_rules_types.specs.Fitting.{is_same}

abbrev pub are_other : Ty → Ty → Bool
are_other t u = cond (is_same (ty_of t) (ty_of u)) false true

abbrev pub differ_in : Option Ty → Option Ty → Bool
differ_in None u = false
differ_in (Some t) None = false
differ_in (Some t) (Some u) = are_other t u

-- by the numbers of the nodes; not where one has no type
abbrev pub differ_of : Program → ℕ → ℕ → Bool
differ_of p a b = differ_in (slice_get p.typed.types a) (slice_get p.typed.types b)
