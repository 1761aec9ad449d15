-- The states of groups and their arms.
use Rattle.std.specs.Prelude.{ℕ}
use Rattle.verse_tree.specs.Tree.{Tree, Trees}
use Rattle.verse_tree.specs.declared.programs.Program.{Program}
use Rattle.verse_meaning.specs.Programs.{program_of}
use Rattle.verse_meaning.specs.Evaluating.{number_of}
use Rattle.lower_notes.specs.Stretches.{Walk, arm, grouped}
use Rattle.lower_code.specs.Scopes.{Scope}
use Rattle.lower_code.specs.Arounds.{fresh}
use Rattle.lower_notes.specs.Noting as n
use Rattle.lower_code.specs.Lowering.{how_many}
use Rattle.lower_lookup.specs.Types.{differ_of}
use Rattle.note_parts.specs.Parts.{tree_walk}
use Rattle.note_sorts.specs.Tabled.{found_of}

module _ (p : Program) where
  -- an arm, the arms of a group, and the group at the node n
  abbrev pub arm_walk : Scope → Tree → Walk
  arm_walk sc b = arm ((found_of p).sort (number_of b)) (tree_walk p b sc fresh)

  abbrev pub arms_walk : Trees → Scope → Walk
  arms_walk = n.task_arms (program_of p) (found_of p) (differ_of p)

  abbrev pub group_walk : (n : ℕ) → Trees → Scope → Walk
  group_walk n ts sc = grouped (how_many ts) ((found_of p).sort n) (arms_walk ts sc)
