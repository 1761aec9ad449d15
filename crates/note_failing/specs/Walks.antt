-- The states of the conditions of an `if`, in a program.
use Rattle.verse_tree.specs.Tree.{Tree, Trees}
use Rattle.verse_tree.specs.declared.programs.Program.{Program}
use Rattle.lower_code.specs.Scopes.{Scope}
use Rattle.lower_code.specs.Arounds.{enclosed}
use Rattle.lower_code.specs.Lowering.{scope_behind}
use Rattle.lower_code.specs.declared.arounds.Around.{Around}
use Rattle.lower_notes.specs.States.{pops, untried}
use Rattle.lower_notes.specs.Stretches.{Walk, one, ◌then◌}
use Rattle.note_parts.specs.Parts.{tree_walk}
use Rattle.note_blocks.specs.Walks.{statements_walk}

module _ (p : Program) where
  -- the conditions of an `if`, and the part that is taken where they hold
  abbrev pub taken_walk : Trees → Tree → Scope → Around → Walk
  taken_walk cs t sc a =
      statements_walk p cs sc (enclosed a) then one (pops 1) then one untried then
      tree_walk p t (scope_behind cs sc) a
