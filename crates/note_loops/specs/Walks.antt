-- The states of the clauses and the body of a `for`, in a program.
use Rattle.std.specs.Prelude.{◌∷◌}
use Rattle.verse_tree.specs.Tree.{Tree, Trees}
use Rattle.verse_tree.specs.declared.programs.Program.{Program}
use Rattle.verse_meaning.specs.Programs.{program_of}
use Rattle.verse_meaning.specs.Evaluating.{statement_of, number_of}
use Rattle.lower_code.specs.Scopes.{Scope, hidden}
use Rattle.lower_code.specs.Arounds.{enclosed}
use Rattle.lower_code.specs.declared.arounds.Around.{Around}
use Rattle.lower_lookup.specs.Types.{differ_of}
use Rattle.lower_notes.specs.States.{pops, untried}
use Rattle.lower_notes.specs.Stretches.{Walk, one, ◌then◌}
use Rattle.lower_notes.specs.Noting.{claused, levels}
use Rattle.note_sorts.specs.Tabled.{found_of}
use Rattle.note_parts.specs.Parts.{tree_walk}
use Rattle.note_blocks.specs.Walks.{inner_walk}

module _ (p : Program) where
  -- a clause of a `for` with what comes behind it, and clauses with what comes behind the last
  abbrev pub claused_walk : Tree → Scope → Around → (rest : Scope → Walk) → Walk
  claused_walk t sc a rest =
      claused (program_of p) (found_of p) (differ_of p) (statement_of t)
      ((found_of p).sort (number_of t)) ((found_of p).key (number_of t)) sc
      (tree_walk p t sc a) (inner_walk p t sc a) rest

  abbrev pub levels_walk : Trees → Scope → Around → (rest : Scope → Walk) → Walk
  levels_walk cs sc a rest = levels (program_of p) (found_of p) (differ_of p) cs sc a rest

  -- the body of a `for`
  abbrev pub body_walk : Tree → Around → Scope → Walk
  body_walk t a sc = one untried then tree_walk p t sc a then one (pops 1)

  -- what stands in the attempt of a `for`
  abbrev pub for_walk : Trees → Tree → Scope → Around → Walk
  for_walk cs t sc a = levels_walk cs (hidden ∷ sc) (enclosed a) (body_walk t a)
