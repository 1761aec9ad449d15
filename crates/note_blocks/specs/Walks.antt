-- The states of statements, and of what stands in them, in a program.
use Rattle.verse_tree.specs.Tree.{Tree, Trees}
use Rattle.verse_tree.specs.declared.programs.Program.{Program}
use Rattle.verse_meaning.specs.Programs.{program_of}
use Rattle.verse_meaning.specs.Evaluating.{statement_of, number_of}
use Rattle.lower_code.specs.Scopes.{Scope}
use Rattle.lower_code.specs.Arounds.{up, enclosed}
use Rattle.lower_code.specs.declared.arounds.Around.{Around}
use Rattle.lower_lookup.specs.Types.{differ_of}
use Rattle.lower_notes.specs.States.{pops, gives, in_block, deferred}
use Rattle.lower_notes.specs.Stretches.{Walk, one, ends, ahead, ◌then◌}
use Rattle.lower_notes.specs.Noting.{inner, stated, statements, more_statements}
use Rattle.note_sorts.specs.Tabled.{found_of}
use Rattle.note_parts.specs.Parts.{tree_walk}
use Rattle.note_blocks.specs.Insides.{Inside, nothing_inside, one_part, both_ends}
use Rattle.note_blocks.specs.Insides as inside

module _ (p : Program) where
  -- what stands in a statement or a clause, and by what it is
  abbrev pub inner_walk : Tree → Scope → Around → Walk
  inner_walk = inner (program_of p) (found_of p) (differ_of p)

  abbrev pub inside_walk : Inside → Scope → Around → Walk
  inside_walk nothing_inside sc a = ends
  inside_walk (one_part e) sc a = tree_walk p e sc a
  inside_walk (inside.deferred e) sc a = tree_walk p e sc (enclosed a)
  inside_walk (both_ends e f) sc a = tree_walk p e sc a then tree_walk p f sc (up a)

  -- a deferred block, and the value of what defers it
  abbrev pub deferred_walk : Tree → Scope → Around → Walk
  deferred_walk t sc a = ahead in_block deferred (inner_walk t sc a then one (pops 1) then
      ends) then
      one (gives 0 ((found_of p).sort (number_of t)))

  -- a statement; statements, and those behind the first
  abbrev pub stated_walk : Tree → Scope → Around → Walk
  stated_walk t sc a =
      stated (program_of p) (found_of p) (differ_of p) (statement_of t)
      ((found_of p).sort (number_of t)) sc (tree_walk p t sc a) (inner_walk t sc a)

  abbrev pub statements_walk : Trees → Scope → Around → Walk
  statements_walk = statements (program_of p) (found_of p) (differ_of p)

  abbrev pub more_walk : Trees → Scope → Around → Walk
  more_walk = more_statements (program_of p) (found_of p) (differ_of p)
