-- The states of what is read of a value, by a member or by indices.
use Rattle.std.specs.Prelude.{ℕ, true}
use Rattle.verse_tree.specs.Tree.{Bytes, Tree, Trees}
use Rattle.verse_tree.specs.declared.programs.Program.{Program}
use Rattle.verse_meaning.specs.Programs.{program_of, ref_at}
use Rattle.verse_meaning.specs.Evaluating.{member_form}
use Rattle.lower_notes.specs.Stretches.{Walk, ◌then◌}
use Rattle.lower_code.specs.Scopes.{Scope}
use Rattle.lower_code.specs.declared.arounds.Around.{Around}
use Rattle.lower_notes.specs.Applied.{finish}
use Rattle.lower_notes.specs.Noting as n
use Rattle.lower_lookup.specs.Types.{differ_of}
use Rattle.note_parts.specs.Parts.{tree_walk}
use Rattle.verse_sorts.specs.Sorts.{Sort}
use Rattle.note_sorts.specs.Tabled.{found_of}

module _ (p : Program) where
  -- what is read of an object by its member
  abbrev pub read_walk : (n : ℕ) → Tree → Bytes → Scope → Around → Walk
  read_walk n b x sc a =
      tree_walk p b sc a then finish (member_form (ref_at (program_of p) n) x) 1 true

  -- indices into what is of the sort q
  abbrev pub indices_walk : Sort → Trees → Scope → Around → Walk
  indices_walk = n.indices (program_of p) (found_of p) (differ_of p)
