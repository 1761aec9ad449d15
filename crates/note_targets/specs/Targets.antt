-- What `set` writes to, from one index to the next.
use Rattle.std.specs.Prelude.{ℕ, Bool}
use Rattle.verse_tree.specs.Tree.{Tree}
use Rattle.verse_tree.specs.declared.programs.Program.{Program}
use Rattle.verse_meaning.specs.Programs.{program_of}
use Rattle.verse_meaning.specs.Evaluating.{number_of}
use Rattle.verse_meaning.specs.Residuals.{Base}
use Rattle.lower_code.specs.Scopes.{Scope}
use Rattle.lower_code.specs.declared.arounds.Around.{Around}
use Rattle.lower_code.specs.Arounds.{up, raised}
use Rattle.lower_code.specs.Lowering.{target_operands}
use Rattle.lower_lookup.specs.Types.{differ_of}
use Rattle.lower_calls.specs.Aims.{Aimed, at_name, at_member, at_index, at_other}
use Rattle.lower_notes.specs.Stretches.{Walk, ends, when_else, ◌then◌}
use Rattle.lower_notes.specs.Applied.{base_walk, storing}
use Rattle.lower_notes.specs.Noting as n
use Rattle.note_sorts.specs.Tabled.{found_of}
use Rattle.note_applied.specs.declared.values.Storing.{Storing}
use Rattle.note_parts.specs.Parts.{tree_walk}
use Rattle.note_members.specs.Reads.{indices_walk}

module _ (p : Program) where
  -- what no index stands behind
  abbrev pub bottom_walk : Aimed → Base → Scope → Around → Walk
  bottom_walk at_name base sc a = base_walk base sc
  bottom_walk (at_member b) base sc a = tree_walk p b sc a
  bottom_walk (at_index b ts) base sc a = ends
  bottom_walk at_other base sc a = ends

  -- the last index, where n operands lead to what is indexed
  abbrev pub level_walk : (n : ℕ) → Aimed → Scope → Around → Walk
  level_walk n (at_index b ts) sc a =
      indices_walk p ((found_of p).sort (number_of b)) ts sc (up (raised n a))
  level_walk n other sc a = ends

  abbrev pub target_walk : Tree → Base → Scope → Around → Walk
  target_walk = n.target_walk (program_of p) (found_of p) (differ_of p)

  abbrev pub aim_walk : Aimed → Base → Scope → Around → Walk
  aim_walk (at_index b ts) base sc a =
      target_walk b base sc a then level_walk (target_operands b) (at_index b ts) sc a
  aim_walk other base sc a = bottom_walk other base sc a

  -- what stands behind the value, where there is the cell
  abbrev pub stored_walk : Bool → Storing → Walk
  stored_walk there s = when_else there (storing s.keeps s.local s.beneath
      ((found_of p).sort s.place) ((found_of p).sort s.value))
