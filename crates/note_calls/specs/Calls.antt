-- The states of calls and indices, by what their callees stand for.
use Rattle.std.specs.Prelude.{true, Option, Some, None}
use Rattle.verse_base.specs.declared.places.Place.{Place}
use Rattle.verse_tree.specs.Tree.{Tree, Trees}
use Rattle.verse_tree.specs.declared.programs.Program.{Program}
use Rattle.verse_meaning.specs.Programs.{program_of}
use Rattle.verse_meaning.specs.Residuals as form
use Rattle.verse_meaning.specs.Residuals.{Form}
use Rattle.verse_meaning.specs.Evaluating.{Callee, callee_of, spawned_callee}
use Rattle.verse_meaning.specs.Evaluating.{number_of}
use Rattle.lower_notes.specs.Stretches.{Walk, ends, ◌then◌}
use Rattle.lower_code.specs.Scopes.{Scope}
use Rattle.lower_code.specs.declared.arounds.Around.{Around}
use Rattle.lower_code.specs.Arounds.{up}
use Rattle.lower_code.specs.Applied.{started}
use Rattle.lower_notes.specs.Applied.{finish, start}
use Rattle.lower_notes.specs.Noting as n
use Rattle.lower_code.specs.Lowering.{how_many, form_fits}
use Rattle.lower_lookup.specs.Types.{differ_of}
use Rattle.note_parts.specs.Parts.{tree_walk, operands_walk}
use Rattle.note_sorts.specs.Tabled.{found_of}
use Rattle.note_members.specs.Reads.{indices_walk}

module _ (p : Program) where
  -- the object of a callee
  abbrev pub object_walk : Option Tree → Scope → Around → Walk
  object_walk None sc a = ends
  object_walk (Some b) sc a = tree_walk p b sc a

  abbrev pub both_walk : Tree × Tree → Scope → Around → Walk
  both_walk q sc a = tree_walk p q.0 sc a then tree_walk p q.1 sc (up a)

  abbrev pub divided_walk : Option (Tree × Tree) → Scope → Around → Walk
  divided_walk None sc a = ends
  divided_walk (Some q) sc a = both_walk q sc a

  -- behind the first operand
  abbrev pub behind_walk : Trees → Scope → Around → Form → Walk
  behind_walk ts sc a f = operands_walk p ts sc (up a) then finish f (how_many ts) true

  -- a form without an operand for its callee; with the object of its callee; with its value; of a
  -- quotient
  abbrev pub alone_walk : Trees → Scope → Around → Form → Walk
  alone_walk ts sc a f =
      start f sc then operands_walk p ts sc (started f a) then
      finish f (how_many ts) (form_fits (program_of p) (differ_of p) f (how_many ts) sc)

  abbrev pub member_walk : Tree → Trees → Scope → Around → Form → Walk
  member_walk b ts sc a f = n.inner (program_of p) (found_of p) (differ_of p) b sc a
      then behind_walk ts sc a f

  abbrev pub picked_walk : Tree → Scope → Around → Form → Walk
  picked_walk b sc a f = tree_walk p b sc a then finish f 0 true

  abbrev pub indexed_walk : Tree → Trees → Scope → Around → Form → Walk
  indexed_walk b ts sc a f =
      tree_walk p b sc a then indices_walk p ((found_of p).sort (number_of b)) ts sc (up a) then
      finish f (how_many ts) true

  abbrev pub quotient_walk : Trees → Scope → Around → Form → Walk
  quotient_walk ts sc a f = n.quotient (program_of p) (found_of p) (differ_of p) ts sc a then finish
      f 2 true

  abbrev pub call_by : Tree → Trees → Scope → Around → Callee → Walk
  call_by b ts sc a c =
      n.by_callee c (alone_walk ts sc a) (member_walk b ts sc a)
      (picked_walk b sc a) (quotient_walk ts sc a)

  abbrev pub index_by : Tree → Trees → Scope → Around → Callee → Walk
  index_by b ts sc a c =
      n.by_callee c (alone_walk ts sc a) (member_walk b ts sc a)
      (indexed_walk b ts sc a) (quotient_walk ts sc a)

  abbrev pub spawn_by : Tree → Trees → Scope → Around → Callee → Walk
  spawn_by b ts sc a c =
      n.by_callee c (alone_walk ts sc a) (member_walk b ts sc a) (λ f. ends) (λ f. ends)

  -- the call that a `spawn` starts
  abbrev pub spawned_walk : Option (Tree × Trees) → Place → Scope → Around → Walk
  spawned_walk None pl sc a = ends
  spawned_walk (Some c) pl sc a =
      spawn_by c.0 c.1 sc a (spawned_callee (callee_of (program_of p) c.0 (form.picking None) pl))
