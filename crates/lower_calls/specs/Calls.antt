-- The code of calls and indices, by what their callees stand for.
use Rattle.std.specs.Prelude.{true, Option, Some, None}
use Rattle.verse_base.specs.declared.places.Place.{Place}
use Rattle.verse_tree.specs.Tree.{Tree, Trees, no_trees, more_trees}
use Rattle.verse_tree.specs.declared.programs.Program.{Program}
use Rattle.verse_meaning.specs.Programs.{program_of}
use Rattle.verse_meaning.specs.Residuals as form
use Rattle.verse_meaning.specs.Residuals.{Form}
use Rattle.verse_meaning.specs.Evaluating.{Callee, callee_of, spawned_callee}
use Rattle.lower_code.specs.Pieces.{Maker, stuck, ◌then◌}
use Rattle.lower_code.specs.Scopes.{Scope}
use Rattle.lower_code.specs.declared.arounds.Around.{Around}
use Rattle.lower_code.specs.Arounds.{up}
use Rattle.lower_code.specs.Applied.{finish, start, started}
use Rattle.lower_code.specs.Lowering as l
use Rattle.lower_code.specs.Lowering.{how_many, form_fits, by_callee}
use Rattle.lower_lookup.specs.Types.{differ_of}
use Rattle.lower_parts.specs.Parts.{tree_code, operands_code}
use Rattle.lower_calls.specs.Views.{chained_of}

-- what is divided by Floor and Ceil
abbrev pub divided_in : Trees → Option (Tree × Tree)
divided_in no_trees = None
divided_in (more_trees b ts) = chained_of b

module _ (p : Program) where
  -- the object of a callee
  abbrev pub object_code : Option Tree → Scope → Around → Maker
  object_code None sc a = stuck
  object_code (Some b) sc a = tree_code p b sc a

  abbrev pub both_code : Tree × Tree → Scope → Around → Maker
  both_code q sc a = tree_code p q.0 sc a then tree_code p q.1 sc (up a)

  abbrev pub divided_code : Option (Tree × Tree) → Scope → Around → Maker
  divided_code None sc a = stuck
  divided_code (Some q) sc a = both_code q sc a

  -- behind the first operand
  abbrev pub behind_code : Trees → Scope → Around → Form → Maker
  behind_code ts sc a f = operands_code p ts sc (up a) then finish f (how_many ts) true

  -- a form without an operand for its callee; with the object of its callee; with its value; of a
  -- quotient
  abbrev pub alone_code : Trees → Scope → Around → Form → Maker
  alone_code ts sc a f =
      start f sc then operands_code p ts sc (started f a) then
      finish f (how_many ts) (form_fits (program_of p) (differ_of p) f (how_many ts) sc)

  abbrev pub member_code : Tree → Trees → Scope → Around → Form → Maker
  member_code b ts sc a f = l.inner (program_of p) (differ_of p) b sc a then behind_code ts sc a f

  abbrev pub picked_code : Tree → Scope → Around → Form → Maker
  picked_code b sc a f = tree_code p b sc a then finish f 0 true

  abbrev pub indexed_code : Tree → Trees → Scope → Around → Form → Maker
  indexed_code b ts sc a f = tree_code p b sc a then behind_code ts sc a f

  abbrev pub quotient_code : Trees → Scope → Around → Form → Maker
  quotient_code ts sc a f = l.quotient (program_of p) (differ_of p) ts sc a then finish f 2 true

  abbrev pub call_by : Tree → Trees → Scope → Around → Callee → Maker
  call_by b ts sc a c =
      by_callee c (alone_code ts sc a) (member_code b ts sc a)
      (picked_code b sc a) (quotient_code ts sc a)

  abbrev pub index_by : Tree → Trees → Scope → Around → Callee → Maker
  index_by b ts sc a c =
      by_callee c (alone_code ts sc a) (member_code b ts sc a)
      (indexed_code b ts sc a) (quotient_code ts sc a)

  abbrev pub spawn_by : Tree → Trees → Scope → Around → Callee → Maker
  spawn_by b ts sc a c =
      by_callee c (alone_code ts sc a) (member_code b ts sc a) (λ f. stuck) (λ f. stuck)

  -- the call that a `spawn` starts
  abbrev pub spawned_code : Option (Tree × Trees) → Place → Scope → Around → Maker
  spawned_code None pl sc a = stuck
  spawned_code (Some c) pl sc a =
      spawn_by c.0 c.1 sc a (spawned_callee (callee_of (program_of p) c.0 (form.picking None) pl))
