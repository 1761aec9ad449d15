-- The types that written types spell, by what the names in them refer to.
use Rattle.std.specs.Prelude.{ℕ, List, Option, Some, None}
use Rattle.verse_tree.specs.Tree.{Written, Writtens, no_writtens, more_writtens}
use Rattle.verse_tree.specs.Tree as t
use Rattle.verse_tree.specs.declared.tables.Ref.{Ref}
use Rattle.verse_rules_types.specs.Types.{Ty, Tys, void, int, logic, char, string, option, array}
use Rattle.verse_rules_types.specs.Types.{task, event, mapping, tuple, no_tys, more_tys}
use Rattle.verse_names_tables.specs.Functions.{named_type}
use Rattle.verse_check_typing.specs.Refs.{ref_at}

abbrev mutual
  pub spelled_by : List (Option Ref) → Written → Ty
  spelled_by rs t.Written.int = int
  spelled_by rs t.Written.logic = logic
  spelled_by rs t.Written.char = char
  spelled_by rs t.Written.string = string
  spelled_by rs t.Written.void = void
  spelled_by rs (t.Written.named number place x) = named_type (ref_at rs number)
  spelled_by rs (t.Written.option w) = option (spelled_by rs w)
  spelled_by rs (t.Written.array w) = array (spelled_by rs w)
  spelled_by rs (t.Written.task w) = task (spelled_by rs w)
  spelled_by rs (t.Written.map k w) = mapping (spelled_by rs k) (spelled_by rs w)
  spelled_by rs (t.Written.tuple ws) = tuple (all_spelled_by rs ws)
  spelled_by rs (t.Written.event w) = event (spelled_by rs w)
  spelled_by rs t.Written.bare_event = event void

  pub all_spelled_by : List (Option Ref) → Writtens → Tys
  all_spelled_by rs no_writtens = no_tys
  all_spelled_by rs (more_writtens w ws) = more_tys (spelled_by rs w) (all_spelled_by rs ws)
