-- The types of the code for those of the definitions.
use Rattle.std.specs.Prelude.{List, [], ◌∷◌}
use Rattle.verse_tree.specs.declared.tables.Ty.{Ty as Made, roll-Ty}
use Rattle.verse_tree.specs.declared.tables.Ty.TheOpen as layer
use Rattle.verse_rules_types.specs.Types.{Ty, Tys, never, nil, void, int, logic, char, enum, class}
use Rattle.verse_rules_types.specs.Types.{option, array, task, event, mapping, tuple}
use Rattle.verse_rules_types.specs.Types.{no_tys, more_tys}

abbrev mutual
  pub made : Ty → Made
  made never = roll-Ty layer.Never
  made nil = roll-Ty layer.Nil
  made void = roll-Ty layer.Void
  made int = roll-Ty layer.Int
  made logic = roll-Ty layer.Logic
  made char = roll-Ty layer.Char
  made (enum e) = roll-Ty (layer.Enum e)
  made (class c) = roll-Ty (layer.Class c)
  made (option t) = roll-Ty (layer.Option (made t))
  made (array t) = roll-Ty (layer.Array (made t))
  made (mapping k t) = roll-Ty (layer.Map (record { key = made k; value = made t }))
  made (tuple ts) = roll-Ty (layer.Tuple (all_made ts))
  made (task t) = roll-Ty (layer.Task (made t))
  made (event t) = roll-Ty (layer.Event (made t))

  pub all_made : Tys → List Made
  all_made no_tys = []
  all_made (more_tys t ts) = made t ∷ all_made ts
