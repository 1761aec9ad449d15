use Rattle.std.proofs.Common.{◌≡◌, [], drop}
use Rattle.verse_names_tables.specs.Names.{any_again}
use Rattle.verse_names_tables.specs.Views.{roll_of}
use Rattle.verse_names_items.proofs.rules.any_again.Given as goal

-- what is left decides
abbrev pub invariant-values : goal.invariant-values
invariant-values l = any_again (drop l.value-index l.values) (roll_of l.seen) ≡ any_again l.values []
