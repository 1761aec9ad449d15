use Rattle.std.proofs.Common.{◌≡◌, [], drop}
use Rattle.verse_check_typing.specs.Sets.{with_names}
use Rattle.verse_check_typing.specs.Views.{names_of}
use Rattle.verse_check.proofs.tables.value_names.Given as goal

-- the names so far with those of the rest are those of all
abbrev pub invariant-values : goal.invariant-values
invariant-values l = with_names (drop l.value-index l.values) (names_of l.found) ≡ with_names l.values []
