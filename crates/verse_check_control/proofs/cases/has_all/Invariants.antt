use Rattle.std.proofs.Common.{◌≡◌, drop, map}
use Rattle.verse_check_typing.specs.Sets.{has_names}
use Rattle.verse_check_typing.specs.Views.{bytes_of, names_of}
use Rattle.verse_check_control.proofs.cases.has_all.Given as goal

-- what is left gives the answer
abbrev pub invariant-values : goal.invariant-values
invariant-values l = has_names (map bytes_of (drop l.value-index l.values)) (names_of l.named) ≡
    has_names (map bytes_of l.values) (names_of l.named)
