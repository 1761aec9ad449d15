-- A map from its entries in order.
use Rattle.std.proofs.Common.{List, Option, Some, None}
use Rattle.verse_value.specs.Val.{Val, mapping, Pairs}
use Rattle.verse_value.specs.Answer.{Answer, stuck}
use Rattle.verse_value.specs.Operations.{sized, with_entries}
use Rattle.verse_value.specs.declared.keys.Key.{Key}

-- a map from its first entries and the others
abbrev pub map_from : Pairs → Option (List (Key × Val)) → Answer Val
map_from ps (Some es) = sized (mapping (with_entries ps es))
map_from ps None = stuck
