-- The lemmas that the goals of a function want, by its name.
use Rattle.verse_expr.proofs.Ends.{type_stops, type_once, type_greatest, phrase_stops, phrase_refused, phrase_greatest}
use Rattle.verse_expr.proofs.Alone.{phrase_once}
use Rattle.verse_expr.proofs.Suffixes.{suffix_at, stuck_within}
use Rattle.verse_expr.proofs.Indices.{stuck_left, stuck_index, index_within, phrase_index, eaten_index}

pub ruleset of_ty = (type_stops, type_once, type_greatest)

pub ruleset of_phrase = (phrase_stops, phrase_refused, phrase_greatest, phrase_once)

pub ruleset of_type_from = (suffix_at, stuck_within, stuck_left, stuck_index, index_within)

pub ruleset of_phrase_from = (phrase_index, eaten_index, stuck_left, stuck_index, index_within)
