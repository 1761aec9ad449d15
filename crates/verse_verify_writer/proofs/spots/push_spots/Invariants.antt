-- What is written and what is left are all the entries.
use Rattle.std.proofs.Common.{◌≡◌, ◌++◌, drop, map}
use Rattle.std.specs.Prelude.{option_map}
use Rattle.verse_verify_bytes.specs.Bytes.{each, option, spot}
use Rattle.verse_verify_notes.specs.View.{spot_of}
use Rattle.verse_verify_writer.proofs.spots.push_spots.Given as goal

abbrev pub invariant-entries : goal.invariant-entries
invariant-entries l =
    l.out.items ++ each (option (spot l.is_told)) (map (option_map spot_of) (drop l.entry-index l.states)) ≡
    l.fn.out.items ++ each (option (spot l.is_told)) (map (option_map spot_of) l.states)
