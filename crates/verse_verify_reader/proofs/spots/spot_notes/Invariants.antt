use Rattle.std.proofs.Common.{◌≡◌, drop, map}
use Rattle.std.specs.Prelude.{option_map}
use Rattle.verse_code.specs.declared.operations.Op.{Op}
use Rattle.verse_image.proofs.ReadingSteps.{with_front}
use Rattle.verse_verify_faults.specs.Reading.{each_at, option_at, spot_from}
use Rattle.verse_verify_notes.specs.View.{spot_of}
use Rattle.verse_verify_reader.proofs.spots.spot_notes.Given as goal

abbrev pub invariant-spots : goal.invariant-spots
invariant-spots l =
    with_front (map (option_map spot_of) l.spots.items)
    (each_at l.code (λ (op : Op). option_at (spot_from l.code l.is_told)) (drop l._op-index l.ops) l.rest) ≡
    each_at l.code (λ (op : Op). option_at (spot_from l.code l.is_told)) l.ops l.bytes
