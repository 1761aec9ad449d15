use Rattle.std.proofs.Common.{◌≡◌, drop, map}
use Rattle.verse_image.proofs.ReadingSteps.{with_front}
use Rattle.verse_verify_faults.specs.Reading.{func_at, each_at}
use Rattle.verse_verify_notes.specs.View.{func_of}
use Rattle.verse_verify_reader.proofs.tables.function_notes.Given as goal

abbrev pub invariant-functions : goal.invariant-functions
invariant-functions l =
    with_front (map func_of l.notes.items) (each_at l.code (func_at l.code) (drop l.known-index l.all) l.rest) ≡
    each_at l.code (func_at l.code) l.all l.bytes
