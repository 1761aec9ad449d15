use Rattle.std.proofs.Common.{◌≡◌, drop}
use Rattle.verse_image.proofs.ReadingSteps.{with_front}
use Rattle.verse_verify_faults.specs.Reading.{class_at, each_at}
use Rattle.verse_verify_notes.specs.View.{classes_of}
use Rattle.verse_verify_reader.proofs.tables.class_notes.Given as goal

abbrev pub invariant-classes : goal.invariant-classes
invariant-classes l =
    with_front (classes_of l.notes.items) (each_at l.code (class_at l.code) (drop l.known-index l.all) l.rest) ≡
    each_at l.code (class_at l.code) l.all l.bytes
