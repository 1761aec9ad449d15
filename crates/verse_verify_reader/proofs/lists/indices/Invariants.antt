use Rattle.std.proofs.Common.{◌≡◌, ◌-◌}
use Rattle.verse_image.specs.Reading.{many_at}
use Rattle.verse_image.proofs.ReadingSteps.{with_front}
use Rattle.verse_verify_faults.specs.Reading.{op_index, list_at}
use Rattle.verse_verify_reader.proofs.lists.indices.Given as goal

abbrev pub invariant-indices : goal.invariant-indices
invariant-indices l =
    with_front l.indices.items (many_at (op_index l.code) (l.count - l._i) l.rest) ≡ list_at (op_index l.code) l.bytes
