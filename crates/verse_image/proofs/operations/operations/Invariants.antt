use Rattle.std.proofs.Common.{◌≡◌, ◌-◌}
use Rattle.verse_image.specs.Reading.{ops_at}
use Rattle.verse_image.proofs.ReadingSteps.{with_front}
use Rattle.verse_image.proofs.operations.operations.Given as goal

abbrev pub invariant-ops : goal.invariant-ops
invariant-ops l = with_front l.ops (ops_at l.sizes l.top l.at (l.count - l.at) l.rest) ≡ ops_at l.sizes l.top 0 l.count l.bytes
