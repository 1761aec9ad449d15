use Rattle.std.proofs.Common.{◌≡◌, ◌-◌}
use Rattle.verse_image.proofs.ReadingSteps.{with_front}
use Rattle.run_save_format.specs.Values.{small_where}
use Rattle.run_save_format.specs.Reading.{many_at, is_block}
use Rattle.run_save_tasks.proofs.frames.some_defers.Given as goal

abbrev pub invariant-defers : goal.invariant-defers
invariant-defers l = with_front l.defers.items (many_at (small_where (is_block l.code)) (l.count - l._i) l.rest) ≡
    many_at (small_where (is_block l.code)) l.count l.bytes
