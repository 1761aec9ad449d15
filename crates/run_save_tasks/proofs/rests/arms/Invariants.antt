use Rattle.std.proofs.Common.{◌≡◌, ◌-◌, map, option_map}
use Rattle.verse_image.proofs.ReadingSteps.{with_front}
use Rattle.verse_value.specs.View.{val_of}
use Rattle.run_save_format.specs.Reading.{many_at, maybe_at, free_value_at}
use Rattle.run_save_tasks.proofs.rests.arms.Given as goal

abbrev pub invariant-arms : goal.invariant-arms
invariant-arms l =
    with_front (map (option_map val_of) l.arms.items) (many_at (maybe_at (free_value_at l.entries)) (l.count - l._i) l.rest) ≡
    many_at (maybe_at (free_value_at l.entries)) l.count l.bytes
