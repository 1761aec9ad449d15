use Rattle.std.proofs.Common.{◌≡◌, ◌+◌, ◌-◌, ◌*◌}
use Rattle.verse_image.specs.Reading.{many_at}
use Rattle.verse_image.proofs.ReadingSteps.{with_front}
use Rattle.verse_verify_faults.specs.Reading.{sort_in}
use Rattle.verse_verify_notes.specs.View.{sorts_of}
use Rattle.verse_verify_reader.proofs.sorts.+sort.Given as goal

abbrev pub decreases-sort_part : goal.decreases-sort_part
decreases-sort_part l = 8 * l.levels

abbrev pub decreases-sort_of_tag : goal.decreases-sort_of_tag
decreases-sort_of_tag l = 8 * l.levels + 4

abbrev pub decreases-shared : goal.decreases-shared
decreases-shared l = 8 * l.levels + 1

abbrev pub decreases-var_sort : goal.decreases-var_sort
decreases-var_sort l = 8 * l.levels + 2

abbrev pub decreases-event_sort : goal.decreases-event_sort
decreases-event_sort l = 8 * l.levels + 2

abbrev pub decreases-task_sort : goal.decreases-task_sort
decreases-task_sort l = 8 * l.levels + 2

abbrev pub decreases-option_sort : goal.decreases-option_sort
decreases-option_sort l = 8 * l.levels + 2

abbrev pub decreases-list_sort : goal.decreases-list_sort
decreases-list_sort l = 8 * l.levels + 2

abbrev pub decreases-map_sort : goal.decreases-map_sort
decreases-map_sort l = 8 * l.levels + 2

abbrev pub decreases-tuple_sort : goal.decreases-tuple_sort
decreases-tuple_sort l = 8 * l.levels + 2

abbrev pub decreases-parts : goal.decreases-parts
decreases-parts l = 8 * l.levels + 1

abbrev pub invariant-parts-parts : goal.invariant-parts-parts
invariant-parts-parts l =
    with_front (sorts_of l.parts.items) (many_at (sort_in l.code l.levels) (l.count - l._i) l.rest) ≡
    many_at (sort_in l.code l.levels) l.count l.bytes
