use Rattle.std.proofs.Common.{◌≡◌, ◌+◌, ◌-◌, ◌*◌}
use Rattle.verse_value.specs.View.{vals_of}
use Rattle.run_save_format.specs.Values.{each_at, part_value_at, parts_at, pairs_from, pairs_at}
use Rattle.run_save_values.proofs.ListSteps.{after_front}
use Rattle.run_save_values.proofs.parts.+value.Given as goal

abbrev pub decreases-value_part : goal.decreases-value_part
decreases-value_part l = 8 * l.levels

abbrev pub decreases-value_of_form : goal.decreases-value_of_form
decreases-value_of_form l = 8 * l.levels + 4

abbrev pub decreases-option_value : goal.decreases-option_value
decreases-option_value l = 8 * l.levels + 3

abbrev pub decreases-array_value : goal.decreases-array_value
decreases-array_value l = 8 * l.levels + 3

abbrev pub decreases-tuple_value : goal.decreases-tuple_value
decreases-tuple_value l = 8 * l.levels + 3

abbrev pub decreases-map_value : goal.decreases-map_value
decreases-map_value l = 8 * l.levels + 3

abbrev pub decreases-all_parts : goal.decreases-all_parts
decreases-all_parts l = 8 * l.levels + 1

abbrev pub decreases-pair : goal.decreases-pair
decreases-pair l = 8 * l.levels + 1

abbrev pub decreases-all_pairs : goal.decreases-all_pairs
decreases-all_pairs l = 8 * l.levels + 2

abbrev pub invariant-all_parts-parts : goal.invariant-all_parts-parts
invariant-all_parts-parts l =
    after_front (vals_of l.parts.items) (each_at (part_value_at l.place l.levels) (l.count - l._i) l.load l.rest) ≡
    parts_at (part_value_at l.place l.levels) l.fn.load l.bytes

abbrev pub invariant-all_pairs-pairs : goal.invariant-all_pairs-pairs
invariant-all_pairs-pairs l =
    pairs_from l.place l.levels (part_value_at l.place l.levels) (l.count - l._i) l.entries l.load l.rest ≡
    pairs_at l.place l.levels (part_value_at l.place l.levels) l.fn.load l.bytes
