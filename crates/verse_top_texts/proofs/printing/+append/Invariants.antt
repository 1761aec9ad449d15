use Rattle.std.proofs.Common.{◌≡◌, ◌+◌, ◌*◌, ◌++◌, drop, zip}
use Rattle.verse_value.specs.View.{val_of, vals_of}
use Rattle.verse_value.specs.Bulk.{bulk, bulks, pair_bulks}
use Rattle.verse_value.specs.Val.{vals, pairs}
use Rattle.verse_value.specs.Texts.{rest_text, rest_pairs_text}
use Rattle.verse_top_texts.proofs.printing.+append.Given as goal

abbrev pub decreases-append : goal.decreases-append
decreases-append l = 4 * bulk (val_of l.v.now)

abbrev pub decreases-append_option : goal.decreases-append_option
decreases-append_option l = 4 * bulk (val_of l.part.now) + 1

abbrev pub decreases-append_tuple : goal.decreases-append_tuple
decreases-append_tuple l = 4 * bulks (vals (vals_of l.parts.now)) + 2

abbrev pub decreases-append_array : goal.decreases-append_array
decreases-append_array l = 4 * bulks (vals (vals_of l.parts.now)) + 2

abbrev pub decreases-append_list : goal.decreases-append_list
decreases-append_list l = 4 * bulks (vals (vals_of l.parts.now)) + 1

abbrev pub decreases-append_map : goal.decreases-append_map
decreases-append_map l = 4 * pair_bulks l.entries.now + 3

abbrev pub decreases-append_entries : goal.decreases-append_entries
decreases-append_entries l = 4 * bulks (vals (vals_of l.values.now)) + 2

abbrev pub decreases-append_entry : goal.decreases-append_entry
decreases-append_entry l = 4 * bulk (val_of l.value.now) + 1

abbrev pub invariant-append_list-parts : goal.invariant-append_list-parts
invariant-append_list-parts l = l.out.items ++ rest_text (vals (vals_of (drop l.part-index l.rest))) ≡ l.initial.out.items ++
    rest_text (vals (vals_of l.rest))

abbrev pub invariant-append_entries-entries : goal.invariant-append_entries-entries
invariant-append_entries-entries l = l.out.items ++ rest_pairs_text (pairs (zip (drop l.i l.keys) (vals_of (drop l.i l.values)))) ≡
    l.initial.out.items ++ rest_pairs_text (pairs (zip (drop 1 l.keys) (vals_of (drop 1 l.values))))
