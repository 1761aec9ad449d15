use Rattle.std.proofs.Common.{List, ℕ, ◌+◌, drop}
use Rattle.verse_image.specs.Format.{each}
use Rattle.verse_image.specs.Writing.{Writes}
use Rattle.verse_value.specs.declared.values.Value.{Value}
use Rattle.verse_value.specs.View.{val_of, vals_of}
use Rattle.verse_value.specs.Val.{vals}
use Rattle.verse_value.specs.Bulk.{bulk, bulks, pair_bulks}
use Rattle.run_save_format.specs.Format.{value}
use Rattle.run_save_writer.specs.Entries.{entries}
use Rattle.run_save_writer.proofs.values.+push_value.Given as goal

abbrev pub decreases-push_value : goal.decreases-push_value
decreases-push_value l = bulk (val_of l.v.now)

abbrev pub decreases-push_option : goal.decreases-push_option
decreases-push_option l = bulk l.held.now + 1

abbrev pub decreases-push_parts : goal.decreases-push_parts
decreases-push_parts l = bulks l.parts.now + 1

abbrev pub decreases-push_each : goal.decreases-push_each
decreases-push_each l = bulks (vals (vals_of l.parts.now))

abbrev pub decreases-push_map : goal.decreases-push_map
decreases-push_map l = pair_bulks l.map.now + 1

abbrev pub decreases-push_entries : goal.decreases-push_entries
decreases-push_entries l = bulks (vals (vals_of l.parts.now))

-- what writes the parts that are left completes them
abbrev pub invariant-push_each-entries : goal.invariant-push_each-entries
invariant-push_each-entries l = (new : List ℕ) → Writes (each (λ (x : Value). value (val_of x)) (drop l.entry-index l.parts))
    l.out.items new →
    Writes (each value (vals_of l.parts)) l.fn.out.items new

-- what writes the entries that are left completes them
abbrev pub invariant-push_entries-entries : goal.invariant-push_entries-entries
invariant-push_entries-entries l = (new : List ℕ) → Writes (entries (drop l.i l.keys) (drop l.i l.parts)) l.out.items new →
    Writes (entries l.keys l.parts) l.fn.out.items new
