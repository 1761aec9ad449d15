-- What is written and what is left are all.
use Rattle.std.proofs.Common.{◌≡◌, ◌++◌, drop}
use Rattle.verse_meaning_state.specs.Texts.{slots_text}
use Rattle.verse_value.specs.View.{vals_of}
use Rattle.verse_top_texts.proofs.heaps.push_slots.Given as goal

abbrev pub invariant-loop-slot : goal.invariant-loop-slot
invariant-loop-slot l = l.out.items ++ slots_text (vals_of (drop l.slot-index l.slots)) ≡ l.fn.out.items ++ slots_text (vals_of l.slots)
