use Rattle.std.proofs.Common.{◌≡◌, replicate}
use Rattle.run_save_numbers.proofs.marks.fill.Given as goal

abbrev pub invariant-items : goal.invariant-items
invariant-items l = l.items.items ≡ replicate l._i l.value
