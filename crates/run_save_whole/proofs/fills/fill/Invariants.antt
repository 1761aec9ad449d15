use Rattle.std.proofs.Common.{◌≡◌, replicate}
use Rattle.run_save_whole.proofs.fills.fill.Given as goal

abbrev pub invariant-items : goal.invariant-items
invariant-items g l = l.items.items ≡ replicate l._i l.value
