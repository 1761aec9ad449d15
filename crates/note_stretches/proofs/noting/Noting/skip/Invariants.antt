use Rattle.std.proofs.Common.{◌≡◌, ◌-◌}
use Rattle.note_stretches.specs.Noted.{noted, skipped}
use Rattle.note_stretches.proofs.noting.Noting.skip.Given as goal

-- what is left, from here on, ends as all does from the start
abbrev pub invariant-skipped : goal.invariant-skipped
invariant-skipped l = skipped (l.count - l._operation) (noted l.self) ≡ skipped l.count (noted l.fn.self)
