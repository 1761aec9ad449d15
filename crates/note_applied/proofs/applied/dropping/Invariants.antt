use Rattle.std.proofs.Common.{◌≡◌, ◌-◌}
use Rattle.lower_notes.specs.Stretches.{last}
use Rattle.lower_notes.specs.Applied.{dropping}
use Rattle.note_stretches.specs.Noted.{noted, walked}
use Rattle.note_applied.proofs.applied.dropping.Given as goal

-- what is left, from here on, ends as all does from the start
abbrev pub invariant-operands : goal.invariant-operands
invariant-operands l = walked (dropping (l.count - l._operand) last) (noted l.noting) ≡ walked (dropping l.count last) (noted l.fn.noting)
