use Rattle.note_stretches.specs.Noted.{noted}
use Rattle.note_loops.proofs.OpenTurns.{turns_next}
use Rattle.note_loops.proofs.turns.turns_end.Goals as goal

pub turns-preserved : goal.turns-preserved
turns-preserved c =
    turns_next c.turns.turns.items c.pop.new.self.items c.in-Some.at (noted c.turns.noting) _ _ c.in-Some.ensures.items
    c.in_ok-turn_end.ensures c.turns.invariant
