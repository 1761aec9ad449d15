use Rattle.note_stretches.specs.Noted.{noted}
use Rattle.note_cases.proofs.OpenEnds.{ends_next}
use Rattle.note_cases.proofs.ends.arms_end.Goals as goal

pub ends-preserved : goal.ends-preserved
ends-preserved c =
    ends_next c.ends.ends.items c.pop.new.self.items c.in-Some.end (noted c.ends.noting) _ _ c.in-Some.ensures.items
    c.arm_end.ensures c.ends.invariant
