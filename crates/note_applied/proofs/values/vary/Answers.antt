use Rattle.note_sorts.specs.Tabled.{found_of}
use Rattle.note_stretches.specs.Noted.{noted}
use Rattle.note_applied.proofs.Steps.{vary_by}
use Rattle.note_applied.proofs.values.vary.Goals as goal

pub returns : goal.returns
returns c =
    vary_by c.args.local ((found_of c.args.program.now).sort c.args.node) (noted c.args.noting.now) _ _ _
    c.in_ok-replace.ensures c.in_ok-keep.ensures c.in_ok-replace-2.ensures
