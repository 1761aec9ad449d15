use Rattle.std.proofs.Common.{sym}
use Rattle.run_save_shots.proofs.Steps.{top_is_last}
use Rattle.run_save_slots.proofs.groups.top_place.Goals as goal

pub returns-in-Some : goal.returns-in-Some
returns-in-Some c = sym (top_is_last c.args.frames.now c.in-Some.frame.now (sym c.in-Some.ensures.value))
