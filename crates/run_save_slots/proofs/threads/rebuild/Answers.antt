use Rattle.std.proofs.Common.{map}
use Rattle.run_save_shots.specs.View.{frame_of}
use Rattle.run_save_slots.proofs.Spells.{spells_made}
use Rattle.run_save_slots.proofs.threads.rebuild.Goals as goal

pub returns-clause-spells : goal.returns-clause-spells
returns-clause-spells c =
    spells_made c.args.arms c.args.borns.now (map frame_of c.args.frames.items) c.in_ok-thread.thread c.in_ok-thread.ensures
