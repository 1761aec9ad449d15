use Rattle.note_states.specs.View.{state_of}
use Rattle.note_states.proofs.Changes.{one_left}
use Rattle.note_states.proofs.states.State.left_behind.Goals as goal

pub runs-preserved : goal.runs-preserved
runs-preserved c =
    one_left c.args.count c.runs._run (state_of c.runs.self) _ _ c.runs-test.true c.run_block.ensures c.runs.invariant
