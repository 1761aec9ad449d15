use Rattle.std.proofs.Common.{◌+◌}
use Rattle.verse_top_load.specs.Load.{call_line}
use Rattle.verse_top_load.proofs.LoadLemmas.{next_from}
use Rattle.verse_top_load.proofs.push_calls.Goals as goal

pub calls-preserved : goal.calls-preserved
calls-preserved c = next_from call_line c.calls.i (c.args.n + 1) _ _ _ c.calls-test.true c.in_ok-push_call.ensures c.calls.invariant
