use Rattle.std.proofs.Common.{◌+◌}
use Rattle.verse_top_load.specs.Load.{function_text}
use Rattle.verse_top_load.proofs.LoadLemmas.{next_from}
use Rattle.verse_top_load.proofs.push_functions.Goals as goal

pub functions-preserved : goal.functions-preserved
functions-preserved c = next_from function_text c.functions.i (c.args.n + 1) _ _ _ c.functions-test.true c.in_ok-push_function.ensures
    c.functions.invariant
