-- What is written and what is left are all.
use Rattle.std.proofs.Common.{◌≡◌, ◌++◌, ◌+◌, ◌-◌}
use Rattle.verse_top_load.specs.Load.{each_from, function_text}
use Rattle.verse_top_load.proofs.push_functions.Given as goal

abbrev pub invariant-functions : goal.invariant-functions
invariant-functions l = l.out.items ++ each_from function_text l.i (l.n + 1 - l.i) ≡ l.fn.out.items ++ each_from function_text 1 l.n
