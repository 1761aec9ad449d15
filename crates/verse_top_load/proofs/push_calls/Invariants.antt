-- What is written and what is left are all.
use Rattle.std.proofs.Common.{◌≡◌, ◌++◌, ◌+◌, ◌-◌}
use Rattle.verse_top_load.specs.Load.{each_from, call_line}
use Rattle.verse_top_load.proofs.push_calls.Given as goal

abbrev pub invariant-calls : goal.invariant-calls
invariant-calls l = l.out.items ++ each_from call_line l.i (l.n + 1 - l.i) ≡ l.fn.out.items ++ each_from call_line 1 l.n
