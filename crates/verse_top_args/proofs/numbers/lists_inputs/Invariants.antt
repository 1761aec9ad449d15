-- What is left lists as many ints as are free exactly where the whole word fits.
use Rattle.std.proofs.Common.{◌-◌, ◌↔◌}
use denote.Shadow.{shadow}
use denote.Text.{Utf8}
use Rattle.verse_top_args.proofs.NumberLemmas.{Lists}
use Rattle.verse_top_args.proofs.numbers.lists_inputs.Given as goal

abbrev pub invariant-loop-done : goal.invariant-loop-done
invariant-loop-done l = record { text : shadow (Utf8 l.rest); same : Lists (1000 - l._done) l.rest ↔ Lists 1000 l.word }
