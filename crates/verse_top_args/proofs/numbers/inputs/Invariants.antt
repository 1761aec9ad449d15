-- The ints so far, and those that the rest lists, are those that the word lists.
use Rattle.std.proofs.Common.{length}
use denote.Shadow.{shadow}
use denote.Text.{Utf8}
use Rattle.verse_top_args.proofs.NumberLemmas.{Missing}
use Rattle.verse_top_args.proofs.numbers.inputs.Given as goal

abbrev pub decreases-loop-first : goal.decreases-loop-first
decreases-loop-first l = length l.rest

abbrev pub invariant-loop-first : goal.invariant-loop-first
invariant-loop-first l = record { text : shadow (Utf8 l.rest); missing : Missing l.word l.inputs.items l.rest }
