-- The words that are left give, with the options so far, what all the words give.
use Rattle.std.proofs.Common.{length, map, string_bytes}
use Rattle.verse_top_args.specs.Words.{no_options}
use Rattle.verse_top_args.specs.Settings.{Continues, given_of}
use Rattle.verse_top_args.proofs.options.all_options.Given as goal

abbrev pub invariant-loop-word : goal.invariant-loop-word
invariant-loop-word l = Continues no_options (map string_bytes l.words) (given_of l.given) (map string_bytes l.rest)

abbrev pub decreases-loop-word : goal.decreases-loop-word
decreases-loop-word l = length l.rest
