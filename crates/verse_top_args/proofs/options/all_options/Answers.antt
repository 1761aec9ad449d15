-- No words are left.
use Rattle.std.proofs.Common.{string_bytes, map}
use Rattle.verse_top_args.specs.Words.{no_options}
use Rattle.verse_top_args.specs.Settings.{given_of}
use Rattle.verse_top_args.proofs.OptionLemmas.{all_taken}
use Rattle.verse_top_args.proofs.options.all_options.Goals as goal

pub returns : goal.returns
returns c = all_taken string_bytes no_options (given_of c.loop-word.given) (map string_bytes c.args.words.now) c.loop-word.rest.now
    c.in_default.ensures.cases c.loop-word.invariant
