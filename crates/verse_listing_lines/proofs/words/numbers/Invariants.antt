use Rattle.std.proofs.Common.{◌≡◌, option_copied}
use Rattle.verse_listing_lines.specs.Lines.{numbers}
use Rattle.verse_listing_lines.specs.Answers.{words_left}
use Rattle.verse_listing_lines.proofs.NumberSteps.{with_front, left_length}
use Rattle.verse_listing_lines.proofs.words.numbers.Given as goal

-- the numbers by now and those of the words that are left are all
abbrev pub invariant-words : goal.invariant-words
invariant-words l =
    with_front l.all.items (numbers (words_left (option_copied l.left))) ≡ numbers (words_left (option_copied l.line))

abbrev pub decreases-words : goal.decreases-words
decreases-words l = left_length (option_copied l.left)
