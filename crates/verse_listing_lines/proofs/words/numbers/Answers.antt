-- The numbers by now, and those of the words that are left.
use Rattle.std.proofs.Common.{rules, option_copied}
use Rattle.verse_listing_lines.proofs.NumberSteps.{words_stop, words_on, words_end}
use Rattle.verse_listing_lines.proofs.words.numbers.Goals as goal

pub returns-in_default-number : goal.returns-in_default-number
returns-in_default-number c =
    words_stop c.words.all.items (option_copied c.words.left) c.in-Some.line.now c.first_word.result.0.now
    (option_copied c.first_word.result.1) _ (search rules) c.first_word.ensures.words (search rules) c.words.invariant

pub words-smaller : goal.words-smaller
words-smaller c = search rules

pub words-preserved : goal.words-preserved
words-preserved c =
    words_on c.words.all.items c.push.new.self.items c.in-Some-number.number (option_copied c.words.left) c.in-Some.line.now
    c.first_word.result.0.now (option_copied c.first_word.result.1) _ (search rules) c.first_word.ensures.words (search rules)
    c.in_ok-push.ensures.items c.words.invariant

pub returns : goal.returns
returns c = words_end c.words.all.items (option_copied c.words.left) _ (search rules) c.words.invariant
