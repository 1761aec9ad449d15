-- Each digit is counted.
use Rattle.std.proofs.Common.{◌≡◌, refl, sym, arith, rules, true, get_or}
use Rattle.verse_listing_format.specs.Numbers.{is_digit}
use Rattle.verse_listing_format.proofs.NumberLemmas.{counts_on, counts_end}
use Rattle.verse_listing_format.proofs.numbers.natural.Goals as goal

pub digits-preserved : goal.digits-preserved
digits-preserved c =
    let test : is_digit (get_or c.args.word.now c.digits.digit-index 0) ≡ true = search rules in
    counts_on c.args.word.now c.digits.digit-index (get_or c.args.word.now c.digits.digit-index 0) c.digits.value
    c.saturating_add-value.result (omega arith) refl test (search rules) c.digits.invariant

pub returns : goal.returns
returns c = sym (counts_end c.args.word.now c.digits.digit-index c.digits.value (omega arith) (search rules) c.digits.invariant)
