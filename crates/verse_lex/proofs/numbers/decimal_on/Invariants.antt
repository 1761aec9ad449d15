use Rattle.std.proofs.Common.{◌≡◌, ◌<◌, ◌^◌, drop}
use Rattle.verse_lex.specs.Numbers.{decimal_on}
use Rattle.verse_lex.proofs.numbers.decimal_on.Given as goal

abbrev pub invariant-digits : goal.invariant-digits
invariant-digits l = (decimal_on l.value (drop l.digit-index l.digits) ≡ decimal_on l.fn.start l.digits) × (l.value < 2 ^ 63)
