use Rattle.std.proofs.Common.{◌≡◌, ◌<◌, ◌^◌, drop}
use Rattle.verse_lex.specs.Numbers.{hexadecimal, hexadecimal_on}
use Rattle.verse_lex.proofs.numbers.hexadecimal.Given as goal

abbrev pub invariant-digits : goal.invariant-digits
invariant-digits l = (hexadecimal_on l.value (drop l.digit-index l.digits) ≡ hexadecimal l.digits) × (l.value < 2 ^ 63)
