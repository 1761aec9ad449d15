-- An int reads as itself, and its text is written again.
use Rattle.std.proofs.Common.{◌≡◌, sym, ◌∙◌, ap, rules, IsTrue}
use Rattle.std.specs.Fmt.{signed_decimal}
use Rattle.verse_top_args.proofs.NumberLemmas.{int_reads}
use Rattle.verse_top_args.proofs.numbers.int.Goals as goal

pub returns-in_default : goal.returns-in_default
returns-in_default c = λ n s. c.in_default.not-Ok n (int_reads c.args.word.now c.parse.result c.parse.ensures.value.0 n s)

pub returns-else-is : goal.returns-else-is
returns-else-is c = λ n s.
    (let e = int_reads c.args.word.now c.parse.result c.parse.ensures.value.0 n s in
    let same : c.in-Ok.int ≡ n = cc in
    let written : c.format.result.now ≡ signed_decimal c.in-Ok.int = search rules in
    let text : c.args.word.now ≡ c.format.result.now = s.spelled ∙ ap signed_decimal (sym same) ∙ sym written in
    let is : IsTrue c.is.result = c.is.ensures.1 text in
    search rules)
