-- A number reads as itself, and its text is written again.
use Rattle.std.proofs.Common.{◌≡◌, sym, ◌∙◌, ap, arith, decimal, rules, IsTrue}
use Rattle.verse_top_args.proofs.NumberLemmas.{number_reads}
use Rattle.verse_top_args.proofs.numbers.number.Goals as goal

pub returns-in_default : goal.returns-in_default
returns-in_default c = λ n s. c.in_default.not-Ok n
    (number_reads c.args.most c.args.word.now c.parse.result (omega arith) c.parse.ensures.value.0 n s)

pub returns-then-number-most : goal.returns-then-number-most
returns-then-number-most c = λ n s.
    (let e = number_reads c.args.most c.args.word.now c.parse.result (omega arith) c.parse.ensures.value.0 n s in
    let same : c.in-Ok.number ≡ n = cc in
    let within = s.within in
    omega arith)

pub returns-else-is : goal.returns-else-is
returns-else-is c = λ n s.
    (let e = number_reads c.args.most c.args.word.now c.parse.result (omega arith) c.parse.ensures.value.0 n s in
    let same : c.in-Ok.number ≡ n = cc in
    let text : c.args.word.now ≡ c.format.result.now = s.spelled ∙ ap decimal (sym same) ∙ sym c.format.ensures.text in
    let is : IsTrue c.is.result = c.is.ensures.1 text in
    search rules)
