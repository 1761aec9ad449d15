use Rattle.std.proofs.Common.{List, subst, rules}
use Rattle.verse_lex.specs.declared.tokens.Token.{Token}
use Rattle.verse_layout.specs.Refusals.{IsRefused}
use Rattle.verse_accept.proofs.ListedLayout.{listed_layout}
use Rattle.verse_accept.proofs.files.lay.Goals as goal

pub returns-in_err-toks-clause-refused : goal.returns-in_err-toks-clause-refused
returns-in_err-toks-clause-refused c r h file =
    subst (λ (ts : List Token). IsRefused c.args.cut.now.bytes.now ts r) c.as_slice.ensures.value
    (c.in_err-toks.ensures.exact r (search rules))

pub returns-in_err-toks-clause-listed : goal.returns-in_err-toks-clause-listed
returns-in_err-toks-clause-listed c r h = listed_layout c.args.cut.now.bytes.now c.as_slice.result.now r
    (c.in_err-toks.ensures.exact r (search rules))
