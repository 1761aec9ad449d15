use Rattle.std.proofs.Common.{rules}
use Rattle.verse_accept.proofs.ListedTokens.{listed_tokens}
use Rattle.verse_accept.proofs.files.cut.Goals as goal

pub returns-in_err-tokens-clause-refused : goal.returns-in_err-tokens-clause-refused
returns-in_err-tokens-clause-refused c r h = c.in_err-tokens.ensures.refused r (search rules)

pub returns-in_err-tokens-clause-listed : goal.returns-in_err-tokens-clause-listed
returns-in_err-tokens-clause-listed c r h = listed_tokens c.args.file c.args.bytes.now r (c.in_err-tokens.ensures.refused r (search rules))
