-- The lemmas that the goals of a function want, by its name.
use Rattle.verse_accept.proofs.Parts.{can_be_laid}
use Rattle.verse_accept.proofs.ListedTokens.{listed_tokens}

pub ruleset of_cut = (can_be_laid, listed_tokens)
