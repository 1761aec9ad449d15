use Rattle.verse_meaning.proofs.Groups.{scopes_end}
use Rattle.verse_meaning.proofs.scopes_end.Goals as goal

pub returns : goal.returns
returns c = scopes_end
