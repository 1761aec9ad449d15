use Rattle.verse_accept_forms.proofs.Whole.{plain_needs}
use Rattle.verse_accept_forms.proofs.plain_needs.Goals as goal

pub returns : goal.returns
returns c = plain_needs
