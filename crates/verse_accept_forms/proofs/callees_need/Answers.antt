use Rattle.verse_accept_forms.proofs.Whole.{callees_need}
use Rattle.verse_accept_forms.proofs.callees_need.Goals as goal

pub returns : goal.returns
returns c = callees_need
