use Rattle.verse_top_save.proofs.Answered.{once}
use Rattle.verse_top_save.proofs.saving.saved_once.Goals as goal

pub returns : goal.returns
returns c = once
