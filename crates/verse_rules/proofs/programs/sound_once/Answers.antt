use Rattle.verse_rules.proofs.Once.{once}
use Rattle.verse_rules.proofs.programs.sound_once.Goals as goal

pub returns : goal.returns
returns c = once
