use Rattle.std.proofs.Common.{◌∙◌}
use Rattle.verse_verify_notes.specs.View.{sorts_of}
use Rattle.verse_verify_operands.proofs.Found.{at_place}
use Rattle.verse_verify_operands.proofs.finding.sort_at.Goals as goal

pub returns : goal.returns
returns c = c.local_at.ensures ∙ at_place (sorts_of c.args.parts.now) c.args.at
