use Rattle.std.proofs.Common.{ap, ◌∙◌, map}
use Rattle.verse_names_tables.specs.Shared.{second}
use Rattle.verse_names_tables.proofs.Sharing.{seconds}
use Rattle.verse_names_tables.proofs.shared_names.SharedNames.numbers.Goals as goal

pub returns : goal.returns
returns c = seconds _ _ c.self.invariant.1 ∙ ap (map second) c.self.view_is
