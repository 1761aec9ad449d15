use Rattle.std.proofs.Common.{sym}
use Rattle.verse_verify_reader.proofs.spots.locals.Goals as goal

pub returns : goal.returns
returns c = rw (sym c.locals_of.ensures) c.sorts.ensures
