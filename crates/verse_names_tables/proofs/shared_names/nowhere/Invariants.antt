use Rattle.std.proofs.Common.{◌≡◌, replicate}
use Rattle.std.specs.Prelude.{None}
use Rattle.verse_names_tables.proofs.shared_names.nowhere.Given as goal

-- so many are nowhere
abbrev pub invariant-places : goal.invariant-places
invariant-places l = l.found ≡ replicate l._i None
