use Rattle.std.proofs.Common.{◌≡◌, take}
use Rattle.verse_join_parts.proofs.copies.copied_path.Given as goal

abbrev pub invariant-names : goal.invariant-names
invariant-names l = l.copies ≡ take l.names-index l.path
