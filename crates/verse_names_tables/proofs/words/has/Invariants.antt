use Rattle.std.proofs.Common.{◌≡◌, drop, map}
use Rattle.verse_tree.specs.ItemView.{spec_of}
use Rattle.verse_names_tables.specs.Words.{has}
use Rattle.verse_names_tables.proofs.words.has.Given as goal

-- what is left decides
abbrev pub invariant-specs : goal.invariant-specs
invariant-specs l = has l.word (map spec_of (drop l.spec-index l.specs)) ≡ has l.word (map spec_of l.specs)
