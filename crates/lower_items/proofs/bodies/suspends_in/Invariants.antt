use Rattle.std.proofs.Common.{◌≡◌, drop, map}
use Rattle.verse_tree.specs.ItemView.{spec_of}
use Rattle.lower_code.specs.Programs.{suspends_in}
use Rattle.lower_items.proofs.bodies.suspends_in.Given as goal

-- what is done and what is left are all
abbrev pub invariant-specs : goal.invariant-specs
invariant-specs l = suspends_in (map spec_of (drop l.spec-index l.specs)) ≡ suspends_in (map spec_of l.specs)
