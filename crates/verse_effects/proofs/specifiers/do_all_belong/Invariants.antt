use Rattle.std.proofs.Common.{◌≡◌, map, drop}
use Rattle.verse_tree.specs.ItemView.{spec_of}
use Rattle.verse_effects.specs.Specifiers.{all_belong}
use Rattle.verse_effects.proofs.specifiers.do_all_belong.Given as goal

abbrev pub invariant-specs : goal.invariant-specs
invariant-specs l = all_belong l.at (map spec_of (drop l.spec-index l.specs)) ≡ all_belong l.at (map spec_of l.specs)
