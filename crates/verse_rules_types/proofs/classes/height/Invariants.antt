use Rattle.std.proofs.Common.{◌≡◌, ◌-◌, length}
use Rattle.verse_rules_types.specs.Types.{classes_of}
use Rattle.verse_rules_types.specs.Depths.{height, height_from}
use Rattle.verse_rules_types.proofs.classes.height.Given as goal

-- what is left to climb gives the answer
abbrev pub invariant-steps : goal.invariant-steps
invariant-steps l =
    let cs = classes_of l.classes in
    height_from cs (length cs - l.i) l.i l.at ≡ height cs l.class
