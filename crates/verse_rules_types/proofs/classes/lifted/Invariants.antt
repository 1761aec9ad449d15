use Rattle.std.proofs.Common.{◌≡◌, ◌-◌}
use Rattle.verse_rules_types.specs.Types.{classes_of}
use Rattle.verse_rules_types.specs.Depths.{lifted}
use Rattle.verse_rules_types.proofs.classes.lifted.Given as goal

-- what is left to climb gives the answer
abbrev pub invariant-steps : goal.invariant-steps
invariant-steps l =
    let cs = classes_of l.classes in
    lifted cs (l.count - l._i) l.at ≡ lifted cs l.count l.class
