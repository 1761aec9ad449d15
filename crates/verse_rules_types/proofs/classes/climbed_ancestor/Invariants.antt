use Rattle.std.proofs.Common.{◌≡◌, ◌-◌, length}
use Rattle.verse_rules_types.specs.Types.{classes_of}
use Rattle.verse_rules_types.specs.Fitting.{first_above, inherits}
use Rattle.verse_rules_types.proofs.classes.climbed_ancestor.Given as goal

-- what is left to climb gives the answer
abbrev pub invariant-steps : goal.invariant-steps
invariant-steps l =
    let cs = classes_of l.classes in
    first_above cs (inherits cs l.other) (length cs - l._i) l.at ≡ first_above cs (inherits cs l.other) (length cs) l.class
