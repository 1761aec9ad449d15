use Rattle.std.proofs.Common.{◌≡◌, ◌-◌, length}
use Rattle.verse_rules_types.specs.Types.{classes_of}
use Rattle.verse_rules_types.specs.Depths.{meeting}
use Rattle.verse_rules_types.proofs.classes.meeting.Given as goal

-- what is left to climb gives the answer
abbrev pub invariant-steps : goal.invariant-steps
invariant-steps l =
    let cs = classes_of l.classes in
    meeting cs (length cs - l._i) l.at l.far ≡ meeting cs (length cs) l.class l.other
