use Rattle.std.proofs.Common.{◌≡◌, ◌++◌, ◌-◌, length}
use Rattle.verse_rules_types.specs.Types.{classes_of}
use Rattle.verse_names_declarations.specs.Lines.{line, others, ancestors}
use Rattle.verse_names_declarations.proofs.members.ancestors.Given as goal

-- what is found and what is left to climb are all
abbrev pub invariant-steps : goal.invariant-steps
invariant-steps l = l.found ++ others l.class (line (classes_of l.outline) (length (classes_of l.outline) - l._i) l.at) ≡
    ancestors (classes_of l.outline) l.class
