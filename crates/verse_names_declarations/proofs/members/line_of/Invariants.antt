use Rattle.std.proofs.Common.{◌≡◌, ◌++◌, ◌-◌, length}
use Rattle.verse_rules_types.specs.Types.{classes_of}
use Rattle.verse_names_declarations.specs.Lines.{line, line_of}
use Rattle.verse_names_declarations.proofs.members.line_of.Given as goal

-- what is found and what is left to climb are all
abbrev pub invariant-steps : goal.invariant-steps
invariant-steps l = l.found ++ line (classes_of l.outline) (length (classes_of l.outline) - l._i) l.at ≡
    line_of (classes_of l.outline) l.class
