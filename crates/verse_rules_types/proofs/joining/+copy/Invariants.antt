use Rattle.std.proofs.Common.{◌≡◌, ◌++◌, drop, map}
use Rattle.verse_rules_types.specs.Types.{ty_of}
use Rattle.verse_rules_types.proofs.joining.+copy.Given as goal

abbrev pub invariant-all_copied-loop-ty : goal.invariant-all_copied-loop-ty
invariant-all_copied-loop-ty l = map ty_of l.copies ++ map ty_of (drop l.ty-index l.types) ≡ map ty_of l.types
