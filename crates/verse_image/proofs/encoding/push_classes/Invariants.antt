use Rattle.std.proofs.Common.{List, ℕ, drop}
use Rattle.verse_image.specs.Format.{each, table, class}
use Rattle.verse_image.specs.Writing.{Writes}
use Rattle.verse_image.proofs.encoding.push_classes.Given as goal

-- what writes the entries that are left completes them
abbrev pub invariant-entries : goal.invariant-entries
invariant-entries l = (new : List ℕ) → Writes (each class (drop l.class-index l.classes)) l.out.items new →
    Writes (table class l.classes) l.fn.out.items new
