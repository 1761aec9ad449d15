use Rattle.std.proofs.Common.{List, ℕ, drop}
use Rattle.verse_image.specs.Format.{each, operation}
use Rattle.verse_image.specs.Writing.{Writes}
use Rattle.verse_image.proofs.encoding.push_operations.Given as goal

-- what writes the entries that are left completes them
abbrev pub invariant-entries : goal.invariant-entries
invariant-entries l = (new : List ℕ) → Writes (each operation (drop l.op-index l.ops)) l.out.items new →
    Writes (each operation l.ops) l.fn.out.items new
