use Rattle.std.proofs.Common.{List, ℕ, drop}
use Rattle.verse_image.specs.Format.{each, table, number}
use Rattle.verse_image.specs.Writing.{Writes}
use Rattle.verse_image.proofs.pieces.push_methods.Given as goal

-- what writes the entries that are left completes them
abbrev pub invariant-entries : goal.invariant-entries
invariant-entries l = (new : List ℕ) → Writes (each number (drop l.method-index l.methods)) l.out.items new →
    Writes (table number l.methods) l.fn.out.items new
