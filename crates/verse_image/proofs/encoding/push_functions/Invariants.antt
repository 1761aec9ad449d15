use Rattle.std.proofs.Common.{List, ℕ, drop}
use Rattle.verse_image.specs.Format.{each, table, function}
use Rattle.verse_image.specs.Writing.{Writes}
use Rattle.verse_image.proofs.encoding.push_functions.Given as goal

-- what writes the entries that are left completes them
abbrev pub invariant-entries : goal.invariant-entries
invariant-entries l = (new : List ℕ) → Writes (each function (drop l.function-index l.functions)) l.out.items new →
    Writes (table function l.functions) l.fn.out.items new
