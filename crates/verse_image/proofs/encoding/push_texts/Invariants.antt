use Rattle.std.proofs.Common.{List, ℕ, drop}
use Rattle.verse_image.specs.Format.{each, table, text}
use Rattle.verse_image.specs.Writing.{Writes}
use Rattle.verse_image.proofs.encoding.push_texts.Given as goal

-- what writes the entries that are left completes them
abbrev pub invariant-entries : goal.invariant-entries
invariant-entries l = (new : List ℕ) → Writes (each text (drop l.text-index l.texts)) l.out.items new →
    Writes (table text l.texts) l.fn.out.items new
