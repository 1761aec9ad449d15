use Rattle.std.proofs.Common.{List, ℕ, drop}
use Rattle.verse_image.specs.Format.{each, number}
use Rattle.verse_image.specs.Writing.{Writes}
use Rattle.run_save_format.specs.Format.{list}
use Rattle.run_save_writer.proofs.numbers.push_numbers.Given as goal

-- what writes the entries that are left completes them
abbrev pub invariant-entries : goal.invariant-entries
invariant-entries l = (new : List ℕ) → Writes (each number (drop l.entry-index l.numbers)) l.out.items new →
    Writes (list number l.numbers) l.fn.out.items new
