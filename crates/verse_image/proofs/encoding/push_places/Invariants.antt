use Rattle.std.proofs.Common.{List, ℕ, drop}
use Rattle.verse_image.specs.Format.{each, table, place}
use Rattle.verse_image.specs.Writing.{Writes}
use Rattle.verse_image.proofs.encoding.push_places.Given as goal

-- what writes the entries that are left completes them
abbrev pub invariant-entries : goal.invariant-entries
invariant-entries l = (new : List ℕ) → Writes (each place (drop l.place-index l.places)) l.out.items new →
    Writes (table place l.places) l.fn.out.items new
