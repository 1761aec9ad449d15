-- How a hole, a pair of a map and a given field are numbered.
use Rattle.std.specs.Prelude.{ℕ, ◌+◌}
use Rattle.verse_tree.specs.Tree.{Bytes, Tree}
use Rattle.verse_tree.specs.Numbering.{nodes, numbered}

abbrev pub hole_nodes : Tree × Bytes → ℕ
hole_nodes h = nodes h.0

abbrev pub hole_numbered : Tree × Bytes → ℕ → Tree × Bytes
hole_numbered h next = (numbered h.0 next, h.1)

abbrev pub pair_nodes : Tree × Tree → ℕ
pair_nodes p = nodes p.0 + nodes p.1

abbrev pub pair_numbered : Tree × Tree → ℕ → Tree × Tree
pair_numbered p next = (numbered p.0 next, numbered p.1 (next + nodes p.0))

abbrev pub given_nodes : Bytes × Tree → ℕ
given_nodes g = nodes g.1

abbrev pub given_numbered : Bytes × Tree → ℕ → Bytes × Tree
given_numbered g next = (g.0, numbered g.1 next)
