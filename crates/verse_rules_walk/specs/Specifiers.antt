-- What a list of specifiers says.
use Rattle.std.specs.Prelude.{Bool, true, false, cond, List, [], ◌∷◌, codes}
use Rattle.std.specs.Str.{bytes_eq}
use Rattle.verse_tree.specs.Tree.{Bytes}
use Rattle.verse_tree.specs.ItemTree.{SpecTree}
use Rattle.verse_tree.specs.declared.tables.Effects.{Effects}

-- one of the specifiers has this name
abbrev pub writes : Bytes → List SpecTree → Bool
writes x [] = false
writes x (s ∷ ss) = cond (bytes_eq s.name x) true (writes x ss)

-- the effects that are written
abbrev pub written_effects : List SpecTree → Effects
written_effects ss = record {
  computes = writes (codes "computes") ss;
  transacts = writes (codes "transacts") ss;
  decides = writes (codes "decides") ss;
  suspends = writes (codes "suspends") ss;
}
