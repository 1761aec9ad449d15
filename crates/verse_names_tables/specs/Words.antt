-- Specifiers, and the names that are built in.
use Rattle.std.specs.Prelude.{Bool, true, false, cond, List, [], ◌∷◌, codes}
use Rattle.std.specs.Str.{bytes_eq}
use Rattle.verse_tree.specs.Tree.{Bytes}
use Rattle.verse_tree.specs.ItemTree.{SpecTree}
use Rattle.verse_tree.specs.declared.tables.Effects.{Effects}
use Rattle.verse_tree.specs.declared.tables.Ref.TheVariants as ref
use Rattle.verse_names_tables.specs.Names.{Table}

-- a specifier is written
abbrev pub has : Bytes → List SpecTree → Bool
has x [] = false
has x (s ∷ ss) = cond (bytes_eq s.name x) true (has x ss)

abbrev pub effects_of : List SpecTree → Effects
effects_of ss = record {
  computes = has (codes "computes") ss;
  transacts = has (codes "transacts") ss;
  decides = has (codes "decides") ss;
  suspends = has (codes "suspends") ss;
}

-- they are visible everywhere
abbrev pub builtins : Table
builtins = (codes "Print", ref.Builtin 0) ∷ (codes "Floor", ref.Builtin 1) ∷
    (codes "Ceil", ref.Builtin 2) ∷ (
      codes "Mod",
      ref.Builtin 3,
    ) ∷ []
