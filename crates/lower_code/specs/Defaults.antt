-- The fields that have a default, each of which is a function of the code, behind all others.
use Rattle.std.specs.Prelude.{ℕ, suc, ◌==◌, List, [], ◌∷◌, ◌++◌, length, Option, Some, None, cond}
use Rattle.verse_tree.specs.Tree.{Tree}
use Rattle.verse_tree.specs.ItemTree.{FieldTree, ItemTree, using, enumeration, class, function}
use Rattle.verse_meaning.specs.Programs.{Program, own_fields}

abbrev pub with_default : FieldTree → Option Tree → List FieldTree
with_default f None = []
with_default f (Some a) = f ∷ []

abbrev pub with_defaults : List FieldTree → List FieldTree
with_defaults [] = []
with_defaults (f ∷ fs) = with_default f f.default ++ with_defaults fs

-- in the order of the items
abbrev pub defaults_in : List ItemTree → List FieldTree
defaults_in [] = []
defaults_in (using u ∷ is) = defaults_in is
defaults_in (enumeration e ∷ is) = defaults_in is
defaults_in (class c ∷ is) = with_defaults (own_fields c.members) ++ defaults_in is
defaults_in (function f ∷ is) = defaults_in is

-- the place of a field among these, from n on
abbrev pub field_place : ℕ → List FieldTree → (n : ℕ) → ℕ
field_place x [] n = n
field_place x (f ∷ fs) n = cond (x == f.number) n (field_place x fs (suc n))

-- the function that gives the default of the field whose node has a number
abbrev pub default_number : Program → ℕ → ℕ
default_number p x = field_place x (defaults_in p.items) (length p.names.funs)
