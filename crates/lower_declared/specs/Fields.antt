-- Classes with those above them.
use Rattle.std.specs.Prelude.{ℕ, zero, suc, ◌==◌, cond, List, [], ◌∷◌, ◌++◌, Option, Some, None}
use Rattle.verse_tree.specs.ItemTree.{FieldTree, ClassTree}
use Rattle.verse_meaning.specs.Programs.{own_fields, parent_of}

abbrev pub last : Option ClassTree → List ClassTree
last None = []
last (Some c) = c ∷ []

abbrev pub on_class : Option ClassTree → (ClassTree → List ClassTree) → List ClassTree
on_class None f = []
on_class (Some c) f = f c

-- a class and those above it, the nearest first, of which there are no more than n
abbrev pub line : ℕ → List ClassTree → Option ClassTree → List ClassTree
line zero cs o = last o
line (suc n) cs o = on_class o (λ c. c ∷ line n cs (parent_of cs c.parent))

-- the fields of a list of classes, the last class's first
abbrev pub all_above : List ClassTree → List FieldTree
all_above [] = []
all_above (c ∷ cs) = all_above cs ++ own_fields c.members

abbrev pub number_of_field : FieldTree → ℕ
number_of_field f = f.number

-- the place of a number among these, from n on
abbrev pub place_among : ℕ → List ℕ → (n : ℕ) → ℕ
place_among x [] n = n
place_among x (y ∷ ys) n = cond (x == y) n (place_among x ys (suc n))
