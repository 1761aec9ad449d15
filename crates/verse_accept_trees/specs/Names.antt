-- What is asked of the names that a node defines, and of the domain of keys and values.
use Rattle.std.specs.Prelude.{◌≡◌, ℕ, ◌-◌, false}
use Rattle.verse_tree.specs.Tree.{Bytes, Shape}
use Rattle.verse_tree.specs.Tree as t
use Rattle.verse_tree.specs.PostOrder.{What, expression, parameter}
use Rattle.verse_rules_walk.specs.Nodes.{number_of_tree}
use Rattle.verse_meaning.specs.Programs.{same_name}
use Rattle.verse_meaning.specs.Forms.{this_name}
use Rattle.verse_accept_scopes.specs.Sites.{Site}

-- it is not that of `Self`
abbrev pub IsNew : Bytes → Type 0
IsNew x = same_name this_name x ≡ false

abbrev pub ShapeNamed : ℕ → Shape → Type 0
ShapeNamed n (t.Shape.definition x e) = IsNew x
ShapeNamed n (t.Shape.typed x w e) = IsNew x
ShapeNamed n (t.Shape.variable x w e) = IsNew x
ShapeNamed n (t.Shape.elements x e) = IsNew x
-- the domain is the node before
ShapeNamed n (t.Shape.entries k x e) = IsNew k × IsNew x × (number_of_tree e ≡ n - 1)
ShapeNamed n (t.Shape.range x e f) = IsNew x
ShapeNamed n s = Unit {0}

abbrev pub WhatNamed : ℕ → What → Type 0
WhatNamed n (expression s) = ShapeNamed n s
WhatNamed n (parameter q) = IsNew q.name
WhatNamed n x = Unit {0}

abbrev pub Named : Site → Type 0
Named v = WhatNamed v.number v.what
