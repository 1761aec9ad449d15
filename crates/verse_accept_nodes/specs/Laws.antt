-- Laws of the nodes of accepted programs: each has what lowering and its theorem ask of it.
use Rattle.std.specs.Prelude.{◌≡◌, ℕ, ◌-◌, false, List, length, map, All}
use Rattle.verse_tree.specs.Tree.{Bytes, Shape}
use Rattle.verse_tree.specs.Tree as t
use Rattle.verse_tree.specs.ItemTree.{ItemTree}
use Rattle.verse_tree.specs.ItemView.{item_of}
use Rattle.verse_tree.specs.PostOrder.{Node, What, expression, parameter, items_order}
use Rattle.verse_tree.specs.Shapes.{ItemsShaped}
use Rattle.verse_tree.specs.declared.programs.Program.{Program as Made}
use Rattle.verse_rules_walk.specs.Nodes.{number_of_tree}
use Rattle.verse_accept.specs.Fronts.{Accepts}
use Rattle.verse_meaning.specs.Programs.{program_of, same_name}
use Rattle.verse_meaning.specs.Forms.{this_name}
use Rattle.lower_bounds.specs.Programs.{NodeFits}
use Rattle.lower_simulation_runs.specs.Programs.{NodeStands}

-- ---- names, and the numbers of domains

-- a name that is defined is not that of `Self`
abbrev pub IsNew : Bytes → Type 0
IsNew x = same_name this_name x ≡ false

-- the names that the node n defines are not that of `Self`, and the domain of keys and values is
-- the node before
abbrev pub ShapeNames : ℕ → Shape → Type 0
ShapeNames n (t.Shape.definition x e) = IsNew x
ShapeNames n (t.Shape.typed x w e) = IsNew x
ShapeNames n (t.Shape.variable x w e) = IsNew x
ShapeNames n (t.Shape.elements x e) = IsNew x
ShapeNames n (t.Shape.entries k x e) = IsNew k × IsNew x × (number_of_tree e ≡ n - 1)
ShapeNames n (t.Shape.range x e f) = IsNew x
ShapeNames n s = Unit {0}

abbrev pub WhatNames : ℕ → What → Type 0
WhatNames n (expression s) = ShapeNames n s
WhatNames n (parameter q) = IsNew q.name
WhatNames n other = Unit {0}

abbrev pub NodeNames : Node → Type 0
NodeNames v = WhatNames v.number v.what

abbrev pub AcceptedNames : Type 0
AcceptedNames = (files : List (List ℕ)) (is : List ItemTree) → Accepts files is →
    All NodeNames (items_order is)

-- ---- shapes, places, texts and patterns

-- trees have the shapes of those that are spelled
abbrev pub AcceptedShaped : Type 0
AcceptedShaped = (files : List (List ℕ)) (is : List ItemTree) → Accepts files is → ItemsShaped is

-- places are within the files, and characters, texts and pauses within the limits of a code
abbrev pub AcceptedFit : Type 0
AcceptedFit = (files : List (List ℕ)) (is : List ItemTree) → Accepts files is →
    All (NodeFits (length files)) (items_order is)

-- no condition defers, groups have arms, and patterns stand for values
abbrev pub AcceptedStand : Type 0
AcceptedStand = (files : List (List ℕ)) (is : List ItemTree) (made : Made) → Accepts files is →
    map item_of made.tree.items ≡ is → All (NodeStands (program_of made)) (items_order is)
