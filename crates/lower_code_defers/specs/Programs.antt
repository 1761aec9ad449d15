-- What is asked of a program: its bodies are fine, and no `defer` is in a part that has no code.
use Rattle.std.specs.Prelude.{◌≡◌, List, [], Option, Some, None}
use Rattle.verse_base.specs.declared.places.Place.{Place}
use Rattle.verse_tree.specs.Tree.{Tree, Shape, Trees, no_trees, more_trees}
use Rattle.verse_tree.specs.Tree as t
use Rattle.verse_tree.specs.PostOrder.{What, expression, Node, post_order, trees_order}
use Rattle.verse_names_tables.specs.Names.{Table}
use Rattle.verse_value.specs.Val.{Val}
use Rattle.verse_meaning.specs.Programs.{Program}
use Rattle.verse_meaning.specs.Residuals as form
use Rattle.verse_meaning.specs.Evaluating.{Callee, of_value, of_quotient, callee_of, picked}
use Rattle.verse_meaning.specs.Evaluating.{enum_member}
use Rattle.verse_sound_rules.specs.Found.{Found, Allowed}
use Rattle.verse_sound_rules.specs.Fine.{Fine}
use Rattle.lower_code.specs.Programs.{Body}
use Rattle.lower_code_defers.specs.Counts.{defers_in}

-- the checker has found sorts for all of a body
pub record BodyIsFine (p : Program) (f : Found) (b : Body) : Type 0 where
  pub allowed : Allowed
  pub visible : Table
  pub fine : Fine p f allowed visible b.body

-- ---- the nodes of the parts of a form that have no code of their own

-- what stands before the dot of a value of an enum
abbrev pub left_object : Option Val → Tree → List Node
left_object None b = []
left_object (Some v) b = post_order b

abbrev pub behind_first : Trees → List Node
behind_first no_trees = []
behind_first (more_trees b ts) = trees_order ts

-- in round brackets: the operand that names the part of a tuple, and what is behind a quotient
abbrev pub left_called : Callee → Trees → List Node
left_called (of_value x) ts = trees_order ts
left_called (of_quotient x) ts = behind_first ts
left_called k ts = []

-- in square brackets
abbrev pub left_indexed : Callee → Trees → List Node
left_indexed (of_quotient x) ts = behind_first ts
left_indexed k ts = []

module _ (p : Program) where
  abbrev pub left_out : Place → Shape → List Node
  left_out pl (t.Shape.member b x) = left_object (enum_member p b x) b
  left_out pl (t.Shape.call b ts) = left_called (callee_of p b (picked ts) pl) ts
  left_out pl (t.Shape.index b ts) = left_indexed (callee_of p b form.indexing pl) ts
  -- a pattern
  left_out pl (t.Shape.arm b c) = post_order b
  left_out pl s = []

  abbrev pub WhatShows : Place → What → Type 0
  WhatShows pl (expression s) = defers_in (left_out pl s) ≡ 0
  WhatShows pl x = Unit {0}

  -- no `defer` is in what a node leaves out
  abbrev pub NodeShows : Node → Type 0
  NodeShows v = WhatShows v.place v.what
