-- The types of accepted programs are told by their tables.
use Rattle.std.specs.Prelude.{◌≡◌, ℕ, List, map, length, Some, All, slice_get}
use Rattle.verse_tree.specs.Tree.{Written, Shape}
use Rattle.verse_tree.specs.Tree as t
use Rattle.verse_tree.specs.ItemTree.{MemberTree, field, method, ItemTree, function}
use Rattle.verse_tree.specs.ItemView.{item_of}
use Rattle.verse_tree.specs.PostOrder.{What, item, member, parameter, expression}
use Rattle.verse_tree.specs.declared.programs.Program.{Program}
use Rattle.verse_tree.specs.declared.tables.Ty.{Ty as Made}
use Rattle.verse_tree.specs.declared.tables.FieldInfo.{FieldInfo}
use Rattle.verse_tree.specs.declared.tables.FunInfo.{FunInfo}
use Rattle.verse_tree.specs.declared.tables.ClassInfo.{ClassInfo}
use Rattle.verse_rules_types.specs.Types.{Ty, ty_of}
use Rattle.verse_rules_walk.specs.Nodes.{Node, items_nodes}
use Rattle.verse_check_typing.specs.Facts.{type_at}
use Rattle.verse_check_typing.specs.Loops.{index_of}
use Rattle.verse_check_typing.specs.Spelling.{spelled_by}
use Rattle.verse_rules.specs.Naming.{named}
use Rattle.verse_rules.specs.Sound.{completed, types_of}
use Rattle.verse_accept.specs.Fronts.{Accepts}
use Rattle.verse_accept_types.specs.Told.{IsNumber, IsTold}

module _ (is : List ItemTree) where
  -- by the tables of these items, and of the levels that types may have
  abbrev pub Told : Ty → Type 0
  Told = IsTold (length (completed is).classes) (length (completed is).enums) 32

  abbrev pub MadeTold : Made → Type 0
  MadeTold u = Told (ty_of u)

  abbrev pub FieldTold : FieldInfo → Type 0
  FieldTold d = MadeTold d.ty

  abbrev pub WrittenTold : Written → Type 0
  WrittenTold w = Told (spelled_by (named is).refs w)

  -- the types that are written at a node
  abbrev pub ShapeTold : Shape → Type 0
  ShapeTold (t.Shape.typed x w e) = WrittenTold w
  ShapeTold (t.Shape.variable x w e) = WrittenTold w
  ShapeTold (t.Shape.event w) = WrittenTold w
  ShapeTold s = Unit {0}

  abbrev pub ItemTold : ItemTree → Type 0
  ItemTold (function f) = WrittenTold f.written
  ItemTold i = Unit {0}

  abbrev pub MemberTold : MemberTree → Type 0
  MemberTold (field d) = WrittenTold d.written
  MemberTold (method f) = WrittenTold f.written

  abbrev pub WhatTold : What → Type 0
  WhatTold (expression s) = ShapeTold s
  WhatTold (parameter q) = WrittenTold q.written
  WhatTold (item i) = ItemTold i
  WhatTold (member m) = MemberTold m
  WhatTold x = Unit {0}

  pub record TypesTold : Type 0 where
    -- enums are numbered by numbers of 32 bits
    pub enums : IsNumber (length (completed is).enums)
    -- what is found at the node of a number, and what stands before the values of a domain there
    pub found : (n : ℕ) → Told (type_at (types_of is) n)
    pub index : (n : ℕ) → Told (index_of (type_at (types_of is) n))
    -- what the tables have of functions and of fields
    pub params : (g : ℕ) (f : FunInfo) → slice_get (completed is).funs g ≡ Some f →
        All MadeTold f.params
    pub result : (g : ℕ) (f : FunInfo) → slice_get (completed is).funs g ≡ Some f →
        MadeTold f.result
    pub fields : (c : ℕ) (k : ClassInfo) → slice_get (completed is).classes c ≡ Some k →
        All FieldTold k.fields
    pub written : (i : ℕ) (v : Node) → slice_get (items_nodes is) i ≡ Some v → WhatTold v.what

abbrev pub AcceptedTypes : Type 0
AcceptedTypes = (files : List (List ℕ)) (made : Program) →
    Accepts files (map item_of made.tree.items) → TypesTold (map item_of made.tree.items)
