-- What is asked of a program, so that its code does what it means.
use Rattle.std.specs.Prelude.{◌≡◌, ℕ, List, [], ◌∷◌, ◌++◌, map, Option, Some, None, Bool, true}
use Rattle.std.specs.Prelude.{false, slice_get, All}
use Rattle.verse_tree.specs.Tree.{Tree, tree, Shape, Trees, no_trees, more_trees}
use Rattle.verse_tree.specs.Tree as t
use Rattle.verse_tree.specs.ItemTree.{FieldTree, FunTree, MemberTree, field, method, ItemTree}
use Rattle.verse_tree.specs.ItemTree.{using, enumeration, class, function}
use Rattle.verse_tree.specs.PostOrder.{What, expression, Node, items_order}
use Rattle.verse_tree.specs.declared.tables.FunInfo.{FunInfo}
use Rattle.verse_tree.specs.declared.tables.Ref.TheVariants as ref
use Rattle.verse_value.specs.Val.{Val}
use Rattle.verse_meaning.specs.Programs.{Program, ref_at, method_at, pattern_value}
use Rattle.verse_meaning.specs.Evaluating.{none_left}
use Rattle.lower_code.specs.Defaults.{defaults_in}
use Rattle.lower_code.specs.Lowering.{any_defer}
use Rattle.lower_bounds.specs.Programs.{CanBeLowered}

-- ---- tables

-- a function of the items, or a method of a class
pub data Defined : Type 0 where
  a_function : FunTree → Defined
  a_method : FunTree → Defined

abbrev pub tree_in : Defined → FunTree
tree_in (a_function f) = f
tree_in (a_method f) = f

abbrev pub number_in : Defined → ℕ
number_in d = (tree_in d).number

abbrev pub methods_defined : List MemberTree → List Defined
methods_defined [] = []
methods_defined (field f ∷ ms) = methods_defined ms
methods_defined (method f ∷ ms) = a_method f ∷ methods_defined ms

-- functions and methods, in the order of the items
abbrev pub defined_in : List ItemTree → List Defined
defined_in [] = []
defined_in (using u ∷ is) = defined_in is
defined_in (enumeration e ∷ is) = defined_in is
defined_in (class c ∷ is) = methods_defined c.members ++ defined_in is
defined_in (function f ∷ is) = a_function f ∷ defined_in is

-- no number stands twice in a list
abbrev pub Absent : ℕ → List ℕ → Type 0
Absent n [] = Unit {0}
Absent n (m ∷ ms) = (n ≡ m → ⊥) × Absent n ms

abbrev pub Distinct : List ℕ → Type 0
Distinct [] = Unit {0}
Distinct (n ∷ ns) = Absent n ns × Distinct ns

abbrev pub field_number : FieldTree → ℕ
field_number f = f.number

-- the tables of a program number the functions and methods of its items in their order
pub record NumbersAgree (p : Program) : Type 0 where
  -- the f-th function or method has the node that entry f of the table names
  pub numbers : map (λ (f : FunInfo). f.item) p.names.funs ≡ map number_in (defined_in p.items)
  pub distinct : Distinct (map number_in (defined_in p.items))
  -- what a name stands for as a function is one, and no method
  pub functions : (n f : ℕ) → ref_at p n ≡ Some (ref.Fun f) →
      (fn : FunTree) × (slice_get (defined_in p.items) f ≡ Some (a_function fn))
  -- the methods of a class are methods
  pub methods : (c m f : ℕ) → method_at p c m ≡ Some f →
      (fn : FunTree) × (slice_get (defined_in p.items) f ≡ Some (a_method fn))
  -- the fields with defaults have nodes of their own
  pub fields : Distinct (map field_number (defaults_in p.items))

-- ---- nodes

abbrev pub is_some : Option Val → Bool
is_some None = false
is_some (Some v) = true

-- whether a pattern stands for a value, or for all
abbrev pub has_value_shape : Program → Shape → Bool
has_value_shape p (t.Shape.integer_pattern n) = true
has_value_shape p (t.Shape.minus_pattern n) = true
has_value_shape p (t.Shape.character_pattern n) = true
has_value_shape p (t.Shape.text_pattern bs) = true
has_value_shape p t.Shape.truth_pattern = true
has_value_shape p t.Shape.falsehood_pattern = true
has_value_shape p t.Shape.any_pattern = true
has_value_shape p (t.Shape.enum_pattern x y) = is_some (pattern_value p x y)
has_value_shape p s = false

abbrev pub has_value : Program → Tree → Bool
has_value p (tree n pl s) = has_value_shape p s

module _ (p : Program) where
  -- a pattern that is tested stands for a value
  abbrev pub ArmStands : Shape → Bool → Type 0
  ArmStands (t.Shape.arm a b) last = last ≡ false → has_value p a ≡ true
  ArmStands s last = Unit {0}

  abbrev pub ArmTreeStands : Tree → Bool → Type 0
  ArmTreeStands (tree n pl s) last = ArmStands s last

  abbrev pub ArmsStand : Trees → Type 0
  ArmsStand no_trees = Unit {0}
  ArmsStand (more_trees b ts) = ArmTreeStands b (none_left ts) × ArmsStand ts

  -- what is asked of a form beside its parts: no condition defers, a group has an arm, and
  -- patterns stand for values
  abbrev pub ShapeStands : Shape → Type 0
  ShapeStands (t.Shape.if_else cs b c) = any_defer cs ≡ false
  ShapeStands (t.Shape.if_alone cs b) = any_defer cs ≡ false
  ShapeStands (t.Shape.option cs) = any_defer cs ≡ false
  ShapeStands (t.Shape.logic cs) = any_defer cs ≡ false
  ShapeStands (t.Shape.sync ts) = none_left ts ≡ false
  ShapeStands (t.Shape.race ts) = none_left ts ≡ false
  ShapeStands (t.Shape.rush ts) = none_left ts ≡ false
  ShapeStands (t.Shape.cases b ts) = ArmsStand ts
  ShapeStands s = Unit {0}

  abbrev pub WhatStands : What → Type 0
  WhatStands (expression s) = ShapeStands s
  WhatStands other = Unit {0}

  abbrev pub NodeStands : Node → Type 0
  NodeStands v = WhatStands v.what

-- its code can be valid, its tables number its items, and each node has what is asked of it
pub record CanBeFollowed (p : Program) (files : ℕ) : Type 0 where
  pub lowered : CanBeLowered p files
  pub numbers : NumbersAgree p
  pub nodes : All (NodeStands p) (items_order p.items)
