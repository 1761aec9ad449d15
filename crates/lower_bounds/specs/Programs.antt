-- What a program has whose code is small and valid: it speaks of the program's nodes and tables
-- alone.
use Rattle.std.specs.Prelude.{◌≡◌, ℕ, ◌+◌, ◌*◌, ◌<◌, ◌≤◌, length, slice_get, Some, All}
use Rattle.verse_base.specs.declared.limits.TheConstants.{MOST_OPERATIONS}
use Rattle.verse_tree.specs.Tree.{Shape, Holes, no_holes, more_holes}
use Rattle.verse_tree.specs.Tree as t
use Rattle.verse_tree.specs.ItemTree.{FunTree}
use Rattle.verse_tree.specs.Numbering.{program_nodes}
use Rattle.verse_tree.specs.PostOrder.{Node, What, expression, items_order}
use Rattle.verse_tree.specs.Sizes.{class_fields, items_fields}
use Rattle.verse_tree.specs.declared.tables.ClassInfo.{ClassInfo}
use Rattle.verse_tree.specs.declared.tables.Ref.TheVariants as ref
use Rattle.verse_code.specs.declared.validity.TheConstants.{MOST_FILES, MOST_PAUSE}
use Rattle.verse_code.specs.Validity.{IsText, IsPlace, IsCount}
use Rattle.verse_meaning.specs.Programs.{Program, ref_at, classes, fields_of, main_in}
use Rattle.lower_code.specs.Programs.{bodies_in}

-- 16 for each node, and 4 for each field of the class of each instance expression
abbrev pub size_of : Program → ℕ
size_of p = 16 * program_nodes p.items + 4 * items_fields p.names p.items

-- the pieces of a text with holes, behind the first
abbrev pub PiecesFit : Holes → Type 0
PiecesFit no_holes = Unit {0}
PiecesFit (more_holes a bs hs) = IsText bs × PiecesFit hs

-- characters, texts and pauses are within the limits of a code
abbrev pub ShapeFits : Shape → Type 0
ShapeFits (t.Shape.character c) = c ≤ 255
ShapeFits (t.Shape.character_pattern c) = c ≤ 255
ShapeFits (t.Shape.text bs) = IsText bs
ShapeFits (t.Shape.text_pattern bs) = IsText bs
ShapeFits (t.Shape.holes bs hs) = IsText bs × PiecesFit hs
ShapeFits (t.Shape.sleep d) = d ≤ MOST_PAUSE
ShapeFits s = Unit {0}

abbrev pub WhatFits : What → Type 0
WhatFits (expression s) = ShapeFits s
WhatFits other = Unit {0}

pub record NodeFits (files : ℕ) (v : Node) : Type 0 where
  pub place : IsPlace files v.place
  pub what : WhatFits v.what

-- the table of classes has as many fields for a class as its items give it
abbrev pub FieldsAgree : Program → Type 0
FieldsAgree p = (c : ℕ) → class_fields (slice_get p.names.classes c) ≡ length (fields_of p c)

-- the methods of a class are functions, and are written as numbers of 32 bits
pub record MethodsFit (functions : ℕ) (c : ClassInfo) : Type 0 where
  pub count : IsCount (length c.methods)
  pub methods : All (λ f. f < functions) c.methods

-- the tables have an entry for each function and each class of the items
pub record TablesAgree (p : Program) : Type 0 where
  pub functions : length p.names.funs ≡ length (bodies_in p.items)
  pub classes : length p.names.classes ≡ length (classes p.items)
  pub fields : FieldsAgree p
  pub methods : All (MethodsFit (length p.names.funs)) p.names.classes
  -- what stands for a class is one of the table
  pub refs : (n c : ℕ) → ref_at p n ≡ Some (ref.Class c) → c < length p.names.classes

-- there is a Main, and it takes nothing or the inputs
abbrev pub HasMain : Program → Type 0
HasMain p = (f : FunTree) × (main_in p.items ≡ Some f) × (length f.params ≤ 1)

-- a program of so many files whose code is valid
pub record CanBeLowered (p : Program) (files : ℕ) : Type 0 where
  pub count : (1 ≤ files) × (files ≤ MOST_FILES)
  pub size : size_of p ≤ MOST_OPERATIONS
  pub nodes : All (NodeFits files) (items_order p.items)
  pub tables : TablesAgree p
  pub main : HasMain p
