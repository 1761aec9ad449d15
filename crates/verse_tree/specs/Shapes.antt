-- The shapes of trees: which forms may stand where. Nothing is said of the numbers and places of
-- nodes, and of names.
use Rattle.std.specs.Prelude.{◌≡◌, Bool, true, false, List, [], ◌∷◌, Option, Some, None}
use Rattle.verse_tree.specs.Tree.{Bytes, Written, Writtens, no_writtens, more_writtens, Tree, tree}
use Rattle.verse_tree.specs.Tree.{Shape, Trees, no_trees, more_trees}
use Rattle.verse_tree.specs.Tree.{Holes, no_holes, more_holes, Pairs, no_pairs, more_pairs, Givens}
use Rattle.verse_tree.specs.Tree.{no_givens, more_givens}
use Rattle.verse_tree.specs.Tree as t
use Rattle.verse_tree.specs.ItemTree.{FieldTree, ParamTree, FunTree, MemberTree, ItemTree}
use Rattle.verse_tree.specs.ItemTree as i

-- what a form is
pub data Sort : Type 0 where
  block_sort defer_sort : Sort
  -- `X:t = E` and `var X:t = E`
  typed_sort : Sort
  -- `X := E`, `set`, `return` and `break`
  action_sort : Sort
  expression_sort generator_sort arm_sort pattern_sort : Sort

abbrev pub sort : Shape → Sort
sort (t.Shape.block ts) = block_sort
sort (t.Shape.defer a) = defer_sort
sort (t.Shape.typed x w a) = typed_sort
sort (t.Shape.variable x w a) = typed_sort
sort (t.Shape.definition x a) = action_sort
sort (t.Shape.assignment x a b) = action_sort
sort (t.Shape.returned a) = action_sort
sort t.Shape.returned_unit = action_sort
sort t.Shape.break_form = action_sort
sort (t.Shape.elements x a) = generator_sort
sort (t.Shape.entries x y a) = generator_sort
sort (t.Shape.range x a b) = generator_sort
sort (t.Shape.arm a b) = arm_sort
sort (t.Shape.integer_pattern x) = pattern_sort
sort (t.Shape.minus_pattern x) = pattern_sort
sort (t.Shape.character_pattern x) = pattern_sort
sort (t.Shape.text_pattern x) = pattern_sort
sort t.Shape.truth_pattern = pattern_sort
sort t.Shape.falsehood_pattern = pattern_sort
sort t.Shape.any_pattern = pattern_sort
sort (t.Shape.enum_pattern x y) = pattern_sort
sort _ = expression_sort

-- where a tree stands
pub data Stand : Type 0 where
  -- after a word that a block follows
  as_block : Stand
  -- in a block
  as_part : Stand
  -- in `option`, `logic`, `sync`, `race` and `rush`, and as a condition of an `if`
  as_statement : Stand
  -- as a part of an `if`, and behind the `=` of a function and the `=>` of an arm
  as_body : Stand
  as_expression : Stand
  -- first in a `for`, and behind that
  as_generator as_clause : Stand
  -- in a `case`, and first in an arm
  as_arm as_pattern : Stand

-- which forms may stand there
abbrev pub may_stand : Stand → Sort → Bool
may_stand as_block block_sort = true
may_stand as_part defer_sort = true
may_stand as_part typed_sort = true
may_stand as_part action_sort = true
may_stand as_part expression_sort = true
may_stand as_statement typed_sort = true
may_stand as_statement action_sort = true
may_stand as_statement expression_sort = true
may_stand as_body block_sort = true
may_stand as_body expression_sort = true
may_stand as_expression expression_sort = true
may_stand as_generator generator_sort = true
may_stand as_clause generator_sort = true
may_stand as_clause action_sort = true
may_stand as_clause expression_sort = true
may_stand as_arm arm_sort = true
may_stand as_pattern pattern_sort = true
may_stand _ _ = false

-- a written type: a tuple has two types or more
abbrev mutual
  pub WrittenShaped : Written → Type 0
  WrittenShaped (t.Written.option w) = WrittenShaped w
  WrittenShaped (t.Written.array w) = WrittenShaped w
  WrittenShaped (t.Written.map v w) = WrittenShaped v × WrittenShaped w
  WrittenShaped (t.Written.tuple ws) = TwoWritten ws
  WrittenShaped (t.Written.task w) = WrittenShaped w
  WrittenShaped (t.Written.event w) = WrittenShaped w
  WrittenShaped _ = Unit {0}

  pub AllWritten : Writtens → Type 0
  AllWritten no_writtens = Unit {0}
  AllWritten (more_writtens w ws) = WrittenShaped w × AllWritten ws

  -- one or more
  pub SomeWritten : Writtens → Type 0
  SomeWritten no_writtens = ⊥
  SomeWritten (more_writtens w ws) = WrittenShaped w × AllWritten ws

  -- two or more
  pub TwoWritten : Writtens → Type 0
  TwoWritten no_writtens = ⊥
  TwoWritten (more_writtens w ws) = WrittenShaped w × SomeWritten ws

abbrev mutual
  -- a tree that may stand there, with parts that may stand where they do
  pub Shaped : Stand → Tree → Type 0
  Shaped stand (tree number place s) = (may_stand stand (sort s) ≡ true) × PartsShaped s

  -- the parts of a form
  pub PartsShaped : Shape → Type 0
  PartsShaped (t.Shape.block ts) = AllShaped as_part ts
  PartsShaped (t.Shape.defer a) = Shaped as_block a
  PartsShaped (t.Shape.definition x a) = Shaped as_expression a
  PartsShaped (t.Shape.typed x w a) = WrittenShaped w × Shaped as_expression a
  PartsShaped (t.Shape.variable x w a) = WrittenShaped w × Shaped as_expression a
  PartsShaped (t.Shape.assignment x a b) = Shaped as_expression a × Shaped as_expression b
  PartsShaped (t.Shape.returned a) = Shaped as_expression a
  PartsShaped (t.Shape.if_else ts a b) = SomeShaped as_statement ts × Shaped as_body a ×
      Shaped as_body b
  PartsShaped (t.Shape.if_alone ts a) = SomeShaped as_statement ts × Shaped as_body a
  PartsShaped (t.Shape.chained x a b) = Shaped as_expression a × Shaped as_expression b
  PartsShaped (t.Shape.compared x a b) = Shaped as_expression a × Shaped as_expression b
  PartsShaped (t.Shape.negation a) = Shaped as_expression a
  PartsShaped (t.Shape.minus a) = Shaped as_expression a
  PartsShaped (t.Shape.call a ts) = Shaped as_expression a × AllShaped as_expression ts
  PartsShaped (t.Shape.index a ts) = Shaped as_expression a × AllShaped as_expression ts
  PartsShaped (t.Shape.member a x) = Shaped as_expression a
  PartsShaped (t.Shape.query a) = Shaped as_expression a
  PartsShaped (t.Shape.holes x hs) = SomeHoles hs
  PartsShaped (t.Shape.tuple ts) = TwoShaped ts
  PartsShaped (t.Shape.array ts) = AllShaped as_expression ts
  PartsShaped (t.Shape.option ts) = SomeShaped as_statement ts
  PartsShaped (t.Shape.logic ts) = SomeShaped as_statement ts
  PartsShaped (t.Shape.mapping ps) = PairsShaped ps
  PartsShaped (t.Shape.instance x gs) = GivensShaped gs
  PartsShaped (t.Shape.event w) = WrittenShaped w
  PartsShaped (t.Shape.for_form ts a) = ClausesShaped ts × Shaped as_block a
  PartsShaped (t.Shape.loop_form a) = Shaped as_block a
  PartsShaped (t.Shape.block_form a) = Shaped as_block a
  PartsShaped (t.Shape.branch a) = Shaped as_block a
  PartsShaped (t.Shape.sync ts) = AllShaped as_statement ts
  PartsShaped (t.Shape.race ts) = AllShaped as_statement ts
  PartsShaped (t.Shape.rush ts) = AllShaped as_statement ts
  PartsShaped (t.Shape.cases a ts) = Shaped as_expression a × SomeShaped as_arm ts
  PartsShaped (t.Shape.spawn a) = Shaped as_expression a
  PartsShaped (t.Shape.elements x a) = Shaped as_expression a
  PartsShaped (t.Shape.entries x y a) = Shaped as_expression a
  PartsShaped (t.Shape.range x a b) = Shaped as_expression a × Shaped as_expression b
  PartsShaped (t.Shape.arm a b) = Shaped as_pattern a × Shaped as_body b
  PartsShaped _ = Unit {0}

  pub AllShaped : Stand → Trees → Type 0
  AllShaped stand no_trees = Unit {0}
  AllShaped stand (more_trees a ts) = Shaped stand a × AllShaped stand ts

  -- one or more
  pub SomeShaped : Stand → Trees → Type 0
  SomeShaped stand no_trees = ⊥
  SomeShaped stand (more_trees a ts) = Shaped stand a × AllShaped stand ts

  -- the parts of a tuple, two or more
  pub TwoShaped : Trees → Type 0
  TwoShaped no_trees = ⊥
  TwoShaped (more_trees a ts) = Shaped as_expression a × SomeShaped as_expression ts

  -- what a `for` takes: a generator, and clauses behind it
  pub ClausesShaped : Trees → Type 0
  ClausesShaped no_trees = ⊥
  ClausesShaped (more_trees a ts) = Shaped as_generator a × AllShaped as_clause ts

  pub AllHoles : Holes → Type 0
  AllHoles no_holes = Unit {0}
  AllHoles (more_holes a x hs) = Shaped as_expression a × AllHoles hs

  pub SomeHoles : Holes → Type 0
  SomeHoles no_holes = ⊥
  SomeHoles (more_holes a x hs) = Shaped as_expression a × AllHoles hs

  pub PairsShaped : Pairs → Type 0
  PairsShaped no_pairs = Unit {0}
  PairsShaped (more_pairs a b ps) = Shaped as_expression a × Shaped as_expression b × PairsShaped ps

  pub GivensShaped : Givens → Type 0
  GivensShaped no_givens = Unit {0}
  GivensShaped (more_givens x a gs) = Shaped as_expression a × GivensShaped gs

-- all of a list
module _ {X : Type 0} (Each : X → Type 0) where
  abbrev pub AllOf : List X → Type 0
  AllOf [] = Unit {0}
  AllOf (x ∷ xs) = Each x × AllOf xs

abbrev pub DefaultShaped : Option Tree → Type 0
DefaultShaped None = Unit {0}
DefaultShaped (Some a) = Shaped as_expression a

abbrev pub FieldShaped : FieldTree → Type 0
FieldShaped f = WrittenShaped f.written × DefaultShaped f.default

abbrev pub ParamShaped : ParamTree → Type 0
ParamShaped p = WrittenShaped p.written

abbrev pub FunShaped : FunTree → Type 0
FunShaped f = AllOf ParamShaped f.params × WrittenShaped f.written × Shaped as_body f.body

abbrev pub MemberShaped : MemberTree → Type 0
MemberShaped (i.MemberTree.field f) = FieldShaped f
MemberShaped (i.MemberTree.method f) = FunShaped f

-- names with dots between them, one or more
abbrev pub is_dotted : List Bytes → Bool
is_dotted [] = false
is_dotted (n ∷ ns) = true

abbrev pub DottedShaped : List Bytes → Type 0
DottedShaped ns = is_dotted ns ≡ true

-- a path has one part or more
abbrev pub PathShaped : List (List Bytes) → Type 0
PathShaped [] = ⊥
PathShaped (ns ∷ path) = DottedShaped ns × AllOf DottedShaped path

abbrev pub ItemShaped : ItemTree → Type 0
ItemShaped (i.ItemTree.using u) = PathShaped u.path
ItemShaped (i.ItemTree.enumeration e) = Unit {0}
ItemShaped (i.ItemTree.class c) = AllOf MemberShaped c.members
ItemShaped (i.ItemTree.function f) = FunShaped f

-- the items of a program
abbrev pub ItemsShaped : List ItemTree → Type 0
ItemsShaped is = AllOf ItemShaped is
