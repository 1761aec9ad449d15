-- Which shape a kind has with its parts.
use Rattle.verse_tree.specs.Tree.{Bytes, Written, Tree, Trees, Shape}
use Rattle.verse_tree.specs.Tree as t
use Rattle.verse_join_parts.specs.declared.kinds.AppliedKind.{AppliedKind}
use Rattle.verse_join_parts.specs.declared.kinds.AppliedKind.TheVariants as applied
use Rattle.verse_join_parts.specs.declared.kinds.ListKind.{ListKind}
use Rattle.verse_join_parts.specs.declared.kinds.ListKind.TheVariants as list
use Rattle.verse_join_parts.specs.declared.kinds.NamedKind.{NamedKind}
use Rattle.verse_join_parts.specs.declared.kinds.NamedKind.TheVariants as named
use Rattle.verse_join_parts.specs.declared.kinds.PartKind.{PartKind}
use Rattle.verse_join_parts.specs.declared.kinds.PartKind.TheVariants as part
use Rattle.verse_join_parts.specs.declared.kinds.TwoKind.{TwoKind}
use Rattle.verse_join_parts.specs.declared.kinds.TwoKind.TheVariants as two
use Rattle.verse_join_parts.specs.declared.kinds.TypedKind.{TypedKind}
use Rattle.verse_join_parts.specs.declared.kinds.TypedKind.TheVariants as typed

abbrev pub list_shape : ListKind → Trees → Shape
list_shape list.Block ts = t.Shape.block ts
list_shape list.Tuple ts = t.Shape.tuple ts
list_shape list.Array ts = t.Shape.array ts
list_shape list.Option ts = t.Shape.option ts
list_shape list.Logic ts = t.Shape.logic ts
list_shape list.Sync ts = t.Shape.sync ts
list_shape list.Race ts = t.Shape.race ts
list_shape list.Rush ts = t.Shape.rush ts

abbrev pub part_shape : PartKind → Tree → Shape
part_shape part.Defer a = t.Shape.defer a
part_shape part.Not a = t.Shape.negation a
part_shape part.Neg a = t.Shape.minus a
part_shape part.Query a = t.Shape.query a
part_shape part.Loop a = t.Shape.loop_form a
part_shape part.BlockForm a = t.Shape.block_form a
part_shape part.Branch a = t.Shape.branch a
part_shape part.Spawn a = t.Shape.spawn a

abbrev pub named_shape : NamedKind → Bytes → Tree → Shape
named_shape named.Let x a = t.Shape.definition x a
named_shape named.Elements x a = t.Shape.elements x a
named_shape named.Member x a = t.Shape.member a x

abbrev pub two_shape : TwoKind → Tree → Tree → Shape
two_shape (two.Set how) a b = t.Shape.assignment how a b
two_shape (two.Chain operator) a b = t.Shape.chained operator a b
two_shape (two.Compare operator) a b = t.Shape.compared operator a b
two_shape two.Arm a b = t.Shape.arm a b

abbrev pub typed_shape : TypedKind → Bytes → Written → Tree → Shape
typed_shape typed.Def x w a = t.Shape.typed x w a
typed_shape typed.VarDef x w a = t.Shape.variable x w a

abbrev pub applied_shape : AppliedKind → Tree → Trees → Shape
applied_shape applied.Call a ts = t.Shape.call a ts
applied_shape applied.Index a ts = t.Shape.index a ts
