-- The type of a form, by the types of its parts: one case for each form.
use Rattle.std.specs.Prelude.{ℕ, ◌-◌, Bool, cond, List, Option, Some, None}
use Rattle.verse_tree.specs.Tree.{Bytes, Tree, tree, Shape}
use Rattle.verse_tree.specs.Tree as s
use Rattle.verse_tree.specs.declared.tables.Ref.{Ref}
use Rattle.verse_tree.specs.declared.tables.Ref.TheVariants as ref
use Rattle.verse_rules_types.specs.Types.{Ty, never, nil, void, int, logic, char, string, enum}
use Rattle.verse_rules_types.specs.Types.{class, option, array, task, event, mapping, tuple}
use Rattle.verse_rules_types.specs.Fitting.{join}
use Rattle.verse_check_typing.specs.Refs.{ref_at}
use Rattle.verse_rules_walk.specs.Nodes.{number_of_tree}
use Rattle.verse_check_typing.specs.Sets.{has_number}
use Rattle.verse_check_typing.specs.Facts.{Facts, classes, named_ref, type_at, type_of}
use Rattle.verse_check_typing.specs.Spelling.{spelled_by}
use Rattle.verse_check_typing.specs.Parts.{types_of, joined, keys_from, values_from, last_type}
use Rattle.verse_check_typing.specs.Parts.{chain_type, compared_type, assigned_type}
use Rattle.verse_check_typing.specs.Parts.{queried_type}
use Rattle.verse_check_typing.specs.Members.{field_type, member_of, part_type, is_value}
use Rattle.verse_check_typing.specs.Callees.{callee_of}
use Rattle.verse_check_typing.specs.Calls.{call_type, index_type, content_of}
use Rattle.verse_check_typing.specs.Loops.{index_of}
use Rattle.verse_check_typing.specs.Cases.{case_type}

-- the type that is written
abbrev pub spelled : Facts → s.Written → Ty
spelled f w = spelled_by f.world.names.refs w

-- a name stands for a value of the type of its definition; K of `K -> V : M` is told by the type of
-- M, the node before
abbrev pub name_type : Facts → Option Ref → Ty
name_type f None = never
name_type f (Some (ref.Local m)) = type_at f.types m
name_type f (Some (ref.Key m)) = index_of (type_at f.types (m - 1))
name_type f (Some (ref.Field c i)) = field_type f c i
name_type f (Some (ref.Method c m)) = never
name_type f (Some (ref.Fun g)) = never
name_type f (Some (ref.Class c)) = never
name_type f (Some (ref.Enum e)) = never
name_type f (Some (ref.Builtin b)) = never

-- of `Self` and of an instance
abbrev pub class_type : Option Ref → Ty
class_type (Some (ref.Class c)) = class c
class_type (Some r) = never
class_type None = never

-- of a pattern `E.v`
abbrev pub value_type : Facts → Option Ref → Bytes → Ty
value_type f (Some (ref.Enum e)) x = cond (is_value f e x) (enum e) never
value_type f (Some r) x = never
value_type f None x = never

abbrev pub loop_type : Bool → Ty
loop_type is_left = cond is_left void never

-- of the form of the node n
abbrev pub row : Facts → ℕ → Shape → Ty
row f n (s.Shape.block ts) = last_type f ts
row f n (s.Shape.defer a) = void
row f n (s.Shape.definition x a) = type_of f a
row f n (s.Shape.typed x w a) = spelled f w
row f n (s.Shape.variable x w a) = spelled f w
row f n (s.Shape.assignment m a b) = assigned_type (classes f) m (type_of f a) (type_of f b)
row f n (s.Shape.returned a) = never
row f n s.Shape.returned_unit = never
row f n s.Shape.break_form = never
row f n (s.Shape.if_else ts a b) = join (classes f) (type_of f a) (type_of f b)
row f n (s.Shape.if_alone ts a) = void
row f n (s.Shape.chained o a b) = chain_type (classes f) o (type_of f a) (type_of f b)
row f n (s.Shape.compared o a b) = compared_type o (type_of f a)
row f n (s.Shape.negation a) = void
row f n (s.Shape.minus a) = int
row f n (s.Shape.call a ts) = call_type (callee_of f a) ts
row f n (s.Shape.index a ts) = index_type (callee_of f a) ts
row f n (s.Shape.member a x) =
    part_type (member_of f (ref_at f.refs (number_of_tree a)) (type_of f a) x)
row f n (s.Shape.query a) = queried_type (type_of f a)
row f n (s.Shape.integer x) = int
row f n (s.Shape.character x) = char
row f n (s.Shape.text x) = string
row f n (s.Shape.holes x hs) = string
row f n s.Shape.truth = logic
row f n s.Shape.falsehood = nil
row f n s.Shape.this = class_type (named_ref f n)
row f n (s.Shape.name x) = name_type f (named_ref f n)
row f n (s.Shape.tuple ts) = tuple (types_of f ts)
row f n (s.Shape.array ts) = array (joined f ts)
row f n (s.Shape.option ts) = option (last_type f ts)
row f n (s.Shape.logic ts) = logic
row f n (s.Shape.mapping ps) = mapping (keys_from f never ps) (values_from f never ps)
row f n (s.Shape.instance x gs) = class_type (named_ref f n)
row f n (s.Shape.event w) = event (spelled f w)
row f n s.Shape.bare_event = event void
row f n (s.Shape.for_form ts a) = array (type_of f a)
row f n (s.Shape.loop_form a) = loop_type (has_number n f.left)
row f n (s.Shape.block_form a) = type_of f a
row f n (s.Shape.branch a) = void
row f n (s.Shape.sync ts) = tuple (types_of f ts)
row f n (s.Shape.race ts) = joined f ts
row f n (s.Shape.rush ts) = joined f ts
row f n (s.Shape.cases a ts) = case_type f (type_of f a) ts
row f n (s.Shape.spawn a) = task (type_of f a)
row f n (s.Shape.sleep x) = void
row f n s.Shape.sleep_forever = void
row f n (s.Shape.elements x a) = content_of (type_of f a)
row f n (s.Shape.entries x y a) = content_of (type_of f a)
row f n (s.Shape.range x a b) = int
row f n (s.Shape.arm a b) = type_of f b
row f n (s.Shape.integer_pattern x) = int
row f n (s.Shape.minus_pattern x) = int
row f n (s.Shape.character_pattern x) = char
row f n (s.Shape.text_pattern x) = string
row f n s.Shape.truth_pattern = logic
row f n s.Shape.falsehood_pattern = nil
row f n s.Shape.any_pattern = never
row f n (s.Shape.enum_pattern x y) = value_type f (named_ref f n) y
