-- What is called or indexed, by what nodes refer to and the types of objects.
use Rattle.std.specs.Prelude.{ℕ, Bool, true, false, cond, Option, Some, None, codes}
use Rattle.std.specs.Str.{bytes_eq}
use Rattle.verse_tree.specs.Tree.{Bytes, Tree, tree, Shape}
use Rattle.verse_tree.specs.Tree as s
use Rattle.verse_tree.specs.declared.tables.FunInfo.{FunInfo}
use Rattle.verse_tree.specs.declared.tables.Ref.{Ref}
use Rattle.verse_tree.specs.declared.tables.Ref.TheVariants as ref
use Rattle.verse_rules_types.specs.Types.{Ty, task, event}
use Rattle.verse_check_typing.specs.Refs.{ref_at, function_of, builtin_by}
use Rattle.verse_check_typing.specs.declared.builtins.Builtin.{Builtin}
use Rattle.verse_check_typing.specs.declared.builtins.Builtin.TheVariants as b
use Rattle.verse_check_typing.specs.Facts.{Facts, type_of, type_at}

pub data Callee : Type 0 where
  -- a function or a method
  function : FunInfo → Callee
  print round modulo : Callee
  -- `Await` of a task or an event, and `Signal`, with what the task or event gives
  await signal : Ty → Callee
  -- the name of a class or an enum
  item : Callee
  -- what has this type
  value : Ty → Callee

abbrev pub builtin_callee : Option Builtin → Ty → Callee
builtin_callee (Some b.Print) t = print
builtin_callee (Some b.Round) t = round
builtin_callee (Some b.Modulo) t = modulo
builtin_callee None t = value t

-- a class or an enum is referred to by its name; other forms that refer to one have its type
abbrev pub item_callee : Shape → Ty → Callee
item_callee (s.Shape.name x) t = item
item_callee s t = value t

abbrev pub plain_callee : Ref → Shape → Ty → Callee
plain_callee (ref.Builtin i) s t = builtin_callee (builtin_by i) t
plain_callee (ref.Class c) s t = item_callee s t
plain_callee (ref.Enum e) s t = item_callee s t
plain_callee (ref.Local n) s t = value t
plain_callee (ref.Key n) s t = value t
plain_callee (ref.Field c i) s t = value t
plain_callee (ref.Method c m) s t = value t
plain_callee (ref.Fun i) s t = value t

abbrev pub function_or : Option FunInfo → Callee → Callee
function_or None c = c
function_or (Some g) c = function g

abbrev pub task_action : Bytes → Ty → Ty → Callee
task_action x u t = cond (bytes_eq x (codes "Await")) (await u) (value t)

abbrev pub event_action : Bytes → Ty → Ty → Callee
event_action x u t = cond (bytes_eq x (codes "Await")) (await u)
    (cond (bytes_eq x (codes "Signal")) (signal u) (value t))

-- a member that refers to nothing, by the type of its object
abbrev pub action_of : Ty → Bytes → Ty → Callee
action_of (task u) x t = task_action x u t
action_of (event u) x t = event_action x u t
action_of v x t = value t

abbrev pub shape_callee : Facts → Shape → Ty → Callee
shape_callee f (s.Shape.member a x) t = action_of (type_of f a) x t
shape_callee f s t = value t

abbrev pub callee_by : Facts → Option Ref → Shape → Ty → Callee
callee_by f None s t = shape_callee f s t
callee_by f (Some r) s t = function_or (function_of f.world.names r) (plain_callee r s t)

-- what a tree means where it is called or indexed
abbrev pub callee_of : Facts → Tree → Callee
callee_of f (tree n p s) = callee_by f (ref_at f.refs n) s (type_at f.types n)
