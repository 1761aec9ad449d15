-- What nodes refer to, by their numbers, and the functions that references stand for.
use Rattle.std.specs.Prelude.{ℕ, Bool, true, false, cond, nat_eq, List, Option, Some, None}
use Rattle.std.specs.Prelude.{slice_get}
use Rattle.verse_tree.specs.declared.tables.Names.{Names}
use Rattle.verse_tree.specs.declared.tables.FunInfo.{FunInfo}
use Rattle.verse_tree.specs.declared.tables.ClassInfo.{ClassInfo}
use Rattle.verse_tree.specs.declared.tables.Ref.{Ref}
use Rattle.verse_tree.specs.declared.tables.Ref.TheVariants as ref
use Rattle.verse_check_typing.specs.declared.builtins.Builtin.{Builtin}
use Rattle.verse_check_typing.specs.declared.builtins.Builtin.TheVariants as b

abbrev pub referred : Option (Option Ref) → Option Ref
referred None = None
referred (Some o) = o

-- what the node with this number refers to
abbrev pub ref_at : List (Option Ref) → ℕ → Option Ref
ref_at rs n = referred (slice_get rs n)

abbrev pub fun_numbered : Names → Option ℕ → Option FunInfo
fun_numbered k None = None
fun_numbered k (Some f) = slice_get k.funs f

-- a method, by its place among those of a class
abbrev pub method_in : Names → ℕ → Option ClassInfo → Option FunInfo
method_in k m None = None
method_in k m (Some c) = fun_numbered k (slice_get c.methods m)

-- the function or method that a reference stands for
abbrev pub function_of : Names → Ref → Option FunInfo
function_of k (ref.Fun f) = slice_get k.funs f
function_of k (ref.Method c m) = method_in k m (slice_get k.classes c)
function_of k (ref.Local n) = None
function_of k (ref.Key n) = None
function_of k (ref.Field c i) = None
function_of k (ref.Class c) = None
function_of k (ref.Enum e) = None
function_of k (ref.Builtin i) = None

abbrev pub function_by : Names → Option Ref → Option FunInfo
function_by k None = None
function_by k (Some r) = function_of k r

-- `Print`, `Floor`, `Ceil` and `Mod` by their numbers
abbrev pub builtin_by : ℕ → Option Builtin
builtin_by i = cond (nat_eq i 0) (Some b.Print)
    (cond (nat_eq i 1) (Some b.Round)
    (cond (nat_eq i 2) (Some b.Round) (cond (nat_eq i 3) (Some b.Modulo) None)))
