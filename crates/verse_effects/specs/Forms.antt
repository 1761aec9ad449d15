-- Which forms can fail, cannot be undone, suspend, or do more than compute.
use Rattle.std.specs.Prelude.{ℕ, Bool, true, false, cond, not, ◌&&◌, ◌||◌, List, [], ◌∷◌, Option}
use Rattle.std.specs.Prelude.{Some, None, slice_get}
use Rattle.verse_tree.specs.Tree.{Tree, tree, Shape}
use Rattle.verse_tree.specs.Tree as t
use Rattle.verse_tree.specs.FieldLists.{any_var}
use Rattle.verse_tree.specs.declared.tables.Names.{Names}
use Rattle.verse_tree.specs.declared.tables.FieldInfo.{FieldInfo}
use Rattle.verse_tree.specs.declared.tables.ClassInfo.{ClassInfo}
use Rattle.verse_tree.specs.declared.tables.Ref.{Ref}
use Rattle.verse_tree.specs.declared.tables.Ref.TheVariants as ref
use Rattle.verse_tree.specs.declared.exprs.Operator.{Operator}
use Rattle.verse_tree.specs.declared.exprs.Operator.TheVariants as o
use Rattle.verse_rules_walk.specs.Around.{Used, free, callee, object, argument, value, target, base}
use Rattle.verse_rules_walk.specs.Around.{spawned, Around}
use Rattle.verse_effects.specs.Callees.{ref_at, callee_of, is_function, call_fails, call_lasts}
use Rattle.verse_effects.specs.Callees.{call_suspends, call_touches}
use Rattle.verse_effects.specs.declared.callees.Callee.{Callee}

-- a node is on the path of the target of a `set`
abbrev pub is_on_path : Used → Bool
is_on_path target = true
is_on_path base = true
is_on_path free = false
is_on_path callee = false
is_on_path object = false
is_on_path (argument f i) = false
is_on_path (value w) = false
is_on_path spawned = false

abbrev pub is_spawned : Used → Bool
is_spawned spawned = true
is_spawned target = false
is_spawned base = false
is_spawned free = false
is_spawned callee = false
is_spawned object = false
is_spawned (argument f i) = false
is_spawned (value w) = false

abbrev pub is_quotient : Operator → Bool
is_quotient o.Div = true
is_quotient o.Or = false
is_quotient o.And = false
is_quotient o.Add = false
is_quotient o.Sub = false
is_quotient o.Mul = false

-- the target of a `set` ends in an index
abbrev pub is_index : Names → Shape → Bool
is_index k (t.Shape.index a ts) = not (is_function (callee_of k a))
is_index k s = false

abbrev pub ends_in_index : Names → Tree → Bool
ends_in_index k (tree n p s) = is_index k s

-- square brackets behind what is no function are an index, which can fail; on the path of a `set`
-- it is the `set` that can
abbrev pub index_fails : Used → Callee → Bool
index_fails u c = cond (is_function c) (call_fails c) (not (is_on_path u))

abbrev pub can_fail : Names → Around → Shape → Bool
can_fail k w (t.Shape.query a) = true
can_fail k w (t.Shape.compared x a b) = true
can_fail k w (t.Shape.chained x a b) = is_quotient x
can_fail k w (t.Shape.negation a) = true
can_fail k w (t.Shape.assignment m a b) = ends_in_index k a
can_fail k w (t.Shape.call a ts) = call_fails (callee_of k a)
can_fail k w (t.Shape.index a ts) = index_fails w.used (callee_of k a)
can_fail k w s = false

abbrev pub cannot_undo : Names → Shape → Bool
cannot_undo k (t.Shape.call a ts) = call_lasts (callee_of k a)
cannot_undo k (t.Shape.index a ts) = call_lasts (callee_of k a)
cannot_undo k (t.Shape.spawn a) = true
cannot_undo k s = false

abbrev pub is_async : Names → Around → Shape → Bool
is_async k w (t.Shape.call a ts) = call_suspends (is_spawned w.used) (callee_of k a)
is_async k w (t.Shape.index a ts) = call_suspends (is_spawned w.used) (callee_of k a)
is_async k w (t.Shape.sleep n) = true
is_async k w t.Shape.sleep_forever = true
is_async k w (t.Shape.sync ts) = true
is_async k w (t.Shape.race ts) = true
is_async k w (t.Shape.rush ts) = true
is_async k w (t.Shape.branch a) = true
is_async k w s = false

abbrev pub is_var_field : Option FieldInfo → Bool
is_var_field None = false
is_var_field (Some f) = f.is_var

abbrev pub var_field_of : Option ClassInfo → ℕ → Bool
var_field_of None i = false
var_field_of (Some info) i = is_var_field (slice_get info.fields i)

abbrev pub entry_holds : Option Bool → Bool
entry_holds None = false
entry_holds (Some b) = b

-- what is referred to is a variable or a `var` field; which nodes define variables is told by their
-- numbers
abbrev pub is_variable : Names → List Bool → Option Ref → Bool
is_variable k vars (Some (ref.Local n)) = entry_holds (slice_get vars n)
is_variable k vars (Some (ref.Field c i)) = var_field_of (slice_get k.classes c) i
is_variable k vars (Some (ref.Key n)) = false
is_variable k vars (Some (ref.Method c m)) = false
is_variable k vars (Some (ref.Fun f)) = false
is_variable k vars (Some (ref.Class c)) = false
is_variable k vars (Some (ref.Enum e)) = false
is_variable k vars (Some (ref.Builtin b)) = false
is_variable k vars None = false

-- the node with this number reads a variable
abbrev pub reads : Names → List Bool → Around → ℕ → Bool
reads k vars w n = is_variable k vars (ref_at k n) && not (is_on_path w.used)

-- an instance of the class is told from others: it can be changed, or is unique
abbrev pub is_shared_class : Option ClassInfo → Bool
is_shared_class None = false
is_shared_class (Some info) = info.is_unique || any_var info.fields

abbrev pub is_shared : Names → Option Ref → Bool
is_shared k (Some (ref.Class c)) = is_shared_class (slice_get k.classes c)
is_shared k (Some (ref.Local n)) = false
is_shared k (Some (ref.Field c i)) = false
is_shared k (Some (ref.Key n)) = false
is_shared k (Some (ref.Method c m)) = false
is_shared k (Some (ref.Fun f)) = false
is_shared k (Some (ref.Enum e)) = false
is_shared k (Some (ref.Builtin b)) = false
is_shared k None = false

-- what the body of a `computes` function has not
abbrev pub touches : Names → List Bool → Around → ℕ → Shape → Bool
touches k vars w n (t.Shape.assignment m a b) = true
touches k vars w n (t.Shape.variable x ty a) = true
touches k vars w n (t.Shape.name x) = reads k vars w n
touches k vars w n (t.Shape.member a x) = reads k vars w n
touches k vars w n (t.Shape.call a ts) = call_touches (callee_of k a)
touches k vars w n (t.Shape.index a ts) = call_touches (callee_of k a)
touches k vars w n (t.Shape.event ty) = true
touches k vars w n t.Shape.bare_event = true
touches k vars w n (t.Shape.instance x gs) = is_shared k (ref_at k n)
touches k vars w n (t.Shape.spawn a) = true
touches k vars w n s = false

-- `return` or `break` leaves what it may not leave
abbrev pub leaves : Around → Shape → Bool
leaves w (t.Shape.returned a) = not w.may_return
leaves w t.Shape.returned_unit = not w.may_return
leaves w t.Shape.break_form = not w.may_break
leaves w s = false

abbrev pub is_plain_function : Callee → Bool
is_plain_function c = is_function c && not (call_fails c)

-- round brackets where a call can fail, or square ones where a function cannot
abbrev pub wrong_brackets : Names → Shape → Bool
wrong_brackets k (t.Shape.call a ts) = call_fails (callee_of k a)
wrong_brackets k (t.Shape.index a ts) = is_plain_function (callee_of k a)
wrong_brackets k s = false

-- what goes on behind the form that begins it
abbrev pub goes_behind : Shape → Bool
goes_behind (t.Shape.rush ts) = true
goes_behind (t.Shape.branch a) = true
goes_behind s = false

abbrev pub defines_variable : Shape → Bool
defines_variable (t.Shape.variable x ty a) = true
defines_variable s = false
