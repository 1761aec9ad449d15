-- What is called, by the tables of names.
use Rattle.std.specs.Prelude.{ℕ, Bool, true, false, cond, not, ◌&&◌, ◌||◌, Option, Some, None}
use Rattle.std.specs.Prelude.{slice_get, codes, nat_eq}
use Rattle.std.specs.Str.{bytes_eq}
use Rattle.verse_tree.specs.Tree.{Bytes, Tree, tree, Shape}
use Rattle.verse_tree.specs.Tree as t
use Rattle.verse_tree.specs.declared.tables.Names.{Names}
use Rattle.verse_tree.specs.declared.tables.Effects.{Effects}
use Rattle.verse_tree.specs.declared.tables.FunInfo.{FunInfo}
use Rattle.verse_tree.specs.declared.tables.ClassInfo.{ClassInfo}
use Rattle.verse_tree.specs.declared.tables.Ref.{Ref}
use Rattle.verse_tree.specs.declared.tables.Ref.TheVariants as ref
use Rattle.verse_rules_walk.specs.Nodes.{number_of_tree}
use Rattle.verse_effects.specs.declared.callees.Callee.{Callee}
use Rattle.verse_effects.specs.declared.callees.Callee.TheVariants as c

-- what a node refers to
abbrev pub referred : Option (Option Ref) → Option Ref
referred None = None
referred (Some o) = o

abbrev pub ref_at : Names → ℕ → Option Ref
ref_at k n = referred (slice_get k.refs n)

abbrev pub callee_of_fun : Option FunInfo → Callee
callee_of_fun None = c.Other
callee_of_fun (Some f) = c.Function f.effects

abbrev pub function_at : Names → ℕ → Callee
function_at k f = callee_of_fun (slice_get k.funs f)

abbrev pub callee_of_method : Names → Option ℕ → Callee
callee_of_method k None = c.Other
callee_of_method k (Some f) = function_at k f

abbrev pub callee_of_class : Names → ℕ → Option ClassInfo → Callee
callee_of_class k m None = c.Other
callee_of_class k m (Some info) = callee_of_method k (slice_get info.methods m)

-- `Print`, `Floor`, `Ceil`, `Mod`
abbrev pub builtin : ℕ → Callee
builtin b = cond (nat_eq b 0) c.Print
    (cond (nat_eq b 1) c.Round (cond (nat_eq b 2) c.Round (cond (nat_eq b 3) c.Modulo c.Other)))

abbrev pub callee_of_ref : Names → Ref → Callee
callee_of_ref k (ref.Local n) = c.Other
callee_of_ref k (ref.Key n) = c.Other
callee_of_ref k (ref.Field d i) = c.Other
callee_of_ref k (ref.Method d m) = callee_of_class k m (slice_get k.classes d)
callee_of_ref k (ref.Fun f) = function_at k f
callee_of_ref k (ref.Class d) = c.Other
callee_of_ref k (ref.Enum e) = c.Other
callee_of_ref k (ref.Builtin b) = builtin b

abbrev pub is_enum : Option Ref → Bool
is_enum (Some (ref.Enum e)) = true
is_enum (Some (ref.Local n)) = false
is_enum (Some (ref.Key n)) = false
is_enum (Some (ref.Field d i)) = false
is_enum (Some (ref.Method d m)) = false
is_enum (Some (ref.Fun f)) = false
is_enum (Some (ref.Class d)) = false
is_enum (Some (ref.Builtin b)) = false
is_enum None = false

-- what a member is that is none of a class: behind the name of an enum it is a value
abbrev pub own_member : Bool → Bytes → Callee
own_member true x = c.Other
own_member false x = cond (bytes_eq x (codes "Await")) c.Await
    (cond (bytes_eq x (codes "Signal")) c.Signal c.Other)

abbrev pub callee_by_shape : Names → Shape → Callee
callee_by_shape k (t.Shape.member e x) = own_member (is_enum (ref_at k (number_of_tree e))) x
callee_by_shape k s = c.Other

abbrev pub callee_by_ref : Names → Option Ref → Shape → Callee
callee_by_ref k (Some r) s = callee_of_ref k r
callee_by_ref k None s = callee_by_shape k s

-- what a tree means where it is called or indexed
abbrev pub callee_of : Names → Tree → Callee
callee_of k (tree n p s) = callee_by_ref k (ref_at k n) s

-- a function that neither computes nor transacts cannot be undone
abbrev pub is_lasting : Effects → Bool
is_lasting e = not (e.computes || e.transacts)

abbrev pub is_function : Callee → Bool
is_function c.Other = false
is_function (c.Function e) = true
is_function c.Print = true
is_function c.Round = true
is_function c.Modulo = true
is_function c.Await = true
is_function c.Signal = true

-- a call of it can fail
abbrev pub call_fails : Callee → Bool
call_fails (c.Function e) = e.decides
call_fails c.Modulo = true
call_fails c.Other = false
call_fails c.Print = false
call_fails c.Round = false
call_fails c.Await = false
call_fails c.Signal = false

-- a call of it cannot be undone
abbrev pub call_lasts : Callee → Bool
call_lasts (c.Function e) = is_lasting e && not e.suspends
call_lasts c.Signal = true
call_lasts c.Other = false
call_lasts c.Print = false
call_lasts c.Round = false
call_lasts c.Modulo = false
call_lasts c.Await = false

-- a call of it suspends, but that of a function whose call is spawned
abbrev pub call_suspends : Bool → Callee → Bool
call_suspends spawned (c.Function e) = e.suspends && not spawned
call_suspends spawned c.Await = true
call_suspends spawned c.Other = false
call_suspends spawned c.Print = false
call_suspends spawned c.Round = false
call_suspends spawned c.Modulo = false
call_suspends spawned c.Signal = false

-- a call of it does more than compute
abbrev pub call_touches : Callee → Bool
call_touches (c.Function e) = not e.computes
call_touches c.Print = true
call_touches c.Signal = true
call_touches c.Other = false
call_touches c.Round = false
call_touches c.Modulo = false
call_touches c.Await = false
