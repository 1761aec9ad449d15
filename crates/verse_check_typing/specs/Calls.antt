-- Calls with round brackets, and with square ones, which are an index behind what is no function.
use Rattle.std.specs.Prelude.{ℕ, zero, suc, ℤ, pos, negsuc, Bool, true, false, not, cond, nat_eq}
use Rattle.std.specs.Prelude.{◌&&◌, length, Option, Some, None}
use Rattle.verse_tree.specs.Tree.{Tree, tree, Shape, Trees, no_trees, more_trees}
use Rattle.verse_tree.specs.Tree as s
use Rattle.verse_rules_types.specs.Types.{Ty, Tys, never, void, int, string, array, mapping, tuple}
use Rattle.verse_rules_types.specs.Types.{no_tys, more_tys, ty_of}
use Rattle.verse_rules_types.specs.Fitting.{fits}
use Rattle.verse_check_typing.specs.Facts.{Facts, classes, type_of, or_never}
use Rattle.verse_check_typing.specs.Parts.{count, first_from, second_from, is_never, is_void}
use Rattle.verse_check_typing.specs.Parts.{is_int, is_quotient}
use Rattle.verse_check_typing.specs.Callees.{Callee, function, print, round, modulo, await, signal}
use Rattle.verse_check_typing.specs.Callees.{item, value}

abbrev pub ty_at : Tys → ℕ → Option Ty
ty_at no_tys i = None
ty_at (more_tys t ts) zero = Some t
ty_at (more_tys t ts) (suc i) = ty_at ts i

abbrev pub literal_place : ℤ → Option ℕ
literal_place (pos n) = Some n
literal_place (negsuc n) = None

-- the place that an int literal names
abbrev pub shape_place : Shape → Option ℕ
shape_place (s.Shape.integer n) = literal_place n
shape_place s = None

abbrev pub tree_place : Tree → Option ℕ
tree_place (tree n p s) = shape_place s

abbrev pub ty_by : Tys → Option ℕ → Option Ty
ty_by ts None = None
ty_by ts (Some i) = ty_at ts i

-- the element of a tuple that the one argument names
abbrev pub named_item : Tys → Trees → Option Ty
named_item us no_trees = None
named_item us (more_trees e no_trees) = ty_by us (tree_place e)
named_item us (more_trees e (more_trees d es)) = None

abbrev pub item_of : Ty → Trees → Option Ty
item_of (tuple us) es = named_item us es
item_of t es = None

-- what one index gives of an array or a map
abbrev pub content_of : Ty → Ty
content_of (array t) = t
content_of (mapping k t) = t
content_of t = never

abbrev pub element_of : Ty → ℕ → Ty
element_of t n = cond (nat_eq n 1) (content_of t) never

abbrev pub call_type : Callee → Trees → Ty
call_type (function g) es = ty_of g.result
call_type print es = void
call_type round es = int
call_type modulo es = int
call_type (await t) es = t
call_type (signal t) es = void
call_type item es = never
call_type (value t) es = or_never (item_of t es)

abbrev pub index_type : Callee → Trees → Ty
index_type (function g) es = ty_of g.result
index_type print es = void
index_type round es = int
index_type modulo es = int
index_type (await t) es = t
index_type (signal t) es = void
index_type item es = never
index_type (value t) es = element_of t (count es)

-- where there is an argument, it fits
abbrev pub would_fit : Facts → Option Ty → Ty → Bool
would_fit f None t = true
would_fit f (Some u) t = fits (classes f) u t

abbrev pub would_be_int : Option Ty → Bool
would_be_int None = true
would_be_int (Some t) = is_int t

abbrev pub is_quotient_shape : Shape → Bool
is_quotient_shape (s.Shape.chained o a b) = is_quotient o
is_quotient_shape s = false

abbrev pub is_quotient_tree : Tree → Bool
is_quotient_tree (tree n p s) = is_quotient_shape s

abbrev pub would_be_quotient : Trees → Bool
would_be_quotient no_trees = true
would_be_quotient (more_trees e es) = is_quotient_tree e

-- the arguments that built-in functions take; those of others are tested one by one
abbrev pub arguments_fit : Facts → Callee → Trees → Bool
arguments_fit f print es = would_fit f (first_from f es) string
arguments_fit f round es = would_be_quotient es
arguments_fit f modulo es = would_be_int (first_from f es) && would_be_int (second_from f es)
arguments_fit f (signal t) es = cond (is_void t) true (would_fit f (first_from f es) t)
arguments_fit f (function g) es = true
arguments_fit f (await t) es = true
arguments_fit f item es = true
arguments_fit f (value t) es = true

abbrev pub index_fits : Facts → Ty → Trees → Bool
index_fits f (array t) es = would_be_int (first_from f es)
index_fits f (mapping k t) es = would_fit f (first_from f es) k
index_fits f t es = false

-- an array with an int or a map with what fits its key; with several arguments it is their number
-- that is wrong
abbrev pub can_index : Facts → Ty → Trees → Bool
can_index f never es = true
can_index f (array t) es = cond (nat_eq (count es) 1) (index_fits f (array t) es) true
can_index f (mapping k t) es = cond (nat_eq (count es) 1) (index_fits f (mapping k t) es) true
can_index f t es = false

abbrev pub indices_fit : Facts → Callee → Trees → Bool
indices_fit f (value t) es = can_index f t es
indices_fit f c es = arguments_fit f c es

-- the number of arguments that a function takes
abbrev pub arguments_wanted : Callee → Option ℕ
arguments_wanted (function g) = Some (length g.params)
arguments_wanted print = Some 1
arguments_wanted round = Some 1
arguments_wanted modulo = Some 2
arguments_wanted (await t) = Some 0
arguments_wanted (signal t) = Some (cond (is_void t) 0 1)
arguments_wanted item = None
arguments_wanted (value t) = None

abbrev pub takes_one_item : Ty → Option ℕ
takes_one_item (tuple us) = Some 1
takes_one_item t = None

abbrev pub takes_one_index : Ty → Option ℕ
takes_one_index (array t) = Some 1
takes_one_index (mapping k t) = Some 1
takes_one_index t = None

abbrev pub call_wanted : Callee → Option ℕ
call_wanted (value t) = takes_one_item t
call_wanted c = arguments_wanted c

abbrev pub index_wanted : Callee → Option ℕ
index_wanted (value t) = takes_one_index t
index_wanted c = arguments_wanted c

abbrev pub are_wanted : Option ℕ → ℕ → Bool
are_wanted None n = true
are_wanted (Some m) n = nat_eq n m

abbrev pub is_tuple_or_never : Ty → Bool
is_tuple_or_never (tuple us) = true
is_tuple_or_never never = true
is_tuple_or_never t = false

abbrev pub can_call : Callee → Bool
can_call item = false
can_call (value t) = is_tuple_or_never t
can_call c = true

-- square brackets behind what is no function are an index
abbrev pub can_stand_indexed : Callee → Bool
can_stand_indexed item = false
can_stand_indexed c = true

abbrev pub is_there : Option Ty → Bool
is_there None = false
is_there (Some t) = true

-- the one argument names an element of the tuple
abbrev pub has_item : Ty → Trees → Bool
has_item (tuple us) es = cond (nat_eq (count es) 1) (is_there (named_item us es)) true
has_item t es = true

abbrev pub has_called_item : Callee → Trees → Bool
has_called_item (value t) es = has_item t es
has_called_item c es = true

abbrev pub is_suspending : Callee → Bool
is_suspending (function g) = g.effects.suspends
is_suspending c = false
