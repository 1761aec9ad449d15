-- The types of several parts, and what operators make of types.
use Rattle.std.specs.Prelude.{ℕ, ◌+◌, Bool, true, false, not, cond, ◌&&◌, ◌||◌, List, Option, Some}
use Rattle.std.specs.Prelude.{None}
use Rattle.verse_tree.specs.Tree.{Tree, Trees, no_trees, more_trees, Holes, no_holes, more_holes}
use Rattle.verse_tree.specs.Tree.{Pairs, no_pairs, more_pairs}
use Rattle.verse_tree.specs.declared.exprs.Operator.{Operator}
use Rattle.verse_tree.specs.declared.exprs.Operator.TheVariants as o
use Rattle.verse_tree.specs.declared.exprs.Comparison.{Comparison}
use Rattle.verse_tree.specs.declared.exprs.Comparison.TheVariants as c
use Rattle.verse_tree.specs.declared.exprs.Assign.{Assign}
use Rattle.verse_tree.specs.declared.exprs.Assign.TheVariants as a
use Rattle.verse_rules_types.specs.Types.{Ty, Tys, never, nil, void, int, logic, char, string}
use Rattle.verse_rules_types.specs.Types.{option, array, mapping, no_tys, more_tys, Class}
use Rattle.verse_rules_types.specs.Fitting.{fits, join}
use Rattle.verse_rules_types.specs.Kinds.{is_comparable}
use Rattle.verse_rules_walk.specs.Nodes.{number_of_tree}
use Rattle.verse_check_typing.specs.Facts.{Facts, classes, type_of, type_at, or_never}

abbrev pub count : Trees → ℕ
count no_trees = 0
count (more_trees e es) = count es + 1

abbrev pub types_of : Facts → Trees → Tys
types_of f no_trees = no_tys
types_of f (more_trees e es) = more_tys (type_of f e) (types_of f es)

-- the join of a type and those of the parts
abbrev pub joined_from : Facts → Ty → Trees → Ty
joined_from f t no_trees = t
joined_from f t (more_trees e es) = joined_from f (join (classes f) t (type_of f e)) es

-- the join of no types is never
abbrev pub joined : Facts → Trees → Ty
joined f ts = joined_from f never ts

abbrev pub keys_from : Facts → Ty → Pairs → Ty
keys_from f t no_pairs = t
keys_from f t (more_pairs k e ps) = keys_from f (join (classes f) t (type_of f k)) ps

abbrev pub values_from : Facts → Ty → Pairs → Ty
values_from f t no_pairs = t
values_from f t (more_pairs k e ps) = values_from f (join (classes f) t (type_of f e)) ps

-- the number of the last part
abbrev pub last_from : Option ℕ → Trees → Option ℕ
last_from n no_trees = n
last_from n (more_trees e es) = last_from (Some (number_of_tree e)) es

abbrev pub or_void : Facts → Option ℕ → Ty
or_void f None = void
or_void f (Some n) = type_at f.types n

-- the type of the last part, and void where there is none
abbrev pub last_type : Facts → Trees → Ty
last_type f ts = or_void f (last_from None ts)

abbrev pub first_from : Facts → Trees → Option Ty
first_from f no_trees = None
first_from f (more_trees e es) = Some (type_of f e)

abbrev pub second_from : Facts → Trees → Option Ty
second_from f no_trees = None
second_from f (more_trees e es) = first_from f es

abbrev pub is_never : Ty → Bool
is_never never = true
is_never t = false

abbrev pub is_void : Ty → Bool
is_void void = true
is_void t = false

-- what gives no value counts as an int
abbrev pub is_int : Ty → Bool
is_int int = true
is_int never = true
is_int t = false

abbrev pub are_ints : Ty → Ty → Bool
are_ints t u = is_int t && is_int u

-- ints, or two arrays, whose type is the join; with an array never is never
abbrev pub sum_of : List Class → Ty → Ty → Option Ty
sum_of cs int int = Some int
sum_of cs int never = Some int
sum_of cs never int = Some int
sum_of cs never never = Some int
sum_of cs never (array t) = Some never
sum_of cs (array t) never = Some never
sum_of cs (array t) (array u) = Some (join cs (array t) (array u))
sum_of cs t u = None

abbrev pub is_summed : Option Ty → Bool
is_summed None = false
is_summed (Some t) = true

abbrev pub chain_type : List Class → Operator → Ty → Ty → Ty
chain_type cs o.Or t u = join cs t u
chain_type cs o.And t u = u
chain_type cs o.Add t u = or_never (sum_of cs t u)
chain_type cs o.Sub t u = int
chain_type cs o.Mul t u = int
chain_type cs o.Div t u = int

abbrev pub do_chain : List Class → Operator → Ty → Ty → Bool
do_chain cs o.Or t u = true
do_chain cs o.And t u = true
do_chain cs o.Add t u = is_summed (sum_of cs t u)
do_chain cs o.Sub t u = are_ints t u
do_chain cs o.Mul t u = are_ints t u
do_chain cs o.Div t u = are_ints t u

abbrev pub is_quotient : Operator → Bool
is_quotient o.Div = true
is_quotient o.Or = false
is_quotient o.And = false
is_quotient o.Add = false
is_quotient o.Sub = false
is_quotient o.Mul = false

-- `=` and `<>`
abbrev pub is_equality : Comparison → Bool
is_equality c.Equal = true
is_equality c.Differs = true
is_equality c.Below = false
is_equality c.AtMost = false
is_equality c.Above = false
is_equality c.AtLeast = false

abbrev pub compared_type : Comparison → Ty → Ty
compared_type x t = cond (is_equality x) t int

abbrev pub have_equality : List Class → Ty → Ty → Bool
have_equality cs t u = is_comparable cs (join cs t u)

-- what `set` gives for a place of the first type and a value of the second
abbrev pub assigned_type : List Class → Assign → Ty → Ty → Ty
assigned_type cs a.Set t u = u
assigned_type cs a.Add t u = or_never (sum_of cs t u)
assigned_type cs a.Sub t u = int
assigned_type cs a.Mul t u = int

abbrev pub can_assign : List Class → Assign → Ty → Ty → Bool
can_assign cs a.Set t u = fits cs u t
can_assign cs a.Add t u = is_summed (sum_of cs t u) && fits cs u t
can_assign cs a.Sub t u = are_ints t u
can_assign cs a.Mul t u = are_ints t u

-- of an option its content
abbrev pub queried_type : Ty → Ty
queried_type (option t) = t
queried_type logic = logic
queried_type t = never

abbrev pub can_query : Ty → Bool
can_query (option t) = true
can_query logic = true
can_query nil = true
can_query never = true
can_query t = false

-- what stands in a hole has a text
abbrev pub has_text : List Class → Ty → Bool
has_text cs t = is_int t || fits cs t char || fits cs t string

abbrev pub have_texts : Facts → Holes → Bool
have_texts f no_holes = true
have_texts f (more_holes e bs hs) = has_text (classes f) (type_of f e) && have_texts f hs
