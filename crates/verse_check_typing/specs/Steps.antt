-- What is found at a node, and the pass from node to node.
use Rattle.std.specs.Prelude.{ℕ, Bool, true, false, not, cond, nat_lt, ◌&&◌, List, [], ◌∷◌, ◌++◌}
use Rattle.std.specs.Prelude.{map, Option, Some, None, slice_get}
use Rattle.verse_base.specs.declared.rules.TheConstants.{ALONE, INCOMPARABLE, LACKING, MEMBERLESS}
use Rattle.verse_base.specs.declared.rules.TheConstants.{MISCOUNTED, TYPES_DIFFER, TYPE_TOO_DEEP}
use Rattle.verse_base.specs.declared.rules.TheConstants.{UNCALLABLE, UNCOVERED}
use Rattle.verse_base.specs.declared.rules.TheConstants.{UNROUNDED, UNSETTABLE}
use Rattle.verse_base.specs.declared.places.Place.{Place}
use Rattle.verse_tree.specs.Tree.{Written, Tree, Shape}
use Rattle.verse_tree.specs.Tree as s
use Rattle.verse_tree.specs.ItemTree.{MemberTree, field, method, ItemTree, using, enumeration}
use Rattle.verse_tree.specs.ItemTree.{class, function}
use Rattle.verse_tree.specs.PostOrder.{What, program, item, member, parameter, type_name}
use Rattle.verse_tree.specs.PostOrder.{expression}
use Rattle.verse_tree.specs.declared.tables.Ref.{Ref}
use Rattle.verse_tree.specs.declared.tables.FunInfo.{FunInfo}
use Rattle.verse_tree.specs.declared.tables.Ty.{Ty as Made}
use Rattle.verse_rules_types.specs.Types.{Ty, never, void, ty_of}
use Rattle.verse_rules_types.specs.Fitting.{fits}
use Rattle.verse_names_tables.specs.Functions.{named_type}
use Rattle.verse_rules_least.specs.Least.{each, fault_at, first, first_true, Holds, Told, Placed}
use Rattle.verse_rules_least.specs.Least.{Broken, IsLeast, StandsAt}
use Rattle.verse_rules_least.specs.declared.faults.Fault.{Fault}
use Rattle.verse_check_typing.specs.Refs.{ref_at, function_by}
use Rattle.verse_rules_walk.specs.Around.{Used, free, callee, object, argument, value, target, base}
use Rattle.verse_rules_walk.specs.Around.{spawned, Around}
use Rattle.verse_rules_walk.specs.Nodes.{Node, number_of, place_of}
use Rattle.verse_check_typing.specs.Sets.{with_number}
use Rattle.verse_check_typing.specs.Facts.{World, Facts, classes, named_ref, type_of}
use Rattle.verse_check_typing.specs.Judgement.{Judgement}
use Rattle.verse_check_typing.specs.Members.{member_ref}
use Rattle.verse_check_typing.specs.Rows.{spelled, row}
use Rattle.verse_check_typing.specs.TypeRules.{mismatched, uncallable, miscounted, incomparable}
use Rattle.verse_check_typing.specs.TypeRules.{unsettable, lacking, memberless, alone, uncovered}
use Rattle.verse_check_typing.specs.TypeRules.{unrounded, is_keyless, is_too_deep}

-- the rules of a form, the least code first
abbrev pub form_rules : Facts → Around → ℕ → Shape → List (ℕ × Bool)
form_rules f w n x =
    (TYPES_DIFFER, mismatched f w n x)
    ∷ (UNCALLABLE, uncallable f w n x)
    ∷ (MISCOUNTED, miscounted f x)
    ∷ (INCOMPARABLE, incomparable f x)
    ∷ (UNSETTABLE, unsettable f x)
    ∷ (LACKING, lacking f n x)
    ∷ (MEMBERLESS, memberless f w n x)
    ∷ (ALONE, alone x)
    ∷ (UNCOVERED, uncovered f x)
    ∷ (UNROUNDED, unrounded f w x)
    ∷ []

-- the type of a form, with the least code of these rules that is broken: what the row functions
-- find
abbrev pub formed : Facts → Around → ℕ → Shape → Judgement
formed f w n x = record { ty = row f n x; code = first_true (form_rules f w n x) }

-- with those of its type
abbrev pub expression_rules : Facts → Around → ℕ → Shape → List (ℕ × Bool)
expression_rules f w n x =
    (TYPES_DIFFER, mismatched f w n x)
    ∷ (UNCALLABLE, uncallable f w n x)
    ∷ (MISCOUNTED, miscounted f x)
    ∷ (INCOMPARABLE, incomparable f x)
    ∷ (INCOMPARABLE, is_keyless (row f n x))
    ∷ (UNSETTABLE, unsettable f x)
    ∷ (LACKING, lacking f n x)
    ∷ (MEMBERLESS, memberless f w n x)
    ∷ (ALONE, alone x)
    ∷ (UNCOVERED, uncovered f x)
    ∷ (UNROUNDED, unrounded f w x)
    ∷ (TYPE_TOO_DEEP, is_too_deep (row f n x))
    ∷ []

abbrev pub type_rules : Ty → List (ℕ × Bool)
type_rules t = (INCOMPARABLE, is_keyless t) ∷ (TYPE_TOO_DEEP, is_too_deep t) ∷ []

-- a function's node has the type of its result
abbrev pub item_type : Facts → ItemTree → Ty
item_type f (using u) = void
item_type f (enumeration e) = void
item_type f (class c) = void
item_type f (function g) = spelled f g.written

abbrev pub member_type : Facts → MemberTree → Ty
member_type f (field d) = spelled f d.written
member_type f (method g) = spelled f g.written

-- the type of a node, by the types of those before it
abbrev pub type_by : Facts → ℕ → What → Ty
type_by f n (expression x) = row f n x
type_by f n (item i) = item_type f i
type_by f n (member m) = member_type f m
type_by f n (parameter p) = spelled f p.written
type_by f n (type_name x) = named_type (named_ref f n)
type_by f n (program is) = void

abbrev pub own_rules : Facts → Around → ℕ → What → List (ℕ × Bool)
own_rules f w n (expression x) = expression_rules f w n x
own_rules f w n (item i) = type_rules (item_type f i)
own_rules f w n (member m) = type_rules (member_type f m)
own_rules f w n (parameter p) = type_rules (spelled f p.written)
own_rules f w n (type_name x) = type_rules (named_type (named_ref f n))
own_rules f w n (program is) = []

-- what breaks a rule has the type never
abbrev pub cut : Ty → Option ℕ → Judgement
cut t None = record { ty = t; code = None }
cut t (Some c) = record { ty = never; code = Some c }

abbrev pub own : Facts → Node → Judgement
own f v = cut (type_by f v.number v.what) (first_true (own_rules f v.around v.number v.what))

abbrev pub params_of : Option FunInfo → List Made
params_of None = []
params_of (Some g) = g.params

abbrev pub fits_param : Facts → Ty → Option Made → Bool
fits_param f t None = true
fits_param f t (Some p) = fits (classes f) t (ty_of p)

-- the types of the parameters of what the node with this number stands for
abbrev pub params_at : Facts → ℕ → List Made
params_at f c = params_of (function_by f.world.names (ref_at f.refs c))

-- a value of this type may be used so: it fits the written type or the parameter for which it
-- stands
abbrev pub serves : Facts → Used → Ty → Bool
serves f (value w) t = fits (classes f) t (spelled f w)
serves f (argument c i) t = fits_param f t (slice_get (params_at f c) i)
serves f free t = true
serves f callee t = true
serves f object t = true
serves f target t = true
serves f base t = true
serves f spawned t = true

-- an expression is used as what stands round it says; the names in its type stand there too, and
-- are no values
abbrev pub serves_as : Facts → Used → What → Ty → Bool
serves_as f u (expression x) t = serves f u t
serves_as f u (item i) t = true
serves_as f u (member m) t = true
serves_as f u (parameter p) t = true
serves_as f u (type_name x) t = true
serves_as f u (program is) t = true

-- what serves not breaks E050 and has the type never
abbrev pub served : Bool → Judgement → Judgement
served true j = j
served false j = record { ty = never; code = Some TYPES_DIFFER }

abbrev pub judge : Facts → Node → Judgement
judge f v = served (serves_as f v.around.used v.what (own f v).ty) (own f v)

-- all rules at a node
abbrev pub rules_at : Facts → Node → List (ℕ × Bool)
rules_at f v =
    (TYPES_DIFFER, not (serves_as f v.around.used v.what (own f v).ty))
    ∷ own_rules f v.around v.number v.what

abbrev pub shape_ref : Facts → ℕ → Shape → Option Ref
shape_ref f n (s.Shape.member a x) = member_ref f (type_of f a) x
shape_ref f n x = named_ref f n

-- what a node refers to: a member is found by the type of its object
abbrev pub ref_by : Facts → ℕ → What → Option Ref
ref_by f n (expression x) = shape_ref f n x
ref_by f n (item i) = named_ref f n
ref_by f n (member m) = named_ref f n
ref_by f n (parameter p) = named_ref f n
ref_by f n (type_name x) = named_ref f n
ref_by f n (program is) = named_ref f n

abbrev pub shape_defines : Shape → Bool
shape_defines (s.Shape.variable x w a) = true
shape_defines x = false

abbrev pub defines_variable : What → Bool
defines_variable (expression x) = shape_defines x
defines_variable (item i) = false
defines_variable (member m) = false
defines_variable (parameter p) = false
defines_variable (type_name x) = false
defines_variable (program is) = false

abbrev pub with_loop : Option ℕ → List ℕ → List ℕ
with_loop None ns = ns
with_loop (Some n) ns = with_number n ns

abbrev pub shape_left : Around → Shape → Option ℕ
shape_left w s.Shape.break_form = w.enclosing
shape_left w x = None

-- the loop that a node leaves
abbrev pub loop_left : Around → What → Option ℕ
loop_left w (expression x) = shape_left w x
loop_left w (item i) = None
loop_left w (member m) = None
loop_left w (parameter p) = None
loop_left w (type_name x) = None
loop_left w (program is) = None

-- what was found at the nodes so far
pub record Sight : Type 0 where
  pub types : List Ty
  pub refs : List (Option Ref)
  pub vars : List Bool
  pub left : List ℕ
  pub fault : Option Fault

abbrev pub facts : World → Sight → Facts
facts k x = record { world = k; types = x.types; refs = x.refs; vars = x.vars; left = x.left }

abbrev pub noted : ℕ → Place → Judgement → Option Ref → Bool → List ℕ → Sight → Sight
noted n p j r defines left x = record {
  types = x.types ++ j.ty ∷ [];
  refs = x.refs ++ r ∷ [];
  vars = x.vars ++ defines ∷ [];
  left = left;
  fault = first x.fault (fault_at n p j.code);
}

unfoldable pub step : World → Node → Sight → Sight
step k v x = noted v.number v.place (judge (facts k x) v) (ref_by (facts k x) v.number v.what)
    (defines_variable v.what) (with_loop (loop_left v.around v.what) x.left) x

-- a node breaks the rule c
abbrev pub Breaks : World → Node → Sight → ℕ → Type 0
Breaks k v x c = Holds (rules_at (facts k x) v) c

abbrev pub begun : Sight
begun = record { types = []; refs = []; vars = []; left = []; fault = None }

-- what is found at all nodes
abbrev pub seen : World → List Node → Sight
seen k vs = each (step k) vs begun

-- the node n breaks the rule c, where these are the nodes of a program
abbrev pub BreaksAt : World → List Node → ℕ → ℕ → Type 0
BreaksAt k vs = Broken number_of (step k) (Breaks k) vs begun

-- no rule is broken, or the fault is the least and stands at its node
abbrev pub Answers : World → List Node → Option Fault → Type 0
Answers k vs o = Told number_of (step k) (Breaks k) vs begun o × Placed number_of place_of vs o

abbrev pub IsLeastBroken : World → List Node → Fault → Type 0
IsLeastBroken k vs f = IsLeast number_of (step k) (Breaks k) vs begun f ×
    StandsAt number_of place_of vs f
