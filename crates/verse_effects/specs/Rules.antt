-- The rules of effects, each at a single node.
use Rattle.std.specs.Prelude.{ℕ, Bool, false, not, ◌&&◌, ◌||◌, List, [], ◌∷◌, ◌++◌, Option, None}
use Rattle.verse_base.specs.declared.rules.TheConstants.{UNCAUGHT, NOT_UNDONE}
use Rattle.verse_base.specs.declared.rules.TheConstants.{NOT_ASYNC, SUSPENDS_TRIED}
use Rattle.verse_base.specs.declared.rules.TheConstants.{SPECIFIERS_MISFIT, COMPUTES_MORE, LEAVES}
use Rattle.verse_base.specs.declared.rules.TheConstants.{WRONG_BRACKETS, BEGINS_AGAIN}
use Rattle.verse_base.specs.declared.places.Place.{Place}
use Rattle.verse_tree.specs.ItemTree.{MemberTree, ItemTree}
use Rattle.verse_tree.specs.Tree.{Shape}
use Rattle.verse_tree.specs.PostOrder.{What, program, item, member, parameter, type_name}
use Rattle.verse_tree.specs.PostOrder.{expression}
use Rattle.verse_tree.specs.declared.tables.Names.{Names}
use Rattle.verse_rules_least.specs.Least.{fault_at, first, first_true, Holds, Told, Placed, Broken}
use Rattle.verse_rules_least.specs.Least.{IsLeast, StandsAt}
use Rattle.verse_rules_least.specs.declared.faults.Fault.{Fault}
use Rattle.verse_rules_walk.specs.Around.{Around}
use Rattle.verse_rules_walk.specs.Nodes.{Node, number_of, place_of}
use Rattle.verse_effects.specs.Forms.{can_fail, cannot_undo, is_async, touches, leaves}
use Rattle.verse_effects.specs.Forms.{wrong_brackets, goes_behind, defines_variable}
use Rattle.verse_effects.specs.Specifiers.{item_fits, member_fits}
use Rattle.verse_effects.specs.declared.seen.Seen.{Seen}

-- E060: what can fail stands in no failure context, or a `defer` stands between
abbrev pub fails_uncaught : Names → Around → Shape → Bool
fails_uncaught k w s = can_fail k w s && not w.is_caught

-- E061: what cannot be undone stands in a failure context, in a `defer`, or in what can be undone
-- as a whole
abbrev pub lasts_wrongly : Names → Around → Shape → Bool
lasts_wrongly k w s = cannot_undo k s && (w.is_tried || w.owner.effects.transacts || w.is_deferred)

-- E062: an async form stands in no `suspends` function, or in a `defer`
abbrev pub suspends_wrongly : Names → Around → Shape → Bool
suspends_wrongly k w s = is_async k w s && (not w.owner.effects.suspends || w.is_deferred)

-- E063: an async form stands in a failure context
abbrev pub suspends_tried : Names → Around → Shape → Bool
suspends_tried k w s = is_async k w s && w.is_tried

-- E065: the body of a `computes` function does more than compute
abbrev pub computes_more : Names → List Bool → Around → ℕ → Shape → Bool
computes_more k vars w n s = w.owner.effects.computes && touches k vars w n s

-- E068: what goes on behind is begun again and again
abbrev pub begins_again : Around → Shape → Bool
begins_again w s = goes_behind s && w.repeats

-- E066 is `leaves`, E067 is `wrong_brackets`
abbrev pub expression_rules : Names → List Bool → Around → ℕ → Shape → List (ℕ × Bool)
expression_rules k vars w n s =
    (UNCAUGHT, fails_uncaught k w s)
    ∷ (NOT_UNDONE, lasts_wrongly k w s)
    ∷ (NOT_ASYNC, suspends_wrongly k w s)
    ∷ (SUSPENDS_TRIED, suspends_tried k w s)
    ∷ (COMPUTES_MORE, computes_more k vars w n s)
    ∷ (LEAVES, leaves w s)
    ∷ (WRONG_BRACKETS, wrong_brackets k s)
    ∷ (BEGINS_AGAIN, begins_again w s)
    ∷ []

-- E064: specifiers do not fit
abbrev pub item_rules : ItemTree → List (ℕ × Bool)
item_rules i = (SPECIFIERS_MISFIT, not (item_fits i)) ∷ []

abbrev pub member_rules : MemberTree → List (ℕ × Bool)
member_rules m = (SPECIFIERS_MISFIT, not (member_fits m)) ∷ []

-- the rules at a node, by what it is
abbrev pub rules_of : Names → List Bool → Around → ℕ → What → List (ℕ × Bool)
rules_of k vars w n (expression s) = expression_rules k vars w n s
rules_of k vars w n (item i) = item_rules i
rules_of k vars w n (member m) = member_rules m
rules_of k vars w n (program is) = []
rules_of k vars w n (parameter p) = []
rules_of k vars w n (type_name x) = []

abbrev pub rules_at : Names → List Bool → Node → List (ℕ × Bool)
rules_at k vars v = rules_of k vars v.around v.number v.what

abbrev pub is_variable_node : What → Bool
is_variable_node (expression s) = defines_variable s
is_variable_node (item i) = false
is_variable_node (member m) = false
is_variable_node (program is) = false
is_variable_node (parameter p) = false
is_variable_node (type_name x) = false

-- which nodes define variables so far, and the first fault among them, with one more node
abbrev pub noted : ℕ → Place → Option ℕ → Bool → Seen → Seen
noted n p c defines x = record {
  vars = x.vars ++ defines ∷ [];
  fault =
      first x.fault (fault_at n p c);
}

unfoldable pub step : Names → Node → Seen → Seen
step k v x = noted v.number v.place (first_true (rules_at k x.vars v)) (is_variable_node v.what) x

-- a node breaks the rule c
abbrev pub Breaks : Names → Node → Seen → ℕ → Type 0
Breaks k v x c = Holds (rules_at k x.vars v) c

abbrev pub begun : Seen
begun = record { vars = []; fault = None }

-- the node n breaks the rule c, where these are the nodes of a program
abbrev pub BreaksAt : Names → List Node → ℕ → ℕ → Type 0
BreaksAt k vs = Broken number_of (step k) (Breaks k) vs begun

-- no rule is broken, or the fault is the least and stands at its node
abbrev pub Answers : Names → List Node → Option Fault → Type 0
Answers k vs o = Told number_of (step k) (Breaks k) vs begun o × Placed number_of place_of vs o

abbrev pub IsLeastBroken : Names → List Node → Fault → Type 0
IsLeastBroken k vs f = IsLeast number_of (step k) (Breaks k) vs begun f ×
    StandsAt number_of place_of vs f
