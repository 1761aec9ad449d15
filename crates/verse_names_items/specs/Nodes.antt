-- All nodes of a program in written post-order, with what the rules of items and members ask at
-- each.
use Rattle.std.specs.Prelude.{◌≡◌, ℕ, List, [], ◌∷◌, ◌++◌, map, length, Option, Some, None}
use Rattle.verse_base.specs.declared.places.Place.{Place}
use Rattle.verse_base.specs.declared.refusals.Refusal.{Refusal}
use Rattle.verse_tree.specs.Tree.{Written, Writtens, no_writtens, more_writtens}
use Rattle.verse_tree.specs.Tree as t
use Rattle.verse_tree.specs.ItemTree.{FieldTree, ParamTree, FunTree, MemberTree, ItemTree}
use Rattle.verse_tree.specs.ItemTree as i
use Rattle.verse_tree.specs.PostOrder.{Node, post_order, default_order, items_order, program_place}
use Rattle.verse_tree.specs.PostOrder.{program_order}
use Rattle.verse_tree.specs.Numbering.{items_numbered, program_nodes}
use Rattle.verse_rules_least.specs.Least.{first, fault_at, first_true, Holds, Broken}
use Rattle.verse_rules_least.specs.Refusals.{place_at, IsRefusedFor}
use Rattle.verse_rules_least.specs.declared.faults.Fault.{Fault}
use Rattle.verse_names_tables.specs.Counting.{Counted, fun_after}
use Rattle.verse_names_tables.specs.declared.counting.Counts.{Counts}
use Rattle.verse_names_declarations.specs.Known.{Known, known}
use Rattle.verse_names_declarations.specs.Lines.{Home, home}
use Rattle.verse_names_items.specs.Rules.{Subject, quiet, type_name, field, method, enumeration}
use Rattle.verse_names_items.specs.Rules.{class, function, program, rules_at}

pub record Declared : Type 0 where
  pub number : ℕ
  pub place : Place
  pub subject : Subject

abbrev pub number_of : Declared → ℕ
number_of d = d.number

abbrev pub place_of : Declared → Place
place_of d = d.place

abbrev pub one : ℕ → Place → Subject → List Declared
one n p s = record { number = n; place = p; subject = s } ∷ []

-- a node at which no rule of items and members is broken
abbrev pub quiet_node : Node → Declared
quiet_node v = record { number = v.number; place = v.place; subject = quiet }

abbrev mutual
  pub written_declared : Written → List Declared
  written_declared t.Written.int = []
  written_declared t.Written.logic = []
  written_declared t.Written.char = []
  written_declared t.Written.string = []
  written_declared t.Written.void = []
  written_declared (t.Written.named n p x) = one n p (type_name x)
  written_declared (t.Written.option w) = written_declared w
  written_declared (t.Written.array w) = written_declared w
  written_declared (t.Written.task w) = written_declared w
  written_declared (t.Written.map k w) = written_declared k ++ written_declared w
  written_declared (t.Written.tuple ws) = writtens_declared ws
  written_declared (t.Written.event w) = written_declared w
  written_declared t.Written.bare_event = []

  pub writtens_declared : Writtens → List Declared
  writtens_declared no_writtens = []
  writtens_declared (more_writtens w ws) = written_declared w ++ writtens_declared ws

abbrev pub param_declared : ParamTree → List Declared
param_declared p = written_declared p.written ++ one p.number p.place quiet

abbrev pub params_declared : List ParamTree → List Declared
params_declared [] = []
params_declared (p ∷ ps) = param_declared p ++ params_declared ps

abbrev pub fun_declared : FunTree → List Declared
fun_declared f = params_declared f.params ++ written_declared f.written ++
    map quiet_node (post_order f.body)

abbrev pub field_declared : FieldTree → List Declared
field_declared d = written_declared d.written ++ map quiet_node (default_order d.default)

abbrev pub member_declared : Home → ℕ → MemberTree → List Declared
member_declared h n (i.MemberTree.field d) = field_declared d ++ one d.number d.place (field h d)
member_declared h n (i.MemberTree.method f) = fun_declared f ++ one f.number f.place (method h n f)

abbrev pub members_declared : Home → ℕ → List MemberTree → List Declared
members_declared h n [] = []
members_declared h n (m ∷ ms) = member_declared h n m ++ members_declared h (fun_after m n) ms

abbrev pub item_declared : Known → ItemTree → Counts → List Declared
item_declared k (i.ItemTree.using u) n = one u.number u.place quiet
item_declared k (i.ItemTree.enumeration e) n = one e.number e.place (enumeration e)
item_declared k (i.ItemTree.class c) n =
    members_declared (home k n.classes c.members) n.funs c.members ++
    one c.number c.place (class n.classes c)
item_declared k (i.ItemTree.function f) n =
    fun_declared f ++ one f.number f.place (function n.funs f)

abbrev pub items_declared : Known → List Counted → List Declared
items_declared k [] = []
items_declared k (i ∷ is) = item_declared k i.item i.before ++ items_declared k is

abbrev pub program_declared : Known → List ItemTree → List Declared
program_declared k is = items_declared k k.items ++
    one (length (items_order is)) program_place (program is)

abbrev pub fault_of : Known → Declared → Option Fault
fault_of k d = fault_at d.number d.place (first_true (rules_at k d.subject))

-- the pass that keeps the first fault
unfoldable pub keep_fault : Known → Declared → Option Fault → Option Fault
keep_fault k d o = first o (fault_of k d)

-- a rule that is broken at a node, whatever was before it
abbrev pub Breaks : Known → Declared → Option Fault → ℕ → Type 0
Breaks k d o c = Holds (rules_at k d.subject) c

-- the items of a program whose nodes are numbered from 0, and how many nodes it has
abbrev pub IsNumbered : List ItemTree → ℕ → Type 0
IsNumbered is n = (written : List ItemTree) × (is ≡ items_numbered written 0) ×
    (n ≡ program_nodes written)

-- a node breaks a rule of items and members, by its number and the rule's code
abbrev pub ItemsBreak : List ItemTree → ℕ → ℕ → Type 0
ItemsBreak is = Broken number_of (keep_fault (known is)) (Breaks (known is))
    (program_declared (known is) is) None

-- the place of each node of a program, by its number
abbrev pub places_in : List ItemTree → ℕ → Option Place
places_in is = place_at (λ (v : Node). v.place) (program_order is)

-- a fault has the place of the node with its number
abbrev pub IsPlaced : List ItemTree → Option Fault → Type 0
IsPlaced is None = Unit {0}
IsPlaced is (Some f) = places_in is f.node ≡ Some f.place

-- a refusal is that of the least fault of all that items and members break
abbrev pub IsLeastRefusal : List ItemTree → Refusal → Type 0
IsLeastRefusal is r = IsRefusedFor (ItemsBreak is) (places_in is) r
