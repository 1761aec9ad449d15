-- The first fault of items and members, part by part.
use Rattle.std.specs.Prelude.{ℕ, List, [], ◌∷◌, Option, None}
use Rattle.verse_base.specs.declared.places.Place.{Place}
use Rattle.verse_tree.specs.Tree.{Written, Writtens, no_writtens, more_writtens}
use Rattle.verse_tree.specs.Tree as t
use Rattle.verse_tree.specs.ItemTree.{FieldTree, ParamTree, FunTree, MemberTree, ClassTree}
use Rattle.verse_tree.specs.ItemTree.{ItemTree}
use Rattle.verse_tree.specs.ItemTree as i
use Rattle.verse_tree.specs.PostOrder.{program_place}
use Rattle.verse_rules_least.specs.Least.{first, fault_at, first_true}
use Rattle.verse_rules_least.specs.declared.faults.Fault.{Fault}
use Rattle.verse_names_tables.specs.Counting.{Counted, fun_after}
use Rattle.verse_names_tables.specs.declared.counting.Counts.{Counts}
use Rattle.verse_names_declarations.specs.Known.{Known}
use Rattle.verse_names_declarations.specs.Lines.{Home, home}
use Rattle.verse_names_items.specs.Rules.{Subject, type_name, field, method, enumeration, class}
use Rattle.verse_names_items.specs.Rules.{function, program, rules_at}

abbrev pub subject_fault : Known → ℕ → Place → Subject → Option Fault
subject_fault k n p s = fault_at n p (first_true (rules_at k s))

abbrev mutual
  pub written_fault : Known → Written → Option Fault
  written_fault k t.Written.int = None
  written_fault k t.Written.logic = None
  written_fault k t.Written.char = None
  written_fault k t.Written.string = None
  written_fault k t.Written.void = None
  written_fault k (t.Written.named n p x) = subject_fault k n p (type_name x)
  written_fault k (t.Written.option w) = written_fault k w
  written_fault k (t.Written.array w) = written_fault k w
  written_fault k (t.Written.task w) = written_fault k w
  written_fault k (t.Written.map v w) = first (written_fault k v) (written_fault k w)
  written_fault k (t.Written.tuple ws) = writtens_fault k ws
  written_fault k (t.Written.event w) = written_fault k w
  written_fault k t.Written.bare_event = None

  pub writtens_fault : Known → Writtens → Option Fault
  writtens_fault k no_writtens = None
  writtens_fault k (more_writtens w ws) = first (written_fault k w) (writtens_fault k ws)

abbrev pub params_fault : Known → List ParamTree → Option Fault
params_fault k [] = None
params_fault k (p ∷ ps) = first (written_fault k p.written) (params_fault k ps)

abbrev pub fun_fault : Known → FunTree → Option Fault
fun_fault k f = first (params_fault k f.params) (written_fault k f.written)

abbrev pub field_fault : Known → Home → FieldTree → Option Fault
field_fault k h d = first (written_fault k d.written) (subject_fault k d.number d.place (field h d))

abbrev pub method_fault : Known → Home → ℕ → FunTree → Option Fault
method_fault k h n f = first (fun_fault k f) (subject_fault k f.number f.place (method h n f))

abbrev pub member_fault : Known → Home → ℕ → MemberTree → Option Fault
member_fault k h n (i.MemberTree.field d) = field_fault k h d
member_fault k h n (i.MemberTree.method f) = method_fault k h n f

abbrev pub members_fault : Known → Home → ℕ → List MemberTree → Option Fault
members_fault k h n [] = None
members_fault k h n (m ∷ ms) = first (member_fault k h n m) (members_fault k h (fun_after m n) ms)

abbrev pub class_fault : Known → ClassTree → Counts → Option Fault
class_fault k c n = first (members_fault k (home k n.classes c.members) n.funs c.members)
    (subject_fault k c.number c.place (class n.classes c))

abbrev pub function_fault : Known → FunTree → Counts → Option Fault
function_fault k f n = first (fun_fault k f) (subject_fault k f.number f.place (function n.funs f))

abbrev pub item_fault : Known → ItemTree → Counts → Option Fault
item_fault k (i.ItemTree.using u) n = None
item_fault k (i.ItemTree.enumeration e) n = subject_fault k e.number e.place (enumeration e)
item_fault k (i.ItemTree.class c) n = class_fault k c n
item_fault k (i.ItemTree.function f) n = function_fault k f n

abbrev pub items_fault : Known → List Counted → Option Fault
items_fault k [] = None
items_fault k (i ∷ is) = first (item_fault k i.item i.before) (items_fault k is)

-- of all items, and of the program, whose own node has the number n
abbrev pub program_fault : Known → ℕ → List ItemTree → Option Fault
program_fault k n is = first (items_fault k k.items) (subject_fault k n program_place (program is))
