-- What is found at the nodes of a program, and the rules of types that they break.
use Rattle.std.specs.Prelude.{◌≡◌, ℕ, List, take, Option, Some, slice_get}
use Rattle.verse_tree.specs.Tree.{Bytes}
use Rattle.verse_tree.specs.ItemTree.{ItemTree}
use Rattle.verse_tree.specs.declared.tables.Names.{Names}
use Rattle.verse_rules_types.specs.Types.{Ty}
use Rattle.verse_rules_least.specs.declared.faults.Fault.{Fault}
use Rattle.verse_names_declarations.specs.Lines.{Members}
use Rattle.verse_rules_walk.specs.Nodes.{Node, items_nodes}
use Rattle.verse_check_typing.specs.Facts.{World, world_of}
use Rattle.verse_check_typing.specs.Steps.{Sight, facts, judge, seen, BreaksAt, Answers}
use Rattle.verse_check_typing.specs.Steps.{IsLeastBroken}

-- the tables of a program by their parts
abbrev pub world_by : Names → List Members → List (List Bytes) → World
world_by k ms vs = record { names = k; members = ms; values = vs }

-- by the nodes' numbers, where the names of the program stand for this
abbrev pub all_seen : Names → List ItemTree → Sight
all_seen k is = seen (world_of k is) (items_nodes is)

-- the type of each node is the one that it is judged to have by what is found at the nodes before
-- it
abbrev pub AreTypes : World → List Node → List Ty → Type 0
AreTypes k vs ts = (i : ℕ) (v : Node) → slice_get vs i ≡ Some v →
    slice_get ts i ≡ Some (judge (facts k (seen k (take i vs))) v).ty

abbrev pub AreTypesOf : Names → List ItemTree → List Ty → Type 0
AreTypesOf k is ts = AreTypes (world_of k is) (items_nodes is) ts

-- the node n breaks the rule c of types, E050 to E059 or E070
abbrev pub TypesBreak : Names → List ItemTree → ℕ → ℕ → Type 0
TypesBreak k is = BreaksAt (world_of k is) (items_nodes is)

-- no rule of types is broken, or the fault is the least and stands at its node
abbrev pub TellsTypes : Names → List ItemTree → Option Fault → Type 0
TellsTypes k is o = Answers (world_of k is) (items_nodes is) o

abbrev pub IsLeastMistyped : Names → List ItemTree → Fault → Type 0
IsLeastMistyped k is f = IsLeastBroken (world_of k is) (items_nodes is) f
