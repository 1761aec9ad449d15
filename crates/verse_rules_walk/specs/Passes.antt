-- The node that a part of a program is, with what stands round it.
use Rattle.verse_tree.specs.Tree.{Tree, tree}
use Rattle.verse_tree.specs.PostOrder.{type_name, expression}
use Rattle.verse_tree.specs.View.{tree_of}
use Rattle.verse_tree.specs.ItemView.{param_of, member_of, item_of}
use Rattle.verse_rules_walk.specs.Around.{Around}
use Rattle.verse_rules_walk.specs.Nodes.{Node, node}
use Rattle.verse_rules_walk.specs.Nodes as n
use Rattle.verse_rules_walk.specs.declared.passes.Part.{Part}
use Rattle.verse_rules_walk.specs.declared.passes.Part.TheVariants as part

abbrev pub tree_node : Around → Tree → Node
tree_node w (tree n p s) = node n p w (expression s)

abbrev pub part_node : Around → Part → Node
part_node w (part.Item i) = record (n.item_node (item_of i.now)) { around = w }
part_node w (part.Member m) = record (n.member_node (member_of m.now)) { around = w }
part_node w (part.Param p) = record (n.param_node (param_of p.now)) { around = w }
part_node w (part.TypeName t) = node t.now.node t.now.place w (type_name t.now.name)
part_node w (part.Expr e) = tree_node w (tree_of e.now)
