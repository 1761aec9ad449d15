-- What a tree or a node ends as, where a `&mut` to an item is returned.
use Rattle.std.specs.Prelude.{ℕ, List, Option}
use Rattle.std.specs.Borrow.{Lends, LendsIf, Fml, RattleType, MutBor}
use Rattle.task_tree.specs.contracts.tree.TaskTree.{the_row}
use Rattle.task_tree.specs.contracts.nodes.Node.{the_row as node_row}
use Rattle.task_tree.specs.declared.nodes.Node.{Node}
use Rattle.task_tree.specs.Tasks.{Task, with_item}

-- the item is the last one that was written, and at `None` the tree stays as it is
abbrev pub lends_item : (T : RattleType) → MutBor (List (Task T.Denot)) → ℕ →
    Option (MutBor T.Denot) → Fml
lends_item T s n r = LendsIf (the_row T) T s r (with_item n s.now) s.now

abbrev pub lends_node_item : (T : RattleType) → MutBor (Node T.Denot) → MutBor T.Denot → Fml
lends_node_item T s r = Lends (node_row T) T s r (λ item. record s.now { item = item })
