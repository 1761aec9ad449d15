use Rattle.std.proofs.Common.{ap, ◌∙◌}
use Rattle.slab.specs.Slab.{Slab}
use Rattle.task_tree.specs.declared.nodes.Node.{Node}
use Rattle.task_tree.specs.Tasks.{Task}
use Rattle.task_tree.proofs.Linking.{walk_is, whole_walk, same_slots, fresh_is}
use Rattle.task_tree.proofs.Adding.{is_added}
use Rattle.task_tree.proofs.tree.TaskTree.add.Goals as goal

pub invariant_of-self : goal.invariant_of-self
invariant_of-self g c =
    let walked = walk_is _ _ _ _ c.self.invariant in
    whole_walk _ _ _ _ (same_slots c.self.inside.nodes _ _ _ _ (ap (λ (s : Slab (Node g.row.T.Denot)). s.slots) c.in-Err.ensures.err)
    c.self.invariant)

pub returns-in-Err-clause-same : goal.returns-in-Err-clause-same
returns-in-Err-clause-same g c =
    walk_is _ _ _ _ (same_slots c.self.inside.nodes _ _ _ _ (ap (λ (s : Slab (Node g.row.T.Denot)). s.slots) c.in-Err.ensures.err)
    c.self.invariant) ∙ c.self.view_is

pub invariant_of-self-2 : goal.invariant_of-self-2
invariant_of-self-2 g c =
    let t : Task g.row.T.Denot = record { number = c.in-Ok.number; parent = c.args.parent; role = c.args.role; item = c.args.item } in
    whole_walk _ _ _ _ (is_added c.self.inside.nodes c.insert.new.self c.change_at.new.nodes c.change_at-2.new.nodes c.change_at-3.new.nodes
    _ _ _ _ _ c.args.self.now t c.youngest_of-older.result c.end_of-before.result c.behind-behind.result c.self.invariant c.self.view_is
    c.end_of-before.ensures c.requires.parent c.requires.role c.youngest_of-older.ensures c.behind-behind.ensures
    c.in-Ok.ensures.was_vacant c.in-Ok.ensures.updates c.in-Ok.ensures.len c.change_at.ensures c.change_at-2.ensures
    c.change_at-3.ensures c.first_with-self-inside.ensures c.youngest_with-self-inside.ensures)

pub returns-clause-fresh : goal.returns-clause-fresh
returns-clause-fresh g c = fresh_is _ _ _ c.in-Ok.number c.self.invariant.linked c.self.view_is c.in-Ok.ensures.was_vacant

pub returns-clause-added : goal.returns-clause-added
returns-clause-added g c =
    let t : Task g.row.T.Denot = record { number = c.in-Ok.number; parent = c.args.parent; role = c.args.role; item = c.args.item } in
    let e = c.end_of-before.ensures in
    record {
      front = e.front;
      back = e.back;
      was = e.was;
      is = walk_is _ _ _ _ (is_added c.self.inside.nodes c.insert.new.self c.change_at.new.nodes c.change_at-2.new.nodes
          c.change_at-3.new.nodes _ _ _ _ _ c.args.self.now t c.youngest_of-older.result c.end_of-before.result c.behind-behind.result
          c.self.invariant c.self.view_is e c.requires.parent c.requires.role c.youngest_of-older.ensures c.behind-behind.ensures
          c.in-Ok.ensures.was_vacant c.in-Ok.ensures.updates c.in-Ok.ensures.len c.change_at.ensures c.change_at-2.ensures
          c.change_at-3.ensures c.first_with-self-inside.ensures c.youngest_with-self-inside.ensures);
      behind = e.behind;
    }
