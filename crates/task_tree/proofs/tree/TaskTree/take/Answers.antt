use Rattle.std.proofs.Common.{ap, sym, ◌∙◌, option_map}
use Rattle.task_tree.specs.Tasks.{task_at}
use Rattle.task_tree.specs.Links.{task_of}
use Rattle.task_tree.proofs.Linking.{walk_is, whole_walk, one_map, live_is}
use Rattle.task_tree.proofs.Taking.{take_out}
use Rattle.task_tree.proofs.tree.TaskTree.take.Goals as goal

pub remove-node-requires : goal.remove-node-requires
remove-node-requires g c = live_is _ _ _ c.args.id c.self.invariant.linked c.self.view_is ∙ c.requires.live

pub invariant_of-self : goal.invariant_of-self
invariant_of-self g c = rw (c.past-self-inside.ensures, c.past-self-inside-2.ensures) (
    whole_walk _ _ _ _ (take_out _ _ _ _ _ _ _ _ _ c.args.id c.remove-node.result c.self.invariant c.self.view_is c.requires.live
    c.requires.childless c.remove-node.ensures.value c.remove-node.ensures.updates c.remove-node.ensures.len c.change_at.ensures
    c.change_at-2.ensures c.change_at-3.ensures))

pub returns-clause-left : goal.returns-clause-left
returns-clause-left g c = rw c.past-self-inside.ensures (
    walk_is _ _ _ _ (take_out _ _ _ _ _ _ _ _ _ c.args.id c.remove-node.result c.self.invariant c.self.view_is c.requires.live
    c.requires.childless c.remove-node.ensures.value c.remove-node.ensures.updates c.remove-node.ensures.len c.change_at.ensures
    c.change_at-2.ensures c.change_at-3.ensures))

pub returns-clause-value : goal.returns-clause-value
returns-clause-value g c =
    sym (ap (option_map (task_of c.args.id)) c.remove-node.ensures.value) ∙
    (one_map _ _ c.args.id c.self.invariant.linked ∙ ap (task_at c.args.id) c.self.view_is)

pub returns-clause-nested : goal.returns-clause-nested
returns-clause-nested g c = rw c.past-self-inside.ensures (
    (whole_walk _ _ _ _ (take_out _ _ _ _ _ _ _ _ _ c.args.id c.remove-node.result c.self.invariant c.self.view_is c.requires.live
    c.requires.childless c.remove-node.ensures.value c.remove-node.ensures.updates c.remove-node.ensures.len c.change_at.ensures
    c.change_at-2.ensures c.change_at-3.ensures)).tree)
