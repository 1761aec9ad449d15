use Rattle.std.proofs.Common.{inl, inr, Some, ap, sym, ◌∙◌, option_map}
use Rattle.std.specs.Option.{option_copied_mut}
use Rattle.task_tree.specs.Tasks.{Task, task_at}
use Rattle.task_tree.specs.Links.{task_of}
use Rattle.task_tree.proofs.Linking.{walk_is, whole_walk, one_map}
use Rattle.task_tree.proofs.Changing.{item_changed}
use Rattle.task_tree.proofs.tree.TaskTree.get_mut.Goals as goal

pub invariant_of-self-lent : goal.invariant_of-self-lent
invariant_of-self-lent g c = λ w.
    whole_walk _ _ _ _ (item_changed _ _ _ _ _ c.args.id c.in-Some.node.now c.self.invariant c.self.view_is
    (sym c.get_mut.ensures.value ∙ ap option_copied_mut c.in-Some.is) w)

pub returns-in-Some : goal.returns-in-Some
returns-in-Some g c =
    let got = sym c.get_mut.ensures.value ∙ ap option_copied_mut c.in-Some.is in
    let tasks = λ (w : g.row.T.Denot). walk_is _ _ _ _
    (item_changed _ _ _ _ _ c.args.id c.in-Some.node.now c.self.invariant c.self.view_is got w) in
    let seen = sym (ap (option_map (task_of c.args.id)) got) ∙
    (one_map _ _ c.args.id c.self.invariant.linked ∙ ap (task_at c.args.id) c.self.view_is) in (
      (λ i. inl (c.item_mut.result.ghost_name, λ w. tasks w i)),
      record {
        writes_back = tt;
        value = ap (λ item. Some item) c.item_mut.ensures.value ∙
            ap (option_map (λ (t : Task g.row.T.Denot). t.item)) seen;
      },
    )

pub returns-in-None : goal.returns-in-None
returns-in-None g c =
    let got = sym c.get_mut.ensures.value ∙ ap option_copied_mut c.in-None.is in
    let seen = sym (ap (option_map (task_of c.args.id)) got) ∙
    (one_map _ _ c.args.id c.self.invariant.linked ∙ ap (task_at c.args.id) c.self.view_is) in (
      ap inr c.self.view_is,
      record { writes_back = tt; value = ap (option_map (λ (t : Task g.row.T.Denot). t.item)) seen },
    )
