use Rattle.std.proofs.Common.{map, subst, inr, rules}
use Rattle.verse_tree.specs.ItemView.{item_of}
use Rattle.verse_tree.specs.declared.items.Tree.{Tree}
use Rattle.verse_accept.specs.Fronts.{testing}
use Rattle.verse_accept.proofs.programs.accept.Goals as goal

pub returns-clause-accepted : goal.returns-clause-accepted
returns-clause-accepted c = (
  map item_of c.in_ok-tree.tree.items,
  c.in_ok-tree.ensures.made,
  subst (λ (t : Tree). testing.makes (map item_of t.items) (map item_of t.items)) c.get.ensures c.in_ok-checked.ensures.fine,
)

pub returns-in_err-checked-clause-refused : goal.returns-in_err-checked-clause-refused
returns-in_err-checked-clause-refused c r h =
    let refused : testing.refuses (map item_of c.get.result.now.items) r = c.in_err-checked.ensures.refused r (search rules) in
    inr (
      map item_of c.in_ok-tree.tree.items,
      c.in_ok-tree.ensures.made,
      subst (λ (t : Tree). testing.refuses (map item_of t.items) r) c.get.ensures refused,
    )
