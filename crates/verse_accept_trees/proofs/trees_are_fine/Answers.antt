use Rattle.verse_accept_trees.proofs.Whole.{trees_fine}
use Rattle.verse_accept_trees.proofs.trees_are_fine.Goals as goal

pub returns : goal.returns
returns c = trees_fine (record {
  inner = c.inner_allowed.ensures;
  values = c.values_need.ensures;
  control = c.control_needs.ensures;
  naming = c.naming_needs.ensures;
  plain = c.plain_needs.ensures;
  callees = c.callees_need.ensures;
  targets = c.targets_need.ensures;
})
