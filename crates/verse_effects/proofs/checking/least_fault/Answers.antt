use Rattle.std.proofs.Common.{map, sym, subst}
use Rattle.verse_tree.specs.ItemView.{item_of}
use Rattle.verse_rules_walk.specs.Nodes.{items_nodes}
use Rattle.verse_effects.specs.Rules.{Answers}
use Rattle.verse_effects.specs.declared.seen.Seen.{Seen}
use Rattle.verse_effects.proofs.Answering.{answers}
use Rattle.verse_effects.proofs.checking.least_fault.Goals as goal

pub returns : goal.returns
returns c =
    let k = c.args.names.now in
    let is = map item_of c.args.tree.now.items in
    subst (λ (x : Seen). Answers k (items_nodes is) x.fault) (sym c.in_ok-seen.ensures) (answers k is c.requires.numbered)
