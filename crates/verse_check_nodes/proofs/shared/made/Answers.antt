use Rattle.std.proofs.Common.{◌≡◌, List, map, subst}
use Rattle.std.specs.Prelude.{IfOk}
use Rattle.verse_tree.specs.View.{given_of, givens}
use Rattle.verse_tree.specs.declared.exprs.Given.{Given}
use Rattle.verse_check_typing.specs.Views.{facts_of, judged_of}
use Rattle.verse_check_nodes.specs.Instances.{made_by}
use Rattle.verse_check_nodes.proofs.shared.made.Goals as goal

pub returns : goal.returns
returns c =
    subst (λ (gs : List Given). IfOk c.instance.result
    (λ j. judged_of j ≡ made_by (facts_of c.args.facts.now) c.args.node (givens (map given_of gs)))) c.as_slice.ensures
    c.instance.ensures
