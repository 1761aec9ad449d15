use Rattle.std.proofs.Common.{◌≡◌, map, ◌∙◌}
use Rattle.verse_tree.specs.ItemView.{item_of}
use Rattle.verse_rules_types.specs.Types.{ty_of}
use Rattle.verse_rules.specs.Sound.{completed}
use Rattle.verse_rules.proofs.Judging.{completed_is, types_are, both_lead, both_placed}
use Rattle.verse_rules.proofs.programs.judge.Goals as goal

pub returns-clause-names : goal.returns-clause-names
returns-clause-names c =
    c.with_refs-names.ensures ∙ completed_is (map item_of c.args.tree.now.items) c.args.names c.in_ok-found.found.refs c.requires.names
    c.in_ok-found.ensures.refs

pub returns-clause-types : goal.returns-clause-types
returns-clause-types c =
    types_are (map item_of c.args.tree.now.items) c.args.names (map ty_of c.in_ok-found.found.types) c.requires.names
    c.in_ok-found.ensures.types

pub returns-clause-least : goal.returns-clause-least
returns-clause-least c =
    let names : c.with_refs-names.result ≡ completed (map item_of c.args.tree.now.items) =
    c.with_refs-names.ensures ∙ completed_is (map item_of c.args.tree.now.items) c.args.names c.in_ok-found.found.refs c.requires.names
    c.in_ok-found.ensures.refs in
    both_lead (map item_of c.args.tree.now.items) c.args.names c.with_refs-names.result c.in_ok-found.found.fault c.in_ok-fault.fault
    c.lesser.result c.requires.names names
    c.in_ok-found.ensures.fault c.in_ok-fault.ensures c.lesser.ensures

pub returns-clause-placed : goal.returns-clause-placed
returns-clause-placed c =
    both_placed (map item_of c.args.tree.now.items) c.args.tree.now.nodes c.args.names c.with_refs-names.result c.in_ok-found.found.fault
    c.in_ok-fault.fault c.lesser.result c.requires.numbered
    c.in_ok-found.ensures.fault c.in_ok-fault.ensures c.lesser.ensures
