use Rattle.std.proofs.Common.{map}
use Rattle.verse_tree.specs.ItemView.{item_of}
use Rattle.verse_names_scopes.specs.Views.{naming_of}
use Rattle.verse_names_scopes.proofs.Answering.{refs_are, fault_leads, fault_placed}
use Rattle.verse_names_scopes.proofs.bodies.name_bodies.Goals as goal

pub returns-clause-refs : goal.returns-clause-refs
returns-clause-refs c = refs_are (map item_of c.args.tree.now.items) (naming_of c.in_ok-naming.naming) c.in_ok-naming.ensures

pub returns-clause-least : goal.returns-clause-least
returns-clause-least c =
    let is = map item_of c.args.tree.now.items in
    fault_leads is c.args.tree.now.nodes c.requires.numbered (naming_of c.in_ok-naming.naming) c.in_ok-naming.ensures

pub returns-clause-placed : goal.returns-clause-placed
returns-clause-placed c =
    let is = map item_of c.args.tree.now.items in
    fault_placed is c.args.tree.now.nodes c.requires.numbered (naming_of c.in_ok-naming.naming) c.in_ok-naming.ensures
