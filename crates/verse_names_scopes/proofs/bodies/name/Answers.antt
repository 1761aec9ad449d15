use Rattle.std.proofs.Common.{map, ap, ◌∙◌}
use Rattle.verse_tree.specs.ItemView.{item_of}
use Rattle.verse_tree.specs.PostOrder.{program_place}
use Rattle.verse_names_declarations.specs.Known.{known_of}
use Rattle.verse_names_scopes.specs.Visible.{outside}
use Rattle.verse_names_scopes.specs.Subjects.{quiet}
use Rattle.verse_names_scopes.specs.Scopes.{through_items}
use Rattle.verse_names_scopes.specs.Naming.{Naming, noted, cut_back}
use Rattle.verse_names_scopes.proofs.Answering.{found}
use Rattle.verse_names_scopes.proofs.bodies.name.Goals as goal

pub returns : goal.returns
returns c =
    let k = known_of c.args.known.now in
    let last = c.last_node-last.result in
    let from : Naming → Naming = λ x. noted (outside k) last program_place quiet (through_items noted cut_back k k.items x) in
    let e = c.in_ok-walk_program.ensures ∙ ap from c.new-naming.ensures in
    found k last (map item_of c.args.tree.now.items) _ e c.requires.known c.last_node-last.ensures
