use Rattle.std.proofs.Common.{◌≡◌, map, drop}
use Rattle.verse_tree.specs.ItemView.{member_of}
use Rattle.verse_names_declarations.specs.Known.{known_of}
use Rattle.verse_names_scopes.specs.Scopes.{through_members}
use Rattle.verse_names_scopes.specs.Naming.{noted, cut_back}
use Rattle.verse_names_scopes.specs.Views.{world_of, naming_of}
use Rattle.verse_names_scopes.proofs.items.walk_members.Given as goal

-- what is left, from here on, ends as all does from the start
abbrev pub invariant-members : goal.invariant-members
invariant-members l =
    let ends = through_members noted cut_back (known_of l.known) (world_of l.outer) (world_of l.inner) in
    ends (map member_of (drop l.member-index l.members)) (naming_of l.naming) ≡ ends (map member_of l.members) (naming_of l.fn.naming)
