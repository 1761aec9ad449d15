use Rattle.std.proofs.Common.{◌≡◌, drop, map}
use Rattle.verse_tree.specs.ItemView.{member_of}
use Rattle.verse_names_declarations.specs.Members.{with_members, members_view}
use Rattle.verse_names_declarations.proofs.members.Members.add_members.Given as goal

-- what is left, from here on, ends as all does from the start
abbrev pub invariant-members : goal.invariant-members
invariant-members l =
    (with_members l.self.class l.at (map member_of (drop l.member-index l.members)) (members_view l.self) ≡
    with_members l.fn.self.class l.fun (map member_of l.members) (members_view l.fn.self))
    × (l.self.class ≡ l.fn.self.class)
