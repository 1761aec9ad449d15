use Rattle.std.proofs.Common.{◌≡◌, drop, map}
use Rattle.verse_tree.specs.ItemView.{member_of}
use Rattle.lower_items.specs.Noted.{entries_of, members_noted}
use Rattle.lower_items.proofs.params.note_members.Given as goal

-- what is left, from here on, ends as all does from the start
abbrev pub invariant-members : goal.invariant-members
invariant-members l = members_noted (map member_of (drop l.member-index l.members)) (entries_of l.found) ≡
    members_noted (map member_of l.members) (entries_of l.fn.found)
