-- What is found and what is left are all the methods.
use Rattle.std.proofs.Common.{◌≡◌, ◌++◌, drop, map}
use Rattle.verse_tree.specs.ItemView.{member_of}
use Rattle.note_sorts.specs.Owning.{members_owners}
use Rattle.note_sorts.proofs.functions.add_members.Given as goal

abbrev pub invariant-members : goal.invariant-members
invariant-members l = l.found.items ++ members_owners l.class (map member_of (drop l.member-index l.members)) ≡
    l.fn.found.items ++ members_owners l.class (map member_of l.members)
