use Rattle.std.proofs.Common.{◌≡◌, drop, map}
use Rattle.verse_tree.specs.ItemView.{member_of}
use Rattle.verse_names_declarations.specs.Known.{known_of}
use Rattle.verse_names_declarations.specs.Lines.{home_of}
use Rattle.verse_names_items.specs.Faults.{members_fault}
use Rattle.verse_names_items.proofs.faults.members_fault.Given as goal

-- what is left decides
abbrev pub invariant-members : goal.invariant-members
invariant-members l = members_fault (known_of l.known) (home_of l.home) l.at (map member_of (drop l.member-index l.members)) ≡
    members_fault (known_of l.known) (home_of l.home) l.number (map member_of l.members)
