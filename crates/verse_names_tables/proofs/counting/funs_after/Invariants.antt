use Rattle.std.proofs.Common.{◌≡◌, drop, map}
use Rattle.verse_tree.specs.ItemView.{member_of}
use Rattle.verse_names_tables.specs.Counting.{funs_after}
use Rattle.verse_names_tables.proofs.counting.funs_after.Given as goal

-- what is left, from here on, ends as all does from the start
abbrev pub invariant-members : goal.invariant-members
invariant-members l = funs_after (map member_of (drop l.member-index l.members)) l.at ≡ funs_after (map member_of l.members) l.number
