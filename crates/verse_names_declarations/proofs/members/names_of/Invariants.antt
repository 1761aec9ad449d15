use Rattle.std.proofs.Common.{◌≡◌, [], drop, map}
use Rattle.verse_tree.specs.ItemView.{member_of}
use Rattle.verse_names_tables.specs.Names.{call_all}
use Rattle.verse_names_tables.specs.Views.{roll_of}
use Rattle.verse_names_declarations.specs.Lines.{member_name}
use Rattle.verse_names_declarations.proofs.members.names_of.Given as goal

-- what is left, from here on, ends as all does from the start
abbrev pub invariant-members : goal.invariant-members
invariant-members l = call_all (map member_name (map member_of (drop l.member-index l.members))) (roll_of l.found) ≡
    call_all (map member_name (map member_of l.members)) []
