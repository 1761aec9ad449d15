use Rattle.std.proofs.Common.{◌≡◌, ◌++◌, drop, map}
use Rattle.verse_tree.specs.ItemView.{member_of}
use Rattle.verse_names_tables.specs.Views.{table_of}
use Rattle.verse_names_tables.specs.Functions.{function_of}
use Rattle.verse_names_declarations.specs.Known.{members_functions}
use Rattle.verse_names_declarations.proofs.known.add_members.Given as goal

-- what is done and what is left are all
abbrev pub invariant-members : goal.invariant-members
invariant-members l = map function_of l.found ++ members_functions (table_of l.types) (map member_of (drop l.member-index l.members)) ≡
    map function_of l.fn.found ++ members_functions (table_of l.types) (map member_of l.members)
