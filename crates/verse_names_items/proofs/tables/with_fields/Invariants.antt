use Rattle.std.proofs.Common.{◌≡◌, ◌++◌, drop, map}
use Rattle.verse_tree.specs.ItemView.{member_of}
use Rattle.verse_rules_types.specs.Types.{field_of}
use Rattle.verse_names_tables.specs.Views.{table_of}
use Rattle.verse_names_items.specs.Tables.{own_fields}
use Rattle.verse_names_items.proofs.tables.with_fields.Given as goal

-- what is done and what is left are all
abbrev pub invariant-members : goal.invariant-members
invariant-members l = map field_of l.found ++ own_fields (table_of l.types) (map member_of (drop l.member-index l.members)) ≡
    map field_of l.fn.fields ++ own_fields (table_of l.types) (map member_of l.members)
