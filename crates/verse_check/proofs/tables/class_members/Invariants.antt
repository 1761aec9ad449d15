use Rattle.std.proofs.Common.{◌≡◌, ◌++◌, drop, map}
use Rattle.verse_rules_types.specs.Types.{classes_of}
use Rattle.verse_names_declarations.specs.Known.{known_of}
use Rattle.verse_names_declarations.specs.Lines.{members_view}
use Rattle.verse_check_typing.specs.Facts.{class_members, members_from}
use Rattle.verse_check.proofs.tables.class_members.Given as goal

-- what is done and what is left are all
abbrev pub invariant-classes : goal.invariant-classes
invariant-classes l =
    map members_view l.found.items ++ members_from (known_of l.known) l.at (classes_of (drop l._class-index l.known.lineage.outline)) ≡
    class_members (known_of l.known)
