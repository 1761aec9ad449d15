-- What values of the code stand for.
use Rattle.std.specs.Prelude.{[], Option, Some, None}
use denote.Ref.{Bor}
use Rattle.verse_names_tables.specs.Names.{Table}
use Rattle.verse_names_tables.specs.Views.{table_of}
use Rattle.verse_names_declarations.specs.Lines.{members_view}
use Rattle.verse_names_declarations.specs.declared.members.Members.{Members}
use Rattle.verse_names_scopes.specs.Visible as v
use Rattle.verse_names_scopes.specs.Naming as n
use Rattle.verse_names_scopes.specs.declared.naming.World.{World}
use Rattle.verse_names_scopes.specs.declared.naming.Naming.{Naming}

-- the members that are visible by bare name in the methods of a class
abbrev pub seen_members : Option (Bor Members) → Table
seen_members None = []
seen_members (Some m) = v.bare_table m.now.class (members_view m.now)

abbrev pub world_of : World → v.World
world_of w = record {
  items = table_of w.items.now;
  types = table_of w.types.now;
  members = seen_members w.members;
  class = w.class;
}

abbrev pub naming_of : Naming → n.Naming
naming_of x = record { locals = table_of x.locals; refs = x.refs; fault = x.fault }
