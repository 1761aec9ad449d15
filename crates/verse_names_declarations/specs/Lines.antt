-- Classes with their ancestors, and the members that they have from them.
use Rattle.std.specs.Prelude.{ℕ, List, [], map}
use Rattle.verse_tree.specs.Tree.{Bytes}
use Rattle.verse_tree.specs.ItemTree.{MemberTree, field, method}
use Rattle.verse_names_tables.specs.Names.{Roll, call_all}
use Rattle.verse_names_tables.specs.Views.{roll_of}
use Rattle.verse_names_declarations.specs.Known.{Known}
pub use Rattle.verse_names_declarations.specs.Members.{on_class, line, line_of, others, ancestors}
pub use Rattle.verse_names_declarations.specs.Members.{Members, with_field, with_function}
pub use Rattle.verse_names_declarations.specs.Members.{with_member, with_members, with_note}
pub use Rattle.verse_names_declarations.specs.Members.{no_members, with_notes, members_of, stands}
pub use Rattle.verse_names_declarations.specs.Members.{field_entry, method_entry, members_view}
pub use Rattle.verse_names_declarations.specs.Members.{moved, as_of, fun_number, fun_numbers}
pub use Rattle.verse_names_declarations.specs.Members.{or_method, bare}
use Rattle.verse_names_declarations.specs.declared.members.Home.{Home as MadeHome}

-- all members of a class, the root's first
abbrev pub all_members : Known → ℕ → Members
all_members k c = members_of k.notes c (line_of k.outline c)

abbrev pub member_name : MemberTree → Bytes
member_name (field d) = d.name
member_name (method f) = f.name

-- what a member of a class stands beside: the names of the class itself, and what it inherits
pub record Home : Type 0 where
  pub own : Roll
  pub above : Members

-- all members of a class but its own
abbrev pub members_above : Known → ℕ → Members
members_above k c = members_of k.notes c (ancestors k.outline c)

abbrev pub home : Known → ℕ → List MemberTree → Home
home k c ms = record { own = call_all (map member_name ms) []; above = members_above k c }

abbrev pub home_of : MadeHome → Home
home_of h = record { own = roll_of h.own; above = members_view h.above }
