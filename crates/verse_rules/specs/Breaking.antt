-- What the names of a program break, E040 to E045, and how a program is refused for it.
use Rattle.std.specs.Prelude.{◌⊎◌, ℕ, List}
use Rattle.verse_base.specs.declared.refusals.Refusal.{Refusal}
use Rattle.verse_tree.specs.ItemTree.{ItemTree}
use Rattle.verse_rules_least.specs.Refusals.{IsRefusedFor}
use Rattle.verse_names_items.specs.Nodes.{ItemsBreak, places_in}
use Rattle.verse_names_scopes.specs.Visits.{NamesBreak as BodiesBreak}

-- a node breaks a rule of names, by its number and the rule's code: at items, members and types, or
-- at parameters and in bodies
abbrev pub NamesBreak : List ItemTree → ℕ → ℕ → Type 0
NamesBreak is n c = ItemsBreak is n c ⊎ BodiesBreak is n c

-- a refusal is that of the least rule of names that is broken
abbrev pub IsMisnamed : List ItemTree → Refusal → Type 0
IsMisnamed is r = IsRefusedFor (NamesBreak is) (places_in is) r
