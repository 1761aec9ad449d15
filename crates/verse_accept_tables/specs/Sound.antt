-- What the laws ask of a program: the front end accepts no other one.
use Rattle.std.specs.Prelude.{◌≡◌, ℕ, ◌≤◌, List, map}
use Rattle.verse_tree.specs.ItemTree.{ItemTree}
use Rattle.verse_tree.specs.ItemView.{item_of}
use Rattle.verse_tree.specs.declared.programs.Program.{Program as Made}
use Rattle.verse_names_items.specs.Nodes.{IsNumbered}
use Rattle.verse_rules.specs.Breaking.{NamesBreak}
use Rattle.verse_rules.specs.Sound.{completed, size_of, most_size}

abbrev pub items_of : Made → List ItemTree
items_of made = map item_of made.tree.items

pub record IsSoundProgram (made : Made) : Type 0 where
  -- its tables are made of its items
  pub names : made.names ≡ completed (items_of made)
  -- its nodes are numbered in written post-order
  pub numbered : IsNumbered (items_of made) made.tree.nodes
  -- no rule of names is broken
  pub sound : (n c : ℕ) → NamesBreak (items_of made) n c → ⊥
  pub size : size_of (items_of made) ≤ most_size
