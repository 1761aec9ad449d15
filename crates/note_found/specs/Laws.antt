-- What the tables of a program have found, as sorts, and what the checker has found of its items.
use Rattle.std.specs.Prelude.{◌≡◌, ℕ, map}
use Rattle.verse_tree.specs.declared.programs.Program.{Program}
use Rattle.verse_rules_types.specs.Types.{ty_of}
use Rattle.verse_rules.specs.Sound.{completed, types_of}
use Rattle.verse_sound_rules.specs.Found.{Found}
use Rattle.verse_accept_fine.specs.Sorted.{sorted}
use Rattle.note_sorts.specs.Tabled.{items, found_of}

-- by each number of a node, of a class and of a function
pub record Agree (f g : Found) : Type 0 where
  pub sort : (n : ℕ) → f.sort n ≡ g.sort n
  pub key : (n : ℕ) → f.key n ≡ g.key n
  pub is_var : (n : ℕ) → f.is_var n ≡ g.is_var n
  pub up : (class : ℕ) → f.up class ≡ g.up class
  pub slots : (class : ℕ) → f.slots class ≡ g.slots class
  pub signature : (function : ℕ) → f.signature function ≡ g.signature function

-- where the tables and the types are those that the front end answers for the items
abbrev pub TablesAgree : Type 0
TablesAgree = (p : Program) → p.names ≡ completed (items p) →
    map ty_of p.typed.types ≡ types_of (items p) → Agree (found_of p) (sorted (items p))
