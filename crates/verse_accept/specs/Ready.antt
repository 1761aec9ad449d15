-- What is known of each file behind a layer.
use Rattle.std.specs.Prelude.{◌≤◌, ◌*◌, ℕ, List, [], ◌∷◌, length}
use Rattle.std.specs.List.{All}
use Rattle.verse_base.specs.declared.limits.TheConstants.{MOST_FILE_BYTES}
use Rattle.verse_layout.specs.Cells.{Lies}
use Rattle.verse_tree.specs.ItemTree.{ItemTree}
use Rattle.verse_tree.specs.Numbering.{items_nodes}
use Rattle.verse_accept.specs.Fronts.{Cut, Laid}

abbrev pub Each : {A : Type 0} → (A → Type 0) → List A → Type 0
Each P [] = Unit {0}
Each P (a ∷ as1) = P a × Each P as1

abbrev pub IsSmall : List ℕ → Type 0
IsSmall bytes = length bytes ≤ MOST_FILE_BYTES

-- a file that can be laid out
pub record CanBeLaid (c : Cut) : Type 0 where
  pub small : IsSmall c.bytes
  pub lies : All (Lies c.bytes) c.tokens
  pub few : length c.tokens ≤ MOST_FILE_BYTES

-- a file whose items can be read
pub record CanBeRead (l : Laid) : Type 0 where
  pub small : IsSmall l.bytes
  pub few : length l.toks ≤ 4 * MOST_FILE_BYTES

abbrev pub HasFewNodes : List ItemTree → Type 0
HasFewNodes is = items_nodes is ≤ 4 * MOST_FILE_BYTES
