-- What is found of an accepted program are sorts that bytes can spell.
use Rattle.std.specs.Prelude.{◌≡◌, ℕ, ◌<◌, ◌≤◌, List, map, length, Some, All}
use Rattle.verse_tree.specs.Tree.{Bytes}
use Rattle.verse_tree.specs.ItemView.{item_of}
use Rattle.verse_tree.specs.declared.programs.Program.{Program as Made}
use Rattle.verse_rules.specs.Sound.{completed}
use Rattle.verse_accept.specs.Fronts.{Accepts}
use Rattle.verse_value.specs.Val.{enum}
use Rattle.verse_meaning.specs.Programs.{program_of, enum_value}
use Rattle.verse_code.specs.declared.codes.Code.{Code}
use Rattle.verse_sound_rules.specs.Found.{Found}
use Rattle.verse_verify_bytes.specs.Suits.{IsNumber, IsSort}
use Rattle.verse_accept_fine.specs.Sorted.{sorted}

module _ (c : Code) (levels : ℕ) where
  -- each has at most so many levels, and classes of the code
  pub record AreSpelled (f : Found) : Type 0 where
    pub sort : (n : ℕ) → IsSort c levels (f.sort n)
    pub key : (n : ℕ) → IsSort c levels (f.key n)
    pub slots : (k : ℕ) → All (IsSort c levels) (f.slots k)
    pub params : (g : ℕ) → All (IsSort c levels) (f.signature g).params
    pub result : (g : ℕ) → IsSort c levels (f.signature g).result
    -- the object of a method
    pub this : (g k : ℕ) → (f.signature g).this ≡ Some k → k < length c.classes

-- in a code that has as many classes as the program
abbrev pub AcceptedSpelled : Type 0
AcceptedSpelled = (files : List (List ℕ)) (made : Made) →
    Accepts files (map item_of made.tree.items) →
    (c : Code) → length c.classes ≡ length (completed (map item_of made.tree.items)).classes →
    (levels : ℕ) → 32 ≤ levels → AreSpelled c levels (sorted (map item_of made.tree.items))

-- and enums are numbered by numbers of 32 bits
abbrev pub AcceptedEnums : Type 0
AcceptedEnums = (files : List (List ℕ)) (made : Made) →
    Accepts files (map item_of made.tree.items) → (e k i : ℕ) (x : Bytes) →
    enum_value (program_of made) e x ≡ Some (enum k i) → IsNumber k
