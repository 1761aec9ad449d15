-- What is asked of what the checker has found: that bytes can spell its sorts.
use Rattle.std.specs.Prelude.{◌≡◌, ℕ, ◌<◌, length, Some, slice_get}
use Rattle.std.specs.Prelude.{All}
use Rattle.verse_tree.specs.Tree.{Bytes}
use Rattle.verse_tree.specs.declared.tables.ClassInfo.{ClassInfo}
use Rattle.verse_code.specs.declared.codes.Code.{Code}
use Rattle.verse_value.specs.Val.{enum}
use Rattle.verse_meaning.specs.Programs.{Program, enum_value}
use Rattle.verse_sound_rules.specs.Found.{Found}
use Rattle.verse_verify_bytes.specs.Suits.{IsNumber, IsSort, SuitsSort}

-- by how many classes the code has
pub record Spelled (p : Program) (found : Found) (code : Code) : Type 0 where
  -- a level is left for a variable that holds what is of the sort
  pub sort : (n : ℕ) → IsSort code 39 (found.sort n)
  pub key : (n : ℕ) → SuitsSort code (found.key n)
  pub enums : (e k i : ℕ) (x : Bytes) → enum_value p e x ≡ Some (enum k i) → IsNumber k
  pub slots : (c : ℕ) (x : ClassInfo) → slice_get p.names.classes c ≡ Some x →
      (length (found.slots c) ≡ length x.fields) × All (SuitsSort code) (found.slots c)
  pub params : (g : ℕ) → All (SuitsSort code) (found.signature g).params
  pub result : (g : ℕ) → SuitsSort code (found.signature g).result
  -- the object of a method
  pub this : (g c : ℕ) → (found.signature g).this ≡ Some c → c < length p.names.classes
