-- What else a fine program has, so that no operation of its code is stuck by construction.
use Rattle.std.specs.Prelude.{◌≡◌, ℕ, List, [], ◌∷◌, Some, None}
use Rattle.verse_tree.specs.Tree.{Tree}
use Rattle.verse_tree.specs.ItemTree.{FieldTree, FunTree, MemberTree, field, method, ItemTree}
use Rattle.verse_tree.specs.ItemTree.{using, enumeration, class, function}
use Rattle.verse_sorts.specs.Sorts.{Sort}
use Rattle.verse_meaning.specs.Programs.{Program, fun_at}
use Rattle.verse_sound_rules.specs.Found.{Found}
use Rattle.verse_sound_rules.specs.Forms.{IsDefault}

module _ (p : Program) (f : Found) where
  -- the tables find a function by a number, and it is no method
  pub record FunctionFound (x : FunTree) : Type 0 where
    pub number : ℕ
    pub found : fun_at p number ≡ Some x
    pub this : (f.signature number).this ≡ None

  pub record MethodFound (x : FunTree) : Type 0 where
    pub number : ℕ
    pub found : fun_at p number ≡ Some x

  -- a default is that of a field of a class
  abbrev pub DefaultFound : FieldTree → Type 0
  DefaultFound d = (b : Tree) → d.default ≡ Some b → (q : Sort) × IsDefault p f b q

  abbrev pub MembersFound : List MemberTree → Type 0
  MembersFound [] = Unit {0}
  MembersFound (field d ∷ ms) = DefaultFound d × MembersFound ms
  MembersFound (method x ∷ ms) = MethodFound x × MembersFound ms

  abbrev pub ItemsFound : List ItemTree → Type 0
  ItemsFound [] = Unit {0}
  ItemsFound (using u ∷ is) = ItemsFound is
  ItemsFound (enumeration e ∷ is) = ItemsFound is
  ItemsFound (class c ∷ is) = MembersFound c.members × ItemsFound is
  ItemsFound (function x ∷ is) = FunctionFound x × ItemsFound is
