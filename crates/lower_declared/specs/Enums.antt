-- The values of enums.
use Rattle.std.specs.Prelude.{ℕ, suc, List, [], ◌∷◌, Option, Some, None, cond}
use Rattle.verse_tree.specs.Tree.{Bytes}
use Rattle.verse_tree.specs.ItemTree.{EnumTree}
use Rattle.verse_value.specs.Val.{Val, enum}
use Rattle.verse_meaning_state.specs.Waits.{nth}
use Rattle.verse_meaning.specs.Programs.{same_name, value_in}
use Rattle.lower_declared.specs.declared.enums.EnumValue.{EnumValue}

abbrev pub val_of : EnumValue → Val
val_of v = enum v.of v.value

-- the place of a name in a list whose first place is n
abbrev pub place_from : Bytes → List Bytes → (n : ℕ) → Option ℕ
place_from x [] n = None
place_from x (y ∷ ys) n = cond (same_name x y) (Some n) (place_from x ys (suc n))

abbrev pub named_in : List EnumTree → Bytes → Option ℕ → Option Val
named_in es x None = None
named_in es x (Some e) = value_in e x (nth es e)
