-- The names of the operations, in the order of their codes.
use Rattle.std.specs.Prelude.{ℕ, suc, List, [], ◌∷◌, Option, Some, None, codes, slice_get}
use Rattle.std.specs.Prelude.{unwrap_or, nat_eq, if◌then◌else◌, Bool}
use Rattle.std.specs.Cmp.Lexicographic.{pointwise}
use Rattle.verse_code.specs.declared.operations.Op.{Op}
use Rattle.verse_code.specs.Operations.{code_of}

unfoldable pub names : List (List ℕ)
names =
    codes "Int" ∷
    codes "Unit" ∷
    codes "False" ∷
    codes "True" ∷
    codes "Char" ∷
    codes "Text" ∷
    codes "Enum" ∷
    codes "Get" ∷
    codes "Put" ∷
    codes "Drop" ∷
    codes "Add" ∷
    codes "Sub" ∷
    codes "Mul" ∷
    codes "Neg" ∷
    codes "Floor" ∷
    codes "Ceil" ∷
    codes "Mod" ∷
    codes "Concat" ∷
    codes "Join" ∷
    codes "Lt" ∷
    codes "Le" ∷
    codes "Gt" ∷
    codes "Ge" ∷
    codes "Eq" ∷
    codes "Ne" ∷
    codes "Array" ∷
    codes "Map" ∷
    codes "Tuple" ∷
    codes "Some" ∷
    codes "Query" ∷
    codes "Item" ∷
    codes "At" ∷
    codes "Length" ∷
    codes "New" ∷
    codes "Load" ∷
    codes "Store" ∷
    codes "Object" ∷
    codes "Event" ∷
    codes "Jump" ∷
    codes "Same" ∷
    codes "Again" ∷
    codes "Try" ∷
    codes "Commit" ∷
    codes "Undo" ∷
    codes "Fail" ∷
    codes "Call" ∷
    codes "Method" ∷
    codes "Return" ∷
    codes "Each" ∷
    codes "Range" ∷
    codes "Take" ∷
    codes "Append" ∷
    codes "Print" ∷
    codes "Sleep" ∷
    codes "Forever" ∷
    codes "AwaitTask" ∷
    codes "AwaitEvent" ∷
    codes "Signal" ∷
    codes "Spawn" ∷
    codes "SpawnMethod" ∷
    codes "Group" ∷
    codes "Arm" ∷
    codes "Branch" ∷
    codes "ArmEnd" ∷
    codes "Defer" ∷
    codes "Leave" ∷
    codes "DeferEnd" ∷
    []

abbrev pub name_of : Op → List ℕ
name_of op = unwrap_or (slice_get names (code_of op)) []

-- whether two words are the same
abbrev pub is_same : List ℕ → List ℕ → Bool
is_same a b = pointwise nat_eq a b

-- the place of a name among names, of which the first has this place
unfoldable pub place_among : ℕ → List (List ℕ) → List ℕ → Option ℕ
place_among at [] word = None
place_among at (name ∷ others) word =
    if is_same name word then Some at else place_among (suc at) others word

-- the code of the operation of this name
abbrev pub code_named : List ℕ → Option ℕ
code_named word = place_among 0 names word
