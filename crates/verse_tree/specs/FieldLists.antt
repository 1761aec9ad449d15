-- Fields that are variables, and fields that have no default.
use Rattle.std.specs.Prelude.{ℕ, ◌+◌, Bool, true, false, cond, List, [], ◌∷◌, ◌++◌, Option, Some, None}
use Rattle.verse_tree.specs.declared.tables.FieldInfo.{FieldInfo}

-- one is a `var` field
abbrev pub any_var : List FieldInfo → Bool
any_var [] = false
any_var (f ∷ fs) = cond f.is_var true (any_var fs)

-- the place of a field, where it has no default
abbrev pub lacking_one : ℕ → Option ℕ → List ℕ
lacking_one n None = n ∷ []
lacking_one n (Some d) = []

-- the places of those that have no default, the first field at the place n
abbrev pub lacking_from : ℕ → List FieldInfo → List ℕ
lacking_from n [] = []
lacking_from n (f ∷ fs) = lacking_one n f.default ++ lacking_from (n + 1) fs
