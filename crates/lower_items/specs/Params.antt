-- How many parameters functions have.
use Rattle.std.specs.Prelude.{ℕ, List, length, Option, Some, None, Bool, false, nat_eq}
use Rattle.verse_tree.specs.ItemTree.{FunTree, ItemTree}
use Rattle.verse_tree.specs.declared.tables.FunInfo.{FunInfo}
use Rattle.verse_meaning.specs.Programs.{fun_numbered}
use Rattle.lower_items.specs.Noted.{Entries, look}

abbrev pub params_of : Option FunTree → Option ℕ
params_of None = None
params_of (Some f) = Some (length f.params)

-- of the function of a table
abbrev pub count_at : List ItemTree → FunInfo → Option ℕ
count_at is info = params_of (fun_numbered info.item is)

abbrev pub found_at : Entries → FunInfo → Option ℕ
found_at es info = look info.item es

abbrev pub is_count : Option (Option ℕ) → ℕ → Bool
is_count None n = false
is_count (Some None) n = false
is_count (Some (Some m)) n = nat_eq m n
