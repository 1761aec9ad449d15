-- What one item, or one member, adds to the functions of the code.
use Rattle.std.specs.Prelude.{ℕ, ◌+◌, List, [], ◌∷◌, Bool, false}
use Rattle.verse_tree.specs.ItemTree.{MemberTree, field, method, ItemTree, using, enumeration}
use Rattle.verse_tree.specs.ItemTree.{class, function}
use Rattle.verse_meaning.specs.Programs.{same_name, main_name}
use Rattle.verse_meaning.specs.Forms.{this_name}
use Rattle.lower_code.specs.Scopes.{constant_at}
use Rattle.lower_code.specs.Programs.{Body, body_of, methods_in}

abbrev pub method_at : MemberTree → List Body
method_at (field f) = []
method_at (method f) = body_of (constant_at this_name ∷ []) f ∷ []

abbrev pub bodies_at : ItemTree → List Body
bodies_at (using u) = []
bodies_at (enumeration e) = []
bodies_at (class c) = methods_in c.members
bodies_at (function f) = body_of [] f ∷ []

abbrev pub one_method : MemberTree → ℕ
one_method (field f) = 0
one_method (method f) = 1

-- the number behind those of methods, or of the functions of an item
abbrev pub methods_behind : List MemberTree → ℕ → ℕ
methods_behind [] n = n
methods_behind (m ∷ ms) n = methods_behind ms (n + one_method m)

abbrev pub item_behind : ItemTree → ℕ → ℕ
item_behind (using u) n = n
item_behind (enumeration e) n = n
item_behind (class c) n = methods_behind c.members n
item_behind (function f) n = n + 1

abbrev pub is_main : ItemTree → Bool
is_main (using u) = false
is_main (enumeration e) = false
is_main (class c) = false
is_main (function f) = same_name f.name main_name
