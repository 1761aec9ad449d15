-- The classes of functions, by the numbers of the functions.
use Rattle.std.specs.Prelude.{ℕ, ◌+◌, List, [], ◌∷◌, ◌++◌, Option, Some, None}
use Rattle.verse_tree.specs.ItemTree.{MemberTree, field, method, ItemTree, using, enumeration}
use Rattle.verse_tree.specs.ItemTree.{class, function}

-- what a member, or an item, adds where so many classes stand before it: methods have their class,
-- functions none
abbrev pub member_owners : ℕ → MemberTree → List (Option ℕ)
member_owners c (field d) = []
member_owners c (method f) = Some c ∷ []

abbrev pub members_owners : ℕ → List MemberTree → List (Option ℕ)
members_owners c [] = []
members_owners c (m ∷ ms) = member_owners c m ++ members_owners c ms

abbrev pub item_owners : ℕ → ItemTree → List (Option ℕ)
item_owners c (using u) = []
item_owners c (enumeration e) = []
item_owners c (class k) = members_owners c k.members
item_owners c (function f) = None ∷ []

abbrev pub classes_behind : ItemTree → ℕ → ℕ
classes_behind (using u) c = c
classes_behind (enumeration e) c = c
classes_behind (class k) c = c + 1
classes_behind (function f) c = c

abbrev pub owners_from : ℕ → List ItemTree → List (Option ℕ)
owners_from c [] = []
owners_from c (i ∷ is) = item_owners c i ++ owners_from (classes_behind i c) is

abbrev pub owners : List ItemTree → List (Option ℕ)
owners = owners_from 0

abbrev pub flat : Option (Option ℕ) → Option ℕ
flat None = None
flat (Some c) = c
