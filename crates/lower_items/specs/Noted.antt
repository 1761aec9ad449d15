-- Numbers with what came first with each; and functions by the numbers of their nodes.
use Rattle.std.specs.Prelude.{ℕ, nat_eq, cond, List, [], ◌∷◌, length, Option, Some, None}
use Rattle.verse_tree.specs.ItemTree.{FunTree, MemberTree, field, method, ItemTree, using}
use Rattle.verse_tree.specs.ItemTree.{enumeration, class, function}
use Rattle.lower_items.specs.declared.noted.Noted.{Noted}

abbrev pub Entries : Type 0
Entries = List (ℕ × ℕ)

abbrev pub entries_of : Noted → Entries
entries_of n = n.map.entries

abbrev pub look : ℕ → Entries → Option ℕ
look x [] = None
look x (e ∷ es) = cond (nat_eq x e.0) (Some e.1) (look x es)

abbrev pub put : ℕ → ℕ → Entries → Entries
put x v [] = (x, v) ∷ []
put x v (e ∷ es) = cond (nat_eq x e.0) ((e.0, v) ∷ es) (e ∷ put x v es)

abbrev pub put_absent : Option ℕ → ℕ → ℕ → Entries → Entries
put_absent None x v es = put x v es
put_absent (Some w) x v es = es

abbrev pub kept : ℕ → ℕ → Entries → Entries
kept x v es = put_absent (look x es) x v es

-- the number of parameters of a function, by the number of its node
abbrev pub fun_noted : FunTree → Entries → Entries
fun_noted f es = kept f.number (length f.params) es

abbrev pub member_noted : MemberTree → Entries → Entries
member_noted (field f) es = es
member_noted (method f) es = fun_noted f es

abbrev pub members_noted : List MemberTree → Entries → Entries
members_noted [] es = es
members_noted (m ∷ ms) es = members_noted ms (member_noted m es)

abbrev pub item_noted : ItemTree → Entries → Entries
item_noted (using u) es = es
item_noted (enumeration e) es = es
item_noted (class c) es = members_noted c.members es
item_noted (function f) es = fun_noted f es

abbrev pub items_noted : List ItemTree → Entries → Entries
items_noted [] es = es
items_noted (i ∷ is) es = items_noted is (item_noted i es)
