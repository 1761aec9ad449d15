-- How many `defer`s a program has, and how many deferred blocks begin and end in a code.
use Rattle.std.specs.Prelude.{ℕ, ◌+◌, List, [], ◌∷◌}
use Rattle.verse_tree.specs.Tree.{Shape}
use Rattle.verse_tree.specs.Tree as t
use Rattle.verse_tree.specs.PostOrder.{What, expression, Node}
use Rattle.verse_code.specs.declared.operations.Op.{Op}
use Rattle.verse_code.specs.declared.operations.Op.TheVariants as o

-- ---- operations: 1 for one of the kind, 0 for another

-- a deferred block is put by
abbrev pub begins : Op → ℕ
begins (o.Defer l) = 1
begins op = 0

-- the end of a deferred block
abbrev pub ends : Op → ℕ
ends o.DeferEnd = 1
ends op = 0

abbrev pub how_many : (Op → ℕ) → List Op → ℕ
how_many f [] = 0
how_many f (op ∷ ops) = f op + how_many f ops

-- ---- nodes

abbrev pub defers_shape : Shape → ℕ
defers_shape (t.Shape.defer b) = 1
defers_shape s = 0

abbrev pub defers_what : What → ℕ
defers_what (expression s) = defers_shape s
defers_what other = 0

-- how many of the nodes are `defer`s
abbrev pub defers_in : List Node → ℕ
defers_in [] = 0
defers_in (v ∷ vs) = defers_what v.what + defers_in vs
