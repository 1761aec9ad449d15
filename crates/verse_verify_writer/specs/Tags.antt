-- The tags of sorts.
use Rattle.std.specs.Prelude.{ℕ}
use Rattle.verse_sorts.specs.Sorts as s
use Rattle.verse_sorts.specs.Sorts.{Sort}

abbrev pub tag_of : Sort → ℕ
tag_of s.none = 0
tag_of s.any = 1
tag_of s.never = 2
tag_of s.unit = 3
tag_of s.nil = 4
tag_of s.int = 5
tag_of s.logic = 6
tag_of s.char = 7
tag_of s.span = 8
tag_of (s.enum e) = 9
tag_of (s.obj c) = 10
tag_of (s.var a) = 11
tag_of (s.event a) = 12
tag_of (s.task a) = 13
tag_of (s.opt a) = 14
tag_of (s.list a) = 15
tag_of (s.map k a) = 16
tag_of (s.tuple xs) = 17
