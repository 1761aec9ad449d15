-- Which sorts forms ask for.
use Rattle.verse_sorts.specs.Sorts as s
use Rattle.verse_sorts.specs.Sorts.{Sort}
use Rattle.verse_sound_rules.specs.Found.{Found}
use Rattle.lower_notes.specs.Noting.{key_in, index_in}
use Rattle.note_sorts.specs.declared.kinds.Kind.{Kind}
use Rattle.note_sorts.specs.declared.kinds.Kind.TheVariants as k

abbrev pub kind_sort : Found → Kind → Sort
kind_sort f k.None = s.none
kind_sort f k.Unit = s.unit
kind_sort f k.Nil = s.nil
kind_sort f k.Int = s.int
kind_sort f k.Logic = s.logic
kind_sort f k.Char = s.char
kind_sort f k.Text = s.list s.char
kind_sort f (k.Enum e) = s.enum e
kind_sort f (k.Node n) = f.sort n
kind_sort f (k.Var n) = s.var (f.sort n)
kind_sort f (k.Key n) = f.key n
kind_sort f (k.KeysOf n) = key_in (f.sort n)
kind_sort f (k.Index n m) = index_in (f.sort n) (f.sort m)
