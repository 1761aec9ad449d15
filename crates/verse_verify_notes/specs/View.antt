-- Which sorts and notes of the definitions those in memory are.
use Rattle.std.specs.Prelude.{List, map, reverse, Option, option_map}
use Rattle.verse_sorts.specs.Sorts as s
use Rattle.verse_sorts.specs.Sorts.{Sort}
use Rattle.verse_verify_kept.specs.Notes as n
use Rattle.verse_verify_kept.specs.Rules.{sorts}
use Rattle.verse_verify_faults.specs.Spots as p
use Rattle.verse_verify_notes.specs.declared.sorts.Sort.{Sort as Made, Sort-F, fold-Sort}
use Rattle.verse_verify_notes.specs.declared.sorts.Sort.TheOpen as made
use Rattle.verse_verify_notes.specs.declared.notes.ClassNote.{ClassNote}
use Rattle.verse_verify_notes.specs.declared.notes.FuncNote.{FuncNote}
use Rattle.verse_verify_notes.specs.declared.notes.Mark.{Mark}
use Rattle.verse_verify_notes.specs.declared.notes.Spot.{Spot}
use Rattle.verse_verify_notes.specs.declared.notes.Table.{Table}

-- one layer, whose parts are sorts already
abbrev pub sort_step : Sort-F Sort → Sort
sort_step made.None = s.none
sort_step made.Any = s.any
sort_step made.Never = s.never
sort_step made.Unit = s.unit
sort_step made.Nil = s.nil
sort_step made.Int = s.int
sort_step made.Logic = s.logic
sort_step made.Char = s.char
sort_step made.Span = s.span
sort_step (made.Enum e) = s.enum e
sort_step (made.Object c) = s.obj c
sort_step (made.Var a) = s.var a.value
sort_step (made.Event a) = s.event a.value
sort_step (made.Task a) = s.task a.value
sort_step (made.Option a) = s.opt a.value
sort_step (made.List a) = s.list a.value
sort_step (made.Map k a) = s.map k.value a.value
sort_step (made.Tuple xs) = s.tuple (sorts xs.value.items)

abbrev pub sort_of : Made → Sort
sort_of = fold-Sort Sort sort_step

-- the sorts of a list
abbrev pub sorts_of : List Made → List Sort
sorts_of = map sort_of

abbrev pub class_of : ClassNote → n.ClassNote
class_of c = record { parent = c.parent; slots = sorts_of c.slots.items }

abbrev pub classes_of : List ClassNote → List n.ClassNote
classes_of = map class_of

abbrev pub func_of : FuncNote → n.FuncNote
func_of f = record {
  params = sorts_of f.params.items;
  result = sort_of f.result;
  may_fail = f.may_fail;
  may_wait = f.may_wait;
}

abbrev pub mark_of : Mark → p.Mark
mark_of m = record { index = m.index; height = m.height }

abbrev pub spot_of : Spot → p.Spot
spot_of s = record {
  func = s.func;
  arm = option_map sort_of s.arm;
  locals = sorts_of s.locals.value.items;
  stack = reverse (sorts_of s.stack.items);
  tries = reverse (map mark_of s.tries.items);
  block = s.block;
  outer = s.outer.items;
  under = s.under;
  defers = s.defers.items;
}

abbrev pub table_of : Table → p.Table
table_of t = record {
  classes = classes_of t.classes.items;
  functions = map func_of t.functions.items;
  spots = map (option_map spot_of) t.spots.items;
}
