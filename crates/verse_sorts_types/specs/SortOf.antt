-- The sort of a type.
use Rattle.verse_rules_types.specs.Types as t
use Rattle.verse_rules_types.specs.Types.{Ty, Tys}
use Rattle.verse_sorts.specs.Sorts as s
use Rattle.verse_sorts.specs.Sorts.{Sort, Sorts}

abbrev mutual
  pub sort_of : Ty → Sort
  sort_of t.never = s.never
  sort_of t.nil = s.nil
  sort_of t.void = s.any
  sort_of t.int = s.int
  sort_of t.logic = s.logic
  sort_of t.char = s.char
  sort_of (t.enum e) = s.enum e
  sort_of (t.class c) = s.obj c
  sort_of (t.option a) = s.opt (sort_of a)
  sort_of (t.array a) = s.list (sort_of a)
  sort_of (t.task a) = s.task (sort_of a)
  sort_of (t.event a) = s.event (sort_of a)
  sort_of (t.mapping k a) = s.map (sort_of k) (sort_of a)
  sort_of (t.tuple as1) = s.tuple (sorts_of as1)

  pub sorts_of : Tys → Sorts
  sorts_of t.no_tys = s.no_sorts
  sorts_of (t.more_tys a as1) = s.more_sorts (sort_of a) (sorts_of as1)
