-- A slot of what a sort names, or the rule that is broken, and rows of operations on slots.
use Rattle.std.specs.Prelude.{ℕ, zero, suc, List, [], ◌∷◌, Option, Some, Result, Ok, Err, slice_get}
use Rattle.verse_sorts.specs.Sorts as s
use Rattle.verse_sorts.specs.Sorts.{Sort}
use Rattle.verse_verify_kept.specs.Notes.{ClassNote}
use Rattle.verse_verify_faults.specs.Fitting.{each_fit}
use Rattle.verse_verify_faults.specs.Stepping.{is, need, on_there, pop_all, slots_at, at_path}
use Rattle.verse_verify_faults.specs.Stepping.{may_write, goes_on}
use Rattle.verse_verify_notes.specs.declared.sorts.Sort as made
use Rattle.verse_verify_notes.specs.View.{sort_of, sorts_of}
use Rattle.verse_verify_parts.specs.declared.heres.Here.{Here}
use Rattle.verse_verify_parts.specs.Heres.{code_in, table_in, spot_in, classes_in, operands}
use Rattle.verse_verify_parts.specs.Heres.{rule_by}
use Rattle.verse_verify_operands.specs.Finds.{there}

abbrev pub slot_in : List ClassNote → Sort → ℕ → Result Sort ℕ
slot_in cs (s.var a) zero = Ok a
slot_in cs (s.var a) (suc k) = Err 6
slot_in cs (s.obj c) k = there 6 (slots_at cs (slice_get cs c) k)
slot_in cs s.never k = Ok s.never
slot_in cs a k = Err 5

module _ (h : Here) where
  -- a value is written in a mode to the part of a slot to which indices lead
  abbrev pub writing : (mode : ℕ) (whole value : made.Sort) (path st : List made.Sort) → Option ℕ
  writing mode whole value path st =
      rule_by h (on_there 5 (at_path (classes_in h) (Some (sort_of whole)) (sorts_of path))
      (λ r. need 5 (may_write (classes_in h) mode r (sort_of value))
      (goes_on (code_in h) (table_in h) (spot_in h) h.index (is r ∷ []) (operands st))))

  -- an object of a class is made, whose slots are of so many sorts
  abbrev pub making : (class count : ℕ) (slots st : List made.Sort) → Option ℕ
  making class count slots st = rule_by h
      (pop_all count (operands st) []
      (λ xs rest. need 5 (each_fit (classes_in h) xs (sorts_of slots))
      (goes_on (code_in h) (table_in h) (spot_in h) h.index (is (s.obj class) ∷ []) rest)))
