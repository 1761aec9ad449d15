-- What operations break that are alike.
use Rattle.std.specs.Prelude.{ℕ, List, Option}
use Rattle.verse_verify_faults.specs.Stepping as t
use Rattle.verse_verify_faults.specs.Stepping.{goes_on, counts}
use Rattle.verse_verify_notes.specs.declared.sorts.Sort.{Sort}
use Rattle.verse_verify_parts.specs.declared.heres.Here.{Here}
use Rattle.verse_verify_parts.specs.Heres.{code_in, table_in, spot_in, operands, rule_by}

module _ (h : Here) where
  -- those that push on the operands that are left
  abbrev pub pushing : List t.Made → List Sort → Option ℕ
  pushing made st = rule_by h (goes_on (code_in h) (table_in h) (spot_in h) h.index made
      (operands st))

  -- those that make an int of two
  abbrev pub counting : List Sort → Option ℕ
  counting st = rule_by h (counts (code_in h) (table_in h) (spot_in h) h.index (operands st))
