-- Next states, by what makes them differ from the state at the operation.
use Rattle.std.specs.Prelude.{ℕ, suc, List, ◌∷◌, length, map, Option, Some, None}
use Rattle.verse_verify_faults.specs.Stepping as t
use Rattle.verse_verify_faults.specs.Stepping.{Goes, inner, tails, to, arm_at, block_at}
use Rattle.verse_verify_notes.specs.declared.sorts.Sort.{Sort}
use Rattle.verse_verify_notes.specs.View.{sorts_of}
use Rattle.verse_verify_parts.specs.declared.heres.Here.{Here}
use Rattle.verse_verify_parts.specs.declared.mades.Made.{Made}
use Rattle.verse_verify_parts.specs.declared.rows.Write.{Write}
use Rattle.verse_verify_parts.specs.Heres.{code_in, table_in, spot_in, operands}
use Rattle.verse_verify_parts.specs.Mades.{pushed, written}

module _ (h : Here) where
  -- with what was pushed on the operands that are left
  abbrev pub goes_to : ℕ → Option Made → List Sort → Goes
  goes_to j made st = to (code_in h) (table_in h) (spot_in h) h.index j (pushed made) (operands st)

  abbrev pub goes_written : ℕ → List Write → List Sort → Goes
  goes_written j ws st = record (goes_to j None st)
      { locals = written (map t.is (spot_in h).locals) ws }

  -- in a Try more, or in one less
  abbrev pub goes_in : List Sort → Goes
  goes_in st = record (goes_to (suc h.index) None st) {
    tries = Some (record { index = h.index; height = length (spot_in h).stack } ∷
        (spot_in h).tries);
  }

  abbrev pub goes_out : List Sort → List Sort → Goes
  goes_out ls st = record (goes_to (suc h.index) None st)
      { tries = tails (spot_in h).tries; locals = map t.is (sorts_of ls) }

  -- with these blocks deferred
  abbrev pub goes_deferring : ℕ → List ℕ → List Sort → Goes
  goes_deferring j ds st = record (goes_to j None st) { part = inner ds }

  -- with these locals, and these blocks deferred
  abbrev pub goes_left : List Sort → List ℕ → List Sort → Goes
  goes_left ls ds st = record (goes_to (suc h.index) None st) {
    part = inner ds;
    locals = map t.is (sorts_of ls);
  }

  abbrev pub arm_begins : ℕ → Goes
  arm_begins l = arm_at (code_in h) (table_in h) (spot_in h) h.index l

  abbrev pub block_begins : ℕ → ℕ → List Sort → Goes
  block_begins e count ls =
      block_at (code_in h) (table_in h) (spot_in h) h.index e count (sorts_of ls)
