-- To where a Leave leads.
use Rattle.std.specs.Prelude.{ℕ, List}
use Rattle.verse_sorts.specs.Sorts.{Sort}
use Rattle.verse_verify_faults.specs.Stepping.{Goes, behind, leaves}
use Rattle.verse_verify_parts.specs.declared.heres.Here.{Here}
use Rattle.verse_verify_parts.specs.Heres.{code_in, table_in, spot_in}

module _ (h : Here) where
  -- behind it, where it leaves these locals, and these blocks deferred
  abbrev pub goes_behind : List Sort → List ℕ → Goes
  goes_behind ls ds = behind (code_in h) (table_in h) (spot_in h) h.index ls ds

  abbrev pub leaves_in : ℕ → List Sort → List ℕ → List Goes
  leaves_in m ls ds = leaves (code_in h) (table_in h) (spot_in h) h.index m ls ds
