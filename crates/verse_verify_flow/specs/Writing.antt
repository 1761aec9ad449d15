-- What operations do that write locals.
use Rattle.std.specs.Prelude.{ℕ, suc, ◌+◌, List, [], ◌∷◌, map, None}
use Rattle.verse_code_machine.specs.Frames.{put}
use Rattle.verse_sorts.specs.Sorts.{Sort}
use Rattle.verse_verify_faults.specs.Stepping as t
use Rattle.verse_verify_faults.specs.Stepping.{Stepped, leads, on_there, to, writing}
use Rattle.verse_verify_parts.specs.declared.heres.Here.{Here}
use Rattle.verse_verify_parts.specs.Heres.{code_in, table_in, spot_in}

module _ (h : Here) where
  abbrev pub locals_in : List t.Made
  locals_in = map t.is (spot_in h).locals

  -- goes on with these locals, of which these are written
  abbrev pub wrote : List t.Made → List ℕ → List Sort → Stepped
  wrote ls ws st = writing (code_in h) (table_in h) (spot_in h) h.index ls ws st

  abbrev pub to_state : ℕ → List Sort → t.Goes
  to_state j st = to (code_in h) (table_in h) (spot_in h) h.index j [] st

  -- a local is written, or also the one behind it
  abbrev pub writes_one : ℕ → t.Made → List Sort → Stepped
  writes_one l m st = on_there 6 (put locals_in l m) (λ ls. wrote ls (l ∷ []) st)

  abbrev pub writes_two : ℕ → (m n : t.Made) → List Sort → Stepped
  writes_two l m n st = on_there 6 (put locals_in l m)
      (λ ls. on_there 6 (put ls (suc l) n) (λ ms. wrote ms (l ∷ suc l ∷ []) st))

  -- a value is taken from a domain: what is written, in turn
  abbrev pub writes_taken : (l d label : ℕ) → t.Made × t.Made × ℕ × t.Made → List Sort → Stepped
  writes_taken l d label q st = on_there 6 (put locals_in d q.0)
      (λ xs. on_there 6 (put xs (suc d) q.1)
      (λ ys. on_there 6 (put ys (l + q.2) q.3)
      (λ zs. leads (to_state (suc h.index) st ∷ record (to_state label st) { locals = zs } ∷ [])
      (l ∷ suc l ∷ d ∷ suc d ∷ []) None)))
