-- The first operations of functions.
use Rattle.std.specs.Prelude.{ℕ, zero, suc, List, [], ◌∷◌, Bool, true, ◌&&◌, cond, min}
use Rattle.verse_code.specs.declared.codes.Func.{Func}
use Rattle.verse_code.specs.declared.codes.Code.{Code}
use Rattle.verse_meaning_state.specs.Waits.{eqn}
use Rattle.verse_sorts.specs.Sorts as s
use Rattle.verse_sorts.specs.Sorts.{Sort}
use Rattle.verse_verify_kept.specs.Notes.{ClassNote, FuncNote}
use Rattle.verse_verify_faults.specs.Fitting.{fit}
use Rattle.verse_verify_faults.specs.Spots.{Spot, Table, spot_at}
use Rattle.verse_verify_faults.specs.Faults.{begins, on_spot, is_none, is_nil}

-- a state with no arm, operand, Try or deferred block
abbrev pub bare : Spot → Bool
bare q =
    is_none q.arm && is_nil q.stack && is_nil q.tries && is_none q.block && is_nil q.outer &&
    eqn q.under 0 && is_nil q.defers

-- sorts ask nothing of locals
abbrev pub all_nothing : List ClassNote → List Sort → Bool
all_nothing cs [] = true
all_nothing cs (a ∷ xs) = fit cs s.none a && all_nothing cs xs

module _ (c : Code) (t : Table) where
  -- the notes at a function's first operation are right
  abbrev pub begins_there : ℕ → Func → FuncNote → Bool
  begins_there k f g = on_spot (spot_at t f.entry) (λ q. begins c t k f g q)

  abbrev pub lesser : ℕ → ℕ → Func → FuncNote → ℕ
  lesser least k f g = cond (begins_there k f g) least (min least f.entry)

  -- the least of a number and the entries at which they are wrong
  abbrev pub least_from : ℕ → ℕ → List Func → List FuncNote → ℕ
  least_from least k [] gs = least
  least_from least k (f ∷ fs) [] = 0
  least_from least k (f ∷ fs) (g ∷ gs) = least_from (lesser least k f g) (suc k) fs gs
