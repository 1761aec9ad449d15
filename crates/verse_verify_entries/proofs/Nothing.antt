-- Locals of which nothing is asked, and functions without notes.
use Rattle.std.proofs.Common.{◌≡◌, ℕ, zero, suc, ◌<◌, List, [], ◌∷◌, length, map, drop, true, false, refl, sym, ap, ◌∙◌, arith}
use Rattle.std.specs.Prelude.{◌&&◌, Bool}
use Rattle.verse_code.specs.declared.codes.Func.{Func}
use Rattle.verse_code.specs.declared.codes.Code.{Code}
use Rattle.verse_meaning_state.specs.Waits.{eqn}
use Rattle.verse_sorts.specs.Sorts as s
use Rattle.verse_verify_kept.specs.Notes.{ClassNote}
use Rattle.verse_verify_kept.specs.Rules.{nones}
use Rattle.verse_verify_faults.specs.Fitting.{fit, each_fit}
use Rattle.verse_verify_faults.specs.Spots.{Table}
use Rattle.verse_verify_notes.specs.declared.sorts.Sort.{Sort}
use Rattle.verse_verify_notes.specs.declared.notes.FuncNote.{FuncNote}
use Rattle.verse_verify_notes.specs.View.{sort_of, sorts_of, func_of}
use Rattle.verse_verify_entries.specs.Entries.{all_nothing, least_from}

-- so many of them are as many as there are
pub counted : (cs : List ClassNote) (n : ℕ) (xs : List Sort) →
    each_fit cs (nones n) (sorts_of xs) ≡ eqn (length xs) n && all_nothing cs (sorts_of xs)
counted cs zero [] = refl
counted cs zero (x ∷ xs) = refl
counted cs (suc n) [] = refl
counted cs (suc n) (x ∷ xs) =
    ap (λ b. fit cs s.none (sort_of x) && b) (counted cs n xs) ∙ turn (fit cs s.none (sort_of x)) (eqn (length xs) n) (all_nothing cs
    (sorts_of xs))
  where
    turn : (a b c : Bool) → a && (b && c) ≡ b && (a && c)
    turn a true c = refl
    turn true false c = refl
    turn false false c = refl

pub no_notes : (c : Code) (t : Table) (m k : ℕ) (fs : List Func) (gs : List FuncNote) (i : ℕ) → i < length fs → length gs ≡ 0 →
    least_from c t m k (drop i fs) (map func_of gs) ≡ 0
no_notes c t m k [] gs i h e = absurd (omega (arith, h))
no_notes c t m k (f ∷ fs) [] zero h e = refl
no_notes c t m k (f ∷ fs) (g ∷ gs) zero h e = absurd (omega (arith, e))
no_notes c t m k (f ∷ fs) gs (suc i) h e = no_notes c t m k fs gs i (omega (arith, h)) e
