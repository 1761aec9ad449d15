-- To where a Leave leads, block by block.
use Rattle.std.proofs.Common.{◌≡◌, ℕ, suc, ◌+◌, List, [], ◌∷◌, length, Bor, true, false, cond, refl, sym, ap, subst, ◌∙◌, arith}
use Rattle.std.specs.Prelude.{◌&&◌, Option, Some, None}
use Rattle.std.specs.Option.{option_map}
use Rattle.verse_meaning_state.specs.Waits.{eqn}
use Rattle.verse_sorts.specs.Sorts.{Sort}
use Rattle.verse_verify_faults.specs.Spots.{Spot, spot_at}
use Rattle.verse_verify_faults.specs.Stepping.{Goes, block_at, spot_locals}
use Rattle.verse_verify_notes.specs.declared.notes.Spot.{Spot as Noted}
use Rattle.verse_verify_notes.specs.View.{spot_of}
use Rattle.verse_verify_parts.specs.declared.heres.Here.{Here}
use Rattle.verse_verify_parts.specs.Heres.{code_in, table_in, spot_in, suited}
use Rattle.verse_verify_tasks.specs.Blocks.{goes_behind, leaves_in}
use Rattle.verse_verify_tasks.proofs.Grouping.{both_suit}

-- what is found at an operation is the state there
pub not_found : (r : Option (Bor Noted)) (m : Option Spot) → option_map (λ (q : Bor Noted). spot_of q.now) r ≡ m → r ≡ None →
    m ≡ None
not_found r m e f = sym e ∙ ap (option_map (λ (q : Bor Noted). spot_of q.now)) f

pub is_found : (r : Option (Bor Noted)) (x : Bor Noted) (m : Option Spot) → option_map (λ (q : Bor Noted). spot_of q.now) r ≡ m →
    r ≡ Some x → m ≡ Some (spot_of x.now)
is_found r x m e f = sym e ∙ ap (option_map (λ (q : Bor Noted). spot_of q.now)) f

module _ (h : Here) where
  abbrev there : ℕ → Option Spot
  there e = spot_at (table_in h) e

  abbrev begins : ℕ → ℕ → List Sort → Goes
  begins e count ls = block_at (code_in h) (table_in h) (spot_in h) h.index e count ls

  -- with how many blocks it ends
  abbrev ends_at : ℕ → List ℕ → Type 0
  ends_at m ds = eqn m ((spot_in h).under + length ds) ≡ true

  abbrev goes_further : ℕ → List ℕ → Type 0
  goes_further m ds = eqn m ((spot_in h).under + length ds) ≡ false

  -- the last block, and the others with the locals at its entry
  abbrev others : ℕ → ℕ → List Sort → List ℕ → List Goes
  others m e ls ds = leaves_in h m (spot_locals (there e) ls) ds

  goes : (m e : ℕ) (ls : List Sort) (ds : List ℕ) → goes_further m (e ∷ ds) →
      suited h (leaves_in h m ls (e ∷ ds)) ≡ suited h (begins e (length ds) ls ∷ []) && suited h (others m e ls ds)
  goes m e ls ds x =
      ap (λ b. suited h (cond b (goes_behind h ls (e ∷ ds) ∷ []) (begins e (length ds) ls ∷ others m e ls ds))) x ∙
      both_suit h (begins e (length ds) ls) (others m e ls ds)

  pub leave_none : (m : ℕ) (ls : List Sort) (ds : List ℕ) → length ds ≡ 0 →
      suited h (goes_behind h ls ds ∷ []) ≡ suited h (leaves_in h m ls ds)
  leave_none m ls [] e = refl
  leave_none m ls (x ∷ ds) e = absurd (omega (arith, e))

  pub leave_at : (m : ℕ) (ls : List Sort) (ds : List ℕ) (e : ℕ) (more : List ℕ) → ds ≡ e ∷ more → ends_at m ds →
      suited h (goes_behind h ls ds ∷ []) ≡ suited h (leaves_in h m ls ds)
  leave_at m ls ds e more is x =
      subst (λ ys. suited h (goes_behind h ls ys ∷ []) ≡ suited h (leaves_in h m ls ys)) (sym is) (sym (ends (subst (ends_at m) is x)))
    where
      ends : ends_at m (e ∷ more) → suited h (leaves_in h m ls (e ∷ more)) ≡ suited h (goes_behind h ls (e ∷ more) ∷ [])
      ends x =
          ap (λ b. suited h (cond b (goes_behind h ls (e ∷ more) ∷ []) (begins e (length more) ls ∷ others m e ls more))) x

  pub leave_stops : (m : ℕ) (ls : List Sort) (ds : List ℕ) (e : ℕ) (more : List ℕ) → ds ≡ e ∷ more → goes_further m ds →
      suited h (begins e (length more) ls ∷ []) ≡ false → false ≡ suited h (leaves_in h m ls ds)
  leave_stops m ls ds e more is x n =
      subst (λ ys. false ≡ suited h (leaves_in h m ls ys)) (sym is) (sym (goes m e ls more (subst (goes_further m) is x) ∙
      ap (λ b. b && suited h (others m e ls more)) n))

  -- a block's first operation that is never reached
  pub leave_misses : (m : ℕ) (ls : List Sort) (ds : List ℕ) (e : ℕ) (more : List ℕ) → ds ≡ e ∷ more → goes_further m ds →
      there e ≡ None → false ≡ suited h (leaves_in h m ls ds)
  leave_misses m ls ds e more is x n = leave_stops m ls ds e more is x (begins_no n)
    where
      begins_no : there e ≡ None → suited h (begins e (length more) ls ∷ []) ≡ false
      begins_no n = cc

  pub leave_further : (m : ℕ) (ls : List Sort) (ds : List ℕ) (e : ℕ) (more : List ℕ) (q : Spot) → ds ≡ e ∷ more → goes_further m ds →
      there e ≡ Some q → suited h (begins e (length more) ls ∷ []) ≡ true →
      suited h (leaves_in h m q.locals more) ≡ suited h (leaves_in h m ls ds)
  leave_further m ls ds e more q is x at y =
      subst (λ ys. suited h (leaves_in h m q.locals more) ≡ suited h (leaves_in h m ls ys)) (sym is) (sym (goes m e ls more
      (subst (goes_further m) is x) ∙ ap (λ b. b && suited h (others m e ls more)) y ∙
      ap (λ (o : Option Spot). suited h (leaves_in h m (spot_locals o ls) more)) at))
