-- What `set` writes.
use Rattle.std.proofs.Common.{◌≡◌, ℕ, Option, refl, subst}
use Rattle.verse_tree.specs.declared.exprs.Assign.{Assign}
use Rattle.verse_tree.specs.declared.exprs.Assign.TheVariants as assign
use Rattle.verse_value.specs.declared.modes.Mode.TheVariants as mode
use Rattle.verse_sorts.specs.Sorts as s
use Rattle.verse_sorts.specs.Sorts.{Sort, Fits}
use Rattle.verse_sorts.proofs.Fitting.{fits_on}
use Rattle.verse_sorts_values.specs.Operands.{Writes, writes_set, writes_never}
use Rattle.verse_meaning.specs.Programs.{Program}
use Rattle.verse_meaning.specs.Evaluating.{mode_of}
use Rattle.verse_sound_rules.specs.Found.{Found}
use Rattle.verse_sound_rules.specs.Fine.{Stores, stores_value, stores_nothing}

set_written : {up : ℕ → Option ℕ} {v r w : Sort} → Writes up mode.Set v r w → Fits up v r
set_written (writes_set h) = h
set_written (writes_never differs) = absurd (differs refl)

module _ (p : Program) (f : Found) where
  set_stored : {q r w : Sort} → Stores p f mode.Set q r w → Fits f.up q r
  set_stored (stores_value v d h k g) = fits_on f.up h (set_written k)
  set_stored stores_nothing = s.from_never

  -- a value that is put in the place of another fits it
  pub set_fits : (m : Assign) {q r w : Sort} → Stores p f (mode_of m) q r w → m ≡ assign.Set → Fits f.up q r
  set_fits m {q = q} {r = r} {w = w} h e = set_stored (subst (λ x. Stores p f (mode_of x) q r w) e h)
