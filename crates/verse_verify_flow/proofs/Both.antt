-- Two states to which an operation leads.
use Rattle.std.proofs.Common.{◌≡◌, [], ◌∷◌, Bool, true, false, refl, sym, ◌∙◌}
use Rattle.std.specs.Prelude.{◌&&◌}
use Rattle.std.proofs.lemmas.Bool.{true≢false}
use Rattle.verse_verify_faults.specs.Stepping.{Goes}
use Rattle.verse_verify_faults.specs.Faults.{suits}
use Rattle.verse_verify_parts.specs.declared.heres.Here.{Here}
use Rattle.verse_verify_parts.specs.Heres.{code_in, table_in, spot_in, suited}

and_no : (b c : Bool) → b && true ≡ false → false ≡ b && c
and_no true c e = elim (true≢false e) [ ]
and_no false c e = refl

module _ (h : Here) (g k : Goes) where
  pub first_no : (r : Bool) → r ≡ suited h (g ∷ []) → r ≡ false → r ≡ suited h (g ∷ k ∷ [])
  first_no r e f = f ∙ and_no (suits (code_in h) (table_in h) (spot_in h) g) (suited h (k ∷ [])) (sym e ∙ f)
