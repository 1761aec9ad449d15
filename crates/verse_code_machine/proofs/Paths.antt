-- Paths that are the same.
use Rattle.std.proofs.Common.{◌≡◌, ℕ, Bool, true, false, cond, List, [], ◌∷◌, refl, ap, ◌∙◌}
use Rattle.verse_meaning_state.specs.Waits.{eqn}
use Rattle.verse_meaning_state.proofs.Numbers.{eqn_is, eqn_same}
use Rattle.verse_code_machine.specs.Tasks.{same_path}

pub same_is : (a b : List ℕ) → same_path a b ≡ true → a ≡ b
same_is [] [] e = refl
same_is [] (j ∷ b) e = absurd (cc)
same_is (i ∷ a) [] e = absurd (cc)
same_is (i ∷ a) (j ∷ b) e = by (eqn i j) refl (λ h. same_is a b h) e
  where
    by : (c : Bool) → eqn i j ≡ c → (same_path a b ≡ true → a ≡ b) → cond c (same_path a b) false ≡ true → i ∷ a ≡ j ∷ b
    by true f rest e = ap (λ n. n ∷ a) (eqn_is i j f) ∙ ap (λ w. j ∷ w) (rest e)
    by false f rest e = absurd (cc)

pub same_self : (a : List ℕ) → same_path a a ≡ true
same_self [] = refl
same_self (i ∷ a) = ap (λ c. cond c (same_path a a) false) (eqn_same i) ∙ same_self a
