-- The names of tasks: which begin with another.
use Rattle.std.proofs.Common.{◌≡◌, ℕ, List, [], ◌∷◌, ◌++◌, Bool, true, false, cond, refl, ap, ◌∙◌}
use Rattle.verse_meaning_state.specs.Waits.{ltn}
use Rattle.verse_meaning_state.proofs.Numbers.{eqn_same, eqn_not}
use Rattle.verse_code_machine.specs.Tasks.{starts, same_path, since}

abbrev here : Bool → Bool → Bool
here b c = cond b c false

pub starts_front : (a x : List ℕ) → starts a (a ++ x) ≡ true
starts_front [] x = refl
starts_front (i ∷ a) x = ap (λ b. here b (starts a (a ++ x))) (eqn_same i) ∙ starts_front a x

pub starts_fork : (a : List ℕ) (i j : ℕ) (x y : List ℕ) → (i ≡ j → ⊥) → starts (a ++ i ∷ x) (a ++ j ∷ y) ≡ false
starts_fork [] i j x y d = ap (λ b. here b (starts x y)) (eqn_not i j d)
starts_fork (k ∷ a) i j x y d = ap (λ b. here b (starts (a ++ i ∷ x) (a ++ j ∷ y))) (eqn_same k) ∙ starts_fork a i j x y d

pub starts_above : (a : List ℕ) (i : ℕ) (x : List ℕ) → starts (a ++ i ∷ x) a ≡ false
starts_above [] i x = refl
starts_above (k ∷ a) i x = ap (λ b. here b (starts (a ++ i ∷ x) a)) (eqn_same k) ∙ starts_above a i x

pub since_child : (a : List ℕ) (b n : ℕ) (x : List ℕ) → since a b (a ++ n ∷ x) ≡ ltn n b
since_child [] b n x = refl
since_child (i ∷ a) b n x = ap (λ c. here c (since a b (a ++ n ∷ x))) (eqn_same i) ∙ since_child a b n x

pub since_self : (a : List ℕ) (b : ℕ) → since a b a ≡ false
since_self [] b = refl
since_self (i ∷ a) b = ap (λ c. here c (since a b a)) (eqn_same i) ∙ since_self a b

pub since_fork : (a : List ℕ) (b i j : ℕ) (x y : List ℕ) → (i ≡ j → ⊥) → since (a ++ i ∷ x) b (a ++ j ∷ y) ≡ false
since_fork [] b i j x y d = ap (λ c. here c (since x b y)) (eqn_not i j d)
since_fork (k ∷ a) b i j x y d = ap (λ c. here c (since (a ++ i ∷ x) b (a ++ j ∷ y))) (eqn_same k) ∙ since_fork a b i j x y d

pub since_above : (a : List ℕ) (b i : ℕ) (x : List ℕ) → since (a ++ i ∷ x) b a ≡ false
since_above [] b i x = refl
since_above (k ∷ a) b i x = ap (λ c. here c (since (a ++ i ∷ x) b a)) (eqn_same k) ∙ since_above a b i x

pub same_beneath : (a : List ℕ) (j : ℕ) (y : List ℕ) → same_path a (a ++ j ∷ y) ≡ false
same_beneath [] j y = refl
same_beneath (i ∷ a) j y = ap (λ b. here b (same_path a (a ++ j ∷ y))) (eqn_same i) ∙ same_beneath a j y

-- a name that does not begin with the first: it parts from it, or that one begins with it
pub data Apart (w x : List ℕ) : Type 0 where
  forks : (a : List ℕ) (i j : ℕ) (u v : List ℕ) → w ≡ a ++ i ∷ u → x ≡ a ++ j ∷ v → (i ≡ j → ⊥) → Apart w x
  above : (i : ℕ) (u : List ℕ) → w ≡ x ++ i ∷ u → Apart w x

pub starts_apart : (w x : List ℕ) → Apart w x → starts w x ≡ false
starts_apart w x (forks a i j u v p q d) = ap (λ z. starts z x) p ∙ (ap (starts (a ++ i ∷ u)) q ∙ starts_fork a i j u v d)
starts_apart w x (above i u p) = ap (λ z. starts z x) p ∙ starts_above x i u

pub since_apart : (w x : List ℕ) (b : ℕ) → Apart w x → since w b x ≡ false
since_apart w x b (forks a i j u v p q d) = ap (λ z. since z b x) p ∙ (ap (since (a ++ i ∷ u) b) q ∙ since_fork a b i j u v d)
since_apart w x b (above i u p) = ap (λ z. since z b x) p ∙ since_above x b i u
