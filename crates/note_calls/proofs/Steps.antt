-- What a callee stands for, by the steps that made it.
use Rattle.std.proofs.Common.{◌≡◌, refl, ap, ◌∙◌}
use Rattle.verse_meaning.specs.Residuals.{Form}
use Rattle.verse_meaning.specs.Evaluating.{Callee, alone, of_object, of_value, of_quotient, no_callee}
use Rattle.lower_lookup.specs.Actions.{form_of}
use Rattle.lower_lookup.specs.Callees.{called}
use Rattle.lower_lookup.specs.declared.actions.Action.{Action}
use Rattle.lower_lookup.specs.declared.callees.Callee.{Callee as Found}
use Rattle.lower_lookup.specs.declared.callees.Callee.TheVariants as found
use Rattle.lower_notes.specs.Stretches.{Walk, ends}
use Rattle.lower_notes.specs.Noting.{by_callee}
use Rattle.note_stretches.specs.Noted.{Noted, walked}

module _ (g h i j : Form → Walk) (b all : Noted) (c : Callee) where
  pub by_alone : (f : Form) → alone f ≡ c → all ≡ walked (g f) b → all ≡ walked (by_callee c g h i j) b
  unfolding by_callee
  by_alone f e is = is ∙ ap (λ c. walked (by_callee c g h i j) b) e

  pub by_object : (f : Form) → of_object f ≡ c → all ≡ walked (h f) b → all ≡ walked (by_callee c g h i j) b
  unfolding by_callee
  by_object f e is = is ∙ ap (λ c. walked (by_callee c g h i j) b) e

  pub by_value : (f : Form) → of_value f ≡ c → all ≡ walked (i f) b → all ≡ walked (by_callee c g h i j) b
  unfolding by_callee
  by_value f e is = is ∙ ap (λ c. walked (by_callee c g h i j) b) e

  pub by_quotient : (f : Form) → of_quotient f ≡ c → all ≡ walked (j f) b → all ≡ walked (by_callee c g h i j) b
  unfolding by_callee
  by_quotient f e is = is ∙ ap (λ c. walked (by_callee c g h i j) b) e

  pub by_none : no_callee ≡ c → all ≡ walked ends b → all ≡ walked (by_callee c g h i j) b
  unfolding by_callee
  by_none e is = is ∙ ap (λ c. walked (by_callee c g h i j) b) e

-- neither alone nor of an object
pub by_neither : (g h : Form → Walk) (b all : Noted) (c : Callee) (k : Found) → called k ≡ c →
    ((a : Action) → k ≡ found.Alone a → ⊥) → ((a : Action) → k ≡ found.OfObject a → ⊥) → all ≡ walked ends b →
    all ≡ walked (by_callee c g h (λ f. ends) (λ f. ends)) b
by_neither g h b all c (found.Alone a) e n m is = absurd (n a refl)
by_neither g h b all c (found.OfObject a) e n m is = absurd (m a refl)
by_neither g h b all c (found.OfValue a) e n m is = by_value g h (λ f. ends) (λ f. ends) b all c (form_of a) e is
by_neither g h b all c (found.OfQuotient a) e n m is =
    by_quotient g h (λ f. ends) (λ f. ends) b all c (form_of a) e is
by_neither g h b all c found.None e n m is = by_none g h (λ f. ends) (λ f. ends) b all c e is
