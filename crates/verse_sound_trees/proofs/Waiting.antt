-- Waits and the clock where more is there.
use Rattle.std.proofs.Common.{◌≡◌, ℕ, List, [], ◌∷◌, ◌++◌, length, Option, Some, None, sym}
use Rattle.std.proofs.Common.{subst, ap, ◌∙◌}
use Rattle.verse_meaning_state.specs.State.{Clock, Given, Signal}
use Rattle.verse_meaning_state.specs.Waits.{Cause, till, never, done, heard, Wait, nth, given_by}
use Rattle.verse_sorts.specs.Sorts.{Sort}
use Rattle.verse_sorts.specs.Typing.{at, Typing, Grows, Adds}
use Rattle.verse_sorts.proofs.Fitting.{is_more}
use Rattle.verse_meaning.specs.Laws.{Calm}
use Rattle.verse_sound_trees.specs.Waiting.{GivenOf, SignalsOf, Clocked, CauseOf, WaitsOf}

module _ (up : ℕ → Option ℕ) where
  pub given_more : {t u : Typing} (a : Sort) (g : Option Given) → Grows t u → GivenOf up t a g → GivenOf up u a g
  given_more a None h i = tt
  given_more a (Some g) h i = is_more up h i

  pub signals_more : {t u : Typing} (gs : List Signal) → Grows t u → SignalsOf up t gs → SignalsOf up u gs
  signals_more [] h i = tt
  signals_more (g ∷ gs) h i = ((i.0.0, h.cells _ _ i.0.1, is_more up h i.0.2), signals_more gs h i.1)

  pub cause_more : {t u : Typing} (a : Sort) (c : Cause) → Grows t u → CauseOf up t a c → CauseOf up u a c
  cause_more a (till m) h i = is_more up h i
  cause_more a never h i = tt
  cause_more a (done i) h j = h.entries _ _ j
  cause_more a (heard e) h j = h.cells _ _ j

  pub waits_more : {t u : Typing} (ws : List Wait) → Grows t u → WaitsOf up t ws → WaitsOf up u ws
  waits_more [] h i = tt
  waits_more (w ∷ ws) h i = ((i.0.0, h.waits _ _ i.0.1, cause_more i.0.0 w.cause h i.0.2), waits_more ws h i.1)

  pub waits_of_both : (t : Typing) (xs ys : List Wait) → WaitsOf up t xs → WaitsOf up t ys → WaitsOf up t (xs ++ ys)
  waits_of_both t [] ys h g = g
  waits_of_both t (x ∷ xs) ys h g = (h.0, waits_of_both t xs ys h.1 g)

  -- with cells alone, and a clock that differs in steps alone
  pub clock_moves : {t u : Typing} {c d : Clock} → Adds t u → Calm c d → Clocked up t c → Clocked up u d
  clock_moves {t} {u} {c} {d} h k i = record {
    entries = ap length k.results ∙ (i.entries ∙ ap length h.entries);
    waits = k.next ∙ (i.waits ∙ ap length h.waits);
    results = λ n a e. subst (λ z. GivenOf up u a (given_by (nth z n))) (sym k.results)
        (given_more a (given_by (nth c.results n)) h.grows (i.results n a (subst (λ z. at z n ≡ Some a) (sym h.entries) e)));
    signals = subst (λ z. SignalsOf up u z) (sym k.signals) (signals_more c.signals h.grows i.signals);
  }
