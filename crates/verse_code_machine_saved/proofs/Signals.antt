-- Signals of before that reach none of the waits.
use Rattle.std.proofs.Common.{◌≡◌, ℕ, List, [], ◌∷◌, ◌++◌, Some, None, Bool, true, false, cond, refl, ap, ◌∙◌, arith}
use Rattle.verse_meaning_state.specs.State.{State, Signal}
use Rattle.verse_meaning_state.specs.Waits.{Cause, till, never, done, heard, eqn, ltn, due_of, first_signal, least, sooner_of}
use Rattle.verse_code_machine_saved.specs.Numbers.{Prior, state_as}
use Rattle.verse_code_machine_saved.specs.Resuming.{SignalsUnheard}

first_behind : (old gs : List Signal) (e n : ℕ) → first_signal old e n ≡ None → first_signal (old ++ gs) e n ≡ first_signal gs e n
first_behind [] gs e n h = refl
first_behind (g ∷ old) gs e n h = at (eqn e g.event) (ltn n g.next) (first_behind old gs e n) h
  where
    at : (a b : Bool) → (first_signal old e n ≡ None → first_signal (old ++ gs) e n ≡ first_signal gs e n) →
        cond a (cond b (Some g.given) (first_signal old e n)) (first_signal old e n) ≡ None →
        cond a (cond b (Some g.given) (first_signal (old ++ gs) e n)) (first_signal (old ++ gs) e n) ≡ first_signal gs e n
    at true true f h = grind (arith, h)
    at true false f h = f h
    at false b f h = f h

due_behind : (z : Prior) (s : State) (n : ℕ) (c : Cause) → ((event : ℕ) → c ≡ heard event → first_signal z.signals event n ≡ None) →
    due_of (state_as z s) n c ≡ due_of s n c
due_behind z s n (till m) h = refl
due_behind z s n never h = refl
due_behind z s n (done entry) h = refl
due_behind z s n (heard event) h = first_behind z.signals s.clock.signals event n (h event refl)

pub signals_unheard : SignalsUnheard
signals_unheard z [] s h = refl
signals_unheard z (w ∷ ws) s h =
    ap (λ g. sooner_of w.number g (least (state_as z s) ws)) (due_behind z s w.number w.cause h.0) ∙
    ap (sooner_of w.number (due_of s w.number w.cause)) (signals_unheard z ws s h.1)
