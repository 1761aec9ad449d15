-- What a wait gives when it is due is of the wait's sort.
use Rattle.std.proofs.Common.{◌≡◌, ℕ, Bool, true, false, cond, List, [], ◌∷◌, Option, Some, None, refl, sym, subst, ◌∙◌}
use Rattle.std.specs.Prelude.{nat_lt}
use Rattle.verse_meaning_state.specs.State.{State, Given, Signal}
use Rattle.verse_meaning_state.specs.Waits.{Cause, till, never, done, heard, Wait, eqn, ltn, has, first_signal, due_of, Due, sooner_of}
use Rattle.verse_meaning_state.specs.Waits.{least}
use Rattle.verse_meaning_state.proofs.Numbers.{eqn_is, eqn_same}
use Rattle.verse_sorts.specs.Sorts as s
use Rattle.verse_sorts.specs.Sorts.{Sort}
use Rattle.verse_sorts.specs.Typing.{at, Typing, Is}
use Rattle.verse_sound_trees.specs.Waiting.{GivenOf, SignalsOf, Clocked, CauseOf, WaitsOf}

module _ (up : ℕ → Option ℕ) where
  some_event : (a b : Sort) → Some (s.event a) ≡ Some (s.event b) → a ≡ b
  some_event a b h = cc

  one_signal : (t : Typing) (a b : Sort) (g : Signal) (e : ℕ) (p q : Bool) (o : Option Given) → eqn e g.event ≡ p →
      at t.cells e ≡ Some (s.event a) →
      at t.cells g.event ≡ Some (s.event b) → Is up t g.given.value b → GivenOf up t a o → GivenOf up t a (cond p (cond q
      (Some g.given) o) o)
  one_signal t a b g e true true o h j k i r =
      subst (λ z. Is up t g.given.value z) (some_event b a (sym k ∙ subst (λ z. at t.cells z ≡ Some (s.event a))
      (eqn_is e g.event h) j)) i
  one_signal t a b g e true false o h j k i r = r
  one_signal t a b g e false q o h j k i r = r

  signal_given : (t : Typing) (a : Sort) (e n : ℕ) (gs : List Signal) → at t.cells e ≡ Some (s.event a) → SignalsOf up t gs →
      GivenOf up t a (first_signal gs e n)
  signal_given t a e n [] h f = tt
  signal_given t a e n (g ∷ gs) h f =
      one_signal t a f.0.0 g e (eqn e g.event) (ltn n g.next) (first_signal gs e n) refl h f.0.1 f.0.2 (signal_given t a e n gs h f.1)

  pub due_given : (t : Typing) (a : Sort) (st : State) (n : ℕ) (c : Cause) → CauseOf up t a c → Clocked up t st.clock →
      GivenOf up t a (due_of st n c)
  due_given t a st n (till m) h k = h
  due_given t a st n never h k = tt
  due_given t a st n (done i) h k = k.results i a h
  due_given t a st n (heard e) h k = signal_given t a e n st.clock.signals h k.signals

  -- what is due is a wait of the list, with a value of its sort
  abbrev pub DueOf : Typing → List Wait → Option Due → Type 0
  DueOf t ws None = Unit {0}
  DueOf t ws (Some d) = (a : Sort) × (at t.waits d.number ≡ Some a) × Is up t d.given.value a × (has d.number ws ≡ true)

  still_there : (b : Bool) (n : ℕ) (ws : List Wait) → has n ws ≡ true → cond b true (has n ws) ≡ true
  still_there true n ws h = refl
  still_there false n ws h = h

  later_due : (t : Typing) (w : Wait) (ws : List Wait) (d : Option Due) → DueOf t ws d → DueOf t (w ∷ ws) d
  later_due t w ws None h = tt
  later_due t w ws (Some d) h = (h.0, h.1, h.2, still_there (eqn d.number w.number) d.number ws h.3)

  one_of : (t : Typing) (ws : List Wait) (a b c : Bool) (x y : Option Due) → DueOf t ws x → DueOf t ws y →
      DueOf t ws (cond a y (cond b x (cond c y x)))
  one_of t ws true b c x y h k = k
  one_of t ws false true c x y h k = h
  one_of t ws false false true x y h k = k
  one_of t ws false false false x y h k = h

  sooner_due : (t : Typing) (ws : List Wait) (n : ℕ) (g : Option Given) (d : Option Due) (a : Sort) → at t.waits n ≡ Some a →
      GivenOf up t a g → has n ws ≡ true →
      DueOf t ws d → DueOf t ws (sooner_of n g d)
  sooner_due t ws n None d a h i j k = k
  sooner_due t ws n (Some g) None a h i j k = (a, h, i, j)
  sooner_due t ws n (Some g) (Some d) a h i j k =
      one_of t ws (nat_lt d.given.moment g.moment) (nat_lt g.moment d.given.moment) (nat_lt d.number n) (Some
      (record { number = n; given = g })) (Some d) (a, h, i, j) k

  pub least_due : (t : Typing) (st : State) (ws : List Wait) → WaitsOf up t ws → Clocked up t st.clock → DueOf t ws (least st ws)
  least_due t st [] h k = tt
  least_due t st (w ∷ ws) h k =
      sooner_due t (w ∷ ws) w.number (due_of st w.number w.cause) (least st ws) h.0.0 h.0.1 (due_given t h.0.0 st w.number w.cause h.0.2 k)
      (subst (λ z. cond z true (has w.number ws) ≡ true) (sym (eqn_same w.number)) refl) (later_due t w ws (least st ws)
      (least_due t st ws h.1 k))
