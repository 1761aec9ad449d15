-- Outcomes that are of a sort. What no sound program comes to is none.
use Rattle.std.specs.Prelude.{◌≡◌, Bool, true, false, Some}
use Rattle.verse_base.specs.declared.places.Place.{Place}
use Rattle.verse_base.specs.declared.refusals.Kind.{Kind as Error}
use Rattle.verse_value.specs.Val.{Val}
use Rattle.verse_meaning_state.specs.State.{State}
use Rattle.verse_sorts.specs.Sorts.{Sort}
use Rattle.verse_sorts.specs.Typing.{Typing, Grows, Adds, Is}
use Rattle.verse_sorts_values.specs.Cells.{StoreIs}
use Rattle.verse_meaning.specs.Residuals.{Env, Residual, Scope}
use Rattle.verse_meaning.specs.Outcomes.{World, fault, out, Outcome, value, failed, returned, broke}
use Rattle.verse_meaning.specs.Outcomes.{halted, rests, TaskOutcome, ends, lost}
use Rattle.verse_meaning.specs.Outcomes.{stops, sleeps, Went, went, quits}
use Rattle.verse_sound_rules.specs.Found.{Found, Allowed}

-- what may come: where nothing may wait, cells alone
abbrev pub Later : (waits : Bool) → Typing → Typing → Type 0
Later true = Grows
Later false = Adds

abbrev pub any_names : Typing → Env → Type 0
any_names u e = Unit {0}

module _ (f : Found) where
  abbrev pub Cells : Typing → World → Type 0
  Cells t w = StoreIs f.up f.slots t w.state.memory.store

  -- what cancelling comes to
  pub data WentWell (t : Typing) : Went → Type 0 where
    goes_well : {u : Typing} {w : World} → Adds t u → Cells u w → WentWell t (went w)
    quits_fault : {k : Error} {pl : Place} {st : State} → WentWell t (quits (fault k pl st))
    quits_steps : {st : State} → WentWell t (quits (out st))

  -- Kept is what is said of worlds, Left of what is left, Ends of the names that are visible behind
  module _ (Kept : Typing → World → Type 0) where
    pub data Typed (Left : Typing → Allowed → Sort → Residual → Type 0) (Ends : Typing → Env →
        Type 0) (t : Typing) (a : Allowed) (b : Sort) :
        Outcome → Type 0 where
      gives : {u : Typing} {e : Env} {v : Val} {w : World} → Later a.waits t u → Kept u w →
          Is f.up u v b → Ends u e → Typed Left Ends t a b (value e v w)
      fails : {st : State} → a.fails ≡ true → Typed Left Ends t a b (failed st)
      returns : {u : Typing} {v : Val} {w : World} (r : Sort) → a.result ≡ Some r →
          Later a.waits t u → Kept u w → Is f.up u v r → Typed Left Ends t a b (returned v w)
      breaks : {u : Typing} {w : World} → a.breaks ≡ true → Later a.waits t u → Kept u w →
          Typed Left Ends t a b (broke w)
      faults : {k : Error} {pl : Place} {st : State} →
          Typed Left Ends t a b (halted (fault k pl st))
      ends_steps : {st : State} → Typed Left Ends t a b (halted (out st))
      waits : {u : Typing} {r : Residual} {w : World} → a.waits ≡ true → Later a.waits t u →
          Kept u w → Left u a b r → Typed Left Ends t a b (rests r w)

    -- of a task scope; it may fail, and may wait
    pub data TypedTask (Left : Typing → Bool → Sort → Scope → Type 0) (t : Typing)
        (fails waits : Bool) (b : Sort) : TaskOutcome → Type 0 where
      task_ends : {u : Typing} {v : Val} {w : World} → Later waits t u → Kept u w → Is f.up u v b →
          TypedTask Left t fails waits b (ends v w)
      task_lost : {st : State} → fails ≡ true → TypedTask Left t fails waits b (lost st)
      task_faults : {k : Error} {pl : Place} {st : State} →
          TypedTask Left t fails waits b (stops (fault k pl st))
      task_ends_steps : {st : State} → TypedTask Left t fails waits b (stops (out st))
      task_sleeps : {u : Typing} {q : Scope} {w : World} → waits ≡ true → Later waits t u →
          Kept u w → Left u fails b q → TypedTask Left t fails waits b (sleeps q w)
