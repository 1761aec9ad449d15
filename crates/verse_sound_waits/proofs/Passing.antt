-- What does not rest, through the combinators.
use Rattle.std.proofs.Common.{◌≡◌, ℕ, zero, suc, Bool, true, false, Option, Some, None, refl, sym, subst, ◌∙◌}
use Rattle.verse_base.specs.declared.places.Place.{Place}
use Rattle.verse_value.specs.Val.{Val}
use Rattle.verse_value.specs.Answer as answer
use Rattle.verse_meaning_state.specs.State.{State, stepped, restored}
use Rattle.verse_meaning_state.specs.Effects.{Effect}
use Rattle.verse_sorts.specs.Sorts.{Sort}
use Rattle.verse_sorts.specs.Typing.{Typing, Grows, Is}
use Rattle.verse_meaning.specs.Programs.{Program}
use Rattle.verse_meaning.specs.Residuals.{Env, Residual, Scopes, body}
use Rattle.verse_meaning.specs.Outcomes as o
use Rattle.verse_meaning.specs.Outcomes.{World, with_state, set_behind, Outcome, TaskOutcome, Went, went, quits, valued}
use Rattle.verse_meaning.specs.Outcomes.{attempted, turned, closing, ran, told, told_plain, if_there, if_known, outside}
use Rattle.verse_meaning.specs.Outcomes.{spends, call_end, task_started, on_went_task}
use Rattle.verse_meaning.specs.Forms.{Deeper}
use Rattle.verse_meaning.specs.Evaluating.{scope_end, cancel_behind}
use Rattle.verse_meaning.specs.Laws.{Calm}
use Rattle.verse_sound_rules.specs.Found.{Found, Allowed, tried}
use Rattle.verse_sound_trees.specs.Outcomes.{gives, fails, returns, breaks, faults, ends_steps, waits}
use Rattle.verse_sound_trees.specs.Going.{turns, Kept, Comes}
use Rattle.verse_sound_trees.proofs.Worlds.{later_grows, kept_again, kept_stepped}
use Rattle.verse_sound_trees.proofs.Going.{Ends}
use Rattle.verse_sound_effects.specs.Opening.{SameOrStuck, same, is_stuck}
use Rattle.verse_sound_waits.specs.Waits.{Stays}

pub told_stays : (x : Effect) (pl : Place) (e : Env) (w : World) → Stays (told x pl e w)
unfolding told
told_stays (answer.gives x) pl e w = tt
told_stays answer.fails pl e w = tt
told_stays (answer.error k) pl e w = tt
told_stays answer.stuck pl e w = tt

pub plain_stays : (x : Effect) (e : Env) (w : World) → Stays (told_plain x e w)
unfolding told_plain
plain_stays (answer.gives x) e w = tt
plain_stays answer.fails e w = tt
plain_stays (answer.error k) e w = tt
plain_stays answer.stuck e w = tt

pub there_stays : {A : Type 0} (x : Option A) (w : World) (go : A → Outcome) → ((y : A) → x ≡ Some y → Stays (go y)) →
    Stays (if_there x w go)
unfolding if_there
there_stays None w go h = tt
there_stays (Some y) w go h = h y refl

pub known_stays : {A : Type 0} (x : Option A) (w : World) (go : A → Outcome) → ((y : A) → x ≡ Some y → Stays (go y)) →
    Stays (if_known x w go)
unfolding if_known
known_stays None w go h = tt
known_stays (Some y) w go h = h y refl

pub there_is : {A : Type 0} (x : Option A) (y : A) (w : World) (go : A → Outcome) → x ≡ Some y → Stays (go y) →
    Stays (if_there x w go)
unfolding if_there
there_is x y w go h i = subst (λ z. Stays (if_there z w go)) (sym h) i

pub known_is : {A : Type 0} (x : Option A) (y : A) (w : World) (go : A → Outcome) → x ≡ Some y → Stays (go y) →
    Stays (if_known x w go)
unfolding if_known
known_is x y w go h i = subst (λ z. Stays (if_known z w go)) (sym h) i

pub outside_stays : (m : Bool) (w : World) (go : World → Outcome) → Stays (go w) → Stays (outside m w go)
unfolding outside
outside_stays true w go h = h
outside_stays false w go h = tt

pub started_stays : (e : Env) (v : Val) (x : TaskOutcome) → Stays (task_started e v x)
unfolding task_started
started_stays e v (o.ends y w) = tt
started_stays e v (o.lost s) = tt
started_stays e v (o.stops h) = tt
started_stays e v (o.sleeps q w) = tt

pub spent_stays : (left : ℕ) (w : World) (go : World → Outcome) → ((z : World) → Stays (go z)) → Stays
    (spends left w go)
unfolding spends
spent_stays zero w go h = tt
spent_stays (suc n) w go h = h (with_state w (stepped n w.state))

ran_stays : (x : Outcome) (go : World → Outcome) → ((z : World) → Stays (go z)) → Stays (ran x go)
unfolding ran
ran_stays (o.value e v w) go h = h w
ran_stays (o.failed s) go h = tt
ran_stays (o.returned v w) go h = tt
ran_stays (o.broke w) go h = tt
ran_stays (o.halted z) go h = tt
ran_stays (o.rests r w) go h = tt

pub closing_stays : (x : Outcome) (run : World → Outcome) (wrap : Residual → Residual) (e : Env) → Stays x →
    Stays (closing x run wrap e)
unfolding closing
closing_stays (o.value e1 v w) run wrap e h = ran_stays (run w) _ (λ z. tt)
closing_stays (o.failed s) run wrap e h = tt
closing_stays (o.returned v w) run wrap e h = ran_stays (run w) _ (λ z. tt)
closing_stays (o.broke w) run wrap e h = ran_stays (run w) _ (λ z. tt)
closing_stays (o.halted z) run wrap e h = tt
closing_stays (o.rests r w) run wrap e h = h

ended_stays : (x : Went) (v : Val) (outer : Scopes) (e : Env) →
    Stays (call_end e (on_went_task x (λ z. o.ends v (set_behind z outer))))
unfolding call_end on_went_task
ended_stays (went w) v outer e = tt
ended_stays (quits h) v outer e = tt

pub called_stays : (p : Program) (k : Deeper) (outer : Scopes) (e : Env) (x : Outcome) → Stays x →
    Stays (call_end e (scope_end p k body outer x))
unfolding call_end scope_end
called_stays p k outer e (o.value e1 v w) h = ended_stays (cancel_behind p k w.behind w) v outer e
called_stays p k outer e (o.failed s) h = tt
called_stays p k outer e (o.returned v w) h = ended_stays (cancel_behind p k w.behind w) v outer e
called_stays p k outer e (o.broke w) h = tt
called_stays p k outer e (o.halted z) h = tt
called_stays p k outer e (o.rests r w) h = absurd h

no_wait : {A : Type 0} → false ≡ true → A
no_wait h = cc

module _ (p : Program) (f : Found) (n : ℕ) where
  -- where nothing may wait
  pub calm_stays : {E : Ends} {t : Typing} {a : Allowed} {q : Sort} {x : Outcome} → a.waits ≡ false →
      Comes p f (turns n) E t a q x → Stays x
  calm_stays m (gives g k i j) = tt
  calm_stays m (fails g) = tt
  calm_stays m (returns r g j k i) = tt
  calm_stays m (breaks g j k) = tt
  calm_stays m faults = tt
  calm_stays m ends_steps = tt
  calm_stays m (waits g j k l) = no_wait (sym m ∙ g)

  -- nor elsewhere what could stand there
  pub opened_stays : {E : Ends} {t : Typing} {a : Allowed} {q : Sort} {x y : Outcome} → a.waits ≡ false →
      Comes p f (turns n) E t a q x → SameOrStuck x y → Stays y
  opened_stays m h same = calm_stays m h
  opened_stays m h is_stuck = elim h [ ]

  pub valued_stays : {E : Ends} {t : Typing} {a : Allowed} {q : Sort} {x : Outcome} (wrap : Residual → Residual)
      (go : Val → World → Outcome) → Comes p f (turns n) E t a q x → Stays x →
      ((u : Typing) (y : Val) (z : World) → Grows t u → Kept p f (turns n) u z → Is f.up u y q → Stays (go y z)) →
      Stays (valued x wrap go)
  unfolding valued
  valued_stays {t = t} {a = a} wrap go (gives {u} {e} {v} {w} g k i j) s h = h u v w (later_grows a.waits t u g) k i
  valued_stays wrap go (fails g) s h = tt
  valued_stays wrap go (returns r g j k i) s h = tt
  valued_stays wrap go (breaks g j k) s h = tt
  valued_stays wrap go faults s h = tt
  valued_stays wrap go ends_steps s h = tt
  valued_stays wrap go (waits g j k l) s h = s

  pub attempted_stays : {D : Ends} {t : Typing} (a : Allowed) {q : Sort} {x : Outcome} (w : World)
      (yes_do : Env → Val → World → Outcome) (no_do : World → Outcome) → Kept p f (turns n) t w →
      ((st : State) → x ≡ o.failed st → Calm w.state.clock st.clock) → Comes p f (turns n) D t (tried a) q x →
      ((u : Typing) (e : Env) (y : Val) (z : World) → Grows t u → Kept p f (turns n) u z → Is f.up u y q → D u e →
      Stays (yes_do e y z)) → ((z : World) → Kept p f (turns n) t z → Stays (no_do z)) →
      Stays (attempted x w yes_do no_do)
  unfolding attempted
  attempted_stays a w yes_do no_do k c (gives {u} {e} {v} {w = z} g h i j) y q = y u e v z g.grows h i j
  attempted_stays a w yes_do no_do k c (fails {st} g) y q = q (with_state w (restored w.state.memory st))
      (kept_again p f (turns n) _ w st (c st refl) k)
  attempted_stays a w yes_do no_do k c (returns r h g j i) y q = tt
  attempted_stays a w yes_do no_do k c (breaks h g j) y q = tt
  attempted_stays a w yes_do no_do k c faults y q = tt
  attempted_stays a w yes_do no_do k c ends_steps y q = tt
  attempted_stays a w yes_do no_do k c (waits h g j l) y q = tt

  pub turned_stays : {t : Typing} {a : Allowed} {q : Sort} {E : Ends} {x : Outcome} (wrap : Residual → Residual)
      (e : Env) (go : World → Outcome) → Comes p f (turns n) E t a q x → Stays x →
      ((u : Typing) (z : World) → Grows t u → Kept p f (turns n) u z → Stays (go z)) → Stays (turned x wrap e go)
  unfolding turned
  turned_stays {t = t} {a = a} wrap e go (gives {u} {w = z} g k i j) s h = h u z (later_grows a.waits t u g) k
  turned_stays wrap e go (fails g) s h = tt
  turned_stays wrap e go (returns r g j k i) s h = tt
  turned_stays wrap e go (breaks g j k) s h = tt
  turned_stays wrap e go faults s h = tt
  turned_stays wrap e go ends_steps s h = tt
  turned_stays wrap e go (waits g j k l) s h = s

  pub spends_stays : {t : Typing} (w : World) (left : ℕ) (go : World → Outcome) → Kept p f (turns n) t w →
      ((z : World) → Kept p f (turns n) t z → Stays (go z)) → Stays (spends left w go)
  unfolding spends
  spends_stays w zero go k h = tt
  spends_stays w (suc i) go k h = h (with_state w (stepped i w.state)) (kept_stepped p f (turns n) _ w i k)
