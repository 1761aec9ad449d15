-- An evaluation is suspended; tasks and events are asked for what they gave.
use Rattle.std.proofs.Common.{◌≡◌, ℕ, zero, suc, Bool, true, false, cond, List, [], ◌∷◌, ◌++◌, length, Option, Some, None, refl, sym}
use Rattle.std.proofs.Common.{subst, ap, ◌∙◌}
use Rattle.std.specs.Prelude.{slice_get}
use Rattle.std.proofs.Common.{arith}
use Rattle.std.proofs.lemmas.Option.{same_Some}
use Rattle.verse_base.proofs.Facts.{length_more}
use Rattle.verse_value.specs.Val as v
use Rattle.verse_value.specs.Val.{Val}
use Rattle.verse_value.specs.declared.runs.CellKind.{CellKind}
use Rattle.verse_value.specs.declared.runs.CellKind.TheVariants as cell
use Rattle.verse_meaning_state.specs.State.{State, Given, Signal, drawn, signalled}
use Rattle.verse_meaning_state.specs.Waits.{Cause, Wait, waiting, done, heard, nth, eqn, given_by}
use Rattle.verse_meaning_state.specs.Effects.{event_of, event_at, signal_sent}
use Rattle.verse_meaning_state.proofs.Numbers.{eqn_is}
use Rattle.verse_sorts.specs.Sorts as s
use Rattle.verse_sorts.specs.Sorts.{Sort}
use Rattle.verse_sorts.specs.Typing.{at, Typing, Grows, Is, is_event, is_task, is_unit}
use Rattle.verse_sorts_values.specs.Cells.{CellIs, var_is, object_is, event_is}
use Rattle.verse_sorts_values.proofs.Cells.{at_more, at_end, cells_more, cell_there, Cell_of, cell_of}
use Rattle.verse_meaning.specs.Programs.{Program}
use Rattle.verse_meaning.specs.Residuals.{Env, leaf}
use Rattle.verse_meaning.specs.Outcomes.{World, with_state, Outcome, if_there, outside, suspended, told_plain}
use Rattle.verse_meaning.specs.Forms.{Deeper, task_awaited, awaited}
use Rattle.verse_sound_rules.specs.Found.{Found, Allowed}
use Rattle.verse_sound_trees.specs.Outcomes.{any_names, goes_well, gives, waits, Cells, Later}
use Rattle.verse_sound_trees.specs.Waiting.{GivenOf, SignalsOf, CauseOf}
use Rattle.verse_sound_trees.specs.Going.{KeptIn, Left, LeftScope, Level, bare, turns, Ready, Comes}
use Rattle.verse_sound_trees.proofs.Waiting.{signals_more, cause_more, given_more}
use Rattle.verse_sound_trees.proofs.Worlds.{behind_more, tasks_more, later_itself}
use Rattle.verse_sound_trees.proofs.Going.{up_to}

one_has : (i : ℕ) (x : Wait) (b : Bool) → eqn i x.number ≡ b → cond b true false ≡ true → i ≡ x.number
one_has i x true e h = eqn_is i x.number e
one_has i x false e h = cc

-- the element at a place that another list as long has
pub data Has_at {A : Type 0} (xs : List A) (i : ℕ) : Type 0 where
  has_at : {x : A} → nth xs i ≡ Some x → Has_at xs i

pub as_long : {A B : Type 0} (xs : List A) (ys : List B) (i : ℕ) (y : B) → length xs ≡ length ys → at ys i ≡ Some y → Has_at xs i
as_long [] [] i y h e = cc
as_long [] (y ∷ ys) i z h e = absurd (no_length h)
  where
    no_length : {n : ℕ} → 0 ≡ suc n → ⊥
    no_length h = cc
as_long (x ∷ xs) [] i y h e = cc
as_long (x ∷ xs) (y ∷ ys) zero z h e = has_at refl
as_long (x ∷ xs) (y ∷ ys) (suc i) z h e = behind (as_long xs ys i z (omega (arith, h)) e)
  where
    behind : Has_at xs i → Has_at (x ∷ xs) (suc i)
    behind (has_at h) = has_at h

module _ (p : Program) (f : Found) where
  -- one wait more
  abbrev pub with_wait : Typing → Sort → Typing
  with_wait t b = record t { waits = t.waits ++ b ∷ [] }

  wait_grows : (t : Typing) (b : Sort) → Grows t (with_wait t b)
  wait_grows t b = record { cells = λ i a h. h; entries = λ i a h. h; waits = λ i a h. at_more t.waits (b ∷ []) i a h; parts = λ i a h. h }

  wait_kept : (n : ℕ) (t : Typing) (b : Sort) (w : World) → KeptIn p f (LeftScope p f n) t w →
      KeptIn p f (LeftScope p f n) (with_wait t b) (with_state w (drawn w.state))
  wait_kept n t b w k = record {
    cells = cells_more f.up f.slots (wait_grows t b) k.cells;
    clock = record {
      entries = k.clock.entries;
      waits = ap suc k.clock.waits ∙ sym (length_more t.waits b);
      results = λ i a h. given_more f.up a (given_by (nth w.state.clock.results i)) (wait_grows t b) (k.clock.results i a h);
      signals = signals_more f.up w.state.clock.signals (wait_grows t b) k.clock.signals;
    };
    behind = behind_more p f n t (with_wait t b) w.behind (wait_grows t b) k.behind;
    tasks = tasks_more p f n t (with_wait t b) w.tasks (wait_grows t b) k.tasks;
  }

  pub left_leaf : (n : ℕ) (u : Typing) (a : Allowed) (b : Sort) (x : Wait) (e : Env) → at u.waits x.number ≡ Some b →
      CauseOf f.up u b x.cause →
      Left p f n u a b (leaf x e)
  left_leaf zero u a b x e h c = (
    (
      λ o k w g z. goes_well Rattle.verse_sorts.proofs.Fitting.adds_itself z,
      λ o k w g z. goes_well
          Rattle.verse_sorts.proofs.Fitting.adds_itself z,
    ),
    ((b, h, c), tt),
  )
  left_leaf (suc n) u a b x e h c = (
    left_leaf n u a b x e h c,
    λ o fuel i y q w g k j l kp.
        let m : i ≡ x.number = one_has i x (eqn i x.number) refl l in
        let z : q ≡ b = same_Some q b (sym k ∙ subst (λ z. at o.waits z ≡ Some b) (sym m) (g.waits _ _ h)) in
        gives (later_itself a.waits o) kp (subst (λ z. Is f.up o y z) z j) tt,
  )

  pub grows_later : (m : Bool) (t u : Typing) → m ≡ true → Grows t u → Later m t u
  grows_later true t u h g = g
  grows_later false t u h g = cc

  pub suspended_typed : (n : ℕ) (t : Typing) (a : Allowed) (b : Sort) (c : Cause) (e : Env) (w : World) → a.waits ≡ true →
      CauseOf f.up t b c →
      KeptIn p f (LeftScope p f n) t w → Comes p f (turns n) any_names t a b (suspended c e w)
  unfolding suspended
  suspended_typed n t a b c e w h i k =
      waits h (grows_later a.waits t (with_wait t b) h (wait_grows t b)) (wait_kept n t b w k)
      (left_leaf n (with_wait t b) a b (waiting c w.state) e (subst (λ z. at (t.waits ++ b ∷ []) z ≡ Some b) (sym k.clock.waits)
      (at_end t.waits b))
      (cause_more f.up b c (wait_grows t b) i))

  -- what is outside of failure contexts
  pub outside_typed : (l : Level) (t : Typing) (a : Allowed) (b : Sort) (w : World) (go : World → Outcome) → a.waits ≡ true →
      Ready l a.waits →
      ((n : ℕ) → l ≡ turns n → Comes p f l any_names t a b (go w)) → Comes p f l any_names t a b (outside a.waits w go)
  unfolding outside
  outside_typed bare t a b w go h r k = elim (no_both a.waits h r) [ ]
    where
      no_both : (m : Bool) → m ≡ true → m ≡ false → ⊥
      no_both m h r = cc
  outside_typed (turns n) t a b w go h r k = subst (λ m. Comes p f (turns n) any_names t a b (outside m w go)) (sym h) (k n refl)

  -- a task that is awaited
  awaited_by : (k : Deeper) (n : ℕ) (t : Typing) (a : Allowed) (q : Sort) (i : ℕ) (x : Option Given) (e : Env) (w : World) →
      a.waits ≡ true → at t.entries i ≡ Some q →
      GivenOf f.up t q x → KeptIn p f (LeftScope p f n) t w → Comes p f (turns n) any_names t a q (task_awaited p k (Some x) i e w)
  awaited_by d n t a q i None e w h j g k = suspended_typed n t a q (done i) e w h j k
  awaited_by d n t a q i (Some x) e w h j g k = gives (later_itself a.waits t) k g tt

  pub task_typed : (k : Deeper) (n : ℕ) (t : Typing) (a : Allowed) (q : Sort) (x : Val) (e : Env) (w : World) → a.waits ≡ true →
      Is f.up t x (s.task q) →
      KeptIn p f (LeftScope p f n) t w → Comes p f (turns n) any_names t a q (awaited p k false x e w)
  unfolding if_there
  task_typed d n t a q x e w h (is_task {i} {a = r} j g) k =
      up_to p f (turns n) g (by (as_long w.state.clock.results t.entries i r k.clock.entries j))
    where
      by : Has_at w.state.clock.results i → Comes p f (turns n) any_names t a r (task_awaited p d (nth w.state.clock.results i) i e w)
      by (has_at {x = y} z) =
          subst (λ m. Comes p f (turns n) any_names t a r (task_awaited p d m i e w)) (sym z) (awaited_by d n t a r i y e w h j
          (subst (λ m. GivenOf f.up t r (given_by m)) z (k.clock.results i r j)) k)

  event_kind : {t : Typing} {kd : CellKind} {us : List Val} {q r : Sort} → CellIs f.up f.slots t kd us r → r ≡ s.event q → kd ≡ cell.Event
  event_kind (var_is i) e = cc
  event_kind (object_is i) e = cc
  event_kind event_is e = refl

  -- the event that a value names
  pub data Names_event (t : Typing) (q : Sort) (st : State) : Val → Type 0 where
    names_event : {c : ℕ} → event_of (v.event c) st ≡ Some c → at t.cells c ≡ Some (s.event q) → Names_event t q st (v.event c)

  pub event_named : (t : Typing) (q : Sort) (w : World) (x : Val) → Is f.up t x (s.event q) → Cells f t w → Names_event t q w.state x
  event_named t q w x (is_event {i} h) k = by (cell_there f.up f.slots i k h)
    where
      by : Cell_of f.up f.slots t (slice_get w.state.memory.store i) (s.event q) → Names_event t q w.state (v.event i)
      by (cell_of {x = y} e j) =
          names_event (subst (λ z. event_at i z ≡ Some i) (sym e) (subst (λ z. Rattle.verse_meaning_state.specs.Effects.event_in i z ≡
          Some i)
          (sym (event_kind j refl)) refl)) h

  pub event_typed : (k : Deeper) (n : ℕ) (t : Typing) (a : Allowed) (q : Sort) (x : Val) (e : Env) (w : World) → a.waits ≡ true →
      Is f.up t x (s.event q) →
      KeptIn p f (LeftScope p f n) t w → Comes p f (turns n) any_names t a q (awaited p k true x e w)
  unfolding if_there
  event_typed d n t a q x e w h i k = by (event_named t q w x i k.cells)
    where
      by : {x : Val} → Names_event t q w.state x → Comes p f (turns n) any_names t a q (if_there (event_of x w.state) w (λ c. suspended
          (heard c) e w))
      by (names_event {c} j g) =
          subst (λ m. Comes p f (turns n) any_names t a q (if_there m w (λ c. suspended (heard c) e w))) (sym j)
          (suspended_typed n t a q (heard c) e w h g k)

  signals_with : (t : Typing) (gs : List Signal) (g : Signal) (q : Sort) → SignalsOf f.up t gs → at t.cells g.event ≡ Some (s.event q) →
      Is f.up t g.given.value q → SignalsOf f.up t (gs ++ g ∷ [])
  signals_with t [] g q h j i = ((q, j, i), tt)
  signals_with t (x ∷ gs) g q h j i = (h.0, signals_with t gs g q h.1 j i)

  signal_kept : (n : ℕ) (t : Typing) (q : Sort) (c : ℕ) (x : Val) (w : World) → at t.cells c ≡ Some (s.event q) → Is f.up t x q →
      KeptIn p f (LeftScope p f n) t w → KeptIn p f (LeftScope p f n) t (with_state w (signalled c x w.state))
  signal_kept n t q c x w h i k = record {
    cells = k.cells;
    clock = record {
      entries = k.clock.entries;
      waits = k.clock.waits;
      results = k.clock.results;
      signals = signals_with t w.state.clock.signals _ q k.clock.signals h i;
    };
    behind = k.behind;
    tasks = k.tasks;
  }

  pub signal_typed : (n : ℕ) (t : Typing) (a : Allowed) (q : Sort) (o x : Val) (e : Env) (w : World) → Is f.up t o (s.event q) →
      Is f.up t x q →
      KeptIn p f (LeftScope p f n) t w → Comes p f (turns n) any_names t a s.unit (told_plain (signal_sent
      (event_of o w.state) x w.state) e w)
  unfolding told_plain
  signal_typed n t a q o x e w i j k = by (event_named t q w o i k.cells)
    where
      by : {o : Val} → Names_event t q w.state o → Comes p f (turns n) any_names t a s.unit (told_plain (signal_sent
          (event_of o w.state) x w.state) e w)
      by (names_event {c} h g) =
          subst (λ m. Comes p f (turns n) any_names t a s.unit (told_plain (signal_sent m x w.state) e w)) (sym h)
          (gives (later_itself a.waits t) (signal_kept n t q c x w g j k) is_unit tt)
