-- Task scopes end and go on.
use Rattle.std.proofs.Common.{◌≡◌, ℕ, zero, suc, Bool, true, false, List, [], ◌∷◌, length, Option, Some, None, refl, sym}
use Rattle.std.proofs.Common.{subst, ap, ◌∙◌}
use Rattle.std.proofs.lemmas.Option.{same_Some}
use Rattle.verse_value.specs.Val.{Val}
use Rattle.verse_meaning_state.specs.State.{State, Given, set_at}
use Rattle.verse_meaning_state.specs.Waits.{has, nth, given_by}
use Rattle.verse_sorts.specs.Sorts.{Sort}
use Rattle.verse_sorts.specs.Typing.{at, Typing, Grows, Adds, Is}
use Rattle.verse_sorts.proofs.Fitting.{is_more, is_up, grows_itself, grows_on}
use Rattle.verse_meaning.specs.Programs.{Program}
use Rattle.verse_meaning.specs.Residuals.{Env, Residual, leaves, called, Role, part, body, root, Scope, scope, Scopes, none, also}
use Rattle.verse_meaning.specs.Residuals.{scope_leaves, is_behind}
use Rattle.verse_meaning.specs.Outcomes as o
use Rattle.verse_meaning.specs.Outcomes.{World, set_behind, Outcome, TaskOutcome, BehindOutcome, Went, on_went_task, call_end}
use Rattle.verse_meaning.specs.Outcomes.{finished, element_came}
use Rattle.verse_meaning.specs.Outcomes.{element_before, behind_came}
use Rattle.verse_meaning.specs.Evaluating.{on_bool, cancel_kids, cancel_behind, scope_end, scope_ended}
use Rattle.verse_meaning.specs.Resuming.{resume, resume_scope, resume_behind}
use Rattle.verse_meaning.specs.Runs.{deeper}
use Rattle.verse_meaning.specs.Laws.{CancelLeaves, KeepsWent}
use Rattle.verse_sound_rules.specs.Found.{Found, Allowed}
use Rattle.verse_sound_trees.specs.Outcomes.{Later, any_names, WentWell, goes_well, quits_fault, quits_steps, gives}
use Rattle.verse_sound_trees.specs.Outcomes.{fails, returns, breaks}
use Rattle.verse_sound_trees.specs.Outcomes.{faults, ends_steps, waits, task_ends, task_lost, task_faults, task_ends_steps}
use Rattle.verse_sound_trees.specs.Outcomes.{task_sleeps}
use Rattle.verse_sound_trees.specs.Waiting.{GivenOf}
use Rattle.verse_sound_trees.specs.Going.{AllBehind, AllTasks, Dropped, KeptIn, Left, LeftScope, bare, turns, Comes}
use Rattle.verse_sound_trees.specs.Going.{ComesTask}
use Rattle.verse_sound_trees.proofs.Waiting.{clock_moves}
use Rattle.verse_sound_trees.proofs.Worlds.{later_on, later_grows, adds_later, left_more, scope_more, behind_more}
use Rattle.verse_sound_trees.proofs.Worlds.{tasks_more, behind_fewer}
use Rattle.verse_sound_trees.proofs.Going.{Ends}
use Rattle.verse_sound_trees.specs.Bounds.{MayFail, MayReturn, EntryIs, Bounds}
use Rattle.verse_sound_trees.proofs.Cancelling.{left_cancels, left_waits, both_undone, behind_undone, behind_waits, has_own}

pub entry_more : (q : Role) (t u : Typing) (r : Sort) → Grows t u → EntryIs t q r → EntryIs u q r
entry_more part t u r g h = tt
entry_more body t u r g h = tt
entry_more (root None) t u r g h = tt
entry_more (root (Some i)) t u r g h = g.entries i r h

set_long : {A : Type 0} (xs : List A) (i : ℕ) (x : A) → length (set_at xs i x) ≡ length xs
set_long [] i x = refl
set_long (y ∷ xs) zero x = refl
set_long (y ∷ xs) (suc i) x = ap suc (set_long xs i x)

module _ (p : Program) (f : Found) where
  set_given : (t : Typing) (a : Sort) (xs : List (Option Given)) (i j : ℕ) (g : Given) → (j ≡ i → Is f.up t g.value a) →
      GivenOf f.up t a (given_by (nth xs j)) → GivenOf f.up t a (given_by (nth (set_at xs i (Some g)) j))
  set_given t a [] i j g h k = k
  set_given t a (x ∷ xs) zero zero g h k = h refl
  set_given t a (x ∷ xs) zero (suc j) g h k = k
  set_given t a (x ∷ xs) (suc i) zero g h k = k
  set_given t a (x ∷ xs) (suc i) (suc j) g h k = set_given t a xs i j g (λ e. h (ap suc e)) k

  -- a task has given its value
  pub finished_kept : (n : ℕ) (q : Role) (t : Typing) (r : Sort) (y : Val) (w : World) → EntryIs t q r → Is f.up t y r →
      KeptIn p f (LeftScope p f n) t w → KeptIn p f (LeftScope p f n) t (finished q y w)
  finished_kept n part t r y w h i k = k
  finished_kept n body t r y w h i k = k
  finished_kept n (root None) t r y w h i k = record { cells = k.cells; clock = k.clock; behind = k.behind; tasks = k.tasks }
  finished_kept n (root (Some j)) t r y w h i k = record {
    cells = k.cells;
    clock = record {
      entries = set_long w.state.clock.results j _ ∙ k.clock.entries;
      waits = k.clock.waits;
      results = λ m a e. set_given t a w.state.clock.results j m (record { value = y; moment = w.state.clock.now })
          (λ same. subst (λ z. Is f.up t y z) (same_Some r a (sym h ∙ subst (λ z. at t.entries z ≡ Some a) same e)) i)
          (k.clock.results m a e);
      signals = k.clock.signals;
    };
    behind = k.behind;
    tasks = k.tasks;
  }

  -- what is behind is cancelled
  went_task : (n : ℕ) (t : Typing) (c m : Bool) (r : Sort) (w : World) (outer : Scopes) (x : Went) (go : World → TaskOutcome) →
      KeptIn p f (LeftScope p f n) t w →
      AllBehind (Dropped (LeftScope p f n) t) outer → WentWell f t x → KeepsWent w x →
      ((u : Typing) (z : World) → Adds t u → KeptIn p f (LeftScope p f n) u (set_behind z outer) → ComesTask p f (turns n) t c m r (go z)) →
      ComesTask p f (turns n) t c m r (on_went_task x go)
  unfolding on_went_task
  went_task n t c m r w outer x go k l (goes_well {u} {w = z} g h) q next = next u z g (record {
    cells = h;
    clock = clock_moves f.up g q.1.1 k.clock;
    behind = behind_more p f n t u outer g.grows l;
    tasks = subst (λ y. AllTasks (Dropped (LeftScope p f n) u) y) (sym q.1.0) (tasks_more p f n t u w.tasks g.grows k.tasks);
  })
  went_task n t c m r w outer x go k l quits_fault q next = task_faults
  went_task n t c m r w outer x go k l quits_steps q next = task_ends_steps

  module _ (cancel : (g : ℕ) → CancelLeaves p (deeper p g)) where
    -- a scope ends with a value
    ended_typed : (n g : ℕ) (q : Role) (t u : Typing) (c m : Bool) (r : Sort) (outer : Scopes) (y : Val) (w : World) → Later m t u →
        EntryIs t q r →
        AllBehind (Dropped (LeftScope p f n) t) outer → KeptIn p f (LeftScope p f n) u w → Is f.up u y r →
        ComesTask p f (turns n) t c m r (scope_ended p (deeper p g) q outer y w)
    ended_typed n g q t u c m r outer y w h e l k i = from
        (went_task n u c m r w outer (cancel_behind p (deeper p g) w.behind w) _ k (behind_more p f n t u outer (later_grows m t u h) l)
        (behind_undone p f n u w.behind k.behind u g w grows_itself k.cells) ((cancel g).background w.behind w)
        (λ v z j d. task_ends (adds_later m u v j) (finished_kept n q v r y (set_behind z outer)
        (entry_more q t v r (grows_on (later_grows m t u h) j.grows) e) (is_more f.up j.grows i) d) (is_more f.up j.grows i)))
      where
        from : {x : TaskOutcome} → ComesTask p f (turns n) u c m r x → ComesTask p f (turns n) t c m r x
        from (task_ends j z i) = task_ends (later_on m t u _ h j) z i
        from (task_lost j) = task_lost j
        from task_faults = task_faults
        from task_ends_steps = task_ends_steps
        from (task_sleeps j v z l) = task_sleeps j (later_on m t u _ h v) z l

    -- what a scope comes to from its body; S is what makes a scope go on from what is left of its body
    scope_comes : (n g : ℕ) (q : Role) (t : Typing) (a : Allowed) (c : Bool) (b r : Sort) (outer : Scopes) {E : Ends} {x : Outcome} →
        Bounds f q a c b r →
        EntryIs t q r → AllBehind (Dropped (LeftScope p f n) t) outer →
        (a.waits ≡ true → (u : Typing) (z : Residual) (bs : Scopes) → Grows t u → Left p f n u a b z →
        AllBehind (Dropped (LeftScope p f n) u) bs →
        LeftScope p f n u c r (scope q z bs)) → Comes p f (turns n) E t a b x →
        ComesTask p f (turns n) t c a.waits r (scope_end p (deeper p g) q outer x)
    unfolding scope_end
    scope_comes n g q t a c b r outer h e l s (gives {u} {v = y} {w} j k i z) = ended_typed n g q t u c a.waits r outer y w j e l k
        (is_up f.up i h.value)
    scope_comes n g q t a c b r outer h e l s (fails {st} j) = by q (h.fails j)
      where
        by : (q : Role) → MayFail q c → ComesTask p f (turns n) t c a.waits r (Rattle.verse_meaning.specs.Outcomes.not_given q st)
        by part m = absurd m
        by body m = task_lost m
        by (root i) m = absurd m
    scope_comes n g q t a c b r outer h e l s (returns {u} {v = y} {w} z same j k i) =
        let m = h.returns z same in by q m.0 e (is_up f.up i m.1)
      where
        by : (q : Role) → MayReturn q → EntryIs t q r → Is f.up u y r →
            ComesTask p f (turns n) t c a.waits r (Rattle.verse_meaning.specs.Evaluating.scope_returned p (deeper p g) q outer y w)
        by part m e i = absurd m
        by body m e i = ended_typed n g body t u c a.waits r outer y w j e l k i
        by (root x) m e i = ended_typed n g (root x) t u c a.waits r outer y w j e l k i
    scope_comes n g q t a c b r outer h e l s (breaks m j k) = absurd (h.breaks m)
    scope_comes n g q t a c b r outer h e l s faults = task_faults
    scope_comes n g q t a c b r outer h e l s ends_steps = task_ends_steps
    scope_comes n g q t a c b r outer h e l s (waits {u} {r = z} {w} m j k i) =
        task_sleeps m j (record {
          cells = k.cells;
          clock = k.clock;
          behind = behind_more p f n t u outer
              (later_grows a.waits t u j) l;
          tasks = k.tasks;
        })
        (s m u z w.behind (later_grows a.waits t u j) i k.behind)

    -- what is behind goes on
    pub data BehindWell (n : ℕ) (t : Typing) : BehindOutcome → Type 0 where
      stays_well : {u : Typing} {bs : Scopes} {w : World} → Grows t u → KeptIn p f (LeftScope p f n) u w →
          AllBehind (Dropped (LeftScope p f n) u) bs →
          BehindWell n t (o.stays bs w)
      stops_fault : {k : Rattle.verse_base.specs.declared.refusals.Kind.Kind} {pl : Rattle.verse_base.specs.declared.places.Place.Place}
          {st : State} →
          BehindWell n t (o.stops_behind (o.fault k pl st))
      stops_steps : {st : State} → BehindWell n t (o.stops_behind (o.out st))

    element_well : (n : ℕ) (t : Typing) (b : Sort) (bs : Scopes) {x : TaskOutcome} → AllBehind (Dropped (LeftScope p f n) t) bs →
        ComesTask p f (turns n) t false true b x → BehindWell n t (element_came x bs)
    unfolding element_came
    element_well n t b bs l (task_ends {u} g k i) = stays_well g k (behind_more p f n t u bs g l)
    element_well n t b bs l (task_lost h) = cc
    element_well n t b bs l task_faults = stops_fault
    element_well n t b bs l task_ends_steps = stops_steps
    element_well n t b bs l (task_sleeps {u} h g k q) = stays_well g k ((b, q), behind_more p f n t u bs g l)

    before_well : (n : ℕ) (t : Typing) (q : Scope) {x : BehindOutcome} → Dropped (LeftScope p f n) t q → BehindWell n t x →
        BehindWell n t (element_before q x)
    unfolding element_before
    before_well n t q l (stays_well {u} g k m) = stays_well g k ((l.0, scope_more p f n t u false l.0 q g l.1), m)
    before_well n t q l stops_fault = stops_fault
    before_well n t q l stops_steps = stops_steps

    behind_resumed : (n fuel i : ℕ) (x : Val) (d : Sort) (u t : Typing) (bs : Scopes) (w : World) →
        AllBehind (Dropped (LeftScope p f (suc n)) u) bs → Grows u t →
        at t.waits i ≡ Some d → Is f.up t x d → KeptIn p f (LeftScope p f n) t w → BehindWell n t (resume_behind p (deeper p fuel) bs i x w)
    behind_resumed n fuel i x d u t none w l g h j k = stays_well grows_itself k tt
    behind_resumed n fuel i x d u t (also q bs) w l g h j k =
        by (has i (scope_leaves q)) refl (behind_resumed n fuel i x d u t bs w l.1 g h j k)
      where
        by : (b : Bool) → has i (scope_leaves q) ≡ b → BehindWell n t (resume_behind p (deeper p fuel) bs i x w) → BehindWell n t
            (on_bool b (λ u. element_came (resume_scope p (deeper p fuel) q i x w) bs) (λ u. element_before q (resume_behind p
            (deeper p fuel) bs i x w)))
        by true e m = element_well n t l.0.0 bs (behind_more p f n u t bs g (behind_fewer p f n u bs l.1))
            (l.0.1.1 t fuel i x d w g h j e k)
        by false e m = before_well n t q (l.0.0, scope_more p f n u t false l.0.0 q g l.0.1.0) m

    behind_came_well : (n : ℕ) (t : Typing) (q : Role) (c : Bool) (r : Sort) (z : Residual) {x : BehindOutcome} → BehindWell n t x →
        ((u : Typing) (bs : Scopes) → Grows t u → AllBehind (Dropped (LeftScope p f n) u) bs → LeftScope p f n u c r (scope q z bs)) →
        ComesTask p f (turns n) t c true r (behind_came q z x)
    unfolding behind_came
    behind_came_well n t q c r z (stays_well {u} {bs} g k m) s = task_sleeps refl g k (s u bs g m)
    behind_came_well n t q c r z stops_fault s = task_faults
    behind_came_well n t q c r z stops_steps s = task_ends_steps

    -- a scope goes on, in what is behind or in its own residual
    pub scope_left : (n : ℕ) (q : Role) (a : Allowed) (c : Bool) (b r : Sort) → Bounds f q a c b r → a.waits ≡ true →
        (u : Typing) (z : Residual) (bs : Scopes) →
        EntryIs u q r → Left p f n u a b z → AllBehind (Dropped (LeftScope p f n) u) bs → LeftScope p f n u c r (scope q z bs)
    scope_left zero q a c b r h m u z bs e l k =
        let x = left_cancels p f zero u a b z l in (
          (
            both_undone p f u (λ d w. cancel_kids p (deeper p d) z w) (λ d w. cancel_behind p (deeper p d) bs w) x.0
                (behind_undone p f zero u bs k),
            x.1,
          ),
          behind_waits p f zero u bs (leaves z) k (left_waits p f zero u a b z l),
        )
    scope_left (suc n) q a c b r h m u z bs e l k = (
      scope_left n q a c b r h m u z bs e l.0 (behind_fewer p f n u bs k),
      λ o fuel i x d w g j y has_i kp.
          by o fuel i x d w g j y has_i kp (is_behind i bs) refl
          (λ v bs1 gr kb. scope_left n q a c b r h m v z bs1 (entry_more q u v r (grows_on g gr) e) (left_more p f n u v a b z
          (grows_on g gr) l.0) kb)
          (λ v z1 bs1 gr lz kb. scope_left n q a c b r h m v z1 bs1 (entry_more q u v r (grows_on g gr) e) lz kb),
    )
      where
        wait_mode : {t : Typing} {x : TaskOutcome} → ComesTask p f (turns n) t c a.waits r x → ComesTask p f (turns n) t c true r x
        wait_mode {t} {x} y = subst (λ z. ComesTask p f (turns n) t c z r x) m y

        by : (o : Typing) (fuel i : ℕ) (x : Val) (d : Sort) (w : World) → Grows u o → at o.waits i ≡ Some d → Is f.up o x d →
            has i (scope_leaves (scope q z bs)) ≡ true → KeptIn p f (LeftScope p f n) o w → (t : Bool) → is_behind i bs ≡ t →
            ((v : Typing) (bs1 : Scopes) → Grows o v → AllBehind (Dropped (LeftScope p f n) v) bs1 →
            LeftScope p f n v c r (scope q z bs1)) →
            ((v : Typing) (z1 : Residual) (bs1 : Scopes) → Grows o v → Left p f n v a b z1 → AllBehind (Dropped (LeftScope p f n) v) bs1 →
            LeftScope p f n v c r (scope q z1 bs1)) →
            ComesTask p f (turns n) o c true r (on_bool t (λ v. behind_came q z (resume_behind p (deeper p fuel) bs i x w))
            (λ v. scope_end p (deeper p fuel) q w.behind (resume p (deeper p fuel) z i x (set_behind w bs))))
        by o fuel i x d w g j y has_i kp true same s1 s2 =
            behind_came_well n o q c r z (behind_resumed n fuel i x d u o bs w k g j y kp) s1
        by o fuel i x d w g j y has_i kp false same s1 s2 =
            wait_mode (scope_comes n fuel q o a c b r w.behind h (entry_more q u o r g e) kp.behind (λ m1. s2)
            (l.1 o fuel i x d (set_behind w bs) g j y (has_own i bs (leaves z) has_i same)
            (record {
              cells = kp.cells;
              clock = kp.clock;
              behind = behind_more p f n u o bs g
                  (behind_fewer p f n u bs k);
              tasks = kp.tasks;
            })))

    -- a scope, from its body's outcome
    pub scope_typed : (n g : ℕ) (q : Role) (t : Typing) (a : Allowed) (c : Bool) (b r : Sort) (outer : Scopes) {E : Ends} {x : Outcome} →
        Bounds f q a c b r →
        EntryIs t q r → AllBehind (Dropped (LeftScope p f n) t) outer → Comes p f (turns n) E t a b x →
        ComesTask p f (turns n) t c a.waits r (scope_end p (deeper p g) q outer x)
    scope_typed n g q t a c b r outer h e l x = scope_comes n g q t a c b r outer h e l
        (λ m u z bs gr lz kb. scope_left n q a c b r h m u z bs (entry_more q t u r gr e) lz kb) x

  -- the end of a call
  pub left_called : (n : ℕ) (u : Typing) (a : Allowed) (c : Bool) (b : Sort) (e : Env) (q : Scope) → (c ≡ true → a.fails ≡ true) →
      a.waits ≡ true →
      LeftScope p f n u c b q → Left p f n u a b (called e q)
  unfolding call_end
  left_called zero u a c b e q h m l = l
  left_called (suc n) u a c b e q h m l = (
    left_called n u a c b e q h m l.0,
    λ o fuel i x d w g j y k kp.
        call_ends o (λ v z gr lz. left_called n v a c b e z h m lz) (l.1 o fuel i x d w g j y k kp),
  )
    where
      call_ends : (t : Typing) {x : TaskOutcome} → ((v : Typing) (z : Scope) → Grows t v → LeftScope p f n v c b z →
          Left p f n v a b (called e z)) →
          ComesTask p f (turns n) t c true b x → Comes p f (turns n) any_names t a b (call_end e x)
      call_ends t s (task_ends {u} g k i) = gives (subst (λ z. Later z t u) (sym m) g) k i tt
      call_ends t s (task_lost z) = fails (h z)
      call_ends t s task_faults = faults
      call_ends t s task_ends_steps = ends_steps
      call_ends t s (task_sleeps {u} {q = z} d g k l) = waits m (subst (λ z. Later z t u) (sym m) g) k (s u z g l)

  pub call_typed : (n : ℕ) (t : Typing) (a : Allowed) (c : Bool) (b : Sort) (e : Env) {x : TaskOutcome} → (c ≡ true → a.fails ≡ true) →
      ComesTask p f (turns n) t c a.waits b x → Comes p f (turns n) any_names t a b (call_end e x)
  unfolding call_end
  call_typed n t a c b e h (task_ends g k i) = gives g k i tt
  call_typed n t a c b e h (task_lost z) = fails (h z)
  call_typed n t a c b e h task_faults = faults
  call_typed n t a c b e h task_ends_steps = ends_steps
  call_typed n t a c b e h (task_sleeps {u} {q = z} m g k l) = waits m g k (left_called n u a c b e z h m l)

  -- the same where nothing may wait and nothing is behind
  pub call_bare : (t : Typing) (a : Allowed) (c : Bool) (b : Sort) (e : Env) {x : TaskOutcome} → (c ≡ true → a.fails ≡ true) →
      ComesTask p f bare t c a.waits b x → Comes p f bare any_names t a b (call_end e x)
  unfolding call_end
  call_bare t a c b e h (task_ends g k i) = gives g k i tt
  call_bare t a c b e h (task_lost z) = fails (h z)
  call_bare t a c b e h task_faults = faults
  call_bare t a c b e h task_ends_steps = ends_steps
  call_bare t a c b e h (task_sleeps {u} {q = z} m g k l) = absurd l
