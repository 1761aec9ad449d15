-- Calls, spawned calls and defaults, as deep as there are steps.
use Rattle.std.proofs.Common.{◌≡◌, ℕ, zero, suc, ◌<◌, ◌≤◌, Bool, true, false, List, [], ◌∷◌, ◌++◌, length, Option, Some, None, refl, sym}
use Rattle.std.proofs.Common.{subst, ap, ◌∙◌, inl, inr, arith}
use Rattle.std.proofs.lemmas.Option.{same_Some}
use Rattle.verse_base.proofs.Facts.{length_more}
use Rattle.verse_tree.specs.ItemTree.{ParamTree, FunTree}
use Rattle.verse_tree.specs.declared.tables.Ref.TheVariants as ref
use Rattle.verse_value.specs.Val as v
use Rattle.verse_value.specs.Val.{Val}
use Rattle.verse_meaning_state.specs.State.{Given, with_entry}
use Rattle.verse_meaning_state.specs.Waits.{nth, given_by}
use Rattle.verse_names_tables.specs.Names.{Table}
use Rattle.verse_sorts.specs.Sorts as s
use Rattle.verse_sorts.specs.Sorts.{Sort, Fits}
use Rattle.verse_sorts.specs.Typing.{at, Typing, Grows, Adds, Is, Are, are_no, are_so, is_task}
use Rattle.verse_sorts.proofs.Fitting.{is_up, grows_itself, fits_itself}
use Rattle.verse_sorts_values.proofs.Cells.{at_more, at_end, cells_more}
use Rattle.verse_meaning.specs.Programs.{Program, fun_at}
use Rattle.verse_meaning.specs.Residuals.{Env, constant, body, root, Scope, Scopes, none}
use Rattle.verse_meaning.specs.Outcomes as o
use Rattle.verse_meaning.specs.Outcomes.{World, with_state, set_behind, Outcome, TaskOutcome, call_end, task_started, if_known}
use Rattle.verse_meaning.specs.Outcomes.{on_went_task}
use Rattle.verse_meaning.specs.Forms.{Deeper, bound_to}
use Rattle.verse_meaning.specs.Evaluating.{ev, scope_end, cancel_behind}
use Rattle.verse_meaning.specs.Runs.{with_params, with_this, entered, deeper}
use Rattle.verse_meaning.specs.Laws.{Keeps, ContextLeaves, ContextUndoes, CancelLeaves}
use Rattle.verse_sound_rules.specs.Found.{Signature, Found, Allowed, in_function, in_default}
use Rattle.verse_sound_rules.specs.Fine.{sort_at}
use Rattle.verse_sound_rules.specs.Programs.{FineFound, FineFunction, FineDefault, FineParams, params_behind}
use Rattle.verse_sound_trees.specs.Names.{HasThis, no_this, this_is, Sees}
use Rattle.verse_sound_trees.specs.Outcomes.{Later, any_names, Cells, gives, fails, returns, breaks, faults, ends_steps, waits}
use Rattle.verse_sound_trees.specs.Outcomes.{task_ends, task_lost, task_faults, task_ends_steps, task_sleeps}
use Rattle.verse_sound_trees.specs.Waiting.{GivenOf}
use Rattle.verse_sound_trees.specs.Going.{AllTasks, Dropped, KeptIn, LeftScope, Level, bare, turns, Kept, Comes, ComesTask}
use Rattle.verse_sound_trees.specs.Going.{Within}
use Rattle.verse_sound_trees.proofs.Names.{binds_value}
use Rattle.verse_sound_trees.proofs.Waiting.{given_more, signals_more}
use Rattle.verse_sound_trees.proofs.Worlds.{behind_more, tasks_more}
use Rattle.verse_sound_trees.proofs.Going.{Ends, spends_typed, typed_from}
use Rattle.verse_sound_trees.specs.Deep.{DeepTyped, Known}
use Rattle.verse_sound_trees.proofs.Suspending.{grows_later}
use Rattle.verse_sound_trees.specs.Bounds.{Bounds}
use Rattle.verse_sound_trees.proofs.Scopes.{scope_typed, call_typed, call_bare}
use Rattle.verse_sound_trees.proofs.Trees.{ev_well}

pub no_true : {A : Type 0} → false ≡ true → A
no_true h = cc

no_some : {A B : Type 0} {x : A} → None ≡ Some x → B
no_some h = cc

module _ (p : Program) (f : Found) where
  -- the parameters with the arguments
  pub record Named (t : Typing) (class : Option ℕ) (xs : Table) (made : Option Env) : Type 0 where
    pub env : Env
    pub is : made ≡ Some env
    pub sees : Sees f t class xs env

  pub params_typed : (t : Typing) (class : Option ℕ) (ps : List ParamTree) (qs : List Sort) (vs : List Val) (xs : Table) (e : Env) →
      FineParams p f xs ps qs →
      Are f.up t vs qs → Sees f t class xs e → Named t class (params_behind ps xs) (with_params ps vs e)
  params_typed t class [] [] vs xs e h are_no g = record { env = e; is = refl; sees = g }
  params_typed t class (x ∷ ps) (q ∷ qs) vs xs e h (are_so {w} {vs = ws} i is) g =
      params_typed t class ps qs ws (xs ++ (x.name, ref.Local x.number) ∷ []) (bound_to x.name (constant w) e) h.3 is
      (binds_value f t e class xs x.name x.number w h.1 h.2 (is_up f.up i h.0) g)
  params_typed t class [] (q ∷ qs) vs xs e h is g = absurd h
  params_typed t class (x ∷ ps) [] vs xs e h is g = absurd h

  -- before the parameters `Self` alone is there
  pub sees_this : (t : Typing) (class : Option ℕ) (w : Option Val) → HasThis f t class w → Sees f t class [] (with_this w)
  sees_this t class w no_this = record { locals = λ x n h. no_some h; keys = λ x n h. no_some h; this = no_this }
  sees_this t class w (this_is i) = record { locals = λ x n h. no_some h; keys = λ x n h. no_some h; this = this_is i }

  in_body : (sig : Signature) (m : Bool) (b : Sort) → Fits f.up b sig.result → Bounds f body (in_function sig m) sig.decides b sig.result
  in_body sig m b h = record {
    fails = λ g. g;
    returns = λ z g. (tt, subst (λ z. Fits f.up z sig.result) (same_Some sig.result z g) (fits_itself f.up sig.result));
    breaks = λ g. no_true g;
    value = h;
  }

  in_root : (entry : Option ℕ) (sig : Signature) (b : Sort) → sig.decides ≡ false → Fits f.up b sig.result →
      Bounds f (root entry) (in_function sig true) false b sig.result
  in_root entry sig b d h = record {
    fails = λ g. no_true (sym d ∙ g);
    returns = λ z g. (tt, subst (λ z. Fits f.up z sig.result) (same_Some sig.result z g) (fits_itself f.up sig.result));
    breaks = λ g. no_true g;
    value = h;
  }

  default_body : (m : Bool) (b q : Sort) → Fits f.up b q → Bounds f body (in_default m) false b q
  default_body m b q h = record { fails = λ g. no_true g; returns = λ z g. no_some g; breaks = λ g. no_true g; value = h }

  -- a scope where nothing may wait: nothing comes behind
  bare_ended : (t u : Typing) (c : Bool) (r : Sort) (k : Deeper) (outer bs : Scopes) (y : Val) (w : World) → Adds t u → Cells f u w →
      Is f.up u y r → bs ≡ none →
      ComesTask p f bare t c false r (on_went_task (cancel_behind p k bs w) (λ z. o.ends y (set_behind z outer)))
  unfolding on_went_task
  bare_ended t u c r k outer bs y w g h i same =
      subst (λ bs. ComesTask p f bare t c false r (on_went_task (cancel_behind p k bs w) (λ z. o.ends y (set_behind z outer)))) (sym same)
      (task_ends g h i)

  bare_scope : (t : Typing) (a : Allowed) (c : Bool) (b r : Sort) (k : Deeper) (outer : Scopes) (w : World) {E : Ends} {x : Outcome} →
      a.waits ≡ false → Bounds f body a c b r →
      Keeps false (set_behind w none) x → Comes p f bare E t a b x → ComesTask p f bare t c false r (scope_end p k body outer x)
  unfolding scope_end
  bare_scope t a c b r k outer w m h q (gives {u} {v = y} {w = z} g kz i e) =
      bare_ended t u c r k outer z.behind y z (subst (λ m. Later m t u) m g) kz (is_up f.up i h.value) q.0
  bare_scope t a c b r k outer w m h q (fails g) = task_lost (h.fails g)
  bare_scope t a c b r k outer w m h q (returns {u} {v = y} {w = z} d same g kz i) =
      bare_ended t u c r k outer z.behind y z (subst (λ m. Later m t u) m g) kz (is_up f.up i (h.returns d same).1) q.0
  bare_scope t a c b r k outer w m h q (breaks g j kz) = absurd (h.breaks g)
  bare_scope t a c b r k outer w m h q faults = task_faults
  bare_scope t a c b r k outer w m h q ends_steps = task_ends_steps
  bare_scope t a c b r k outer w m h q (waits g j kz l) = absurd l

  known_typed : (l : Level) {t : Typing} {a : Allowed} {b : Sort} {A : Type 0} (w : World) (m : Option A) (x : A) (go : A → Outcome) →
      m ≡ Some x →
      Comes p f l any_names t a b (go x) → Comes p f l any_names t a b (if_known m w go)
  unfolding if_known
  known_typed l {t} {a} {b} w m x go h i = subst (λ z. Comes p f l any_names t a b (if_known z w go)) (sym h) i

  -- one spawned task more
  abbrev pub with_task : Typing → Sort → Typing
  with_task t b = record t { entries = t.entries ++ b ∷ [] }

  pub task_grows : (t : Typing) (b : Sort) → Grows t (with_task t b)
  task_grows t b = record {
    cells = λ i a h. h;
    entries = λ i a h. at_more t.entries
        (b ∷ []) i a h;
    waits = λ i a h. h;
    parts = λ i a h. h;
  }

  at_last : (t : Typing) (b a : Sort) (xs : List (Option Given)) (i : ℕ) → length xs ≡ length t.entries →
      at (with_task t b).entries i ≡ Some a →
      ((a : Sort) → at t.entries i ≡ Some a → GivenOf f.up (with_task t b) a (given_by (nth xs i))) →
      GivenOf f.up (with_task t b) a (given_by (nth (xs ++ None ∷ []) i))
  at_last t b a xs i long h g = by xs t.entries i long h g
    where
      by : (xs : List (Option Given)) (ys : List Sort) (i : ℕ) → length xs ≡ length ys → at (ys ++ b ∷ []) i ≡ Some a →
          ((a : Sort) → at ys i ≡ Some a → GivenOf f.up (with_task t b) a (given_by (nth xs i))) →
          GivenOf f.up (with_task t b) a (given_by (nth (xs ++ None ∷ []) i))
      by [] [] zero long h g = tt
      by [] [] (suc i) long h g = tt
      by [] (y ∷ ys) i long h g = absurd (omega (arith, long))
      by (x ∷ xs) [] i long h g = absurd (omega (arith, long))
      by (x ∷ xs) (y ∷ ys) zero long h g = g a h
      by (x ∷ xs) (y ∷ ys) (suc i) long h g = by xs ys i (omega (arith, long)) h g

  pub task_kept : (n : ℕ) (t : Typing) (b : Sort) (w : World) → KeptIn p f (LeftScope p f n) t w →
      KeptIn p f (LeftScope p f n) (with_task t b) (with_state w (with_entry w.state))
  task_kept n t b w k = record {
    cells = cells_more f.up f.slots (task_grows t b) k.cells;
    clock = record {
      entries = length_more w.state.clock.results None ∙ (ap suc k.clock.entries ∙ sym (length_more t.entries b));
      waits = k.clock.waits;
      results = λ i a h. at_last t b a w.state.clock.results i k.clock.entries h (λ a g. given_more f.up a (given_by
          (nth w.state.clock.results i)) (task_grows t b) (k.clock.results i a g));
      signals = signals_more f.up w.state.clock.signals (task_grows t b) k.clock.signals;
    };
    behind = behind_more p f n t (with_task t b) w.behind (task_grows t b) k.behind;
    tasks = tasks_more p f n t (with_task t b) w.tasks (task_grows t b) k.tasks;
  }

  pub join_tasks : (n : ℕ) (t : Typing) (xs ys : List (Option Scope)) → AllTasks (Dropped (LeftScope p f n) t) xs →
      AllTasks (Dropped (LeftScope p f n) t) ys →
      AllTasks (Dropped (LeftScope p f n) t) (xs ++ ys)
  join_tasks n t [] ys h g = g
  join_tasks n t (None ∷ xs) ys h g = join_tasks n t xs ys h g
  join_tasks n t (Some q ∷ xs) ys h g = (h.0, join_tasks n t xs ys h.1 g)

  started_typed : (n : ℕ) (t : Typing) (a : Allowed) (b : Sort) (i : ℕ) (e : Env) {x : TaskOutcome} → a.waits ≡ true →
      at t.entries i ≡ Some b →
      ComesTask p f (turns n) t false true b x → Comes p f (turns n) any_names t a (s.task b) (task_started e (v.task i) x)
  unfolding task_started
  started_typed n t a b i e m h (task_ends {u} g k j) = gives (grows_later p f a.waits t u m g) k (is_task (g.entries i b h)
      (fits_itself f.up b)) tt
  started_typed n t a b i e m h (task_lost g) = no_true g
  started_typed n t a b i e m h task_faults = faults
  started_typed n t a b i e m h task_ends_steps = ends_steps
  started_typed n t a b i e m h (task_sleeps {u} {q} {w} d g k l) =
      gives (grows_later p f a.waits t u m g) (record {
        cells = k.cells;
        clock = k.clock;
        behind = k.behind;
        tasks = join_tasks n u
            w.tasks (Some q ∷ []) k.tasks ((b, l), tt);
      })
      (is_task (g.entries i b h) (fits_itself f.up b)) tt

  module _ (leave : (g : ℕ) → ContextLeaves p g) (undo : (g : ℕ) → ContextUndoes p (deeper p g)) (cancel : (g : ℕ) →
      CancelLeaves p (deeper p g)) (fine : FineFound p f) where
    -- no step is left
    base_typed : (l : Level) → DeepTyped p f l (deeper p zero)
    base_typed l = record {
      calls = λ t a g fn ob vs e w found rd dc lt th are k.
          let ff : FineFunction p f g fn = fine.functions g fn found in
          let n = params_typed t (f.signature g).this fn.params (f.signature g).params vs [] (with_this ob) ff.params are (sees_this t
          (f.signature g).this ob th) in
          known_typed l w (fun_at p g) fn _ found (known_typed l w (with_params fn.params vs (with_this ob)) n.env _ n.is ends_steps);
      spawns = λ t a g fn ob vs e w found rd m d th are k.
          let ff : FineFunction p f g fn = fine.functions g fn found in
          let n = params_typed t (f.signature g).this fn.params (f.signature g).params vs [] (with_this ob) ff.params are (sees_this t
          (f.signature g).this ob th) in
          known_typed l w (fun_at p g) fn _ found (known_typed l w (with_params fn.params vs (with_this ob)) n.env _ n.is ends_steps);
      defaults = λ t a b q e w h rd k. ends_steps;
    }

    same_body : (sig : Signature) (m : Bool) → m ≡ false → (in_function sig m).waits ≡ false
    same_body sig m h = h

    -- a step, and what begins with it
    bare_calls : (h : ℕ) → Known p f bare h → (t : Typing) (a : Allowed) (g : ℕ) (fn : FunTree) (e e1 : Env) (w : World) →
        a.waits ≡ false → FineFunction p f g fn →
        ((f.signature g).decides ≡ true → a.fails ≡ true) → ((f.signature g).lasts ≡ true → a.waits ≡ true) →
        Sees f t (f.signature g).this (params_behind fn.params []) e1 → Kept p f bare t w →
        Comes p f bare any_names t a (f.signature g).result (call_end e (entered p (deeper p h) body fn e1 a.waits w))
    bare_calls h known t a g fn e e1 w m ff dc lt see k =
        call_bare p f t a (f.signature g).decides (f.signature g).result e dc
        (subst (λ z. ComesTask p f bare t (f.signature g).decides z (f.signature g).result (entered p (deeper p h) body fn e1 a.waits w))
        (sym m)
        (bare_scope t (in_function (f.signature g) a.waits) (f.signature g).decides (sort_at p f fn.body) (f.signature g).result
        (deeper p h) w.behind w m
        (in_body (f.signature g) a.waits (sort_at p f fn.body) ff.result)
        (subst (λ z. Keeps false (set_behind w none) (ev p (deeper p h) fn.body z e1 (set_behind w none))) (sym m)
        ((leave h).form fn.body e1 (set_behind w none)))
        (ev_well p f bare h known fn.body (in_function (f.signature g) a.waits) (params_behind fn.params []) t e1
        (ff.body a.waits lt) see bare h (omega arith) m t
        (set_behind w none) grows_itself k)))

    bare_step : (h : ℕ) → Known p f bare h → DeepTyped p f bare (deeper p (suc h))
    bare_step h known = record {
      calls = λ t a g fn ob vs e w found rd dc lt th are k.
          let ff : FineFunction p f g fn = fine.functions g fn found in
          let n = params_typed t (f.signature g).this fn.params (f.signature g).params vs [] (with_this ob) ff.params are (sees_this t
          (f.signature g).this ob th) in
          known_typed bare w (fun_at p g) fn _ found (known_typed bare w (with_params fn.params vs (with_this ob)) n.env _ n.is
          (spends_typed p f bare w w.state.clock.left _ k (λ z kz. bare_calls h known t a g fn e n.env z rd ff dc lt n.sees kz)));
      spawns = λ t a g fn ob vs e w found rd m d th are k. no_true (sym rd ∙ m);
      defaults = λ t a b q e w h1 rd k. spends_typed p f bare w w.state.clock.left _ k (λ z kz.
          let d : FineDefault p f b q = fine.defaults b q h1 in
          call_bare p f t a false q e (λ g. no_true g)
          (subst (λ m. ComesTask p f bare t false m q (scope_end p (deeper p h) body z.behind (ev p (deeper p h) b a.waits []
          (set_behind z none)))) (sym rd)
          (bare_scope t (in_default a.waits) false (sort_at p f b) q (deeper p h) z.behind z rd (default_body a.waits
          (sort_at p f b) q d.fits)
          (subst (λ m. Keeps false (set_behind z none) (ev p (deeper p h) b m [] (set_behind z none))) (sym rd) ((leave h).form b []
          (set_behind z none)))
          (ev_well p f bare h known b (in_default a.waits) [] t [] (d.value a.waits) (sees_this t None None no_this) bare h
          (omega arith) rd t (set_behind z none) grows_itself kz))));
    }

    pub at_top : (n h : ℕ) → Within (turns n) h (turns n) h
    at_top n h = inr (refl, omega arith)

    turns_step : (n h : ℕ) → Known p f (turns n) h → DeepTyped p f (turns n) (deeper p (suc h))
    turns_step n h known = record {
      calls = λ t a g fn ob vs e w found rd dc lt th are k.
          let ff : FineFunction p f g fn = fine.functions g fn found in
          let q = params_typed t (f.signature g).this fn.params (f.signature g).params vs [] (with_this ob) ff.params are (sees_this t
          (f.signature g).this ob th) in
          known_typed (turns n) w (fun_at p g) fn _ found (known_typed (turns n) w (with_params fn.params vs (with_this ob)) q.env _ q.is
          (spends_typed p f (turns n) w w.state.clock.left _ k (λ z kz.
          call_typed p f n t a (f.signature g).decides (f.signature g).result e dc
          (scope_typed p f cancel n h body t (in_function (f.signature g) a.waits) (f.signature g).decides (sort_at p f fn.body)
          (f.signature g).result z.behind
          (in_body (f.signature g) a.waits (sort_at p f fn.body) ff.result) tt kz.behind
          (ev_well p f (turns n) h known fn.body (in_function (f.signature g) a.waits) (params_behind fn.params []) t q.env
          (ff.body a.waits lt) q.sees (turns n) h (at_top n h) tt t
          (set_behind z none) grows_itself (record { cells = kz.cells; clock = kz.clock; behind = tt; tasks = kz.tasks }))))));
      spawns = λ t a g fn ob vs e w found rd m d th are k.
          let ff : FineFunction p f g fn = fine.functions g fn found in
          let q = params_typed t (f.signature g).this fn.params (f.signature g).params vs [] (with_this ob) ff.params are (sees_this t
          (f.signature g).this ob th) in
          known_typed (turns n) w (fun_at p g) fn _ found (known_typed (turns n) w (with_params fn.params vs (with_this ob)) q.env _ q.is
          (spends_typed p f (turns n) w w.state.clock.left _ k (λ z kz.
          spawned_typed n h known t a g fn e q.env z m d ff q.sees kz)));
      defaults = λ t a b q e w h1 rd k. spends_typed p f (turns n) w w.state.clock.left _ k (λ z kz.
          let d : FineDefault p f b q = fine.defaults b q h1 in
          call_typed p f n t a false q e (λ g. no_true g)
          (scope_typed p f cancel n h body t (in_default a.waits) false (sort_at p f b) q z.behind (default_body a.waits
          (sort_at p f b) q d.fits) tt kz.behind
          (ev_well p f (turns n) h known b (in_default a.waits) [] t [] (d.value a.waits) (sees_this t None None no_this) (turns n) h
          (at_top n h) tt t
          (set_behind z none) grows_itself (record { cells = kz.cells; clock = kz.clock; behind = tt; tasks = kz.tasks }))));
    }
      where
        spawned_typed : (n h : ℕ) → Known p f (turns n) h → (t : Typing) (a : Allowed) (g : ℕ) (fn : FunTree) (e e1 : Env) (z : World) →
            a.waits ≡ true →
            (f.signature g).decides ≡ false → FineFunction p f g fn → Sees f t (f.signature g).this (params_behind fn.params []) e1 →
            KeptIn p f (LeftScope p f n) t z →
            Comes p f (turns n) any_names t a (s.task (f.signature g).result) (task_started e (v.task (length z.state.clock.results))
            (entered p (deeper p h) (root (Some (length z.state.clock.results))) fn e1 true (with_state z (with_entry z.state))))
        spawned_typed n h known t a g fn e e1 z m d ff see kz =
            let u = with_task t (f.signature g).result in
            let kept = task_kept n t (f.signature g).result z kz in
            let entry : at u.entries (length z.state.clock.results) ≡ Some (f.signature g).result =
            subst (λ i. at u.entries i ≡ Some (f.signature g).result) (sym kz.clock.entries) (at_end t.entries (f.signature g).result) in
            typed_from p f (turns n) (grows_later p f a.waits t u m (task_grows t (f.signature g).result))
            (started_typed n u a (f.signature g).result (length z.state.clock.results) e m entry
            (scope_typed p f cancel n h (root (Some (length z.state.clock.results))) u (in_function (f.signature g) true) false
            (sort_at p f fn.body) (f.signature g).result z.behind
            (in_root (Some (length z.state.clock.results)) (f.signature g) (sort_at p f fn.body) d ff.result) entry kept.behind
            (ev_well p f (turns n) h known fn.body (in_function (f.signature g) true) (params_behind fn.params []) u e1 (ff.body true
            (λ q. refl))
            (Rattle.verse_sound_trees.proofs.Names.sees_more f (task_grows t (f.signature g).result) see) (turns n) h (at_top n h) tt u
            (set_behind (with_state z (with_entry z.state)) none) grows_itself
            (record { cells = kept.cells; clock = kept.clock; behind = tt; tasks = kept.tasks }))))

    -- at every depth, where nothing may wait
    bare_below : (g h : ℕ) → h < g → DeepTyped p f bare (deeper p h)
    bare_below zero h lt = absurd (omega (arith, lt))
    bare_below (suc g) zero lt = base_typed bare
    bare_below (suc g) (suc h) lt = bare_step h (record {
      leave = leave;
      undo = undo;
      cancel = cancel;
      fine = fine;
      deep = λ l j w. by l j w (λ i le. bare_below g i (omega (arith, lt, le)));
    })
      where
        by : (l : Level) (j : ℕ) → Within bare h l j → ((i : ℕ) → i ≤ h → DeepTyped p f bare (deeper p i)) → DeepTyped p f l (deeper p j)
        by bare j w d = d j w
        by (turns m) j w d = absurd w

    pub bare_deep : (h : ℕ) → DeepTyped p f bare (deeper p h)
    bare_deep h = bare_below (suc h) h (omega arith)

    -- for so many turns, at every depth
    depth_below : (n : ℕ) → ((m : ℕ) → m < n → (g : ℕ) → DeepTyped p f (turns m) (deeper p g)) → (g h : ℕ) → h < g →
        DeepTyped p f (turns n) (deeper p h)
    depth_below n less zero h lt = absurd (omega (arith, lt))
    depth_below n less (suc g) zero lt = base_typed (turns n)
    depth_below n less (suc g) (suc h) lt = turns_step n h (record {
      leave = leave;
      undo = undo;
      cancel = cancel;
      fine = fine;
      deep = λ l j w. by l j w (λ i le. depth_below n less g i (omega (arith, lt, le)));
    })
      where
        by : (l : Level) (j : ℕ) → Within (turns n) h l j → ((i : ℕ) → i ≤ h → DeepTyped p f (turns n) (deeper p i)) →
            DeepTyped p f l (deeper p j)
        by bare j w d = bare_deep j
        by (turns m) j (inl w) d = less m w j
        by (turns m) j (inr w) d = subst (λ z. DeepTyped p f (turns z) (deeper p j)) (sym w.0) (d j w.1)

    turns_below : (n m : ℕ) → m < n → (g : ℕ) → DeepTyped p f (turns m) (deeper p g)
    turns_below zero m lt g = absurd (omega (arith, lt))
    turns_below (suc n) m lt g = depth_below m (λ j lt1 h. turns_below n j (omega (arith, lt, lt1)) h) (suc g) g (omega arith)

    pub turns_deep : (n g : ℕ) → DeepTyped p f (turns n) (deeper p g)
    turns_deep n g = turns_below (suc n) n (omega arith) g

    -- all that is asked before a level and a depth
    pub known_at : (n g : ℕ) → Known p f (turns n) g
    known_at n g = record { leave = leave; undo = undo; cancel = cancel; fine = fine; deep = λ l j w. by l j }
      where
        by : (l : Level) (j : ℕ) → DeepTyped p f l (deeper p j)
        by bare j = bare_deep j
        by (turns m) j = turns_deep m j
