-- Tasks are suspended, begin, end and are cancelled.
use Rattle.std.proofs.Common.{◌≡◌, ℕ, zero, suc, ◌+◌, ◌≤◌, length, List, [], ◌∷◌, ◌++◌, Option, Some, None, Bool, true, false, cond, refl}
use Rattle.std.proofs.Common.{sym}
use Rattle.std.proofs.Common.{subst, ap, arith, ◌∙◌}
use Rattle.std.specs.Prelude.{slice_get, if◌then◌else◌}
use Rattle.std.proofs.lemmas.Bool.{cond_both}
use Rattle.std.proofs.lemmas.List.{append-nil, append_assoc, length-append}
use Rattle.verse_value.specs.Store.{Cell}
use Rattle.verse_value.specs.declared.runs.CellKind.{CellKind}
use Rattle.std.proofs.lemmas.Option.{same_Some, none-some}
use Rattle.verse_base.specs.declared.places.Place.{Place}
use Rattle.verse_base.specs.declared.refusals.Kind.{Kind as Error}
use Rattle.verse_code.specs.declared.codes.Code.{Code}
use Rattle.verse_value.specs.Val as v
use Rattle.verse_value.specs.Val.{Val, Vals, vals}
use Rattle.verse_value.specs.Answer.{gives, error}
use Rattle.verse_value.specs.Sizes.{fits}
use Rattle.verse_value.specs.Operations.{tuple_of}
use Rattle.verse_meaning_state.specs.State.{State, Given, Signal, stepped}
use Rattle.verse_meaning_state.specs.Waits.{Cause, eqn}
use Rattle.verse_meaning_state.specs.Turns.{Kind, sync, race, rush}
use Rattle.verse_meaning_state.proofs.Numbers.{eqn_is, eqn_same}
use Rattle.verse_code_machine.specs.Tasks.{Handler, Note, Frame, root, part, Who, Part, did, runs, group, Thread, Task, After}
use Rattle.verse_code_machine.specs.Tasks.{resuming, closing, finishing, Up, clearing, Trees, World, world, Step}
use Rattle.verse_code_machine.specs.Tasks.{Next, Turn, machine, life_from, child_named, onto, among, starts, beneath_arms}
use Rattle.verse_code_machine.specs.Tasks.{same_path}
use Rattle.verse_code_machine.specs.Frames.{behind}
use Rattle.verse_code_machine.specs.Cancelling.{without, inserted, gone_before, gone_behind, cancelled, clears, cancels}
use Rattle.verse_code_machine.specs.Ends.{resumes, all_did, first_did, tupled, or_stands, grouped, next_arm, rested, suspends, is_run}
use Rattle.verse_code_machine.specs.Ends.{with_did, joined, climbs, root_ends}
use Rattle.verse_sorts.specs.Sorts as sort
use Rattle.verse_sorts.specs.Sorts.{Sort, Sorts}
use Rattle.verse_sorts.specs.Typing.{at, Typing, Grows, Adds, is_unit, is_tuple, is_task, AreEach, no_each, more_each, Are, are_no, are_so}
use Rattle.verse_sorts.proofs.Fitting.{fits_itself, are_more, is_up, is_more, grows_itself, adds_itself}
use Rattle.verse_verify_kept.specs.Notes.{Point, Notes, parent_of}
use Rattle.verse_verify_kept.specs.Known.{Known}
use Rattle.verse_verify_kept.specs.Rules.{MayWait, Ready, Fit, AllIn, in_so, sorts}
use Rattle.verse_verify_kept.specs.Kept.{Giver, func_gives, arm_gives, giver, Of, All, CellIs, var_is, object_is, event_is, CellsAre}
use Rattle.verse_verify_kept.specs.Kept.{cells_no, cells_so, StoreIs, Own, own, Plain, plain, Below, without_top}
use Rattle.verse_verify_kept.specs.Others.{Causes, coming, RoleIs, part_is, Alone, ThreadIs, PartsAre, parts_no, part_did}
use Rattle.verse_verify_kept.specs.Others.{part_runs, KindGives, all_give, first_gives, rush_gives, Starts, LabelsAre, labels_no, labels_so}
use Rattle.verse_verify_kept.specs.Others.{TaskIs}
use Rattle.verse_verify_kept.specs.Others.{sleeps, groups, TasksAre, tasks_no, tasks_so, trees_no, trees_so, UpsAre, ups_no}
use Rattle.verse_verify_kept.specs.Others.{ups_begin, ups_branch, ups_spawn, ResultsAre, Clocked, Tasked, Ends_in, World_is}
use Rattle.verse_verify_kept.proofs.Going.{Good, next, over, turned, Fresh}
use Rattle.verse_verify_kept.proofs.Acts.{spends}
use Rattle.verse_verify_kept.proofs.Chains.{Openly, opens_chain, resume_good, Plainly, plainly, plain_here, plain_rest, plain_free}
use Rattle.verse_verify_kept.proofs.Chains.{below_more}
use Rattle.verse_verify_kept.proofs.Chains.{giver_waits}
use Rattle.verse_verify_kept.proofs.Blocks.{clears_good, Gives_any}
use Rattle.verse_verify_kept.proofs.Worlds.{onto_are, tasks_joined, trees_joined, parts_joined, thread_more, alone_more, tasks_more}
use Rattle.verse_verify_kept.proofs.Worlds.{trees_more}
use Rattle.verse_verify_kept.proofs.Worlds.{ups_more, tasked_more, results_more, signals_more, parts_more, labels_more, causes_more}

module _ (c : Code) (n : Notes) where
  abbrev pub Fine_step : Step → Type 0
  Fine_step = Good c n (World_is c n)

  -- what holds beside the frames of the task that runs
  pub record Calm (t : Typing) (w : Who) (pre post : List Task) (us : List Up) (trees : Trees) (s : State) : Type 0 where
    pub store : StoreIs c n t s.memory.store
    pub fresh : Fresh c n (World_is c n) t s.clock.left
    pub clocked : Clocked c n t s.clock.results s.clock.signals s.clock.next
    pub ups : UpsAre c n t w us
    pub tasked : Tasked c n t pre post trees

  -- a suspended task goes on
  pub resumes_good : {t : Typing} {pre post : List Task} {us : List Up} {trees : Trees} {s : State} (a : Sort) (y : Thread) (v : Val) →
      Calm t y.who pre post us trees s → ThreadIs c n t a y → Of c n t v a → Fine_step (resumes y v (world pre post us trees) s)
  resumes_good {t = t} {pre = pre} {post = post} {us = us} {trees = trees} {s = s} a y v k r i =
      again (opens_chain c n (Alone c n y.who) (λ g t u b w. alone_more c n w.grows y.who g b) (y.frame ∷ y.below) (coming true a) t r refl)
    where
      again : Openly c n (Alone c n y.who) (coming true a) (y.frame ∷ y.below) t → Fine_step (resumes y v (world pre post us trees) s)
      again o =
          resume_good c n y v (world pre post us trees) s t (coming true a) (o.back (World_is c n y.who (world pre post us trees)
          s.clock.results s.clock.signals s.clock.next) t grows_itself (o.here, k.ups, k.clocked, k.tasked)) i k.store k.fresh

  -- no task runs
  pub turn_good : {t : Typing} {w : Who} {pre post : List Task} {us : List Up} {trees : Trees} {s : State} → Calm t w pre post us trees s →
      Fine_step (Turn s (among (onto pre post) trees))
  turn_good {t = t} k = turned (record {
    typing = t;
    store = k.store;
    fresh = k.fresh;
    clocked = k.clocked;
    trees = trees_joined c n k.tasked.before_are (trees_so (onto_are c n k.tasked.pre_are k.tasked.post_are) k.tasked.behind_are);
  })

  -- the arms of a group
  each_are : {t : Typing} {vs : List Val} {rs : List Sort} → Are (parent_of n) t vs rs → AreEach (parent_of n) t (vals vs) (sorts rs)
  each_are are_no = no_each
  each_are (are_so i r) = more_each i (each_are r)

  all_are : {t : Typing} {gs : List Part} {rs : List Sort} (vs : List Val) → PartsAre c n t gs rs → all_did gs ≡ Some vs → All c n t vs rs
  all_are {t = t} vs parts_no e = subst (λ vs. All c n t vs []) (same_Some _ _ e) are_no
  all_are {t = t} vs (part_did {v = w} {gs = gs} {a = a} {xs = xs} i r) e = go (all_did gs) (λ us f. all_are us r f) e
    where
      go : (m : Option (List Val)) → ((us : List Val) → m ≡ Some us → All c n t us xs) → behind w m ≡ Some vs → All c n t vs (a ∷ xs)
      go None f e = elim (none-some _ e) [ ]
      go (Some us) f e = subst (λ vs. All c n t vs (a ∷ xs)) (same_Some _ _ e) (are_so i (f us refl))
  all_are vs (part_runs e f r) h = elim (none-some _ h) [ ]

  first_is : {t : Typing} {gs : List Part} {rs : List Sort} {u : Sort} (v : Val) → PartsAre c n t gs rs → AllIn c n u rs →
      first_did gs ≡ Some v → Of c n t v u
  first_is v parts_no k e = elim (none-some _ e) [ ]
  first_is {t = t} {u = u} v (part_did i r) (in_so f k) e = subst (λ v. Of c n t v u) (same_Some _ _ e) (is_up (parent_of n) i f)
  first_is v (part_runs e f r) (in_so g k) h = first_is v r k h

  pub tasks_without : {t : Typing} {xs : List Task} (f : List ℕ → Bool) → TasksAre c n t xs → TasksAre c n t (without f xs)
  tasks_without f tasks_no = tasks_no
  tasks_without {t = t} f (tasks_so {x = x} {xs = xs} i r) =
      cond_both (f x.thread.who.path) (without f xs) (x ∷ without f xs) (TasksAre c n t) (λ e. tasks_without f r) (λ e. tasks_so i
      (tasks_without f r))

  inserted_are : {t : Typing} {x : Task} {xs : List Task} → TaskIs c n t x → TasksAre c n t xs → TasksAre c n t (inserted x xs)
  inserted_are i tasks_no = tasks_so i tasks_no
  inserted_are {t = t} {x = x} i (tasks_so {x = y} {xs = xs} j r) =
      cond_both (starts x.thread.who.path y.thread.who.path) (y ∷ inserted x xs) (x ∷ y ∷ xs) (TasksAre c n t) (λ e. tasks_so j
      (inserted_are i r)) (λ e. tasks_so i (tasks_so j r))

  gone_before_are : {t : Typing} {xs : List Task} (f : List ℕ → Bool) → TasksAre c n t xs → TasksAre c n t (gone_before f xs)
  gone_before_are f tasks_no = tasks_no
  gone_before_are {t = t} f (tasks_so {x = x} {xs = xs} i r) =
      cond_both (f x.thread.who.path) (inserted x (gone_before f xs)) (gone_before f xs) (TasksAre c n t) (λ e. inserted_are i
      (gone_before_are f r)) (λ e. gone_before_are f r)

  gone_behind_are : {t : Typing} {xs : List Task} (f : List ℕ → Bool) → TasksAre c n t xs → TasksAre c n t (gone_behind f xs)
  gone_behind_are f tasks_no = tasks_no
  gone_behind_are {t = t} f (tasks_so {x = x} {xs = xs} i r) =
      cond_both (f x.thread.who.path) (x ∷ gone_behind f xs) (gone_behind f xs) (TasksAre c n t) (λ e. tasks_so i (gone_behind_are f r))
      (λ e. gone_behind_are f r)

  thread_of : {t : Typing} {x : Task} → TaskIs c n t x → (a : Sort) × ThreadIs c n t a x.thread
  thread_of (sleeps {a = a} e h f r) = (a, r)
  thread_of (groups {a = a} e ps k r) = (a, r)

  pub plain_is : {rest : Bool → Typing → Type 0} {t : Typing} {p : Point} {ds all : List ℕ} {more : List Val} {hs : List Handler}
      {ns : List Note} → Plainly c n rest t p ds more hs all ns → Plain c n p
  plain_is (plainly y w r) = y

  pub plain_all : {rest : Bool → Typing → Type 0} {t : Typing} {p : Point} {ds all : List ℕ} {more : List Val} {hs : List Handler}
      {ns : List Note} → Plainly c n rest t p ds more hs all ns → all ≡ ds
  plain_all (plainly y w r) = refl

  pub alone_grown : (x : Who) (g : Giver) (t u : Typing) → Alone c n x g false t → Adds t u → Alone c n x g false u
  alone_grown x g t u a w = alone_more c n w.grows x g a

  module _ (ok : Known c n) where
    -- the frames of a suspended task may be cancelled
    dies_chain : (w : Who) (other : Giver → Bool → Typing → Type 0) (fs : List Frame) (h g : Giver) (t : Typing) →
        Below c n (Alone c n w) h fs false t → h.may_wait ≡ true → other g true t → Below c n other g fs true t
    dies_chain w other [] h g t r e b = b
    dies_chain w other (f ∷ fs) h g t r e b = (
      record {
        point = r.0;
        plain = record { tries = may.tries; block = may.block; outer = (plain_is q).outer; under = (plain_is q).under };
        sorts = r.0.locals;
        locals = r.1.stands.locals;
        ready = subst (Ready c n r.0 r.0.locals) (sym (plain_all q)) (ok.live f.place r.0 r.1.live).ready;
        noted = (plain_free c n q).1;
      },
      t,
      adds_itself,
      dies_chain w other fs (giver n r.0) g t (below_more c n (Alone c n w) (alone_grown w) (giver n r.0) fs
          rest.0 t rest.2 rest.1) (giver_waits c n r.0 may) b,
    )
      where
        may : MayWait c n r.0
        may = r.1.waits e

        q : Plainly c n (λ b u. Below c n (Alone c n w) (giver n r.0) fs b u) t (without_top c n r.0 r.1.st) r.0.defers r.1.stands.more
            f.handlers f.life.defers f.life.noted
        q = plain_here c n r.1.stands.beneath may.tries may.block

        rest : (u : Typing) × Adds u t × Below c n (Alone c n w) (giver n r.0) fs false u
        rest = plain_rest c n q

    -- one task after the other is cancelled
    pub clears_tasks : {t : Typing} {pre post : List Task} {us : List Up} {trees : Trees} (last : World → State → Step) (after : After)
        (ts : List Task) (s : State) → TasksAre c n t ts → StoreIs c n t s.memory.store → Fresh c n (World_is c n) t s.clock.left →
        ((ts : List Task) (w : Who) (g : Giver) → TasksAre c n t ts → Ends_in c n pre post trees s.clock.results s.clock.signals
        s.clock.next (clearing after ts ∷ us) w g true t) → Fine_step (last (world pre post us trees) s) →
        Fine_step (clears last after ts (world pre post us trees) s)
    clears_tasks last after [] s k z f truth good = good
    clears_tasks {t = t} {pre = pre} {post = post} {us = us} {trees = trees} last after (y ∷ ts) s (tasks_so i r) z f truth good =
        clears_good c n (World_is c n) ok y.thread.who (world pre post (clearing after ts ∷ us) trees) (λ s. clears last after ts (world pre
        post us trees) s) any (y.thread.frame ∷ y.thread.below) s t t (coming true sort.any) (λ u g b w. clears_tasks last after ts s r z f
        truth good) (dies_chain y.thread.who (World_is c n y.thread.who (world pre post (clearing after ts ∷ us) trees) s.clock.results
        s.clock.signals s.clock.next) (y.thread.frame ∷ y.thread.below) (coming true (thread_of i).0) (coming true sort.any) t
        (thread_of i).1 refl (truth ts y.thread.who (coming true sort.any) r)) adds_itself z f
      where
        any : Gives_any c n (World_is c n) ok y.thread.who (world pre post (clearing after ts ∷ us) trees)
        any s u g h b = any_after after b
          where
            any_after : (after : After) → Ends_in c n pre post trees s.clock.results s.clock.signals s.clock.next (clearing after ts ∷ us)
                y.thread.who g true u → Ends_in c n pre post trees s.clock.results s.clock.signals s.clock.next (clearing after ts ∷ us)
                y.thread.who h true u
            any_after (resuming y v) b = b
            any_after (closing y v) b = b
            any_after (finishing y e v) b = b

    no_true : {A : Type 0} → false ≡ true → A
    no_true e = cc

    pub waits_closed : (bottom : Giver → Bool → Typing → Type 0) (fs : List Frame) {a : Sort} {f : Frame} {t : Typing} →
        Below c n bottom (coming true a) (f ∷ fs) false t → Below c n bottom (coming false a) (f ∷ fs) false t
    waits_closed bottom fs r = (
      r.0,
      record {
        live = r.1.live;
        whole = refl;
        top = r.1.top;
        st = r.1.st;
        stack = r.1.stack;
        fits = r.1.fits;
        fails = r.1.fails;
        waits = λ e. no_true e;
        stands = r.1.stands;
      },
    )

    pub calm_without : {t : Typing} {w : Who} {pre post : List Task} {us : List Up} {trees : Trees} {s : State} (f : List ℕ → Bool) →
        Calm t w pre post us trees s → Calm t w (without f pre) (without f post) us trees s
    calm_without f k = record {
      store = k.store;
      fresh = k.fresh;
      clocked = k.clocked;
      ups = k.ups;
      tasked = record {
        pre_are = tasks_without f k.tasked.pre_are;
        post_are = tasks_without f k.tasked.post_are;
        before_are = k.tasked.before_are;
        behind_are = k.tasked.behind_are;
      };
    }

    pub cancelled_are : {t : Typing} {pre post : List Task} {trees : Trees} (us : List Up) (f : List ℕ → Bool) →
        Tasked c n t pre post trees → TasksAre c n t (cancelled f (world pre post us trees))
    cancelled_are us f k = tasks_joined c n (gone_before_are f k.pre_are) (gone_behind_are f k.post_are)

    -- a task that may wait goes on when others are cancelled
    cancels_resuming : {t : Typing} {pre post : List Task} {us : List Up} {trees : Trees} {s : State} (a : Sort) (y : Thread) (v : Val)
        (f : List ℕ → Bool) → Calm t y.who pre post us trees s → ThreadIs c n t a y → Of c n t v a →
        Fine_step (cancels (λ o s. resumes y v o s) (resuming y v) f (world pre post us trees) s)
    cancels_resuming {t = t} {pre = pre} {post = post} {us = us} {trees = trees} {s = s} a y v f k r i =
        clears_tasks (λ o s. resumes y v o s) (resuming y v) (cancelled f (world pre post us trees)) s (cancelled_are us f k.tasked) k.store
        k.fresh (λ ts w g ks. (
          ks,
          a,
          i,
          waits_closed _ y.below (again (opens_chain c n (Alone c n y.who) (alone_grown y.who) (y.frame ∷ y.below)
              (coming true a) t r refl)),
        )) (resumes_good a y v now r i)
      where
        now : Calm t y.who (without f pre) (without f post) us trees s
        now = calm_without f k

        again : Openly c n (Alone c n y.who) (coming true a) (y.frame ∷ y.below) t → Below c n (λ g b u. Ends_in c n (without f pre)
            (without f post) trees s.clock.results s.clock.signals s.clock.next us y.who g b u) (coming true a) (y.frame ∷ y.below) false t
        again o = o.back (λ g b u. Ends_in c n (without f pre) (without f post) trees s.clock.results s.clock.signals s.clock.next us y.who
            g b u) t grows_itself (o.here, now.ups, now.clocked, now.tasked)

    -- a group with its arms
    pub grouped_good : {t : Typing} {pre post : List Task} {us : List Up} {trees : Trees} {s : State} {gs : List Part} {rs : List Sort}
        (a : Sort) (k : Kind) (p : Place) (y : Thread) (stands : Task → Step) → Calm t y.who pre post us trees s → ThreadIs c n t a y →
        PartsAre c n t gs rs → KindGives c n k rs a → ((x : Task) → x.thread ≡ y → TaskIs c n t x → Fine_step (stands x)) →
        Fine_step (grouped k p gs y (world pre post us trees) s stands)
    grouped_good {t = t} {pre = pre} {post = post} {us = us} {trees = trees} {s = s} {gs = gs} {rs = rs} a sync p y stands q r ps
        (all_give f) h = either (all_did gs) refl
      where
        sized : (vs : List Val) (b : Bool) (k : Error) → All c n t vs rs → Fine_step (tupled p (if b then gives (v.tuple (vals vs)) else
            error k) y (world pre post us trees) s)
        sized vs true k i = resumes_good a y (v.tuple (vals vs)) q r (is_up (parent_of n) (is_tuple (each_are i)) f)
        sized vs false k i = over tt

        either : (m : Option (List Val)) → all_did gs ≡ m → Fine_step (or_stands m (stands (record {
          thread = y;
          rest = group sync p gs;
        })) (λ vs. tupled p (tuple_of vs) y (world pre post us trees) s))
        either None e = h _ refl (groups refl ps (all_give f) r)
        either (Some vs) e = sized vs (fits (v.tuple (vals vs))) _ (all_are vs ps e)
    grouped_good {t = t} {pre = pre} {post = post} {us = us} {trees = trees} {s = s} {gs = gs} {rs = rs} a race p y stands q r ps
        (first_gives f) h = either (first_did gs) refl
      where
        either : (m : Option Val) → first_did gs ≡ m → Fine_step (or_stands m (stands (record {
          thread = y;
          rest = group race p gs;
        })) (λ v. cancels (λ o s. resumes y v o s) (resuming y v) (beneath_arms y.who.path gs) (world pre post us trees) s))
        either None e = h _ refl (groups refl ps (first_gives f) r)
        either (Some v) e = cancels_resuming a y v (beneath_arms y.who.path gs) q r (first_is v ps f e)
    grouped_good {t = t} {pre = pre} {post = post} {us = us} {trees = trees} {s = s} {gs = gs} {rs = rs} a rush p y stands q r ps
        (rush_gives f) h = either (first_did gs) refl
      where
        either : (m : Option Val) → first_did gs ≡ m → Fine_step (or_stands m (stands (record {
          thread = y;
          rest = group rush p gs;
        })) (λ v. resumes y v (world pre post us trees) s))
        either None e = h _ refl (groups refl ps (rush_gives f) r)
        either (Some v) e = resumes_good a y v q r (first_is v ps f e)

    eqn_less : (i m : ℕ) → suc m ≤ i → eqn i m ≡ false
    eqn_less zero m h = elim (no_room m h) [ ]
      where
        no_room : (m : ℕ) → suc m ≤ 0 → ⊥
        no_room m h = omega (arith, h)
    eqn_less (suc i) zero h = refl
    eqn_less (suc i) (suc m) h = eqn_less i m (lower i m h)
      where
        lower : (i m : ℕ) → suc (suc m) ≤ suc i → suc m ≤ i
        lower i m h = omega (arith, h)

    -- a task has begun
    abbrev pub with_part : Typing → ℕ → Sort → Typing
    with_part t m a = record t { parts = λ i. cond (eqn i m) (Some a) (t.parts i) }

    pub part_grows : (t : Typing) (m left : ℕ) (a : Sort) → left ≡ suc m → Fresh c n (World_is c n) t left → Grows t (with_part t m a)
    part_grows t m left a e f = record {
      cells = λ i s h. h;
      entries = λ i s h. h;
      waits = λ i s h. h;
      parts = λ i b h. subst (λ z. cond z (Some a) (t.parts i) ≡ Some b) (sym (eqn_less i m (omega (arith, e, f i b h)))) h;
    }

    pub part_fresh : (t : Typing) (m left : ℕ) (a : Sort) → left ≡ suc m → Fresh c n (World_is c n) t left →
        Fresh c n (World_is c n) (with_part t m a) m
    part_fresh t m left a e f i b = either (eqn i m) refl
      where
        either : (z : Bool) → eqn i m ≡ z → cond z (Some a) (t.parts i) ≡ Some b → m ≤ i
        either true g h = omega (arith, eqn_is i m g)
        either false g h = omega (arith, e, f i b h)

    pub cell_more : {t u : Typing} {k : CellKind} {vs : List Val} {a : Sort} → Grows t u → CellIs c n t k vs a → CellIs c n u k vs a
    cell_more w (var_is i) = var_is (is_more (parent_of n) w i)
    cell_more w (object_is e i) = object_is e (are_more (parent_of n) w i)
    cell_more w event_is = event_is

    pub cells_more : {t u : Typing} {xs : List Cell} {ys : List Sort} → Grows t u → CellsAre c n t xs ys → CellsAre c n u xs ys
    cells_more w cells_no = cells_no
    cells_more w (cells_so i r) = cells_so (cell_more w i) (cells_more w r)

    clocked_more : (t u : Typing) {rs : List (Option Given)} {gs : List Signal} {k : ℕ} → Grows t u → t.entries ≡ u.entries →
        t.waits ≡ u.waits → Clocked c n t rs gs k → Clocked c n u rs gs k
    clocked_more t u {rs = rs} {k = k} w e f a = record {
      results = subst (ResultsAre c n u rs) e (results_more c n w a.results);
      signals = signals_more c n w a.signals;
      waits = subst (λ (xs : List Sort). length xs ≡ k) f a.waits;
    }

    -- the first frame of an arm or a task behind
    pub part_begins : {t : Typing} {pre post : List Task} {us : List Up} {trees : Trees} {s : State} {r : Sort} (m l : ℕ) (w : Who)
        (ls : List Val) → s.clock.left ≡ suc m → Fresh c n (World_is c n) t s.clock.left → StoreIs c n t s.memory.store → Clocked c n t
        s.clock.results s.clock.signals s.clock.next → Tasked c n t pre post trees → Starts c n t ls l r → w.role ≡ part → w.number ≡ m →
        UpsAre c n (with_part t m r) w us → Fine_step (Next (machine w (world pre post us trees) (stepped m s) (life_from m) ls [] l [] []))
    part_begins {t = t} {pre = pre} {post = post} {us = us} {trees = trees} {s = s} {r = r} m l w ls e f z k q st role number ups =
        next (record {
          typing = u;
          point = st.point;
          locals = st.point.locals;
          ds = [];
          live = st.live;
          own = subst (Own c n l st.point st.point.locals) st.defers own;
          store = cells_more grows z;
          fresh = part_fresh t m s.clock.left r e f;
          stands = record {
            above = [];
            more = [];
            split = refl;
            locals = are_more (parent_of n) grows st.locals;
            stack = subst (All c n u []) (sym st.stack) are_no;
            beneath = plain (record { tries = st.tries; block = st.block; outer = st.outer; under = st.under }) adds_itself (
              (no_fail, by_role),
              ups,
              clocked_more t u grows refl refl k,
              tasked_more c n grows q,
            );
          };
        })
      where
        u : Typing
        u = with_part t m r

        grows : Grows t u
        grows = part_grows t m s.clock.left r e f

        no_fail : (giver n st.point).may_fail ≡ false
        no_fail = subst (λ a. (arm_gives a (func_gives (slice_get n.functions st.point.func))).may_fail ≡ false) (sym st.arm) refl

        is_part : (giver n st.point).part ≡ true
        is_part = subst (λ a. (arm_gives a (func_gives (slice_get n.functions st.point.func))).part ≡ true) (sym st.arm) refl

        gives_it : (giver n st.point).result ≡ r
        gives_it = subst (λ a. (arm_gives a (func_gives (slice_get n.functions st.point.func))).result ≡ r) (sym st.arm) refl

        by_role : RoleIs c n u w.role w.number (giver n st.point)
        by_role =
            subst (λ z. RoleIs c n u z w.number (giver n st.point)) (sym role)
            (part_is is_part (subst (λ i. u.parts i ≡ Some r) (sym number) (ap (λ z. cond z (Some r) (t.parts m)) (eqn_same m)))
            (subst (λ a. Fit c n (giver n st.point).result a) gives_it (fits_itself (parent_of n) (giver n st.point).result)))

    -- the next arm begins
    pub arm_begins : {t : Typing} {pre post : List Task} {us : List Up} {trees : Trees} {s : State} {gs : List Part} {rs ss : List Sort}
        {l : ℕ} {ls : List ℕ} {b : Sort} (a : Sort) (k : Kind) (p : Place) (y : Thread) (stands : Task → Step) → Calm t y.who pre post us
        trees s → ThreadIs c n t a y → PartsAre c n t gs rs → Starts c n t y.frame.locals l b → LabelsAre c n t y.frame.locals ls ss →
        KindGives c n k (rs ++ b ∷ ss) a → Fine_step (next_arm k p gs (l ∷ ls) y pre post us trees s stands)
    arm_begins {t = t} {pre = pre} {post = post} {us = us} {trees = trees} {s = s} {gs = gs} {rs = rs} {ss = ss} {l = l} {ls = ls} {b = b} a
        k p y stands q r ps st labs g =
        spends c n (World_is c n) s _ (λ m e. part_begins m l (child_named y.who m) y.frame.locals e q.fresh q.store q.clocked q.tasked st
        refl refl (ups_begin refl refl (record {
          result = a;
          before = rs;
          given = b;
          running = b;
          after = ss;
          thread = thread_more c n (grows m e) a y r;
          parts = parts_more c n (grows m e) ps;
          names = ap (λ z. cond z (Some b) (t.parts m)) (eqn_same m);
          fits = fits_itself (parent_of n) b;
          labels = labels_more c n (grows m e) labs;
          gives = g;
        }) (ups_more c n (grows m e) q.ups)))
      where
        grows : (m : ℕ) → s.clock.left ≡ suc m → Grows t (with_part t m b)
        grows m e = part_grows t m s.clock.left b e q.fresh

    -- the next arm begins, or each has begun
    pub next_good : {t : Typing} {pre post : List Task} {us : List Up} {trees : Trees} {s : State} {gs : List Part} {rs ss : List Sort}
        {ls : List ℕ} (a : Sort) (k : Kind) (p : Place) (y : Thread) (stands : Task → Step) → Calm t y.who pre post us trees s →
        ThreadIs c n t a y → PartsAre c n t gs rs → LabelsAre c n t y.frame.locals ls ss → KindGives c n k (rs ++ ss) a →
        ((x : Task) → x.thread ≡ y → TaskIs c n t x → Fine_step (stands x)) → Fine_step (next_arm k p gs ls y pre post us trees s stands)
    next_good {rs = rs} a k p y stands q r ps labels_no g h =
        grouped_good a k p y stands q r ps (subst (λ rs. KindGives c n k rs a) (append-nil rs) g) h
    next_good a k p y stands q r ps (labels_so st labs) g h = arm_begins a k p y stands q r ps st labs g

    pub calm_for : {t : Typing} {w x : Who} {pre post : List Task} {us vs : List Up} {trees : Trees} {s : State} →
        Calm t w pre post us trees s → UpsAre c n t x vs → Calm t x pre post vs trees s
    calm_for k ups = record { store = k.store; fresh = k.fresh; clocked = k.clocked; ups = ups; tasked = k.tasked }

    pub calm_more : {t : Typing} {w : Who} {pre post : List Task} {us : List Up} {trees : Trees} {s : State} (x : Task) → TaskIs c n t x →
        Calm t w pre post us trees s → Calm t w (x ∷ pre) post us trees s
    calm_more x i k = record {
      store = k.store;
      fresh = k.fresh;
      clocked = k.clocked;
      ups = k.ups;
      tasked = record {
        pre_are = tasks_so i k.tasked.pre_are;
        post_are = k.tasked.post_are;
        before_are = k.tasked.before_are;
        behind_are = k.tasked.behind_are;
      };
    }

    -- the task that ran stands among the others
    pub rested_good : {t : Typing} {w : Who} {pre post : List Task} {us vs : List Up} {trees : Trees} {s : State} → UpsAre c n t w us →
        Calm t w pre post vs trees s → Fine_step (rested pre post us trees s)
    rested_good ups_no q = turn_good q
    rested_good (ups_begin {y = y} {k = k} {p = p} {gs = gs} {m = m} {us = us} role number b ups) q =
        next_good b.result k p y _ (calm_for q ups) b.thread (parts_joined c n b.parts (part_runs b.names b.fits parts_no)) b.labels (subst
        (λ rs. KindGives c n k rs b.result) (sym (append_assoc b.before (b.running ∷ []) b.after)) b.gives) (λ x same i. rested_good ups
        (calm_more x i (calm_for q ups)))
    rested_good (ups_branch {y = y} role r ups) q = resumes_good sort.unit y v.unit (calm_for q ups) r is_unit
    rested_good {pre = pre} {post = post} {trees = trees} {s = s} (ups_spawn {y = y} {e = e} {a = a} {us = us} role h r ps qs ups) q =
        resumes_good (sort.task a) y (v.task e) (record {
          store = q.store;
          fresh = q.fresh;
          clocked = q.clocked;
          ups = ups;
          tasked = record {
            pre_are = ps;
            post_are = qs;
            before_are = q.tasked.before_are;
            behind_are = trees_joined c n q.tasked.behind_are (trees_so (onto_are c n q.tasked.pre_are q.tasked.post_are) trees_no);
          };
        }) r (is_task h (fits_itself (parent_of n) a))

    pub at_end : (xs : List Sort) (a : Sort) → at (xs ++ a ∷ []) (length xs) ≡ Some a
    at_end [] a = refl
    at_end (x ∷ xs) a = at_end xs a

    pub at_more : (xs ys : List Sort) (i : ℕ) (a : Sort) → at xs i ≡ Some a → at (xs ++ ys) i ≡ Some a
    at_more [] ys i a e = elim (none-some _ e) [ ]
    at_more (x ∷ xs) ys zero a e = e
    at_more (x ∷ xs) ys (suc i) a e = at_more xs ys i a e

    -- a task is suspended
    pub suspends_good : {t : Typing} {pre post : List Task} {us : List Up} {trees : Trees} {s : State} (a : Sort) (y : Thread)
        (cause : Cause) → Calm t y.who pre post us trees s → ThreadIs c n t a y → Causes c n t cause a →
        Fine_step (suspends cause y (world pre post us trees) s)
    suspends_good {t = t} {pre = pre} {post = post} {us = us} {trees = trees} {s = s} a y cause k r j =
        rested_good (ups_more c n grows k.ups) (record {
          store = cells_more grows k.store;
          fresh = k.fresh;
          clocked = record {
            results = results_more c n grows k.clocked.results;
            signals = signals_more c n grows k.clocked.signals;
            waits = one_more k.clocked.waits;
          };
          ups = ups_more c n grows k.ups;
          tasked = record {
            pre_are = tasks_so (sleeps refl (subst (λ i. at u.waits i ≡ Some a) k.clocked.waits (at_end t.waits a))
                (causes_more c n grows j) (thread_more c n grows a y r)) (tasks_more c n grows k.tasked.pre_are);
            post_are = tasks_more c n grows k.tasked.post_are;
            before_are = trees_more c n grows k.tasked.before_are;
            behind_are = trees_more c n grows k.tasked.behind_are;
          };
        })
      where
        u : Typing
        u = record t { waits = t.waits ++ a ∷ [] }

        grows : Grows t u
        grows = record { cells = λ i s h. h; entries = λ i s h. h; waits = λ i s h. at_more t.waits (a ∷ []) i s h; parts = λ i s h. h }

        one_more : {k : ℕ} → length t.waits ≡ k → length (t.waits ++ a ∷ []) ≡ suc k
        one_more e = length-append t.waits (a ∷ []) ∙ more (length t.waits) _ e
          where
            more : (i k : ℕ) → i ≡ k → i + 1 ≡ suc k
            more i k e = omega (arith, e)

    -- Main or a spawned task is over
    pub root_good : {t : Typing} {w : Who} {e : Option ℕ} {pre post : List Task} {us : List Up} {trees : Trees} {s : State} →
        w.role ≡ root e → UpsAre c n t w us → Calm t w pre post us trees s → Fine_step (root_ends pre post us trees s)
    root_good role ups_no q = turn_good q
    root_good role (ups_begin other number b ups) q = elim (no_part (sym role ∙ other)) [ ]
      where
        no_part : {e : Option ℕ} → root e ≡ part → ⊥
        no_part e = cc
    root_good role (ups_branch other r ups) q = elim (no_part (sym role ∙ other)) [ ]
      where
        no_part : {e : Option ℕ} → root e ≡ part → ⊥
        no_part e = cc
    root_good {trees = trees} role (ups_spawn {y = y} {e = e} {a = a} other h r ps qs ups) q =
        resumes_good (sort.task a) y (v.task e) (record {
          store = q.store;
          fresh = q.fresh;
          clocked = q.clocked;
          ups = ups;
          tasked = record { pre_are = ps; post_are = qs; before_are = q.tasked.before_are; behind_are = q.tasked.behind_are };
        }) r (is_task h (fits_itself (parent_of n) a))

    -- the parent of a task stands behind it
    pub data Parented (up : List ℕ) : List Task → Type 0 where
      here : {x : Task} {xs : List Task} → same_path up x.thread.who.path ≡ true → Parented up (x ∷ xs)
      later : {x : Task} {xs : List Task} → Parented up xs → Parented up (x ∷ xs)

    did_parts : {t : Typing} {gs : List Part} {rs : List Sort} {b : Sort} (m : ℕ) (w : Val) → t.parts m ≡ Some b → Of c n t w b →
        PartsAre c n t gs rs → PartsAre c n t (with_did m w gs) rs
    did_parts m w e i parts_no = parts_no
    did_parts m w e i (part_did j r) = part_did j (did_parts m w e i r)
    did_parts {t = t} {b = b} m w e i (part_runs {i = k} {gs = gs} {a = a} {b = d} {xs = xs} h f r) =
        cond_both (eqn m k) (did w ∷ gs) (runs k ∷ with_did m w gs) (λ gs. PartsAre c n t gs (a ∷ xs))
        (λ same. part_did (is_up (parent_of n) (subst (Of c n t w)
        (same_Some _ _ (sym e ∙ subst (λ k. t.parts k ≡ Some d) (sym (eqn_is m k same)) h)) i) f) r)
        (λ other. part_runs h f (did_parts m w e i r))

    pub joined_good : {t : Typing} {w : Who} {pre post : List Task} {trees : Trees} {s : State} {b : Sort} (m : ℕ) (u : Val) (y : Task) →
        t.parts m ≡ Some b → Of c n t u b → TaskIs c n t y → Calm t w pre post [] trees s → Fine_step (joined m u y.rest y pre post trees s)
    joined_good {t = t} {pre = pre} {post = post} {trees = trees} {s = s} m u y e i (sleeps {a = a} h j k r) q =
        subst (λ z. Fine_step (joined m u z y pre post trees s)) (sym h) (turn_good (record {
          store = q.store;
          fresh = q.fresh;
          clocked = q.clocked;
          ups = ups_no {w = y.thread.who};
          tasked = record {
            pre_are = q.tasked.pre_are;
            post_are = tasks_so (sleeps {a = a} h j k r) q.tasked.post_are;
            before_are = q.tasked.before_are;
            behind_are = q.tasked.behind_are;
          };
        }))
    joined_good {t = t} {pre = pre} {post = post} {trees = trees} {s = s} m u y e i (groups {k = k} {p = p} {gs = gs} {a = a} h ps g r) q =
        subst (λ z. Fine_step (joined m u z y pre post trees s)) (sym h) (cond_both (is_run m gs) _ _ Fine_step (λ is. grouped_good a k p
        y.thread _ (calm_for q ups_no) r (did_parts m u e i ps) g
        (λ x same j. rested_good {w = y.thread.who} ups_no (calm_more x j (calm_for q ups_no)))) (λ not. turn_good (record {
          store = q.store;
          fresh = q.fresh;
          clocked = q.clocked;
          ups = ups_no {w = y.thread.who};
          tasked = record {
            pre_are = q.tasked.pre_are;
            post_are = tasks_so (groups {a = a} h ps g r) q.tasked.post_are;
            before_are = q.tasked.before_are;
            behind_are = q.tasked.behind_are;
          };
        })))

    pub climbs_good : {t : Typing} {w : Who} {pre post : List Task} {trees : Trees} {s : State} {b : Sort} (up : List ℕ) (m : ℕ) (u : Val) →
        Parented up post → t.parts m ≡ Some b → Of c n t u b → TasksAre c n t pre → TasksAre c n t post → Calm t w [] [] [] trees s →
        Fine_step (climbs up m u pre post trees s)
    climbs_good {t = t} {w = w} {pre = pre} {trees = trees} {s = s} up m u there e i ps (tasks_so {x = x} {xs = xs} j r) q =
        cond_both (same_path up x.thread.who.path) (joined m u x.rest x pre xs trees s) (climbs up m u (x ∷ pre) xs trees s) Fine_step (λ
        same. joined_good m u x e i j (record {
          store = q.store;
          fresh = q.fresh;
          clocked = q.clocked;
          ups = q.ups;
          tasked = record { pre_are = ps; post_are = r; before_are = q.tasked.before_are; behind_are = q.tasked.behind_are };
        })) (λ other. climbs_good up m u (parent_later there other) e i (tasks_so j ps) r q)
      where
        parent_later : Parented up (x ∷ xs) → same_path up x.thread.who.path ≡ false → Parented up xs
        parent_later (here e) f = no_both (sym e ∙ f)
          where
            no_both : true ≡ false → Parented up xs
            no_both e = cc
        parent_later (later p) f = p
    climbs_good up m u there e i ps tasks_no q = elim there [ ]
