-- Tasks that begin, and tasks that wait.
use Rattle.std.proofs.Common.{◌≡◌, ℕ, zero, suc, ◌≤◌, ◌<◌, List, [], ◌∷◌, ◌++◌, Option, Some, None, Bool, true, false, cond, refl, sym}
use Rattle.std.proofs.Common.{◌∙◌, subst, append-nil}
use Rattle.verse_meaning_state.specs.Effects.{signal_sent}
use Rattle.verse_value.specs.Val.{Val, unit, task}
use Rattle.verse_meaning_state.specs.State.{State, Given, signalled}
use Rattle.verse_meaning_state.specs.Waits.{Wait, Cause, done, heard, waiting, has, eqn}
use Rattle.verse_code_machine.specs.Tasks.{world, asleep, branching, spawning, Thread, thread, Task, Up, Trees, Next, Turn, machine}
use Rattle.verse_code_machine.specs.Tasks.{root_named, child_named, onto, among, planted}
use Rattle.verse_code_machine.specs.Frames.{on_there, free, fits, only_where, answered}
use Rattle.verse_code_machine.specs.Ends.{climbs, woken, resumes, joined, suspends}
use Rattle.verse_meaning.specs.Residuals.{leaf, Scopes, and_then}
use Rattle.verse_meaning.specs.Outcomes.{World as Scene, suspended, branch_started, task_started, if_there, told_plain, TaskOutcome, ends}
use Rattle.verse_meaning.specs.Outcomes.{lost, stops, sleeps}
use Rattle.verse_meaning.specs.Runs.{deeper}
use Rattle.lower_simulation.proofs.Paths.{onto_onto, starts_parent, starts_self}
use Rattle.lower_simulation.proofs.Claims.{on, Agrees, Setting, Goal, Ends, Ctx, Around, world_of, around, frame_of, Beside, Apart, Tasks}
use Rattle.lower_simulation.proofs.Claims.{ScopeStands, RestAt, Grown, same_around, left_around, forked_around, Planted, GoesTask, ParkedR}
use Rattle.lower_simulation.proofs.Claims.{ParkedS, Goes, slots}
use Rattle.lower_simulation.proofs.Steps.{over}
use Rattle.lower_simulation.proofs.Going.{trans, weak, le_self, fresh, clears_none, grown_less, grown_on, planted_grown}
use Rattle.lower_simulation_tasks.proofs.Besides.{left_apart}
use Rattle.verse_code_machine.specs.Acts.{awaits}
use Rattle.verse_meaning.specs.Forms.{task_awaited}
use Rattle.verse_code_machine.proofs.Paths.{same_self}

module _ (z : Setting) (c : Ctx) (p : ℕ) (st ls : List Val) (q : ℕ) (fr : free c.handlers c.life.noted c.below ≡ true)
    (ag : Agrees (slots c) ls) where
  abbrev mine : Thread
  mine = thread c.who (frame_of c ls st p) c.below

  abbrev PS : ℕ → ScopeStands
  PS j = ParkedS z j

  -- a task that waits
  abbrev sleeper : Wait → Task
  sleeper x = record { thread = mine; rest = asleep x }

  woken_here : (n : ℕ) (x : Wait) (v : Val) (s : State) (pre post : List Task) (rs : Trees) → has n (x ∷ []) ≡ true →
      woken n v pre (sleeper x ∷ post) rs s ≡ resumes mine v (world pre post [] rs) s
  woken_here n x v s pre post rs h = by (eqn n x.number) h
    where
      by : (y : Bool) → cond y true false ≡ true → cond y (resumes mine v (world pre post [] rs) s)
          (woken n v (sleeper x ∷ pre) post rs s) ≡ resumes mine v (world pre post [] rs) s
      by true h = refl
      by false h = cc

  leaf_parked : (j m : ℕ) (x : Wait) → m ≤ q → ParkedR z j m q (leaf x c.env) c (on p st) (sleeper x ∷ [])
  leaf_parked zero m x lm = tt
  leaf_parked (suc j) m x lm = λ n v s hn le pre post rs b f far M lM g y.
      subst (λ u. Ends z u g) (sym (woken_here n x v s pre post rs hn))
      (y s.clock.left (around pre post rs q) (same_around le_self) ls
      (fresh (slots c) ag (record { steps = le_self; low = trans le lm; apart = far })) tt)

  leaf_rest : (j m : ℕ) (x : Wait) → m ≤ q → RestAt (ParkedR z j) z m q (leaf x c.env) c (on p st) (sleeper x ∷ [])
  leaf_rest j m x lm = record {
    keeps = record {
      waits = refl;
      beneath = (starts_self c.who.path, tt);
      young = ((λ i y. starts_parent c.who.path i), tt);
      heeds = λ i le v s pre post rs.
          subst (λ y. cond y (joined i v (asleep x) (sleeper x) pre post rs s)
          (climbs c.who.path i v (sleeper x ∷ pre) post rs s) ≡ Turn s (among (onto pre (sleeper x ∷ post)) rs))
          (sym (same_self c.who.path)) refl;
    };
    stands = leaf_parked j m x lm;
    stopped = record {
      kids = [];
      self = sleeper x;
      is = refl;
      who = refl;
      strict = tt;
      clears = clears_none z m (Beside c.who.path);
      own = λ after todo o w M g le lM far h. h le_self refl refl ls st p ag;
    };
  }

  -- Sleep, Await: the task is suspended
  pub suspended_goes : (j n : ℕ) (pre post : List Task) (up : List Up) (rs : Trees) (g : Goal) (w : Scene) (x : Cause) →
      w.state.clock.left ≤ n → w.state.clock.left ≤ q → Apart c.who.path (world_of pre post up rs q) →
      Goes z j n c (world_of pre post up rs q) w.behind w.tasks (on p st) g (suspended x c.env w) →
      Ends z (suspends x mine (world pre post up rs) w.state) g
  unfolding suspended
  suspended_goes j n pre post up rs g w x ln lq far k =
      k n (world_of pre post up rs q) (same_around le_self) fr (record { steps = ln; low = lq; apart = far })
      (sleeper (waiting x w.state) ∷ []) (leaf_rest j w.state.clock.left (waiting x w.state) lq)

  -- Await of a task
  pub awaited_goes : (j n M : ℕ) (pre post : List Task) (up : List Up) (rs : Trees) (g : Goal) (w : Scene) (y : Option (Option Given))
      (entry : ℕ) → w.state.clock.left ≤ n → w.state.clock.left ≤ q → Apart c.who.path (world_of pre post up rs q) →
      Goes z j n c (world_of pre post up rs q) w.behind w.tasks (on p st) g
      (task_awaited z.program (deeper z.program M) y entry c.env w) → Ends z (awaits y entry mine (world pre post up rs) w.state) g
  awaited_goes j n M pre post up rs g w None entry ln lq far k = over _ k
  awaited_goes j n M pre post up rs g w (Some None) entry ln lq far k = suspended_goes j n pre post up rs g w (done entry) ln lq far k
  awaited_goes j n M pre post up rs g w (Some (Some x)) entry ln lq far k = k n (world_of pre post up rs q) (same_around le_self) ls
      (fresh (slots c) ag (record { steps = ln; low = lq; apart = far })) tt

  -- Await of an event
  pub heard_goes : (j n : ℕ) (pre post : List Task) (up : List Up) (rs : Trees) (g : Goal) (w : Scene) (y : Option ℕ) →
      w.state.clock.left ≤ n → w.state.clock.left ≤ q → Apart c.who.path (world_of pre post up rs q) →
      Goes z j n c (world_of pre post up rs q) w.behind w.tasks (on p st) g (if_there y w (λ e. suspended (heard e) c.env w)) →
      Ends z (on_there y w.state (λ e. suspends (heard e) mine (world pre post up rs) w.state)) g
  unfolding if_there
  heard_goes j n pre post up rs g w None ln lq far k = over _ k
  heard_goes j n pre post up rs g w (Some e) ln lq far k = suspended_goes j n pre post up rs g w (heard e) ln lq far k

  -- Signal
  pub signal_goes : (j n : ℕ) (o : Around) (g : Goal) (w : Scene) (y : Option ℕ) (v : Val) → w.state.clock.left ≤ n →
      w.state.clock.left ≤ o.own → Apart c.who.path o →
      Goes z j n c o w.behind w.tasks (on (suc p) st) g (told_plain (signal_sent y v w.state) c.env w) →
      (fits c.handlers (suc p) ≡ true) → Ends z (answered None
      (signal_sent y v w.state) c.who o.world w.state c.life ls st p c.handlers c.below) g
  unfolding told_plain
  signal_goes j n o g w None v ln lq far k fi = over _ k
  signal_goes j n o g w (Some e) v ln lq far k fi = subst
      (λ y. Ends z (only_where y w.state (Next (machine c.who o.world (signalled e v w.state) c.life ls (unit ∷ st)
      (suc p) c.handlers c.below))) g) (sym fi)
      (k n o (same_around le_self) ls (fresh (slots c) ag (record { steps = ln; low = lq; apart = far })) tt)

  grown_here : (j i n m : ℕ) (pre post : List Task) (up : List Up) (rs rs' : Trees) (b b' : Scopes) (f f' : Tasks) → n ≤ m → b' ≡ b →
      Planted (Unit {0}) (PS j) z i rs' f' n rs f → Grown (PS j) z c i (world_of pre post up rs' q) b' f' m (world_of pre post up rs q) b f
  grown_here j i n m pre post up rs rs' b b' f f' le eb pl =
      subst (λ y. Grown (PS j) z c i (world_of pre post up rs' q) y f' m (world_of pre post up rs q) b f) (sym eb)
      (grown_less (PS j) z c i (world_of pre post up rs' q) b f' m le
      (planted_grown (Unit {0}) (PS j) z c (λ y. fr) b pre post up q i rs' f' pl))

  -- the body of a `branch` as it begins, of the number k
  pub branched_goes : (j n k : ℕ) (pre post : List Task) (up : List Up) (rs : Trees) (b : Scopes) (f : Tasks) (g : Goal) → k ≤ n →
      k < q → k < c.life.born → Apart c.who.path (world_of pre post up rs q) → (x : TaskOutcome) →
      Goes z j n c (world_of pre post up rs q) b f (on p st) g (branch_started c.env x) →
      GoesTask (PS j) z k (child_named c.who k) (world_of pre post (branching mine ∷ up) rs k) b f g x
  unfolding branch_started
  branched_goes j n k pre post up rs b f g ln lk lb far (ends v x) h = λ eb m rs' pl fi.
      h m (world_of pre post up rs' q) (grown_here j m k n pre post up rs rs' b x.behind f x.tasks ln eb pl) ls
      (fresh (slots c) ag (record {
        steps = fi.steps;
        low = trans fi.low (weak lk);
        apart = record { pre = far.pre; post = far.post };
      })) tt
  branched_goes j n k pre post up rs b f g ln lk lb far (lost s) h = h
  branched_goes j n k pre post up rs b f g ln lk lb far (stops y) h = h
  branched_goes j n k pre post up rs b f g ln lk lb far (sleeps s x) h = λ eb y0 m rs' pl fi ts y.
      let kp = y.keeps in
      h x.state.clock.left (world_of (onto ts pre) post up rs' k)
      (grown_on (PS j) z c m (world_of pre post up rs' q) x.behind x.tasks x.state.clock.left (world_of (onto ts pre) post up rs' k)
      (and_then x.behind s) x.tasks (left_around k s ts fr fi.steps lk lb y (same_around le_self))
      (grown_here j m k n pre post up rs rs' b x.behind f x.tasks ln eb pl)) ls
      (fresh (slots c) ag (record {
        steps = le_self;
        low = fi.low;
        apart = left_apart c.who.path k (world_of pre post up rs' q) ts lk
            (record { pre = far.pre; post = far.post }) kp.beneath;
      })) tt

  -- a spawned call as it begins, of the number k
  pub spawned_goes : (j n k : ℕ) (pre post : List Task) (up : List Up) (rs : Trees) (b : Scopes) (f : Tasks) (g : Goal) → k ≤ n → k < q →
      Apart c.who.path (world_of pre post up rs q) → (entry : ℕ) (x : TaskOutcome) →
      Goes z j n c (world_of pre post up rs q) b f (on p st) g (task_started c.env (task entry) x) →
      GoesTask (PS j) z k (root_named k (Some entry)) (world_of [] [] (spawning mine entry pre post ∷ up) rs k) b f g x
  unfolding task_started
  spawned_goes j n k pre post up rs b f g ln lk far entry (ends v x) h = λ eb m rs' pl fi.
      h m (world_of pre post up rs' q) (grown_here j m k n pre post up rs rs' b x.behind f x.tasks ln eb pl) ls
      (fresh (slots c) ag (record {
        steps = fi.steps;
        low = trans fi.low (weak lk);
        apart = record { pre = far.pre; post = far.post };
      })) tt
  spawned_goes j n k pre post up rs b f g ln lk far entry (lost s) h = h
  spawned_goes j n k pre post up rs b f g ln lk far entry (stops y) h = h
  spawned_goes j n k pre post up rs b f g ln lk far entry (sleeps s x) h = λ eb y0 m rs' pl fi ts y.
      subst (λ u. Ends z (resumes mine (task entry) (world pre post up (planted rs' u)) x.state) g)
      (sym (onto_onto ts [] [] ∙ append-nil ts))
      (h x.state.clock.left (world_of pre post up (planted rs' ts) q)
      (grown_on (PS j) z c m (world_of pre post up rs' q) x.behind x.tasks x.state.clock.left
      (world_of pre post up (planted rs' ts) q) x.behind (x.tasks ++ Some s ∷ [])
      (forked_around k (Some entry) s ts fr fi.steps y (same_around le_self))
      (grown_here j m k n pre post up rs rs' b x.behind f x.tasks ln eb pl)) ls
      (fresh (slots c) ag (record {
        steps = le_self;
        low = trans fi.low (weak lk);
        apart = record { pre = far.pre; post = far.post };
      })) tt)
