-- Calls, spawned calls and defaults, from what the code of a body leads to.
use Rattle.std.proofs.Common.{◌≡◌, ℕ, zero, suc, ◌≤◌, ◌<◌, List, [], ◌∷◌, Option, Some, Bool, true, refl, sym, ap, ◌∙◌, arith}
use Rattle.std.specs.Prelude.{length}
use Rattle.verse_tree.specs.Tree.{Tree}
use Rattle.verse_tree.specs.ItemTree.{FunTree}
use Rattle.verse_code.specs.declared.codes.Func.{Func}
use Rattle.verse_value.specs.Val.{Val, task}
use Rattle.verse_meaning_state.specs.State.{State, with_entry, stepped}
use Rattle.verse_meaning.specs.Programs.{fun_at}
use Rattle.verse_meaning.specs.Residuals.{Env, body, root, none}
use Rattle.verse_meaning.specs.Outcomes.{World, world, Outcome, halted, out, if_known, task_started, call_end, spends, with_state}
use Rattle.verse_meaning.specs.Outcomes.{set_behind}
use Rattle.verse_meaning.specs.Evaluating.{ev, scope_end}
use Rattle.verse_meaning.specs.Runs.{deeper, taking, entered, with_params, with_this}
use Rattle.verse_code_machine.specs.Tasks.{spawning, Frame, Who, thread, Up, life_from, root_named}
use Rattle.verse_code_machine.specs.Frames.{free, enters, locals_of}
use Rattle.verse_code_machine.specs.Acts.{spawns}
use Rattle.lower_simulation.proofs.Claims.{with_return, Returns, Held, on, Setting, Goal, Ends, Ctx, Around, world_of, at, in_frame}
use Rattle.lower_simulation.proofs.Claims.{frame_of}
use Rattle.lower_simulation.proofs.Claims.{Apart, Fine, Good, Tasks, Goes}
use Rattle.lower_simulation.proofs.Going.{le_self, agrees}
use Rattle.lower_simulation.proofs.Leading.{LeadsTo, spends_leads, no_steps, is_leads}
use Rattle.lower_simulation_tasks.proofs.Besides.{clear_less}
use Rattle.lower_simulation_tasks.proofs.Roles.{root_goes, call_goes}
use Rattle.lower_simulation_tasks.proofs.Starts.{spawned_goes}

-- the code of a function does what its body x means, from its entry to a return, with at most top steps
pub record BodyLeads (z : Setting) (top : ℕ) (x : Tree) (fc : Func) (e : Env) (vs : List Val) : Type 0 where
  pub frame : Held
  pub end : ℕ
  pub returns : (k : ℕ) → Returns z [] (life_from k) with_return end
  pub leads : (j M : ℕ) (m : Bool) (w : Who) (bl : List Frame) (o : Around) (s : State) (f : Tasks) (g : Goal) → s.clock.left ≤ top →
      s.clock.left ≤ M → free [] [] bl ≡ m → Fine s.clock.left w.path o s →
      Goes z j s.clock.left (in_frame e frame w s.clock.left bl) o none f (on end []) g
      (ev z.program (deeper z.program M) x m e (world s none f)) →
      Ends z (at (in_frame e frame w s.clock.left bl) o s (locals_of fc vs) [] fc.entry) g

module _ (z : Setting) (top : ℕ) (x : Tree) (fc : Func) (e : Env) (vs : List Val) (bd : (t : ℕ) → t < top → BodyLeads z t x fc e vs) where
  -- a frame of the task itself
  pub entering_leads : {j n : ℕ} {c : Ctx} {o : Around} {y : World} {ls st : List Val} {q : ℕ} (M : ℕ) (w : Bool) →
      free c.handlers c.life.noted c.below ≡ w → n ≤ top → n ≤ suc M → Good n c.who.path o c.held c.also c.size y.state ls →
      LeadsTo z j n c o y.behind y.tasks (enters fc vs c.who o.world y.state (frame_of c ls st q ∷ c.below)) (on q st)
      (spends y.state.clock.left y (λ y. call_end c.env (scope_end z.program (deeper z.program M) body y.behind
      (ev z.program (deeper z.program M) x w e (set_behind y none)))))
  entering_leads {j} {n} {c} {o} {y} {ls} {st} {q} M w fw lt lM g = spends_leads z y.state.clock.left y _
      (λ y. call_end c.env (scope_end z.program (deeper z.program M) body y.behind
      (ev z.program (deeper z.program M) x w e (set_behind y none))))
      (λ k eq. record {
        go = λ gl h.
            let fi = g.fine in
            let far = fi.apart in
            let kt : k < top = omega (arith, eq, fi.steps, lt) in
            let kM : k ≤ M = omega (arith, eq, fi.steps, lM) in
            let kn : k ≤ n = omega (arith, eq, fi.steps) in
            let kq : k ≤ o.own = omega (arith, eq, fi.low) in
            let b = bd k kt in
            let o' : Around = world_of o.world.pre o.world.post o.world.ups o.world.trees k in
            b.leads j M w c.who (frame_of c ls st q ∷ c.below) o' (stepped k y.state) y.tasks gl le_self kM fw (record {
              steps = le_self;
              low = le_self;
              apart = record {
                pre = clear_less c.who.path o.own k o.world.pre kq far.pre;
                post = clear_less c.who.path o.own k o.world.post kq far.post;
              };
            })
            (call_goes z c k o.own kq e b.frame ls st q b.end (agrees g) (b.returns k) j k n o.world.pre o.world.post o.world.ups
            o.world.trees y.behind y.tasks gl kn far M kM (ev z.program (deeper z.program M) x w e
            (world (stepped k y.state) none y.tasks)) h);
      })

  -- a task of its own
  pub spawning_leads : {j n : ℕ} {c : Ctx} {o : Around} {y : World} {ls st : List Val} {q : ℕ} (M : ℕ) →
      free c.handlers c.life.noted c.below ≡ true → n ≤ top → n ≤ suc M → Good n c.who.path o c.held c.also c.size y.state ls →
      LeadsTo z j n c o y.behind y.tasks (spawns fc vs (thread c.who (frame_of c ls st q) c.below) o.world y.state) (on q st)
      (spends y.state.clock.left y (λ y. task_started c.env (task (length y.state.clock.results))
      (scope_end z.program (deeper z.program M) (root (Some (length y.state.clock.results))) y.behind
      (ev z.program (deeper z.program M) x true e (set_behind (with_state y (with_entry y.state)) none)))))
  spawning_leads {j} {n} {c} {o} {y} {ls} {st} {q} M fr lt lM g = spends_leads z y.state.clock.left y _
      (λ y. task_started c.env (task (length y.state.clock.results))
      (scope_end z.program (deeper z.program M) (root (Some (length y.state.clock.results))) y.behind
      (ev z.program (deeper z.program M) x true e (set_behind (with_state y (with_entry y.state)) none))))
      (λ k eq. record {
        go = λ gl h.
            let fi = g.fine in
            let kt : k < top = omega (arith, eq, fi.steps, lt) in
            let kM : k ≤ M = omega (arith, eq, fi.steps, lM) in
            let kn : k ≤ n = omega (arith, eq, fi.steps) in
            let kq : k < o.own = omega (arith, eq, fi.low) in
            let b = bd k kt in
            let entry : ℕ = length y.state.clock.results in
            let up : List Up = spawning (thread c.who (frame_of c ls st q) c.below) entry o.world.pre o.world.post ∷ o.world.ups in
            let s : State = with_entry (stepped k y.state) in
            let alone : Apart (root_named k (Some entry)).path (world_of [] [] up o.world.trees k) = record { pre = tt; post = tt } in
            let inside = ev z.program (deeper z.program M) x true e (world s none y.tasks) in
            b.leads j M true (root_named k (Some entry)) [] (world_of [] [] up o.world.trees k) s y.tasks gl le_self kM refl
            (record { steps = le_self; low = le_self; apart = alone })
            (root_goes z k (Some entry) k e b.frame b.end (b.returns k) j k [] [] up o.world.trees y.behind y.tasks gl alone M kM inside
            (spawned_goes z c q st ls o.own fr (agrees g) j n k o.world.pre o.world.post o.world.ups o.world.trees y.behind y.tasks gl kn
            kq fi.apart entry (scope_end z.program (deeper z.program M) (root (Some entry)) y.behind inside) h));
      })

  -- the default of a field
  pub default_leads : e ≡ [] → {j n : ℕ} {c : Ctx} {o : Around} {y : World} {ls st : List Val} {q : ℕ} (M : ℕ) (w : Bool) →
      free c.handlers c.life.noted c.below ≡ w → n ≤ top → n ≤ M → Good n c.who.path o c.held c.also c.size y.state ls →
      LeadsTo z j n c o y.behind y.tasks (enters fc vs c.who o.world y.state (frame_of c ls st q ∷ c.below)) (on q st)
      ((deeper z.program M).defaults x w c.env y)
  default_leads none_bound {y = y} zero w fw lt lM g =
      no_steps z y.state.clock.left y _ (let s = g.fine.steps in omega (arith, s, lM))
  default_leads none_bound {c = c} {y = y} (suc M) w fw lt lM g = is_leads z
      (ap (λ e. spends y.state.clock.left y (λ y. call_end c.env (scope_end z.program (deeper z.program M) body y.behind
      (ev z.program (deeper z.program M) x w e (set_behind y none))))) (sym none_bound)) (entering_leads M w fw lt lM g)

module _ (z : Setting) (f : ℕ) (this : Option Val) (fn : FunTree) (vs : List Val) (e : Env) (is : fun_at z.program f ≡ Some fn)
    (bound : with_params fn.params vs (with_this this) ≡ Some e) where
  known : (y : World) (go : FunTree → Env → Outcome) → taking z.program f this vs y go ≡ go fn e
  unfolding if_known
  known y go = ap (λ x. if_known x y (λ (fn : FunTree). if_known (with_params fn.params vs (with_this this)) y (λ e. go fn e))) is ∙
      ap (λ x. if_known x y (λ e. go fn e)) bound

  module _ (top : ℕ) (fc : Func) (us : List Val) (bd : (t : ℕ) → t < top → BodyLeads z t fn.body fc e us) where
    pub called_leads : (w : Bool) (M j n : ℕ) (c : Ctx) (o : Around) (y : World) (ls st : List Val) (q : ℕ) →
        free c.handlers c.life.noted c.below ≡ w → n ≤ top → n ≤ M → Good n c.who.path o c.held c.also c.size y.state ls →
        LeadsTo z j n c o y.behind y.tasks (enters fc us c.who o.world y.state (frame_of c ls st q ∷ c.below)) (on q st)
        ((deeper z.program M).calls f this vs w c.env y)
    called_leads w zero j n c o y ls st q fw lt lM g = is_leads z (known y (λ fn e. halted (out y.state)))
        (no_steps z y.state.clock.left y _ (let s = g.fine.steps in omega (arith, s, lM)))
    called_leads w (suc M) j n c o y ls st q fw lt lM g = is_leads z (known y (λ fn e1. spends y.state.clock.left y
        (λ y. call_end c.env (entered z.program (deeper z.program M) body fn e1 w y))))
        (entering_leads z top fn.body fc e us bd M w fw lt lM g)

    pub started_leads : (M j n : ℕ) (c : Ctx) (o : Around) (y : World) (ls st : List Val) (q : ℕ) →
        free c.handlers c.life.noted c.below ≡ true → n ≤ top → n ≤ M → Good n c.who.path o c.held c.also c.size y.state ls →
        LeadsTo z j n c o y.behind y.tasks (spawns fc us (thread c.who (frame_of c ls st q) c.below) o.world y.state) (on q st)
        ((deeper z.program M).spawns f this vs c.env y)
    started_leads zero j n c o y ls st q fr lt lM g = is_leads z (known y (λ fn e. halted (out y.state)))
        (no_steps z y.state.clock.left y _ (let s = g.fine.steps in omega (arith, s, lM)))
    started_leads (suc M) j n c o y ls st q fr lt lM g = is_leads z (known y (λ fn e1. spends y.state.clock.left y
        (λ y. task_started c.env (task (length y.state.clock.results)) (entered z.program (deeper z.program M)
        (root (Some (length y.state.clock.results))) fn e1 true (with_state y (with_entry y.state))))))
        (spawning_leads z top fn.body fc e us bd M fr lt lM g)

-- by the bound on the steps: what holds at a bound where it holds at all smaller ones, holds at each
pub by_bound : (P : ℕ → Type 0) → ((top : ℕ) → ((k : ℕ) → k < top → P k) → P top) → (top : ℕ) → P top
by_bound P step top = below (suc top) top le_self
  where
    below : (n k : ℕ) → k < n → P k
    below zero k lt = absurd (omega (arith, lt))
    below (suc n) k lt = step k (λ i li. below n i (omega (arith, li, lt)))
