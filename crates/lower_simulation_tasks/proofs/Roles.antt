-- Scopes by their roles: an arm or a task behind, a task of its own, the body of a call.
use Rattle.std.proofs.Common.{◌≡◌, ℕ, zero, suc, ◌≤◌, List, [], ◌∷◌, ◌++◌, Option, Bool, true, false, refl, sym, ◌∙◌, subst}
use Rattle.verse_value.specs.Val.{Val}
use Rattle.verse_value.specs.declared.runs.Ending.TheVariants as ending
use Rattle.verse_code.specs.declared.operations.Op.TheVariants as oper
use Rattle.verse_meaning_state.specs.State.{State}
use Rattle.verse_code_machine.specs.Tasks.{world, Frame, Who, thread, Task, After, resuming, closing, finishing, Up, Trees, World, Step}
use Rattle.verse_code_machine.specs.Tasks.{Next, machine, life_from, root_named, child_named, since}
use Rattle.verse_code_machine.specs.Frames.{failing, free}
use Rattle.verse_code_machine.specs.Cancelling.{cancels}
use Rattle.verse_code_machine.specs.Ends.{follows, resumes, returns}
use Rattle.verse_meaning.specs.Residuals.{Env, Role, part, body, root, Residual, called, Scope, scope, Scopes, none, leaves, behind_leaves}
use Rattle.verse_meaning.specs.Outcomes.{World as Scene, world as scene, finished, not_given, Outcome, TaskOutcome, ends, lost, stops}
use Rattle.verse_meaning.specs.Outcomes.{sleeps, call_end}
use Rattle.verse_meaning.specs.Evaluating.{scope_end}
use Rattle.verse_meaning.specs.Resuming.{resume_scope}
use Rattle.verse_meaning.specs.Runs.{deeper}
use Rattle.lower_simulation.proofs.Claims.{with_return, Returns, return_leaves, return_now, Held, on, Agrees, Setting, Goal}
use Rattle.lower_simulation.specs.Seen.{broke_off}
use Rattle.lower_simulation.proofs.Claims.{Ends, Here, Ctx, Around, world_of, in_frame, frame_of, Apart, kids_of, own_of, Tasks, RestAt}
use Rattle.lower_simulation.proofs.Claims.{Stretch, Grown, same_around, Planted, GoesScope, role_over, GoesTask, ParkedR, ParkedS, Goes}
use Rattle.lower_simulation.proofs.Claims.{slots}
use Rattle.lower_simulation.proofs.Steps.{one, over}
use Rattle.lower_simulation.proofs.Going.{trans, le_self, fresh, stopped_body, cancels_all, grown_less, planted_grown}
use Rattle.lower_simulation_tasks.proofs.Besides.{keeps_raise, free_fails}
use Rattle.lower_simulation_tasks.proofs.Scopes.{Stretches, no_stretch, stretch_keeps, stopped_behind, MayReturn, NoReturn, scope_goes}
use Rattle.lower_simulation_tasks.proofs.Scopes.{scope_woken}

-- `return` in the frame of a scope
return_ends : {z : Setting} {gl : Goal} (w : Who) (o : World) (s : State) (g : ℕ) (ls stk : List Val) (v : Val) (i : ℕ)
    (bl : List Frame) → Returns z [] (life_from g) with_return i → Ends z (returns w o g v s [] bl) gl →
    Ends z (Next (machine w o s (life_from g) ls (v ∷ stk) i [] bl)) gl
return_ends w o s g ls stk v i bl (return_leaves f1 f2 h1 h2) k = one (oper.Leave 0)
    (machine w o s (life_from g) ls (v ∷ stk) i [] bl) h1 (one oper.Return (machine w o s (life_from g) ls (v ∷ stk) (suc i) [] bl) h2 k)
return_ends w o s g ls stk v i bl (return_now e h) k = one oper.Return (machine w o s (life_from g) ls (v ∷ stk) i [] bl) h k

abbrev Lost_task : ℕ → World → Goal → State → Type 0
Lost_task n X gl s = broke_off ending.Stuck s ≡ gl.seen

module _ (z : Setting) where
  -- a task of its own, of a part or a root, from what it begins with
  module _ (w : Who) (g : ℕ) (e0 : Env) (ss : Held) (q : Role) (after : Val → After) (a : ℕ)
      (fol : (v : Val) (o : World) (x : Scene) → follows (after v) o x.state ≡ role_over w v o (finished q v x).state) where
    abbrev Kept_task : ℕ → ℕ → ℕ → Scope → List Task → Type 0
    Kept_task j m own s ts = Stretch (ParkedS z j) z m own s w ts

    abbrev Mine : ℕ → ℕ → World → Around → Scopes → Tasks → Goal → TaskOutcome → Type 0
    Mine j n X o b f gl x = GoesScope (Unit {0}) (ParkedS z j) (role_over w) (Kept_task j) (Lost_task n X gl) z n w.path o b f gl x

    module _ (he : (o : World) (s : State) (ls : List Val) (v : Val) (gl : Goal) →
        Ends z (cancels (λ o s. follows (after v) o s) (after v) (since w.path g) o s) gl →
        Ends z (Next (machine w o s (life_from g) ls (v ∷ []) a [] [])) gl)
        (hr : MayReturn q → (o : World) (s : State) (ls stk : List Val) (v : Val) (i : ℕ) (gl : Goal) →
        Returns z [] (life_from g) with_return i → Ends z (cancels (λ o s. follows (after v) o s) (after v)
        (since w.path g) o s) gl → Ends z (Next (machine w o s (life_from g) ls (v ∷ stk) i [] [])) gl)
        (hn : NoReturn q → (o : World) (s : State) (ls stk : List Val) (v : Val) (i : ℕ) (gl : Goal) →
        Returns z [] (life_from g) with_return i → broke_off ending.Stuck s ≡ gl.seen →
        Ends z (Next (machine w o s (life_from g) ls (v ∷ stk) i [] [])) gl)
        (hf : (j n : ℕ) (X : World) (o : Around) (b : Scopes) (f : Tasks) (gl : Goal) (s : State) → Mine j n X o b f gl (not_given q s) →
        (o' : World) (ls : List Val) → s.clock.left ≤ n → s.clock.left ≤ g → (free [] [] [] ≡ false → o' ≡ X) →
        Ends z (failing w o' s ls [] []) gl) where
      abbrev TaskParked : ℕ → Type 0
      TaskParked j = (m p : ℕ) (us xs : List Task) (r : Residual) (bs : Scopes) → Stretches (ParkedS z j) z w p m g bs xs →
          RestAt (ParkedR z j) z m p r (in_frame e0 ss w g []) (on a []) us → ParkedS z j m g (scope q r bs) w (xs ++ us)

      kept_task : (j : ℕ) → TaskParked j → Unit {0} → (m p : ℕ) (us xs : List Task) (r : Residual) (bs : Scopes) →
          Stretches (ParkedS z j) z w p m g bs xs → RestAt (ParkedR z j) z m p r (in_frame e0 ss w g []) (on a []) us →
          Stretch (ParkedS z j) z m g (scope q r bs) w (xs ++ us)
      kept_task j pk y0 m p us xs r bs st rst = record {
        keeps = stretch_keeps (ParkedS z j) z w p m (leaves r) us rst.keeps st;
        stands = pk m p us xs r bs st rst;
        clears = cancels_all (stopped_behind (ParkedS z j) z (in_frame e0 ss w g []) p m (leaves r) us (kids_of z r)
            (own_of z r) rst.keeps rst.stopped st);
      }

      pub task_parked : (j : ℕ) → TaskParked j
      task_parked zero m p us xs r bs st rst = tt
      task_parked (suc j) m p us xs r bs st rst = λ n v s hw le pre post rs b f far M lM gl y.
          scope_woken z w g g le_self e0 ss [] q (Unit {0}) after (role_over w) Kept_task Lost_task a fol (λ e. tt) he hr hn hf tt refl j
          (kept_task j (task_parked j)) m p us xs r bs st rst n v s hw le pre post rs (world pre post [] rs) b f far M lM gl y

      pub task_goes : (j n : ℕ) (pre post : List Task) (up : List Up) (rs : Trees) (b : Scopes) (f : Tasks) (gl : Goal) →
          Apart w.path (world_of pre post up rs g) → (M : ℕ) → n ≤ M → (x : Outcome) →
          GoesTask (ParkedS z j) z n w (world_of pre post up rs g) b f gl (scope_end z.program (deeper z.program M) q b x) →
          Goes z j n (in_frame e0 ss w g []) (world_of pre post up rs g) none f (on a []) gl x
      task_goes j n pre post up rs b f gl far M lM x k =
          scope_goes z w g g le_self e0 ss [] q (Unit {0}) after (role_over w) Kept_task Lost_task a fol (λ e. tt) he hr hn hf j
          (kept_task j (task_parked j)) n pre post up rs (world pre post up rs) b f gl far g none [] (no_stretch le_self)
          (λ na. refl) M lM x k

  -- an arm, or the body of a `branch`
  pub part_goes : (u : Who) (g : ℕ) (e0 : Env) (ss : Held) (a : ℕ) → Here z.code a oper.ArmEnd →
      (j n : ℕ) (pre post : List Task) (up : List Up) (rs : Trees) (b : Scopes) (f : Tasks) (gl : Goal) →
      Apart (child_named u g).path (world_of pre post up rs g) → (M : ℕ) → n ≤ M → (x : Outcome) →
      GoesTask (ParkedS z j) z n (child_named u g) (world_of pre post up rs g) b f gl
      (scope_end z.program (deeper z.program M) part b x) → Goes z j n (in_frame e0 ss (child_named u g) g [])
      (world_of pre post up rs g) none f (on a []) gl x
  part_goes u g e0 ss a here = task_goes (child_named u g) g e0 ss part (λ v. closing (child_named u g) v) a (λ v o x. refl)
      (λ o s ls v gl k. one oper.ArmEnd (machine (child_named u g) o s (life_from g) ls (v ∷ []) a [] []) here k) (λ y. absurd y)
      (λ y o s ls stk v i gl g1 e. return_ends (child_named u g) o s g ls stk v i [] g1 (over _ e))
      (λ j n X o b f gl s h o' ls l1 l2 na. over _ h)

  -- a spawned task, or Main
  pub root_goes : (i : ℕ) (e : Option ℕ) (g : ℕ) (e0 : Env) (ss : Held) (a : ℕ) → Returns z [] (life_from g) with_return a →
      (j n : ℕ) (pre post : List Task) (up : List Up) (rs : Trees) (b : Scopes) (f : Tasks) (gl : Goal) →
      Apart (root_named i e).path (world_of pre post up rs g) → (M : ℕ) → n ≤ M →
      (x : Outcome) → GoesTask (ParkedS z j) z n (root_named i e) (world_of pre post up rs g) b f gl
      (scope_end z.program (deeper z.program M) (root e) b x) →
      Goes z j n (in_frame e0 ss (root_named i e) g []) (world_of pre post up rs g) none f (on a []) gl x
  root_goes i e g e0 ss a h1 = task_goes (root_named i e) g e0 ss (root e) (λ v. finishing (root_named i e) e v) a (λ v o x. refl)
      (λ o s ls v gl k. return_ends (root_named i e) o s g ls [] v a [] h1 k)
      (λ y o s ls stk v i' gl g1 k. return_ends (root_named i e) o s g ls stk v i' [] g1 k) (λ y. absurd y)
      (λ j n X o b f gl s h o' ls l1 l2 na. over _ h)

  -- the body of a call
  module _ (c : Ctx) (g Q : ℕ) (lq : g ≤ Q) (e0 : Env) (ss : Held) (ls st : List Val) (p a : ℕ) (ag : Agrees (slots c) ls)
      (h1 : Returns z [] (life_from g) with_return a) where
    abbrev caller : Frame
    caller = frame_of c ls st p

    abbrev Free : Type 0
    Free = free c.handlers c.life.noted c.below ≡ true

    abbrev Kept_call : ℕ → ℕ → ℕ → Scope → List Task → Type 0
    Kept_call j m own s ts = RestAt (ParkedR z j) z m own (called c.env s) c (on p st) ts

    abbrev Lost_call : ℕ → World → Goal → State → Type 0
    Lost_call n X gl s = s.clock.left ≤ n → s.clock.left ≤ Q → Ends z (failing c.who X s ls c.handlers c.below) gl

    abbrev after_call : Val → After
    after_call v = resuming (thread c.who caller c.below) v

    abbrev leave_call : Val → World → State → Step
    leave_call v o s = resumes (thread c.who caller c.below) v o s

    abbrev MineC : ℕ → ℕ → World → Around → Scopes → Tasks → Goal → TaskOutcome → Type 0
    MineC j n X o b f gl x = GoesScope Free (ParkedS z j) leave_call (Kept_call j) (Lost_call n X gl) z n c.who.path o b f gl x

    grown_call : (j i n m : ℕ) (pre post : List Task) (up : List Up) (rs rs' : Trees) (b b' : Scopes) (f f' : Tasks) → n ≤ m → b' ≡ b →
        Planted Free (ParkedS z j) z i rs' f' n rs f → Grown (ParkedS z j) z c i (world_of pre post up rs' Q) b' f' m
        (world_of pre post up rs Q) b f
    grown_call j i n m pre post up rs rs' b b' f f' le eb pl =
        subst (λ y. Grown (ParkedS z j) z c i (world_of pre post up rs' Q) y f' m (world_of pre post up rs Q) b f) (sym eb)
        (grown_less (ParkedS z j) z c i (world_of pre post up rs' Q) b f' m le
        (planted_grown Free (ParkedS z j) z c (λ y. y) b pre post up Q i rs' f' pl))

    -- what follows a call, as its scope sees it
    call_scope : (j n m : ℕ) (pre post : List Task) (up : List Up) (rs : Trees) (b : Scopes) (f : Tasks) (gl : Goal) → n ≤ m →
        Apart c.who.path (world_of pre post up rs Q) → (x : TaskOutcome) → Goes z j m c (world_of pre post up rs Q) b f (on p st) gl
        (call_end c.env x) →
        MineC j n (world pre post up rs) (world_of pre post up rs Q) b f gl x
    unfolding call_end
    call_scope j n m pre post up rs b f gl le far (ends v x) k = λ eb i rs' pl fi. k i (world_of pre post up rs' Q)
        (grown_call j i n m pre post up rs rs' b x.behind f x.tasks le eb pl) ls (fresh (slots c) ag fi) tt
    call_scope j n m pre post up rs b f gl le far (lost s) k = λ l1 l2. k m (world_of pre post up rs Q) b f (same_around le_self) ls
        (fresh (slots c) ag (record { steps = trans l1 le; low = l2; apart = far }))
    call_scope j n m pre post up rs b f gl le far (stops h) k = k
    call_scope j n m pre post up rs b f gl le far (sleeps s x) k = λ eb fr i rs' pl fi ts y. k i (world_of pre post up rs' Q)
        (grown_call j i n m pre post up rs rs' b x.behind f x.tasks le eb pl) fr fi ts y

    failed_call : (j n : ℕ) (X : World) (o : Around) (b : Scopes) (f : Tasks) (gl : Goal) (s : State) →
        MineC j n X o b f gl (not_given body s) → (o' : World) (ls' : List Val) → s.clock.left ≤ n → s.clock.left ≤ Q →
        (free [] [] (caller ∷ c.below) ≡ false → o' ≡ X) →
        Ends z (failing c.who o' s ls' [] (caller ∷ c.below)) gl
    failed_call j n X o b f gl s h o' ls' l1 l2 na = by (free c.handlers c.life.noted c.below) refl
      where
        by : (y : Bool) → free c.handlers c.life.noted c.below ≡ y → Ends z (failing c.who o' s ls c.handlers c.below) gl
        by true e = subst (λ q. Ends z q gl) (free_fails c.who X s ls c.handlers c.life.noted c.below e ∙
            sym (free_fails c.who o' s ls c.handlers c.life.noted c.below e)) (h l1 l2)
        by false e = subst (λ q. Ends z (failing c.who q s ls c.handlers c.below) gl) (sym (na e)) (h l1 l2)

    abbrev CallParked : ℕ → Type 0
    CallParked j = Free → (m q : ℕ) (us xs : List Task) (r : Residual) (bs : Scopes) → Stretches (ParkedS z j) z c.who q m g bs xs →
        RestAt (ParkedR z j) z m q r (in_frame e0 ss c.who g (caller ∷ c.below)) (on a []) us →
        ParkedR z j m Q (called c.env (scope body r bs)) c (on p st) (xs ++ us)

    kept_call : (j : ℕ) → CallParked j → Free → (m q : ℕ) (us xs : List Task) (r : Residual) (bs : Scopes) →
        Stretches (ParkedS z j) z c.who q m g bs xs → RestAt (ParkedR z j) z m q r (in_frame e0 ss c.who g (caller ∷ c.below))
        (on a []) us →
        RestAt (ParkedR z j) z m Q (called c.env (scope body r bs)) c (on p st) (xs ++ us)
    kept_call j pk fr m q us xs r bs st' rst = record {
      keeps = keeps_raise c.who.path g Q (behind_leaves bs (leaves r)) (xs ++ us) lq
          (stretch_keeps (ParkedS z j) z c.who q m (leaves r) us rst.keeps st');
      stands = pk fr m q us xs r bs st' rst;
      stopped = stopped_body (stopped_behind (ParkedS z j) z (in_frame e0 ss c.who g (caller ∷ c.below)) q m (leaves r) us (kids_of z r)
          (own_of z r) rst.keeps rst.stopped st') ag;
    }

    call_parked : (j : ℕ) → CallParked j
    call_parked zero fr m q us xs r bs st' rst = tt
    call_parked (suc j) fr m q us xs r bs st' rst = λ n v s hn le pre post rs b f far M lM gl y.
        scope_woken z c.who g Q lq e0 ss (caller ∷ c.below) body Free after_call leave_call Kept_call Lost_call a (λ v o x. refl)
        (λ e. e) (λ o s ls v gl k. return_ends c.who o s g ls [] v a (caller ∷ c.below) h1 k)
        (λ y o s ls stk v i gl g1 k. return_ends c.who o s g ls stk v i (caller ∷ c.below) g1 k) (λ y. absurd y) failed_call fr fr j
        (kept_call j (call_parked j)) m q us xs r bs st' rst n v s hn le pre post rs (world pre post [] rs) b f far M lM gl
        (call_scope j s.clock.left s.clock.left pre post [] rs b f gl le_self far
        (resume_scope z.program (deeper z.program M) (scope body r bs) n v (scene s b f)) y)

    -- a body, as it begins
    pub call_goes : (j n m : ℕ) (pre post : List Task) (up : List Up) (rs : Trees) (b : Scopes) (f : Tasks) (gl : Goal) → n ≤ m →
        Apart c.who.path (world_of pre post up rs Q) → (M : ℕ) → n ≤ M → (x : Outcome) →
        Goes z j m c (world_of pre post up rs Q) b f (on p st) gl (call_end c.env (scope_end z.program (deeper z.program M) body b x)) →
        Goes z j n (in_frame e0 ss c.who g (caller ∷ c.below)) (world_of pre post up rs g) none f (on a []) gl x
    call_goes j n m pre post up rs b f gl le far M lM x k =
        scope_goes z c.who g Q lq e0 ss (caller ∷ c.below) body Free after_call leave_call Kept_call Lost_call a (λ v o x. refl) (λ e. e)
        (λ o s ls v gl k. return_ends c.who o s g ls [] v a (caller ∷ c.below) h1 k)
        (λ y o s ls stk v i gl g1 k. return_ends c.who o s g ls stk v i (caller ∷ c.below) g1 k) (λ y. absurd y) failed_call j
        (kept_call j (call_parked j)) n pre post up rs (world pre post up rs) b f gl far g none [] (no_stretch le_self)
        (λ na. refl) M lM x
        (call_scope j n m pre post up rs b f gl le far (scope_end z.program (deeper z.program M) body b x) k)
