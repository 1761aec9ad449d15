-- From where tasks are cancelled to where what waits for them goes on.
use Rattle.std.proofs.Common.{◌≡◌, ℕ, zero, suc, List, [], ◌∷◌, ◌++◌, ◌⊎◌, inl, inr, Option, Some, None, Bool, true}
use Rattle.std.proofs.Common.{false}
use Rattle.std.proofs.Common.{refl, sym, subst, ap, ◌∙◌}
use Rattle.std.proofs.lemmas.Bool.{cond_both}
use Rattle.verse_code.specs.declared.operations.Op.{Op}
use Rattle.verse_code.specs.declared.operations.Op.TheVariants as does
use Rattle.verse_code.specs.declared.codes.Code.{Code}
use Rattle.verse_value.specs.declared.runs.Ending.{Ending}
use Rattle.verse_value.specs.declared.runs.Ending.TheVariants as ending
use Rattle.verse_meaning_state.specs.State.{State, spending, stepped}
use Rattle.verse_code_machine.specs.Tasks.{Handler, Frame, Note, gone, Who, Task, After, World, Machine, Step, Next}
use Rattle.verse_code_machine.specs.Tasks.{Over}
use Rattle.verse_code_machine.specs.Frames.{free}
use Rattle.verse_code_machine.specs.Cancelling.{without, inserted, gone_before, gone_behind, cancelled, world_without}
use Rattle.verse_code_machine.specs.Cancelling.{on_deferred}
use Rattle.verse_code_machine.specs.Cancelling.{clears_frames, clears, cancels}
use Rattle.verse_code_machine.specs.Ends.{follows}
use Rattle.verse_code_machine.specs.Runs.{step}
use Rattle.verse_code_machine_parents.specs.Parents.{EachTask, AllStill, MachineRooted, StepRooted}
use Rattle.verse_code_machine_parents.specs.Cancelled.{NoneSince, CancelledOnce}
use Rattle.verse_code_machine_parents.proofs.Running.{operation_roots}
use Rattle.verse_code_machine_contexts.specs.Runs.{op_at, Comes, at_once, later}
use Rattle.verse_code_machine_contexts.specs.Contexts.{StepsAlone}
use Rattle.verse_code_machine_contexts.specs.Cancels.{Outcome, within, through, clearing_world, OfTask, Acts, stands}
use Rattle.verse_code_machine_contexts.specs.Cancels.{goes_on, block}
use Rattle.verse_code_machine_contexts.specs.Cancels.{left_by, CancelsTasks, no_task, task, CancelsFrames, no_frame}
use Rattle.verse_code_machine_contexts.specs.Cancels.{frame, deferred}
use Rattle.verse_code_machine_contexts.specs.Cancels.{no_step, runs, ends, Cancels, clears as clears_still, went_on}
use Rattle.verse_code_machine_contexts.proofs.Frames.{Notes, none, its, own}
use Rattle.verse_code_machine_contexts.proofs.Acts.{Low, over, stays, closes, step_spent}
use Rattle.verse_code_machine_contexts.proofs.Contexts.{same_next}
use Rattle.verse_code_machine_contexts.proofs.Deferred.{AllFree, In, InBlock, BlockEnds, of_task, operation_in_block}

-- ---- what is cancelled has no open context and no noted place

frames_free : (hs : List Handler) (ns : List Note) (fs : List Frame) → free hs ns fs ≡ true →
    (hs ≡ []) × (ns ≡ []) × AllFree fs
frames_free (h ∷ hs) ns fs e = cc
frames_free [] (n ∷ ns) fs e = cc
frames_free [] [] [] e = (refl, refl, tt)
frames_free [] [] (f ∷ fs) e = (refl, refl, frames_free f.handlers f.life.noted fs e)

abbrev TaskFree : Task → Type 0
TaskFree t = AllFree (t.thread.frame ∷ t.thread.below)

still_free : (ts : List Task) → AllStill ts → EachTask TaskFree ts
still_free [] a = tt
still_free (t ∷ ts) a =
    (frames_free t.thread.frame.handlers t.thread.frame.life.noted t.thread.below a.0.free, still_free ts a.1)

module _ (is : Task → Type 0) (f : List ℕ → Bool) where
  each_inserted : (t : Task) (ts : List Task) → is t → EachTask is ts → EachTask is (inserted t ts)
  each_inserted t [] a b = (a, b)
  each_inserted t (x ∷ xs) a b = cond_both _ (x ∷ inserted t xs) (t ∷ x ∷ xs) (EachTask is) (λ e. (
    b.0,
    each_inserted t
        xs a b.1,
  ))
      (λ e. (a, b))

  each_before : (ts : List Task) → EachTask is ts → EachTask is (gone_before f ts)
  each_before [] a = tt
  each_before (t ∷ ts) a = cond_both (f t.thread.who.path) (inserted t (gone_before f ts)) (gone_before f ts) (EachTask
      is)
      (λ e. each_inserted t (gone_before f ts) a.0 (each_before ts a.1)) (λ e. each_before ts a.1)

  each_behind : (ts : List Task) → EachTask is ts → EachTask is (gone_behind f ts)
  each_behind [] a = tt
  each_behind (t ∷ ts) a = cond_both (f t.thread.who.path) (t ∷ gone_behind f ts) (gone_behind f ts) (EachTask is)
      (λ e. (a.0, each_behind ts a.1)) (λ e. each_behind ts a.1)

  each_both : (ts us : List Task) → EachTask is ts → EachTask is us → EachTask is (ts ++ us)
  each_both [] us a b = b
  each_both (t ∷ ts) us a b = (a.0, each_both ts us a.1 b)

  pub each_without : (ts : List Task) → EachTask is ts → EachTask is (without f ts)
  each_without [] a = tt
  each_without (t ∷ ts) a = cond_both (f t.thread.who.path) (without f ts) (t ∷ without f ts) (EachTask is)
      (λ e. each_without ts a.1) (λ e. (a.0, each_without ts a.1))

  each_cancelled : (o : World) → EachTask is o.pre → EachTask is o.post → EachTask is (cancelled f o)
  each_cancelled o a b = each_both (gone_before f o.pre) (gone_behind f o.post) (each_before o.pre a) (each_behind
      o.post b)

-- none of those that are cancelled is left
module _ (f : List ℕ → Bool) where
  none_in : (ts : List Task) → EachTask (λ t. f t.thread.who.path ≡ false) (without f ts)
  none_in [] = tt
  none_in (t ∷ ts) = cond_both (f t.thread.who.path) (without f ts) (t ∷ without f ts)
      (EachTask (λ t. f t.thread.who.path ≡ false)) (λ e. none_in ts) (λ e. (e, none_in ts))

  none_left : (o : World) → EachTask (λ t. f t.thread.who.path ≡ false) ((world_without f o).pre ++ (world_without f
      o).post)
  none_left o = each_both (λ t. f t.thread.who.path ≡ false) f (without f o.pre) (without f o.post) (none_in o.pre)
      (none_in o.post)

-- ---- from step to step

no_over : {e : Ending} {s : State} {n : Machine} → Over e s ≡ Next n → ⊥
no_over e = cc

over_alone : {c : Code} {q r : Step} {e : Ending} {s : State} → Comes c q r → q ≡ Over e s → r ≡ Over e s
over_alone at_once e = e
over_alone (later p) e = absurd (no_over (sym e))

module _ (since_none : NoneSince) (c : Code) (after : After) (o : World) (start : State) (out : Outcome → Type 0) where
  -- from here on out says what it comes to
  abbrev Towards : Who → List Frame → List Task → State → Type 0
  Towards w fs ts s = (x : Outcome) → CancelsFrames c after o w fs ts s x → out x

  -- where a step stands among the blocks
  pub data At (q : Step) : Type 0 where
    goes : (u : State) → StepsAlone start.clock u.clock → out (through u) → q ≡ follows after o u → At q
    over_at : (e : Ending) (u : State) → q ≡ Over e u → out (within (Over e u)) → At q
    in_block : (w : Who) (fs : List Frame) (ts : List Task) (k : Machine) → q ≡ Next k → MachineRooted k → AllFree fs →
        EachTask TaskFree ts → InBlock c after o w fs ts start.clock k → OfTask c after o w fs ts k →
        ((n : Machine) → Acts c after o w fs ts k n → out (within (Next n))) →
        ((n : Machine) (e : Ending) (u : State) → Acts c after o w fs ts k n → step c n ≡ Over e u → out (within (Over e
        u))) → ((n : Machine) (x : Outcome) → Acts c after o w fs ts k n → n.below ≡ fs → op_at c n ≡ Some does.DeferEnd
        → CancelsFrames c after o w (left_by c after o n ∷ fs) ts n.state x → out x) → At q

  -- ---- where cancelling comes to next

  abbrev frames_step : Who → List Task → State → List Frame → Step
  frames_step w ts s fs = clears_frames (λ s. clears (follows after) after ts o s) w (clearing_world c after o ts) s fs

  -- a frame whose deferred blocks are these
  module _ (w : Who) (f : Frame) (fs : List Frame) (ts : List Task) (s : State) (t : StepsAlone start.clock s.clock)
      (noted : f.life.noted ≡ []) (free : AllFree fs) (tasks : EachTask TaskFree ts) (to : Towards w (f ∷ fs) ts s)
    where
      block_settles : (d : ℕ) (ds : List ℕ) (left : ℕ) → f.life.defers ≡ d ∷ ds → s.clock.left ≡ left →
          StepRooted (spending left s (Over ending.Steps s) (λ s. Next (block c after o w f ds d fs ts s))) →
          At (spending left s (Over ending.Steps s) (λ s. Next (block c after o w f ds d fs ts s)))
      block_settles d ds zero e h r = over_at ending.Steps s refl (to (within (Over ending.Steps s)) (no_step e h))
      block_settles d ds (suc l) e h r =
          in_block w fs ts (block c after o w f ds d fs ts (stepped l s)) refl r free tasks begun (of_task c after o w
          fs ts start.clock begun) (λ n p. to (within (Next n)) (runs e h p)) (λ n x u p q. to (within (Over x u)) (ends
          e h p q)) (λ n x p b op y. to x (deferred e h p b op y))
        where
          begun : InBlock c after o w fs ts start.clock (block c after o w f ds d fs ts (stepped l s))
          begun = record {
            who = refl;
            world = refl;
            clock = step_spent _ s.clock l t (sym h);
            frames = own refl (subst (λ ns. Notes (gone ∷ []) (gone ∷ ns)) (sym noted) none) (its refl);
          }

      frame_settles : (ds : List ℕ) → f.life.defers ≡ ds → (StepRooted (frames_step w ts s fs) → Towards w fs ts s →
          At (frames_step w ts s fs)) → StepRooted (on_deferred ds (frames_step w ts s fs) (λ d ds. spending
          s.clock.left s (Over ending.Steps s) (λ s. Next (block c after o w f ds d fs ts s)))) → At (on_deferred ds
          (frames_step w ts s fs) (λ d ds. spending s.clock.left s (Over ending.Steps s) (λ s. Next (block c after o w f
          ds d fs ts s))))
      frame_settles [] e go r = go r (λ x y. to x (frame e y))
      frame_settles (d ∷ ds) e go r = block_settles d ds s.clock.left e refl r

  -- what is left of a task, where it is known of those behind it
  frames_settle : (w : Who) (ts : List Task) → EachTask TaskFree ts → ((s : State) → StepsAlone start.clock s.clock →
      StepRooted (clears (follows after) after ts o s) → ((x : Outcome) → CancelsTasks c after o ts s x → out x) →
      At (clears (follows after) after ts o s)) → (fs : List Frame) → AllFree fs → (s : State) → StepsAlone start.clock
      s.clock → StepRooted (frames_step w ts s fs) → Towards w fs ts s → At (frames_step w ts s fs)
  frames_settle w ts tasks behind [] free s t r to = behind s t r (λ x y. to x (no_frame y))
  frames_settle w ts tasks behind (f ∷ fs) free s t r to =
      frame_settles w f fs ts s t free.1 free.2 tasks to f.life.defers refl (λ r to. frames_settle w ts tasks behind fs
      free.2 s t r to) r

  pub tasks_settle : (ts : List Task) → EachTask TaskFree ts → (s : State) → StepsAlone start.clock s.clock →
      StepRooted (clears (follows after) after ts o s) → ((x : Outcome) → CancelsTasks c after o ts s x → out x) →
      At (clears (follows after) after ts o s)
  tasks_settle [] tasks s t r to = goes s t (to (through s) no_task) refl
  tasks_settle (y ∷ ts) tasks s t r to =
      frames_settle y.thread.who ts tasks.1 (λ s t r to. tasks_settle ts tasks.1 s t r to) (y.thread.frame ∷
      y.thread.below) tasks.0 s t r (λ x z. to x (task z))

  -- an operation of a block
  module _ (w : Who) (fs : List Frame) (ts : List Task) (k : Machine) (free : AllFree fs) (tasks : EachTask TaskFree ts)
      (i : InBlock c after o w fs ts start.clock k) (of : OfTask c after o w fs ts k)
      (stays_in : (n : Machine) → Acts c after o w fs ts k n → out (within (Next n)))
      (ends_in : (n : Machine) (e : Ending) (u : State) → Acts c after o w fs ts k n → step c n ≡ Over e u → out (within
      (Over e u))) (goes_from : (n : Machine) (x : Outcome) → Acts c after o w fs ts k n → n.below ≡ fs → op_at c n ≡
      Some does.DeferEnd →
      CancelsFrames c after o w (left_by c after o n ∷ fs) ts n.state x → out x) where
    low_at : {op : Op} {q : Step} → op_at c k ≡ Some op →
        Low w (clearing_world c after o ts) start.clock (In c after o w fs ts start.clock) (BlockEnds c after o w fs ts
        start.clock k op) q → step c k ≡ q → StepRooted q → At q
    low_at op (over {e = e} {s = u}) h r = over_at e u refl (ends_in k e u (stands of) h)
    low_at op (stays {n = n} j) h r =
        in_block w fs ts n refl r free tasks j (of_task c after o w fs ts start.clock j) (λ m p. stays_in m (goes_on of
        h p)) (λ m e u p x. ends_in m e u (goes_on of h p) x) (λ m x p b o y. goes_from m x (goes_on of h p) b o y)
    low_at op (closes b) h r =
        subst At (sym b.next) (frames_settle w ts tasks (λ s t r to. tasks_settle ts tasks s t r to) (left_by c after o
        k ∷ fs) (
          refl,
          refl,
          free,
        ) k.state i.clock (subst StepRooted b.next r) (λ x y. goes_from k x (stands of) b.below (op ∙ ap Some b.ends)
        y))

    op_at_all : (x : Option Op) → op_at c k ≡ x → MachineRooted k → At (step c k)
    op_at_all None e r = over_at ending.Stuck k.state stuck_here (ends_in k ending.Stuck k.state (stands of) stuck_here)
      where
        stuck_here : step c k ≡ Over ending.Stuck k.state
        stuck_here = rw e refl
    op_at_all (Some op) e r =
        low_at e (operation_in_block c after o w fs ts start.clock since_none free k i r op e) refl (operation_roots c k
        r)

  -- ---- any number of operations

  abbrev WhatComes : Step → Type 0
  WhatComes r = out (within r) ⊎ ((u : State) × StepsAlone start.clock u.clock × out (through u) × Comes c (follows
      after o u) r)

  next_and_over : {A : Type 0} {n : Machine} {e : Ending} {u : State} → Next n ≡ Over e u → A
  next_and_over e = cc

  pub walks : {q r : Step} → Comes c q r → StepRooted q → At q → WhatComes r
  walks {r = r} at_once rooted (goes u t x e) = inr (u, t, x, subst (λ z. Comes c z r) e at_once)
  walks at_once rooted (over_at e u h x) = inl (subst (λ z. out (within z)) (sym h) x)
  walks at_once rooted (in_block w fs ts k e m free tasks i of a b d) = inl (subst (λ z. out (within z)) (sym e) (a k
      (stands of)))
  walks {r = r} (later p) rooted (goes u t x e) = inr (u, t, x, subst (λ z. Comes c z r) e (later p))
  walks (later p) rooted (over_at e u h x) = absurd (next_and_over h)
  walks (later {k = j} p) rooted (in_block w fs ts k e m free tasks i of a b d) =
      walks p (operation_roots c j rooted) (subst (λ k. At (step c k)) (sym (same_next e)) (op_at_all w fs ts k free
      tasks i of a b d (op_at c k) refl m))

-- ---- the law of cancelling

pub cancels_all : NoneSince → CancelledOnce → (c : Code) (after : After) (f : List ℕ → Bool) (o : World) (s : State) →
    AllStill o.pre → AllStill o.post → StepRooted (cancels (follows after) after f o s) → (r : Step) →
    Comes c (cancels (follows after) after f o s) r → Cancels c after f o s r
cancels_all since_none once c after f o s pre post rooted r p = by_way (walks since_none c after (world_without f o) s
    (CancelsTasks c
    after (world_without f o) (cancelled f o) s) p rooted (tasks_settle since_none c after (world_without f o) s
    (CancelsTasks c after (world_without f o) (cancelled f o) s) (cancelled f o) (each_cancelled TaskFree f o
    (still_free o.pre pre) (still_free o.post post))
    s (record { same = refl; sum = refl }) rooted (λ x y. y)))
  where
    by_way : CancelsTasks c after (world_without f o) (cancelled f o) s (within r) ⊎ ((u : State) × StepsAlone s.clock
        u.clock ×
        CancelsTasks c after (world_without f o) (cancelled f o) s (through u) × Comes c (follows after (world_without f
        o) u) r) → Cancels c after f o s r
    by_way (inl x) = clears_still x
    by_way (inr x) = went_on (record {
      state = x.0;
      clock = x.1;
      blocks = x.2;
      before = (once f o).0;
      behind = (once f o).1;
      ups = refl;
      trees = refl;
      none_left = none_left f o;
      comes = x.3;
    })
