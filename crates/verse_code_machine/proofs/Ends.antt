-- What tasks do with one another makes nothing heavier.
use Rattle.std.proofs.Common.{◌≡◌, ℕ, zero, suc, length, ◌+◌, ◌*◌, ◌<◌, List, [], ◌∷◌, ◌++◌, Option, Some, None, Bool, refl, arith}
use Rattle.std.proofs.lemmas.Bool.{cond_both}
use Rattle.verse_base.specs.declared.places.Place.{Place}
use Rattle.verse_value.specs.Val.{Val, unit, task}
use Rattle.verse_value.specs.Answer.{Answer, gives, fails, error, stuck}
use Rattle.verse_value.specs.Operations.{tuple_of}
use Rattle.verse_value.specs.declared.runs.Ending.TheVariants as ending
use Rattle.verse_meaning_state.specs.State.{State, spending, stepped, with_result, drawn}
use Rattle.verse_meaning_state.specs.Waits.{Cause, waiting, has}
use Rattle.verse_meaning_state.specs.Turns.{Kind, sync, race, rush}
use Rattle.verse_code_machine.specs.Tasks.{Handler, Frame, Role, root, part, Who, Part, did, runs, Rest, asleep, group, Thread, thread}
use Rattle.verse_code_machine.specs.Tasks.{Task}
use Rattle.verse_code_machine.specs.Tasks.{After, resuming, closing, finishing, Up, begins, branching, spawning, clearing, Trees, World}
use Rattle.verse_code_machine.specs.Tasks.{world}
use Rattle.verse_code_machine.specs.Tasks.{Step, Over, Turn, onto, among, planted, waits_of, same_path, since, beneath_arms}
use Rattle.verse_code_machine.specs.Cancelling.{world_without, cancelled, on_deferred, clears_frame, clears_frames, clears, cancels}
use Rattle.verse_code_machine.specs.Cancelling.{gone_before}
use Rattle.verse_code_machine.specs.Cancelling.{gone_behind}
use Rattle.verse_code_machine.specs.Ends.{resumes, all_did, first_did, tupled, or_stands, grouped, next_arm, arm_did, rested, suspends}
use Rattle.verse_code_machine.specs.Ends.{is_run}
use Rattle.verse_code_machine.specs.Ends.{with_did, joined, climbs, part_ends, root_ends, role_ends, ends_role, ends, returns_role, returns}
use Rattle.verse_code_machine.specs.Ends.{follows, cleared, is_asleep, woken, woken_in}
use Rattle.verse_code_machine.proofs.Weights.{FramesAre, ThreadIs, TasksAre, TreesAre, AfterIs, UpsAre, WorldIs, frame_weight}
use Rattle.verse_code_machine.proofs.Weights.{frames_weight}
use Rattle.verse_code_machine.proofs.Weights.{thread_weight, tasks_weight, trees_weight, after_weight, others_weight, world_weight}
use Rattle.verse_code_machine.proofs.Weights.{steps_weight}
use Rattle.verse_code_machine.proofs.Weights.{Low, over, onto_weight, tasks_more, trees_more, without_before, without_behind, onto_are}
use Rattle.verse_code_machine.proofs.Weights.{tasks_are, trees_are, without_are, gone_before_are, gone_behind_are}

abbrev pub Others : List Task → List Task → List Up → Trees → Type 0
Others pre post us trees = WorldIs (world pre post us trees)

pub others : {pre post : List Task} {us : List Up} {trees : Trees} → TasksAre pre → TasksAre post → UpsAre us → TreesAre trees.before →
    TreesAre trees.behind → Others pre post us trees
others a b c d e = record { pre = a; post = b; ups = c; before = d; behind = e }

-- a step, and one more noted place
step_weight : (n l : ℕ) → suc l * (2 * n + 4) ≡ l * (2 * n + 4) + (2 * n + 4)
step_weight n l = omega arith

pub note_weight : (n l : ℕ) → (n + 2) * suc l ≡ (n + 2) * l + (n + 2)
note_weight n l = omega arith

pub spending_low : (n w k : ℕ) (s : State) (go : State → Step) → ((l : ℕ) → k * (2 * n + 4) ≡ l * (2 * n + 4) + (2 * n + 4) →
    Low n w (go (stepped l s))) → Low n w (spending k s (Over ending.Steps s) go)
spending_low n w zero s go f = over n
spending_low n w (suc l) s go f = f l (step_weight n l)

module _ (n w : ℕ) where
  pub resumes_low : (x : Thread) (v : Val) (o : World) (s : State) → steps_weight n s + thread_weight n x + world_weight n o < w →
      ThreadIs x → WorldIs o → Low n w (resumes x v o s)
  resumes_low x v o s h a b = record { holds = (omega (arith, h), (a.0, (a.1, b))) }

  -- cancelling
  deferred_low : (rest : Step) (x : Who) (o : World) (s : State) (f : Frame) (fs : List Frame) (ds : List ℕ) →
      steps_weight n s + frame_weight n f + frames_weight n fs + world_weight n o < w → FramesAre fs → WorldIs o →
      Low n w rest → Low n w (on_deferred ds rest (λ q ds. clears_frame x o s f fs q ds))
  deferred_low rest x o s f fs [] h a b l = l
  deferred_low rest x o s f fs (q ∷ ds) h a b l = spending_low n w s.clock.left s _ (λ k e. record {
    holds = (omega (arith, h, e, note_weight n (length f.life.noted)), ((refl, tt), (a, b)));
  })

  pub frames_low : (next : State → Step) (x : Who) (o : World) (s : State) (fs : List Frame) →
      steps_weight n s + frames_weight n fs + world_weight n o < w → FramesAre fs → WorldIs o → Low n w (next s) →
      Low n w (clears_frames next x o s fs)
  frames_low next x o s [] h a b l = l
  frames_low next x o s (f ∷ fs) h a b l =
      deferred_low (clears_frames next x o s fs) x o s f fs f.life.defers (omega (arith, h)) a.1 b (frames_low next x o s fs (omega
      (arith, h)) a.1 b l)

  -- what follows where all is cancelled, in any world that is no heavier
  abbrev pub Follows : (World → State → Step) → After → Type 0
  Follows last after = (o : World) (s : State) → steps_weight n s + after_weight n after + world_weight n o < w → AfterIs after →
      WorldIs o → Low n w (last o s)

  pub clears_low : (last : World → State → Step) (after : After) (ts : List Task) (o : World) (s : State) → Follows last after →
      steps_weight n s + after_weight n after + tasks_weight n ts + world_weight n o < w → AfterIs after → TasksAre ts → WorldIs o →
      Low n w (clears last after ts o s)
  clears_low last after [] o s f h a b c = f o s (omega (arith, h)) a c
  clears_low last after (t ∷ ts) o s f h a b c =
      frames_low (λ s. clears last after ts o s) t.thread.who (world o.pre o.post (clearing after ts ∷ o.ups) o.trees) s (t.thread.frame ∷
      t.thread.below) (omega (arith, h)) b.0
      (others c.pre c.post ((a, b.1), c.ups) c.before c.behind) (clears_low last after ts o s f (omega (arith, h)) a b.1 c)

  pub cancels_low : (last : World → State → Step) (after : After) (f : List ℕ → Bool) (o : World) (s : State) → Follows last after →
      steps_weight n s + after_weight n after + world_weight n o < w → AfterIs after → WorldIs o → Low n w (cancels last after f o s)
  cancels_low last after f o s g h a c = clears_low last after (cancelled f o) (world_without f o) s g
      (omega (arith, h, without_before n f o.pre, without_behind n f o.post, tasks_more n (gone_before f o.pre) (gone_behind f o.post))) a
      (tasks_are (gone_before f o.pre) (gone_behind f o.post) (gone_before_are f o.pre c.pre) (gone_behind_are f o.post c.post))
      (others (without_are f o.pre c.pre) (without_are f o.post c.post) c.ups c.before c.behind)

  -- groups
  tupled_low : (p : Place) (a : Answer Val) (x : Thread) (o : World) (s : State) →
      steps_weight n s + thread_weight n x + world_weight n o < w → ThreadIs x → WorldIs o → Low n w (tupled p a x o s)
  tupled_low p (gives v) x o s h a b = resumes_low x v o s h a b
  tupled_low p fails x o s h a b = over n
  tupled_low p (error k) x o s h a b = over n
  tupled_low p stuck x o s h a b = over n

  stands_low : {A : Type 0} (m : Option A) (q : Step) (go : A → Step) → Low n w q → ((x : A) → Low n w (go x)) → Low n w (or_stands m q go)
  stands_low None q go l f = l
  stands_low (Some x) q go l f = f x

  resuming_low : (x : Thread) (v : Val) → Follows (λ o s. resumes x v o s) (resuming x v)
  resuming_low x v o s h a b = resumes_low x v o s (omega (arith, h)) a b

  pub grouped_low : (k : Kind) (p : Place) (gs : List Part) (x : Thread) (o : World) (s : State) (stands : Task → Step) →
      steps_weight n s + thread_weight n x + world_weight n o < w → ThreadIs x → WorldIs o →
      ((r : Rest) → Low n w (stands (record { thread = x; rest = r }))) → Low n w (grouped k p gs x o s stands)
  grouped_low sync p gs x o s stands h a b f =
      stands_low (all_did gs) _ _ (f (group sync p gs)) (λ vs. tupled_low p (tuple_of vs) x o s h a b)
  grouped_low race p gs x o s stands h a b f = stands_low (first_did gs) _ _ (f (group race p gs)) (λ v.
      cancels_low (λ o s. resumes x v o s) (resuming x v) (beneath_arms x.who.path gs) o s (resuming_low x v) (omega (arith, h)) a b)
  grouped_low rush p gs x o s stands h a b f = stands_low (first_did gs) _ _ (f (group rush p gs)) (λ v. resumes_low x v o s h a b)

  pub next_low : (k : Kind) (p : Place) (gs : List Part) (ls : List ℕ) (x : Thread) (pre post : List Task) (us : List Up) (trees : Trees)
      (s : State) (stands : Task → Step) →
      steps_weight n s + thread_weight n x + others_weight n pre post us trees < w → ThreadIs x → Others pre post us trees → ((r : Rest) →
      Low n w (stands (record { thread = x; rest = r }))) →
      Low n w (next_arm k p gs ls x pre post us trees s stands)
  next_low k p gs [] x pre post us trees s stands h a b f = grouped_low k p gs x (world pre post us trees) s stands h a b f
  next_low k p gs (l ∷ ls) x pre post us trees s stands h a b f = spending_low n w s.clock.left s _ (λ m e. record {
    holds = (omega (arith, h, e), ((refl, tt), (tt, others b.pre b.post (a, b.ups) b.before b.behind)));
  })

  pub did_low : (k : Kind) (p : Place) (gs : List Part) (ls : List ℕ) (x : Thread) (pre post : List Task) (us : List Up) (trees : Trees)
      (s : State) (stands : Task → Step) →
      steps_weight n s + thread_weight n x + others_weight n pre post us trees < w → ThreadIs x → Others pre post us trees → ((r : Rest) →
      Low n w (stands (record { thread = x; rest = r }))) →
      Low n w (arm_did k p gs ls x pre post us trees s stands)
  did_low sync p gs ls x pre post us trees s stands h a b f = next_low sync p gs ls x pre post us trees s stands h a b f
  did_low race p gs ls x pre post us trees s stands h a b f = grouped_low race p gs x (world pre post us trees) s stands h a b f
  did_low rush p gs ls x pre post us trees s stands h a b f = next_low rush p gs ls x pre post us trees s stands h a b f

  -- no task runs
  turn_low : (pre post : List Task) (trees : Trees) (s : State) → steps_weight n s + others_weight n pre post [] trees < w →
      TasksAre pre → TasksAre post → TreesAre trees.before → TreesAre trees.behind →
      Low n w (Turn s (among (onto pre post) trees))
  turn_low pre post trees s h a b c d = record {
    holds = (
      omega (arith, h, trees_more n trees.before (onto pre post ∷ trees.behind), onto_weight n pre post),
      trees_are trees.before
          (onto pre post ∷ trees.behind) c (onto_are pre post a b, d),
    );
  }

  pub rested_low : (us : List Up) (pre post : List Task) (trees : Trees) (s : State) →
      steps_weight n s + others_weight n pre post us trees < w → Others pre post us trees → Low n w (rested pre post us trees s)
  rested_low [] pre post trees s h b = turn_low pre post trees s h b.pre b.post b.before b.behind
  rested_low (begins x k p gs m ls ∷ us) pre post trees s h b =
      next_low k p (gs ++ runs m ∷ []) ls x pre post us trees s (λ y. rested (y ∷ pre) post us trees s) (omega (arith, h)) b.ups.0 (others
      b.pre b.post b.ups.1 b.before b.behind)
      (λ r. rested_low us (record { thread = x; rest = r } ∷ pre) post trees s (omega (arith, h)) (others (b.ups.0, b.pre) b.post b.ups.1
      b.before b.behind))
  rested_low (branching x ∷ us) pre post trees s h b =
      resumes_low x unit (world pre post us trees) s (omega (arith, h)) b.ups.0 (others b.pre b.post b.ups.1 b.before b.behind)
  rested_low (spawning x entry ps qs ∷ us) pre post trees s h b =
      resumes_low x (task entry) (world ps qs us (planted trees (onto pre post))) s (omega (
        arith,
        h,
        trees_more n trees.behind (onto pre
            post ∷ []),
        onto_weight n pre post,
      )) b.ups.0.0
      (others b.ups.0.1.0 b.ups.0.1.1 b.ups.1 b.before (trees_are trees.behind (onto pre post ∷ []) b.behind (
        onto_are pre post b.pre
            b.post,
        tt,
      )))
  rested_low (clearing after ts ∷ us) pre post trees s h b = over n

  pub suspends_low : (c : Cause) (x : Thread) (o : World) (s : State) → steps_weight n s + thread_weight n x + world_weight n o < w →
      ThreadIs x → WorldIs o → Low n w (suspends c x o s)
  suspends_low c x o s h a b =
      rested_low o.ups (record { thread = x; rest = asleep (waiting c s) } ∷ o.pre) o.post o.trees (drawn s) (omega (arith, h)) (others
      (a, b.pre) b.post b.ups b.before b.behind)

  -- the end of a task
  joined_low : (number : ℕ) (v : Val) (r : Rest) (y : Task) (pre post : List Task) (trees : Trees) (s : State) →
      steps_weight n s + thread_weight n y.thread + others_weight n pre post [] trees < w → ThreadIs y.thread →
      Others pre post [] trees → Low n w (joined number v r y pre post trees s)
  joined_low m v (asleep x) y pre post trees s h a b =
      turn_low pre (y ∷ post) trees s (omega (arith, h)) b.pre (a, b.post) b.before b.behind
  joined_low m v (group k p gs) y pre post trees s h a b = cond_both (is_run m gs) _ _ (λ z. Low n w z)
      (λ e. grouped_low k p (with_did m v gs) y.thread (world pre post [] trees) s (λ y. rested (y ∷ pre) post [] trees s) h a b
      (λ r. rested_low [] (record {
        thread = y.thread;
        rest =
            r;
      } ∷ pre) post trees s (omega (arith, h)) (others (a, b.pre) b.post tt b.before b.behind)))
      (λ e. turn_low pre (y ∷ post) trees s (omega (arith, h)) b.pre (a, b.post) b.before b.behind)

  climbs_low : (up : List ℕ) (number : ℕ) (v : Val) (pre post : List Task) (trees : Trees) (s : State) →
      steps_weight n s + others_weight n pre post [] trees < w → Others pre post [] trees → Low n w (climbs up number v pre post trees s)
  climbs_low up m v pre [] trees s h b = over n
  climbs_low up m v pre (y ∷ post) trees s h b = cond_both (same_path up y.thread.who.path) _ _ (λ z. Low n w z)
      (λ e. joined_low m v y.rest y pre post trees s (omega (arith, h)) b.post.0 (others b.pre b.post.1 tt b.before b.behind))
      (λ e. climbs_low up m v (y ∷ pre) post trees s (omega (arith, h)) (others (b.post.0, b.pre) b.post.1 tt b.before b.behind))

  part_low : (us : List Up) (up : List ℕ) (number : ℕ) (v : Val) (pre post : List Task) (trees : Trees) (s : State) →
      steps_weight n s + others_weight n pre post us trees < w → Others pre post us trees →
      Low n w (part_ends up number v pre post us trees s)
  part_low [] up m v pre post trees s h b = climbs_low up m v pre post trees s h b
  part_low (begins x k p gs l ls ∷ us) up m v pre post trees s h b =
      did_low k p (gs ++ did v ∷ []) ls x pre post us trees s (λ y. rested (y ∷ pre) post us trees s) (omega (arith, h)) b.ups.0 (others
      b.pre b.post b.ups.1 b.before b.behind)
      (λ r. rested_low us (record { thread = x; rest = r } ∷ pre) post trees s (omega (arith, h)) (others (b.ups.0, b.pre) b.post b.ups.1
      b.before b.behind))
  part_low (branching x ∷ us) up m v pre post trees s h b =
      resumes_low x unit (world pre post us trees) s (omega (arith, h)) b.ups.0 (others b.pre b.post b.ups.1 b.before b.behind)
  part_low (spawning x entry ps qs ∷ us) up m v pre post trees s h b = over n
  part_low (clearing after ts ∷ us) up m v pre post trees s h b = over n

  root_low : (us : List Up) (pre post : List Task) (trees : Trees) (s : State) →
      steps_weight n s + others_weight n pre post us trees < w → Others pre post us trees → Low n w (root_ends pre post us trees s)
  root_low [] pre post trees s h b = turn_low pre post trees s h b.pre b.post b.before b.behind
  root_low (spawning x entry ps qs ∷ us) pre post trees s h b =
      resumes_low x (task entry) (world ps qs us trees) s (omega (arith, h)) b.ups.0.0 (others b.ups.0.1.0 b.ups.0.1.1 b.ups.1 b.before
      b.behind)
  root_low (begins x k p gs l ls ∷ us) pre post trees s h b = over n
  root_low (branching x ∷ us) pre post trees s h b = over n
  root_low (clearing after ts ∷ us) pre post trees s h b = over n

  role_low : (r : Role) (x : Who) (v : Val) (o : World) (s : State) → steps_weight n s + world_weight n o < w → WorldIs o →
      Low n w (role_ends r x v o s)
  role_low (root entry) x v o s h b = root_low o.ups o.pre o.post o.trees s h b
  role_low part x v o s h b = part_low o.ups x.up x.number v o.pre o.post o.trees s h b

  ends_role_low : (r : Role) (x : Who) (o : World) (born : ℕ) (v : Val) (s : State) → steps_weight n s + world_weight n o < w →
      WorldIs o → Low n w (ends_role r x o born v s)
  ends_role_low (root entry) x o born v s h b = over n
  ends_role_low part x o born v s h b =
      cancels_low (λ o s. role_ends part x v o s) (closing x v) (since x.path born) o s (λ o s h a c. role_low part x v o s (omega (
        arith,
        h,
      )) c) (omega (arith, h)) tt b

  pub ends_low : (x : Who) (o : World) (born : ℕ) (v : Val) (s : State) (hs : List Handler) (bl : List Frame) →
      steps_weight n s + world_weight n o < w → WorldIs o → Low n w (ends x o born v s hs bl)
  ends_low x o born v s (a ∷ hs) bl h b = over n
  ends_low x o born v s [] (f ∷ bl) h b = over n
  ends_low x o born v s [] [] h b = ends_role_low x.role x o born v s h b

  finishing_low : (x : Who) (entry : Option ℕ) (v : Val) → Follows (λ o s. role_ends (root entry) x v o (with_result entry v s))
      (finishing x entry v)
  finishing_low x None v o s h a b = role_low (root None) x v o s (omega (arith, h)) b
  finishing_low x (Some entry) v o s h a b = role_low (root (Some entry)) x v o (with_result (Some entry) v s) (omega (arith, h)) b

  returns_role_low : (r : Role) (x : Who) (o : World) (born : ℕ) (v : Val) (s : State) → steps_weight n s + world_weight n o < w →
      WorldIs o → Low n w (returns_role r x o born v s)
  returns_role_low (root entry) x o born v s h b =
      cancels_low (λ o s. role_ends (root entry) x v o (with_result entry v s)) (finishing x entry v) (since x.path born) o s
      (finishing_low x entry v) (omega (arith, h)) tt b
  returns_role_low part x o born v s h b = over n

  pub returns_low : (x : Who) (o : World) (born : ℕ) (v : Val) (s : State) (hs : List Handler) (bl : List Frame) →
      steps_weight n s + frames_weight n bl + world_weight n o < w → FramesAre bl → WorldIs o → Low n w (returns x o born v s hs bl)
  returns_low x o born v s (g ∷ hs) bl h a b = over n
  returns_low x o born v s [] [] h a b = returns_role_low x.role x o born v s (omega (arith, h)) b
  returns_low x o born v s [] (f ∷ bl) h a b =
      cancels_low (λ o s. resumes (thread x f bl) v o s) (resuming (thread x f bl) v) (since x.path born) o s (resuming_low (thread x f
      bl) v) (omega (arith, h)) a b

  follows_low : (after : After) → Follows (follows after) after
  follows_low (resuming x v) o s h a b = resumes_low x v o s (omega (arith, h)) a b
  follows_low (closing x v) o s h a b = role_low x.role x v o s (omega (arith, h)) b
  follows_low (finishing x entry v) o s h a b = finishing_low x entry v o s h a b

  pub cleared_low : (us : List Up) (pre post : List Task) (trees : Trees) (s : State) →
      steps_weight n s + others_weight n pre post us trees < w → Others pre post us trees → Low n w (cleared us pre post trees s)
  cleared_low [] pre post trees s h b = over n
  cleared_low (clearing after ts ∷ us) pre post trees s h b =
      clears_low (follows after) after ts (world pre post us trees) s (follows_low after) (omega (arith, h)) b.ups.0.0 b.ups.0.1 (others
      b.pre b.post b.ups.1 b.before b.behind)
  cleared_low (begins x k p gs l ls ∷ us) pre post trees s h b = over n
  cleared_low (branching x ∷ us) pre post trees s h b = over n
  cleared_low (spawning x entry ps qs ∷ us) pre post trees s h b = over n

  -- a wait is woken
  woken_low : (m : ℕ) (v : Val) (pre post : List Task) (trees : Trees) (s : State) →
      steps_weight n s + others_weight n pre post [] trees < w → Others pre post [] trees → Low n w (woken m v pre post trees s)
  woken_low m v pre [] trees s h b = over n
  woken_low m v pre (y ∷ post) trees s h b = cond_both (is_asleep m y.rest) _ _ (λ z. Low n w z)
      (λ e. resumes_low y.thread v (world pre post [] trees) s (omega (arith, h)) b.post.0 (others b.pre b.post.1 tt b.before b.behind))
      (λ e. woken_low m v (y ∷ pre) post trees s (omega (arith, h)) (others (b.post.0, b.pre) b.post.1 tt b.before b.behind))

  pub woken_in_low : (m : ℕ) (v : Val) (before behind : List (List Task)) (s : State) →
      steps_weight n s + trees_weight n before + trees_weight n behind < w → TreesAre before → TreesAre behind →
      Low n w (woken_in m v before behind s)
  woken_in_low m v before [] s h a b = over n
  woken_in_low m v before (ts ∷ behind) s h a b = cond_both (has m (waits_of ts)) _ _ (λ z. Low n w z)
      (λ e. woken_low m v [] ts (record { before = before; behind = behind }) s (omega (arith, h)) (others tt b.0 tt a b.1))
      (λ e. woken_in_low m v (before ++ ts ∷ []) behind s (omega (arith, h, trees_more n before (ts ∷ []))) (trees_are before (ts ∷ []) a
      (b.0, tt)) b.1)
