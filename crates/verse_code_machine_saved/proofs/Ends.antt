-- What tasks do with one another, they do in the other run too.
use Rattle.std.proofs.Common.{◌≡◌, ℕ, zero, suc, ◌<◌, List, [], ◌∷◌, ◌++◌, Option, Some, None, Bool, true, false, cond, refl, sym, ap, ◌∙◌}
use Rattle.std.proofs.Common.{subst, arith}
use Rattle.verse_base.specs.declared.places.Place.{Place}
use Rattle.verse_value.specs.Val.{Val, unit, task}
use Rattle.verse_value.specs.Answer.{Answer, gives, fails, error, stuck}
use Rattle.verse_value.specs.Operations.{tuple_of}
use Rattle.verse_value.specs.declared.runs.Ending.TheVariants as ending
use Rattle.verse_meaning_state.specs.State.{State, spending, stepped, with_result, drawn}
use Rattle.verse_meaning_state.specs.Waits.{Wait, Cause, waiting, has, eqn}
use Rattle.verse_meaning_state.specs.Turns.{Kind, sync, race, rush}
use Rattle.verse_code_machine.specs.Tasks.{Handler, Frame, Role, root, part, Who, Part, did, runs, Rest, asleep, group, Thread, thread}
use Rattle.verse_code_machine.specs.Tasks.{Task}
use Rattle.verse_code_machine.specs.Tasks.{After, resuming, closing, finishing, Up, begins, branching, spawning, clearing, Trees, World}
use Rattle.verse_code_machine.specs.Tasks.{world}
use Rattle.verse_code_machine.specs.Tasks.{Step, Next, Over, Turn, onto, among, planted, waits_of, child_named, machine, life_from}
use Rattle.verse_code_machine.specs.Tasks.{waits_with}
use Rattle.verse_code_machine.specs.Cancelling.{world_without, cancelled, on_deferred, clears_frame, clears_frames, clears, cancels}
use Rattle.verse_code_machine.specs.Frames.{behind}
use Rattle.verse_code_machine.specs.Ends.{resumes, all_did, first_did, tupled, or_stands, grouped, next_arm, arm_did, rested, suspends}
use Rattle.verse_code_machine.specs.Ends.{is_run}
use Rattle.verse_code_machine.specs.Ends.{with_did, joined, climbs, part_ends, root_ends, role_ends, ends_role, ends, returns_role, returns}
use Rattle.verse_code_machine.specs.Ends.{follows, cleared, is_asleep, woken, woken_in}
use Rattle.verse_code_machine.specs.Runs.{Forest}
use Rattle.verse_code_machine.proofs.Paths.{same_is}
use Rattle.verse_code_machine_saved.specs.Numbers.{Numbering, Prior, WakingRenumbered, path_as, handlers_as, frame_as, frames_as, who_as}
use Rattle.verse_code_machine_saved.specs.Numbers.{thread_as, parts_as, rest_as, task_as, tasks_as, trees_as, after_as, ups_as, world_as}
use Rattle.verse_code_machine_saved.specs.Numbers.{SameTest}
use Rattle.verse_code_machine_saved.proofs.Numbers.{cancelled_as, since_as, arms_as, path_end, same_as, eqn_number}
use Rattle.verse_code_machine_saved.proofs.Settings.{Setting, S, Is, steps_is, draws_is, result_is, RestIs, TreesAre, WorldIs, Others}
use Rattle.verse_code_machine_saved.proofs.Settings.{others, Same, over, onto_are, trees_are, without_are, plain, all_trees}

module _ (r : Numbering) where
  pub parts_same : (a : List ℕ) (gs hs : List Part) → parts_as r a gs ++ parts_as r a hs ≡ parts_as r a (gs ++ hs)
  parts_same a [] hs = refl
  parts_same a (did v ∷ gs) hs = ap (λ ys. did v ∷ ys) (parts_same a gs hs)
  parts_same a (runs n ∷ gs) hs = ap (λ ys. runs (r a n) ∷ ys) (parts_same a gs hs)

  all_same : (a : List ℕ) (gs : List Part) → all_did (parts_as r a gs) ≡ all_did gs
  all_same a [] = refl
  all_same a (did v ∷ gs) = ap (behind v) (all_same a gs)
  all_same a (runs n ∷ gs) = refl

  first_same : (a : List ℕ) (gs : List Part) → first_did (parts_as r a gs) ≡ first_did gs
  first_same a [] = refl
  first_same a (did v ∷ gs) = refl
  first_same a (runs n ∷ gs) = first_same a gs

  rest_waits : (a : List ℕ) (q : Rest) (ws : List Wait) → waits_with (rest_as r a q) ws ≡ waits_with q ws
  rest_waits a (asleep w) ws = refl
  rest_waits a (group k p gs) ws = refl

module _ (z : Prior) where
  onto_same : (xs ts : List Task) → onto (tasks_as z xs) (tasks_as z ts) ≡ tasks_as z (onto xs ts)
  onto_same [] ts = refl
  onto_same (x ∷ xs) ts = onto_same xs (x ∷ ts)

  trees_same : (xs ts : Forest) → trees_as z xs ++ trees_as z ts ≡ trees_as z (xs ++ ts)
  trees_same [] ts = refl
  trees_same (x ∷ xs) ts = ap (λ ys. tasks_as z x ∷ ys) (trees_same xs ts)

  pub waits_same : (ts : List Task) → waits_of (tasks_as z ts) ≡ waits_of ts
  waits_same [] = refl
  waits_same (t ∷ ts) = rest_waits z.numbers t.thread.who.path t.rest _ ∙ ap (waits_with t.rest) (waits_same ts)

module _ (k : Setting) where
  abbrev Z : Prior
  Z = k.prior

  abbrev R : Numbering
  R = k.prior.numbers

  abbrev T : State → State
  T = S k

  pub same_if : (b c : Bool) (x y u v : Step) → c ≡ b → (b ≡ true → Same k x u) → Same k y v → Same k (cond b x y) (cond c u v)
  same_if true true x y u v e f g = f refl
  same_if false false x y u v e f g = g
  same_if true false x y u v e f g = grind (arith, e)
  same_if false true x y u v e f g = grind (arith, e)

  abbrev pub Follows : (last next : World → State → Step) → Type 0
  Follows last next = (o : World) (s : State) → Is k s → WorldIs k o → Same k (last o s) (next (world_as Z o) (T s))

  spent : (n : ℕ) (s : State) (go go' : State → Step) → n ≡ s.clock.left → Is k s →
      ((l : ℕ) → l < k.bound → Is k (stepped l s) → Same k (go (stepped l s)) (go' (stepped l (T s)))) →
      Same k (spending n s (Over ending.Steps s) go) (spending n (T s) (Over ending.Steps (T s)) go')
  spent zero s go go' e h f = over k
  spent (suc l) s go go' e h f = let few = h.few in f l (omega (arith, e, few)) (steps_is k l s e h)

  pub spending_same : (s : State) (go go' : State → Step) → Is k s →
      ((l : ℕ) → l < k.bound → Is k (stepped l s) → Same k (go (stepped l s)) (go' (stepped l (T s)))) →
      Same k (spending s.clock.left s (Over ending.Steps s) go) (spending s.clock.left (T s) (Over ending.Steps (T s)) go')
  spending_same s go go' h f = spent s.clock.left s go go' refl h f

  pub resumes_same : (x : Thread) (v : Val) (o : World) (s : State) → Is k s → WorldIs k o →
      Same k (resumes x v o s) (resumes (thread_as Z x) v (world_as Z o) (T s))
  resumes_same x v o s h b = record { is = refl; holds = (h, b) }

  -- cancelling
  deferred_same : (rest rest' : Step) (x : Who) (o : World) (s : State) (f : Frame) (fs : List Frame) (ds : List ℕ) → Is k s → WorldIs k o →
      Same k rest rest' → Same k (on_deferred ds rest (λ q ds. clears_frame x o s f fs q ds)) (on_deferred ds rest' (λ q ds. clears_frame
      (who_as R x) (world_as Z o) (T s) (frame_as Z x.path f) (frames_as Z x.path fs) q ds))
  deferred_same rest rest' x o s f fs [] h b l = l
  deferred_same rest rest' x o s f fs (q ∷ ds) h b l = spending_same s _ _ h (λ m e h. record { is = refl; holds = (h, b) })

  pub frames_same : (next next' : State → Step) (x : Who) (o : World) (s : State) (fs : List Frame) → Is k s → WorldIs k o →
      Same k (next s) (next' (T s)) →
      Same k (clears_frames next x o s fs) (clears_frames next' (who_as R x) (world_as Z o) (T s) (frames_as Z x.path fs))
  frames_same next next' x o s [] h b l = l
  frames_same next next' x o s (f ∷ fs) h b l =
      deferred_same _ _ x o s f fs f.life.defers h b (frames_same next next' x o s fs h b l)

  pub clears_same : (last next : World → State → Step) (after : After) (ts : List Task) (o : World) (s : State) → Follows last next →
      Is k s → WorldIs k o → Same k (clears last after ts o s) (clears next (after_as Z after) (tasks_as Z ts) (world_as Z o) (T s))
  clears_same last next after [] o s f h b = f o s h b
  clears_same last next after (t ∷ ts) o s f h b =
      frames_same (clears last after ts o) (clears next (after_as Z after) (tasks_as Z ts) (world_as Z o)) t.thread.who
      (world o.pre o.post (clearing after ts ∷ o.ups) o.trees) s (t.thread.frame ∷ t.thread.below) h
      (others k b.pre b.post (tt, b.ups) b.before b.behind) (clears_same last next after ts o s f h b)

  pub new_child : (w : Who) (l : ℕ) → l < k.bound → child_named (who_as R w) l ≡ who_as R (child_named w l)
  new_child w l h =
      ap (λ n. record { path = path_as R w.path ++ n ∷ []; up = path_as R w.path; number = n; role = part }) (sym (k.fixed w.path l h)) ∙
      ap (λ p. record { path = p; up = path_as R w.path; number = R w.path l; role = part }) (sym (path_end R k.apart w.path l))

  cancels_same : (last next : World → State → Step) (after : After) (f g : List ℕ → Bool) (o : World) (s : State) → SameTest R f g →
      Follows last next → Is k s → WorldIs k o →
      Same k (cancels last after f o s) (cancels next (after_as Z after) g (world_as Z o) (T s))
  cancels_same last next after f g o s t j h b =
      let c = cancelled_as Z f g o k.apart t in
      subst (λ ts. Same k (cancels last after f o s) (clears next (after_as Z after) ts (world_without g (world_as Z o)) (T s))) (sym c.0)
      (subst (λ w. Same k (cancels last after f o s) (clears next (after_as Z after) (tasks_as Z (cancelled f o)) w (T s))) (sym c.1)
      (clears_same last next after (cancelled f o) (world_without f o) s j h
      (others k (without_are k f o.pre b.pre) (without_are k f o.post b.post) b.ups b.before b.behind)))

  -- groups
  tupled_same : (p : Place) (a : Answer Val) (x : Thread) (o : World) (s : State) → Is k s → WorldIs k o →
      Same k (tupled p a x o s) (tupled p a (thread_as Z x) (world_as Z o) (T s))
  tupled_same p (gives v) x o s h b = resumes_same x v o s h b
  tupled_same p fails x o s h b = over k
  tupled_same p (error e) x o s h b = over k
  tupled_same p stuck x o s h b = over k

  stands_same : {A : Type 0} (m n : Option A) (q p : Step) (go go' : A → Step) → n ≡ m → Same k q p → ((x : A) → Same k (go x) (go' x)) →
      Same k (or_stands m q go) (or_stands n p go')
  stands_same None None q p go go' e l f = l
  stands_same (Some x) n q p go go' e l f = subst (λ y. Same k (go x) (or_stands y p go')) (sym e) (f x)
  stands_same None (Some x) q p go go' e l f = grind (arith, e)

  abbrev Stands : Thread → (Task → Step) → (Task → Step) → Type 0
  Stands x go go' = (q : Rest) → RestIs k q →
      Same k (go (record { thread = x; rest = q })) (go' (task_as Z (record { thread = x; rest = q })))

  grouped_same : (d : Kind) (p : Place) (gs : List Part) (x : Thread) (o : World) (s : State) (go go' : Task → Step) → Is k s →
      WorldIs k o → Stands x go go' →
      Same k (grouped d p gs x o s go) (grouped d p (parts_as R x.who.path gs) (thread_as Z x) (world_as Z o) (T s) go')
  grouped_same sync p gs x o s go go' h b f =
      stands_same _ _ _ _ _ _ (all_same R x.who.path gs) (f (group sync p gs) tt) (λ vs. tupled_same p (tuple_of vs) x o s h b)
  grouped_same race p gs x o s go go' h b f = stands_same _ _ _ _ _ _ (first_same R x.who.path gs) (f (group race p gs) tt) (λ v.
      cancels_same _ _ (resuming x v) _ _ o s (arms_as R x.who.path gs k.apart) (λ o s h b. resumes_same x v o s h b) h b)
  grouped_same rush p gs x o s go go' h b f =
      stands_same _ _ _ _ _ _ (first_same R x.who.path gs) (f (group rush p gs) tt) (λ v. resumes_same x v o s h b)

  begins_next : (d : Kind) (p : Place) (gs : List Part) (ls : List ℕ) (x : Thread) (pre post : List Task) (us : List Up) (trees : Trees)
      (s : State) (l m : ℕ) → m < k.bound → Is k (stepped m s) → Others k pre post us trees →
      Same k (Next (machine (child_named x.who m) (world pre post (begins x d p gs m ls ∷ us) trees) (stepped m s)
      (life_from m) x.frame.locals [] l [] []))
      (Next (machine (child_named (who_as R x.who) m) (world (tasks_as Z pre) (tasks_as Z post) (begins (thread_as Z x) d p (parts_as R
      x.who.path gs) m ls ∷ ups_as Z us) (world_as Z (world pre post us trees)).trees) (stepped m (T s)) (life_from m) x.frame.locals [] l
      [] []))
  begins_next d p gs ls x pre post us trees s l m h i b = record {
    is =
        ap (λ w. Next (machine w (world (tasks_as Z pre) (tasks_as Z post) (begins (thread_as Z x) d p (parts_as R x.who.path gs) m ls ∷
        ups_as Z us) (world_as Z (world pre post us trees)).trees) (stepped m (T s)) (life_from m) x.frame.locals [] l [] []))
        (new_child x.who m h) ∙
        ap (λ n. Next (machine (who_as R (child_named x.who m)) (world (tasks_as Z pre) (tasks_as Z post) (begins (thread_as Z x) d p
        (parts_as R x.who.path gs) n ls ∷ ups_as Z us) (world_as Z (world pre post us trees)).trees) (stepped m (T s)) (life_from m)
        x.frame.locals [] l [] [])) (sym (k.fixed x.who.path m h)) ∙
        ap (λ n. Next (machine (who_as R (child_named x.who m)) (world (tasks_as Z pre) (tasks_as Z post) (begins (thread_as Z x) d p
        (parts_as R x.who.path gs) (R x.who.path m) ls ∷ ups_as Z us) (world_as Z (world pre post us trees)).trees) (stepped m (T s))
        (life_from n) x.frame.locals [] l [] [])) (sym (k.fixed (x.who.path ++ m ∷ []) m h));
    holds = (i, others k b.pre b.post (tt, b.ups) b.before b.behind);
  }

  pub next_same : (d : Kind) (p : Place) (gs : List Part) (ls : List ℕ) (x : Thread) (pre post : List Task) (us : List Up) (trees : Trees)
      (s : State) (go go' : Task → Step) → Is k s → Others k pre post us trees → Stands x go go' →
      Same k (next_arm d p gs ls x pre post us trees s go) (next_arm d p (parts_as R x.who.path gs) ls (thread_as Z x) (tasks_as Z pre)
      (tasks_as Z post) (ups_as Z us) (world_as Z (world pre post us trees)).trees (T s) go')
  next_same d p gs [] x pre post us trees s go go' h b f = grouped_same d p gs x (world pre post us trees) s go go' h b f
  next_same d p gs (l ∷ ls) x pre post us trees s go go' h b f =
      spending_same s _ _ h (λ m e i. begins_next d p gs ls x pre post us trees s l m e i b)

  did_same : (d : Kind) (p : Place) (gs : List Part) (ls : List ℕ) (x : Thread) (pre post : List Task) (us : List Up) (trees : Trees)
      (s : State) (go go' : Task → Step) → Is k s → Others k pre post us trees → Stands x go go' →
      Same k (arm_did d p gs ls x pre post us trees s go) (arm_did d p (parts_as R x.who.path gs) ls (thread_as Z x) (tasks_as Z pre)
      (tasks_as Z post) (ups_as Z us) (world_as Z (world pre post us trees)).trees (T s) go')
  did_same sync p gs ls x pre post us trees s go go' h b f = next_same sync p gs ls x pre post us trees s go go' h b f
  did_same race p gs ls x pre post us trees s go go' h b f = grouped_same race p gs x (world pre post us trees) s go go' h b f
  did_same rush p gs ls x pre post us trees s go go' h b f = next_same rush p gs ls x pre post us trees s go go' h b f

  -- no task runs
  turn_same : (pre post : List Task) (trees : Trees) (s : State) → Is k s → Others k pre post [] trees →
      Same k (Turn s (among (onto pre post) trees)) (Turn (T s) (among (onto (tasks_as Z pre) (tasks_as Z post)) (record {
        before = trees_as Z trees.before;
        behind = trees_as Z trees.behind;
      })))
  turn_same pre post trees s h b = record {
    is = ap (λ ts. Turn (T s) (trees_as Z trees.before ++ ts ∷ trees_as Z trees.behind)) (onto_same Z pre post) ∙
        ap (Turn (T s)) (trees_same Z trees.before (onto pre post ∷ trees.behind));
    holds = (h, trees_are k trees.before (onto pre post ∷ trees.behind) b.before (onto_are k pre post b.pre b.post, b.behind));
  }

  pub rested_same : (us : List Up) (pre post : List Task) (trees : Trees) (s : State) → Is k s → Others k pre post us trees →
      Same k (rested pre post us trees s) (rested (tasks_as Z pre) (tasks_as Z post) (ups_as Z us) (world_as Z (world pre post us
      trees)).trees (T s))
  rested_same [] pre post trees s h b = turn_same pre post trees s h b
  rested_same (begins x d p gs m ls ∷ us) pre post trees s h b =
      subst (λ hs. Same k (next_arm d p (gs ++ runs m ∷ []) ls x pre post us trees s (λ y. rested (y ∷ pre) post us trees s)) (next_arm d p
      hs ls (thread_as Z x) (tasks_as Z pre) (tasks_as Z post) (ups_as Z us) (world_as Z (world pre post us trees)).trees (T s) (λ y. rested
      (y ∷ tasks_as Z pre) (tasks_as Z post) (ups_as Z us) (world_as Z (world pre post us trees)).trees (T s))))
      (sym (parts_same R x.who.path gs (runs m ∷ [])))
      (next_same d p (gs ++ runs m ∷ []) ls x pre post us trees s _ _ h (others k b.pre b.post b.ups.1 b.before b.behind)
      (λ q c. rested_same us (record { thread = x; rest = q } ∷ pre) post trees s h (others k (c, b.pre) b.post b.ups.1 b.before b.behind)))
  rested_same (branching x ∷ us) pre post trees s h b =
      resumes_same x unit (world pre post us trees) s h (others k b.pre b.post b.ups.1 b.before b.behind)
  rested_same (spawning x entry ps qs ∷ us) pre post trees s h b =
      subst (λ ts. Same k (resumes x (task entry) (world ps qs us (planted trees (onto pre post))) s) (resumes (thread_as Z x) (task entry)
      (world (tasks_as Z ps) (tasks_as Z qs) (ups_as Z us) (record { before = trees_as Z trees.before; behind = ts })) (T s)))
      (sym (ap (λ ts. trees_as Z trees.behind ++ ts ∷ []) (onto_same Z pre post) ∙ trees_same Z trees.behind (onto pre post ∷ [])))
      (resumes_same x (task entry) (world ps qs us (planted trees (onto pre post))) s h (others k b.ups.0.0 b.ups.0.1 b.ups.1 b.before
      (trees_are k trees.behind (onto pre post ∷ []) b.behind (onto_are k pre post b.pre b.post, tt))))
  rested_same (clearing after ts ∷ us) pre post trees s h b = over k

  pub suspends_same : (c : Cause) (x : Thread) (o : World) (s : State) → Is k s → WorldIs k o →
      Same k (suspends c x o s) (suspends c (thread_as Z x) (world_as Z o) (T s))
  suspends_same c x o s h b = rested_same o.ups (record { thread = x; rest = asleep (waiting c s) } ∷ o.pre) o.post o.trees (drawn s)
      (draws_is k s h) (others k (k.new c s h.holds, b.pre) b.post b.ups b.before b.behind)

  run_same : (a : List ℕ) (n : ℕ) (gs : List Part) → is_run (R a n) (parts_as R a gs) ≡ is_run n gs
  run_same a n [] = refl
  run_same a n (did v ∷ gs) = run_same a n gs
  run_same a n (runs m ∷ gs) = ap (λ b. cond b true (is_run (R a n) (parts_as R a gs))) (eqn_number R k.apart a n m) ∙ ap (cond (eqn n m)
      true) (run_same a n gs)

  parts_if : (a : List ℕ) (b : Bool) (gs hs : List Part) → parts_as R a (cond b gs hs) ≡ cond b (parts_as R a gs) (parts_as R a hs)
  parts_if a true gs hs = refl
  parts_if a false gs hs = refl

  with_same : (a : List ℕ) (n : ℕ) (v : Val) (gs : List Part) → with_did (R a n) v (parts_as R a gs) ≡ parts_as R a (with_did n v gs)
  with_same a n v [] = refl
  with_same a n v (did w ∷ gs) = ap (λ hs. did w ∷ hs) (with_same a n v gs)
  with_same a n v (runs m ∷ gs) =
      ap (λ b. cond b (did v ∷ parts_as R a gs) (runs (R a m) ∷ with_did (R a n) v (parts_as R a gs))) (eqn_number R k.apart a n m) ∙
      ap (λ hs. cond (eqn n m) (did v ∷ parts_as R a gs) (runs (R a m) ∷ hs)) (with_same a n v gs) ∙ sym (parts_if a (eqn n m) _ _)

  -- the end of a task
  joined_same : (n : ℕ) (v : Val) (q : Rest) (y : Task) (pre post : List Task) (trees : Trees) (s : State) → Is k s → RestIs k y.rest →
      Others k pre post [] trees →
      Same k (joined n v q y pre post trees s) (joined (R y.thread.who.path n) v (rest_as R y.thread.who.path q) (task_as Z y) (tasks_as Z
      pre) (tasks_as Z post) (world_as Z (world pre post [] trees)).trees (T s))
  joined_same n v (asleep x) y pre post trees s h a b = turn_same pre (y ∷ post) trees s h (others k b.pre (a, b.post) tt b.before b.behind)
  joined_same n v (group d p gs) y pre post trees s h a b = same_if _ _ _ _ _ _ (run_same y.thread.who.path n gs)
      (λ e. subst (λ hs. Same k (grouped d p (with_did n v gs) y.thread (world pre post [] trees) s (λ y. rested (y ∷ pre) post [] trees s))
      (grouped d p hs (thread_as Z y.thread) (world_as Z (world pre post [] trees)) (T s) (λ y. rested (y ∷ tasks_as Z pre) (tasks_as Z
      post) [] (world_as Z (world pre post [] trees)).trees (T s)))) (sym (with_same y.thread.who.path n v gs))
      (grouped_same d p (with_did n v gs) y.thread (world pre post [] trees) s _ _ h b
      (λ q c. rested_same [] (record { thread = y.thread; rest = q } ∷ pre) post trees s h
      (others k (c, b.pre) b.post tt b.before b.behind))))
      (turn_same pre (y ∷ post) trees s h (others k b.pre (a, b.post) tt b.before b.behind))

  climbs_same : (up : List ℕ) (n : ℕ) (v : Val) (pre post : List Task) (trees : Trees) (s : State) → Is k s → Others k pre post [] trees →
      Same k (climbs up n v pre post trees s) (climbs (path_as R up) (R up n) v (tasks_as Z pre) (tasks_as Z post) (world_as Z (world pre
      post [] trees)).trees (T s))
  climbs_same up n v pre [] trees s h b = over k
  climbs_same up n v pre (y ∷ post) trees s h b = same_if _ _ _ _ _ _ (same_as R k.apart up y.thread.who.path)
      (λ e. subst (λ a. Same k (joined n v y.rest y pre post trees s) (joined (R a n) v (rest_as R y.thread.who.path y.rest) (task_as Z y)
      (tasks_as Z pre) (tasks_as Z post) (world_as Z (world pre post [] trees)).trees (T s))) (sym (same_is up y.thread.who.path e))
      (joined_same n v y.rest y pre post trees s h b.post.0 (others k b.pre b.post.1 tt b.before b.behind)))
      (climbs_same up n v (y ∷ pre) post trees s h (others k (b.post.0, b.pre) b.post.1 tt b.before b.behind))

  part_same : (us : List Up) (up : List ℕ) (n : ℕ) (v : Val) (pre post : List Task) (trees : Trees) (s : State) → Is k s →
      Others k pre post us trees →
      Same k (part_ends up n v pre post us trees s) (part_ends (path_as R up) (R up n) v (tasks_as Z pre) (tasks_as Z post) (ups_as Z us)
      (world_as Z (world pre post us trees)).trees (T s))
  part_same [] up n v pre post trees s h b = climbs_same up n v pre post trees s h b
  part_same (begins x d p gs l ls ∷ us) up n v pre post trees s h b =
      subst (λ hs. Same k (arm_did d p (gs ++ did v ∷ []) ls x pre post us trees s (λ y. rested (y ∷ pre) post us trees s)) (arm_did d p hs
      ls (thread_as Z x) (tasks_as Z pre) (tasks_as Z post) (ups_as Z us) (world_as Z (world pre post us trees)).trees (T s) (λ y. rested (y
      ∷ tasks_as Z pre) (tasks_as Z post) (ups_as Z us) (world_as Z (world pre post us trees)).trees (T s))))
      (sym (parts_same R x.who.path gs (did v ∷ [])))
      (did_same d p (gs ++ did v ∷ []) ls x pre post us trees s _ _ h (others k b.pre b.post b.ups.1 b.before b.behind)
      (λ q c. rested_same us (record { thread = x; rest = q } ∷ pre) post trees s h (others k (c, b.pre) b.post b.ups.1 b.before b.behind)))
  part_same (branching x ∷ us) up n v pre post trees s h b =
      resumes_same x unit (world pre post us trees) s h (others k b.pre b.post b.ups.1 b.before b.behind)
  part_same (spawning x entry ps qs ∷ us) up n v pre post trees s h b = over k
  part_same (clearing after ts ∷ us) up n v pre post trees s h b = over k

  root_same : (us : List Up) (pre post : List Task) (trees : Trees) (s : State) → Is k s → Others k pre post us trees →
      Same k (root_ends pre post us trees s) (root_ends (tasks_as Z pre) (tasks_as Z post) (ups_as Z us) (world_as Z (world pre post us
      trees)).trees (T s))
  root_same [] pre post trees s h b = turn_same pre post trees s h b
  root_same (spawning x entry ps qs ∷ us) pre post trees s h b =
      resumes_same x (task entry) (world ps qs us trees) s h (others k b.ups.0.0 b.ups.0.1 b.ups.1 b.before b.behind)
  root_same (begins x d p gs l ls ∷ us) pre post trees s h b = over k
  root_same (branching x ∷ us) pre post trees s h b = over k
  root_same (clearing after ts ∷ us) pre post trees s h b = over k

  role_same : (q : Role) (x : Who) (v : Val) (o : World) (s : State) → Is k s → WorldIs k o →
      Same k (role_ends q x v o s) (role_ends q (who_as R x) v (world_as Z o) (T s))
  role_same (root entry) x v o s h b = root_same o.ups o.pre o.post o.trees s h b
  role_same part x v o s h b = part_same o.ups x.up x.number v o.pre o.post o.trees s h b

  ends_role_same : (q : Role) (x : Who) (o : World) (born : ℕ) (v : Val) (s : State) → k.IsPath x.path → Is k s → WorldIs k o →
      Same k (ends_role q x o born v s) (ends_role q (who_as R x) (world_as Z o) (R x.path born) v (T s))
  ends_role_same (root entry) x o born v s e h b = over k
  ends_role_same part x o born v s e h b =
      cancels_same _ _ (closing x v) _ _ o s (since_as R x.path born k.apart (k.rises x.path e)) (λ o s h b. role_same part x v o s h b) h b

  pub ends_same : (x : Who) (o : World) (born : ℕ) (v : Val) (s : State) (hs : List Handler) (bl : List Frame) → k.IsPath x.path → Is k s →
      WorldIs k o →
      Same k (ends x o born v s hs bl) (ends (who_as R x) (world_as Z o) (R x.path born) v (T s) (handlers_as Z x.path hs) (frames_as Z
      x.path bl))
  ends_same x o born v s (a ∷ hs) bl e h b = over k
  ends_same x o born v s [] (f ∷ bl) e h b = over k
  ends_same x o born v s [] [] e h b = ends_role_same x.role x o born v s e h b

  result_same : (entry : Option ℕ) (x : Who) (v : Val) (o : World) (s : State) → Is k s → WorldIs k o →
      Same k (role_ends (root entry) x v o (with_result entry v s)) (role_ends (root entry) (who_as R x) v (world_as Z o) (with_result entry
      v (T s)))
  result_same None x v o s h b = role_same (root None) x v o s h b
  result_same (Some entry) x v o s h b = role_same (root (Some entry)) x v o (with_result (Some entry) v s) (result_is k entry v s h) b

  returns_role_same : (q : Role) (x : Who) (o : World) (born : ℕ) (v : Val) (s : State) → k.IsPath x.path → Is k s → WorldIs k o →
      Same k (returns_role q x o born v s) (returns_role q (who_as R x) (world_as Z o) (R x.path born) v (T s))
  returns_role_same (root entry) x o born v s e h b =
      cancels_same _ _ (finishing x entry v) _ _ o s (since_as R x.path born k.apart (k.rises x.path e))
      (λ o s h b. result_same entry x v o s h b) h b
  returns_role_same part x o born v s e h b = over k

  pub returns_same : (x : Who) (o : World) (born : ℕ) (v : Val) (s : State) (hs : List Handler) (bl : List Frame) →
      k.IsPath x.path → Is k s →
      WorldIs k o →
      Same k (returns x o born v s hs bl) (returns (who_as R x) (world_as Z o) (R x.path born) v (T s) (handlers_as Z x.path hs) (frames_as
      Z x.path bl))
  returns_same x o born v s (g ∷ hs) bl e h b = over k
  returns_same x o born v s [] [] e h b = returns_role_same x.role x o born v s e h b
  returns_same x o born v s [] (f ∷ bl) e h b = cancels_same _ _ (resuming (thread x f bl) v) _ _ o s
      (since_as R x.path born k.apart (k.rises x.path e)) (λ o s h b. resumes_same (thread x f bl) v o s h b) h b

  follows_same : (after : After) → Follows (follows after) (follows (after_as Z after))
  follows_same (resuming x v) o s h b = resumes_same x v o s h b
  follows_same (closing x v) o s h b = role_same x.role x v o s h b
  follows_same (finishing x entry v) o s h b = result_same entry x v o s h b

  pub cleared_same : (us : List Up) (pre post : List Task) (trees : Trees) (s : State) → Is k s → Others k pre post us trees →
      Same k (cleared us pre post trees s) (cleared (ups_as Z us) (tasks_as Z pre) (tasks_as Z post) (world_as Z (world pre post us
      trees)).trees (T s))
  cleared_same [] pre post trees s h b = over k
  cleared_same (clearing after ts ∷ us) pre post trees s h b = clears_same _ _ after ts (world pre post us trees) s (follows_same after) h
      (others k b.pre b.post b.ups.1 b.before b.behind)
  cleared_same (begins x d p gs l ls ∷ us) pre post trees s h b = over k
  cleared_same (branching x ∷ us) pre post trees s h b = over k
  cleared_same (spawning x entry ps qs ∷ us) pre post trees s h b = over k

  -- a wait is woken
  asleep_same : (a : List ℕ) (m : ℕ) (q : Rest) → is_asleep m (rest_as R a q) ≡ is_asleep m q
  asleep_same a m (asleep w) = refl
  asleep_same a m (group d p gs) = refl

  woken_same : (m : ℕ) (v : Val) (pre post : List Task) (trees : Trees) (s : State) → Is k s → Others k pre post [] trees →
      Same k (woken m v pre post trees s) (woken m v (tasks_as Z pre) (tasks_as Z post) (world_as Z (world pre post [] trees)).trees (T s))
  woken_same m v pre [] trees s h b = over k
  woken_same m v pre (y ∷ post) trees s h b = same_if _ _ _ _ _ _ (asleep_same y.thread.who.path m y.rest)
      (λ e. resumes_same y.thread v (world pre post [] trees) s h (others k b.pre b.post.1 tt b.before b.behind))
      (woken_same m v (y ∷ pre) post trees s h (others k (b.post.0, b.pre) b.post.1 tt b.before b.behind))

  pub woken_in_same : (m : ℕ) (v : Val) (before after : Forest) (s : State) → Is k s → TreesAre k before → TreesAre k after →
      Same k (woken_in m v before after s) (woken_in m v (trees_as Z before) (trees_as Z after) (T s))
  woken_in_same m v before [] s h a b = over k
  woken_in_same m v before (ts ∷ after) s h a b = same_if _ _ _ _ _ _ (ap (has m) (waits_same Z ts))
      (λ e. woken_same m v [] ts (record { before = before; behind = after }) s h (others k tt b.0 tt a b.1))
      (subst (λ xs. Same k (woken_in m v (before ++ ts ∷ []) after s) (woken_in m v xs (trees_as Z after) (T s))) (sym (trees_same Z before
      (ts ∷ []))) (woken_in_same m v (before ++ ts ∷ []) after s h (trees_are k before (ts ∷ []) a (b.0, tt)) b.1))

pub waking_renumbered : WakingRenumbered
waking_renumbered z n v s tss rises fixed counts =
    let k = plain z s.clock.left rises fixed in
    (woken_in_same k n v [] tss s (record { few = omega arith; counts = counts; holds = tt }) tt (all_trees k (λ w. tt) tss)).is
