-- What tasks do with one another goes by moves.
use Rattle.std.proofs.Common.{◌≡◌, ℕ, zero, suc, List, [], ◌∷◌, ◌++◌, Option, Some, None, Bool, true, false, cond, refl, sym, subst, ap}
use Rattle.std.proofs.Common.{◌∙◌}
use Rattle.verse_code.specs.declared.codes.Code.{Code}
use Rattle.verse_base.specs.declared.places.Place.{Place}
use Rattle.verse_value.specs.Val.{Val, unit, task}
use Rattle.verse_value.specs.Answer.{Answer, gives, fails, error, stuck}
use Rattle.verse_value.specs.Operations.{tuple_of}
use Rattle.verse_value.specs.declared.runs.Ending.{Ending}
use Rattle.verse_value.specs.declared.runs.Ending.TheVariants as ending
use Rattle.verse_meaning_state.specs.State.{State, spending, stepped, with_result, drawn}
use Rattle.verse_meaning_state.specs.Waits.{Cause, waiting, has, eqn}
use Rattle.verse_meaning_state.specs.Turns.{Kind, sync, race, rush}
use Rattle.verse_code_machine.specs.Tasks.{Handler, Frame, Role, root, part, Who, Part, did, runs, Rest, asleep, group, Thread, thread}
use Rattle.verse_code_machine.specs.Tasks.{Task}
use Rattle.verse_code_machine.specs.Tasks.{After, resuming, closing, finishing, Up, begins, branching, spawning, clearing, Trees, World}
use Rattle.verse_code_machine.specs.Tasks.{world}
use Rattle.verse_code_machine.specs.Tasks.{Step, Over, Turn, onto, among, waits_of, same_path, since, beneath_arms}
use Rattle.verse_code_machine.specs.Cancelling.{world_without, cancelled, on_deferred, clears_frame, clears_frames, clears, cancels}
use Rattle.verse_code_machine.specs.Frames.{behind}
use Rattle.verse_code_machine.specs.Ends.{resumes, all_did, first_did, tupled, or_stands, grouped, next_arm, arm_did, rested, suspends}
use Rattle.verse_code_machine.specs.Ends.{is_run}
use Rattle.verse_code_machine.specs.Ends.{with_did, joined, climbs, part_ends, root_ends, role_ends, follows, cleared, is_asleep, woken}
use Rattle.verse_code_machine.specs.Ends.{woken_in}
use Rattle.verse_code_machine.specs.Runs.{Forest}
use Rattle.run_save_shots.specs.Lists.{Each}
use Rattle.run_save_shots.specs.Fitting.{ValueFits, ValuesFit}
use Rattle.run_save_moves.specs.Fine.{AnswerFits, AllFit, OneFits}
use Rattle.run_save_moves.specs.Moves as m
use Rattle.run_save_moves.specs.Moves.{Point, PartFits, NotYet, IsArmOf, Move, Leads, ends_run, acts_next, turns_next, then_leads}
use Rattle.run_save_moves.proofs.Values.{tuple_fits}

module _ (c : Code) where
  pub spending_leads : (x : Point) (n : ℕ) (s : State) (go : State → Step) → n ≡ s.clock.left → ((l : ℕ) → suc l ≡ s.clock.left → Leads c x
      (go (stepped l s))) → Leads c x (spending n s (Over ending.Steps s) go)
  spending_leads x zero s go e f = ends_run
  spending_leads x (suc l) s go e f = f l e

  -- cancelling
  deferred_leads : (w : Who) (o : World) (s : State) (f : Frame) (fs : List Frame) (rest : Step) (ds : List ℕ) → f.life.defers ≡ ds →
      Leads c (m.going w (f ∷ fs) o s) rest →
      Leads c (m.going w (f ∷ fs) o s) (on_deferred ds rest (λ q ds. clears_frame w o s f fs q ds))
  deferred_leads w o s f fs rest [] e l = l
  deferred_leads w o s f fs rest (d ∷ ds) e l =
      spending_leads _ s.clock.left s _ refl (λ n h. then_leads (m.frame_clears h e) acts_next)

  pub frames_leads : (next : State → Step) (w : Who) (o : World) (s : State) (fs : List Frame) → Leads c (m.going w [] o s) (next s) →
      Leads c (m.going w fs o s) (clears_frames next w o s fs)
  frames_leads next w o s [] l = l
  frames_leads next w o s (f ∷ fs) l = deferred_leads w o s f fs _ f.life.defers refl
      (then_leads m.frame_gone (frames_leads next w o s fs l))

  -- what follows where all is cancelled
  abbrev pub Follows : (World → State → Step) → After → Type 0
  Follows last after = (o : World) (s : State) → Leads c (m.cancels after [] o s) (last o s)

  pub clears_leads : (last : World → State → Step) (after : After) → Follows last after → (ts : List Task) (o : World) (s : State) →
      Leads c (m.cancels after ts o s) (clears last after ts o s)
  clears_leads last after f [] o s = f o s
  clears_leads last after f (t ∷ ts) o s =
      then_leads m.cancels_next (frames_leads (λ s. clears last after ts o s) t.thread.who (world o.pre o.post (clearing after ts ∷ o.ups)
      o.trees) s (t.thread.frame ∷ t.thread.below) (then_leads m.all_gone (clears_leads last after f ts o s)))

  pub resuming_leads : (x : Thread) (v : Val) → Follows (λ o s. resumes x v o s) (resuming x v)
  resuming_leads x v o s = then_leads m.resumes acts_next

  -- groups
  behind_fit : (n : ℕ) (v : Val) (o : Option (List Val)) → ValueFits n v → AllFit n o → AllFit n (behind v o)
  behind_fit n v None a b = tt
  behind_fit n v (Some vs) a b = (a, b)

  all_fit : (n : ℕ) (gs : List Part) → Each (PartFits n) gs → AllFit n (all_did gs)
  all_fit n [] a = tt
  all_fit n (did v ∷ gs) a = behind_fit n v (all_did gs) a.0 (all_fit n gs a.1)
  all_fit n (runs m ∷ gs) a = tt

  first_fits : (n : ℕ) (gs : List Part) → Each (PartFits n) gs → OneFits n (first_did gs)
  first_fits n [] a = tt
  first_fits n (did v ∷ gs) a = a.0
  first_fits n (runs m ∷ gs) a = first_fits n gs a.1

  stands_leads : {A : Type 0} (x : Point) (o : Option A) (q : Step) (go : A → Step) → (o ≡ None → Leads c x q) →
      ((a : A) → o ≡ Some a → Leads c x (go a)) → Leads c x (or_stands o q go)
  stands_leads x None q go l f = l refl
  stands_leads x (Some a) q go l f = f a refl

  tupled_leads : (y : Point) (p : Place) (a : Answer Val) (x : Thread) (o : World) (s : State) →
      ((v : Val) → a ≡ gives v → Leads c y (resumes x v o s)) → Leads c y (tupled p a x o s)
  tupled_leads y p (gives v) x o s f = f v refl
  tupled_leads y p fails x o s f = ends_run
  tupled_leads y p (error k) x o s f = ends_run
  tupled_leads y p stuck x o s f = ends_run

  module _ (k : Kind) (p : Place) (x : Thread) (pre post : List Task) (us : List Up) (trees : Trees) (s : State) (go : Task → Step)
      (f : (r : Rest) → Leads c (m.rests (record { thread = x; rest = r } ∷ pre) post us trees s)
      (go (record { thread = x; rest = r }))) where
    -- all arms have begun
    pub grouped_leads : (j : Kind) → j ≡ k → (gs : List Part) →
        Leads c (m.gathering k p gs [] x pre post us trees s) (grouped j p gs x (world pre post us trees) s go)
    grouped_leads sync e gs = subst (λ k. Leads c (m.gathering k p gs [] x pre post us trees s)
        (grouped sync p gs x (world pre post us trees) s go)) e
        (stands_leads _ (all_did gs) _ _ (λ n. then_leads (m.stands n) (f (group sync p gs)))
        (λ vs n. tupled_leads _ p (tuple_of vs) x (world pre post us trees) s
        (λ v h. then_leads (m.gathered (λ i a. subst (AnswerFits i) h (tuple_fits i vs (subst (AllFit i) n (all_fit i gs a))))) acts_next)))
    grouped_leads race e gs = subst (λ k. Leads c (m.gathering k p gs [] x pre post us trees s)
        (grouped race p gs x (world pre post us trees) s go)) e
        (stands_leads _ (first_did gs) _ _ (λ n. then_leads (m.stands n) (f (group race p gs)))
        (λ v n. then_leads (m.races (λ i a. subst (OneFits i) n (first_fits i gs a)))
        (clears_leads _ (resuming x v) (resuming_leads x v) _ _ s)))
    grouped_leads rush e gs = subst (λ k. Leads c (m.gathering k p gs [] x pre post us trees s)
        (grouped rush p gs x (world pre post us trees) s go)) e
        (stands_leads _ (first_did gs) _ _ (λ n. then_leads (m.stands n) (f (group rush p gs)))
        (λ v n. then_leads (m.gathered (λ i a. subst (OneFits i) n (first_fits i gs a))) acts_next))

    pub next_leads : (gs : List Part) (ls : List ℕ) →
        Leads c (m.gathering k p gs ls x pre post us trees s) (next_arm k p gs ls x pre post us trees s go)
    next_leads gs [] = grouped_leads k refl gs
    next_leads gs (l ∷ ls) = spending_leads _ s.clock.left s _ refl (λ n e. then_leads (m.arm_begins e) acts_next)

  -- an arm has given a value
  some_did : (gs : List Part) (v : Val) → first_did (gs ++ did v ∷ []) ≡ None → ⊥
  some_did [] v e = cc
  some_did (did w ∷ gs) v e = cc
  some_did (runs n ∷ gs) v e = some_did gs v e

  did_leads : (k : Kind) (p : Place) (gs : List Part) (v : Val) (ls : List ℕ) (x : Thread) (pre post : List Task) (us : List Up)
      (trees : Trees)
      (s : State) (go : Task → Step) → ((r : Rest) → Leads c (m.rests (record { thread = x; rest = r } ∷ pre) post us trees s) (go (record {
        thread =
            x;
        rest = r;
      }))) → Leads c (m.gathering k p (gs ++ did v ∷ []) ls x pre post us trees s)
      (arm_did k p (gs ++ did v ∷ []) ls x pre post us trees s go)
  did_leads sync p gs v ls x pre post us trees s go f = next_leads sync p x pre post us trees s go f (gs ++ did v ∷ []) ls
  did_leads race p gs v ls x pre post us trees s go f = stands_leads _ (first_did (gs ++ did v ∷ [])) _ _ (λ n. absurd (some_did gs v n))
      (λ w n. then_leads (m.races (λ i a. subst (OneFits i) n (first_fits i (gs ++ did v ∷ []) a)))
      (clears_leads _ (resuming x w) (resuming_leads x w) _ _ s))
  did_leads rush p gs v ls x pre post us trees s go f = next_leads rush p x pre post us trees s go f (gs ++ did v ∷ []) ls

  -- no task runs
  pub rested_leads : (us : List Up) (pre post : List Task) (trees : Trees) (s : State) →
      Leads c (m.rests pre post us trees s) (rested pre post us trees s)
  rested_leads [] pre post trees s = then_leads m.rests_alone turns_next
  rested_leads (begins x k p gs n ls ∷ us) pre post trees s =
      then_leads m.rests_arm (next_leads k p x pre post us trees s (λ y. rested (y ∷ pre) post us trees s) (λ r. rested_leads us (record {
        thread = x;
        rest = r;
      } ∷ pre) post trees s) (gs ++ runs n ∷ []) ls)
  rested_leads (branching x ∷ us) pre post trees s = then_leads m.rests_behind acts_next
  rested_leads (spawning x entry ps qs ∷ us) pre post trees s = then_leads m.rests_spawned acts_next
  rested_leads (clearing after ts ∷ us) pre post trees s = ends_run

  -- the end of a task
  cond_leads : {x : Point} (b : Bool) (q r : Step) → (b ≡ true → Leads c x q) → (b ≡ false → Leads c x r) → Leads c x (cond b q r)
  cond_leads true q r f g = f refl
  cond_leads false q r f g = g refl

  joined_leads : (up : List ℕ) (n : ℕ) (v : Val) (r : Rest) (y : Task) (pre post : List Task) (trees : Trees) (s : State) → y.rest ≡ r →
      same_path up y.thread.who.path ≡ true → Leads c (m.climbs up n v pre (y ∷ post) trees s) (joined n v r y pre post trees s)
  joined_leads up n v (asleep w) y pre post trees s e h =
      then_leads (m.joins_no_group h (subst (λ r. IsArmOf n r false) (sym e) refl)) turns_next
  joined_leads up n v (group k p gs) y pre post trees s e h = cond_leads (is_run n gs) _ _
      (λ i. then_leads (m.joins h e i) (grouped_leads k p y.thread pre post [] trees s (λ y. rested (y ∷ pre) post [] trees s)
      (λ r. rested_leads [] (record { thread = y.thread; rest = r } ∷ pre) post trees s) k refl (with_did n v gs)))
      (λ i. then_leads (m.joins_no_group h (subst (λ r. IsArmOf n r false) (sym e) i)) turns_next)

  climbs_leads : (up : List ℕ) (n : ℕ) (v : Val) (pre post : List Task) (trees : Trees) (s : State) →
      Leads c (m.climbs up n v pre post trees s) (climbs up n v pre post trees s)
  climbs_leads up n v pre [] trees s = ends_run
  climbs_leads up n v pre (y ∷ post) trees s = cond_leads (same_path up y.thread.who.path) _ _
      (λ h. joined_leads up n v y.rest y pre post trees s refl h)
      (λ h. then_leads (m.climbs_on h) (climbs_leads up n v (y ∷ pre) post trees s))

  part_leads : (us : List Up) (w : Who) (v : Val) (pre post : List Task) (trees : Trees) (s : State) →
      Leads c (m.ended part w v (world pre post us trees) s) (part_ends w.up w.number v pre post us trees s)
  part_leads [] w v pre post trees s = then_leads m.ended_alone (climbs_leads w.up w.number v pre post trees s)
  part_leads (begins x k p gs n ls ∷ us) w v pre post trees s =
      then_leads m.ended_arm (did_leads k p gs v ls x pre post us trees s (λ y. rested (y ∷ pre) post us trees s)
      (λ r. rested_leads us (record {
        thread = x;
        rest = r;
      } ∷ pre) post trees s))
  part_leads (branching x ∷ us) w v pre post trees s = then_leads m.ended_behind acts_next
  part_leads (spawning x entry ps qs ∷ us) w v pre post trees s = ends_run
  part_leads (clearing after ts ∷ us) w v pre post trees s = ends_run

  root_leads : (us : List Up) (entry : Option ℕ) (w : Who) (v : Val) (pre post : List Task) (trees : Trees) (s : State) →
      Leads c (m.ended (root entry) w v (world pre post us trees) s) (root_ends pre post us trees s)
  root_leads [] entry w v pre post trees s = then_leads m.ended_root turns_next
  root_leads (spawning x e ps qs ∷ us) entry w v pre post trees s = then_leads m.ended_spawned acts_next
  root_leads (begins x k p gs n ls ∷ us) entry w v pre post trees s = ends_run
  root_leads (branching x ∷ us) entry w v pre post trees s = ends_run
  root_leads (clearing after ts ∷ us) entry w v pre post trees s = ends_run

  role_leads : (r : Role) (w : Who) (v : Val) (o : World) (s : State) → Leads c (m.ended r w v o s) (role_ends r w v o s)
  role_leads (root entry) w v o s = root_leads o.ups entry w v o.pre o.post o.trees s
  role_leads part w v o s = part_leads o.ups w v o.pre o.post o.trees s

  pub follows_leads : (after : After) → Follows (follows after) after
  follows_leads (resuming x v) o s = resuming_leads x v o s
  follows_leads (closing w v) o s = then_leads m.closes (role_leads w.role w v o s)
  follows_leads (finishing w entry v) o s = then_leads m.gives_result (role_leads (root entry) w v o (with_result entry v s))

  pub closing_leads : (w : Who) (v : Val) → w.role ≡ part → Follows (λ o s. role_ends part w v o s) (closing w v)
  closing_leads w v e o s = then_leads m.closes
      (subst (λ r. Leads c (m.ended r w v o s) (role_ends part w v o s)) (sym e) (role_leads part w v o s))

  pub cleared_leads : (us : List Up) (w : Who) (pre post : List Task) (trees : Trees) (s : State) →
      Leads c (m.going w [] (world pre post us trees) s) (cleared us pre post trees s)
  cleared_leads [] w pre post trees s = ends_run
  cleared_leads (clearing after ts ∷ us) w pre post trees s =
      then_leads m.all_gone (clears_leads (follows after) after (follows_leads after) ts (world pre post us trees) s)
  cleared_leads (begins x k p gs n ls ∷ us) w pre post trees s = ends_run
  cleared_leads (branching x ∷ us) w pre post trees s = ends_run
  cleared_leads (spawning x entry ps qs ∷ us) w pre post trees s = ends_run

  -- a wait is woken
  asleep_is : (n : ℕ) (r : Rest) (x : Point) (q : Step) → is_asleep n r ≡ true →
      ((w : _) → r ≡ asleep w → eqn n w.number ≡ true → Leads c x q) → Leads c x q
  asleep_is n (asleep w) x q e f = f w refl e
  asleep_is n (group k p gs) x q e f = cc

  woken_leads : (n : ℕ) (v : Val) (before behind : Forest) (tss : Forest) (s : State) (pre post : List Task) →
      tss ≡ before ++ onto pre post ∷ behind →
      Leads c (m.wakes n v tss s) (woken n v pre post (record { before = before; behind = behind }) s)
  woken_leads n v before behind tss s pre [] e = ends_run
  woken_leads n v before behind tss s pre (y ∷ post) e = cond_leads (is_asleep n y.rest) _ _
      (λ h. asleep_is n y.rest _ _ h (λ w i j. then_leads
      (m.woken {before = before} {behind = behind} {pre = pre} {post = post} {y = y} e i j) acts_next))
      (λ h. woken_leads n v before behind tss s (y ∷ pre) post e)

  assoc : (xs : Forest) (ts : List Task) (ys : Forest) → xs ++ ts ∷ ys ≡ (xs ++ ts ∷ []) ++ ys
  assoc [] ts ys = refl
  assoc (x ∷ xs) ts ys = ap (λ zs. x ∷ zs) (assoc xs ts ys)

  woken_in_leads : (n : ℕ) (v : Val) (tss before behind : Forest) (s : State) → tss ≡ before ++ behind →
      Leads c (m.wakes n v tss s) (woken_in n v before behind s)
  woken_in_leads n v tss before [] s e = ends_run
  woken_in_leads n v tss before (ts ∷ behind) s e = cond_leads (has n (waits_of ts)) _ _
      (λ h. woken_leads n v before behind tss s [] ts e)
      (λ h. woken_in_leads n v tss (before ++ ts ∷ []) behind s (e ∙ assoc before ts behind))

  pub wakes_lead : (n : ℕ) (v : Val) (s : State) (tss : Forest) → Leads c (m.wakes n v tss s) (woken_in n v [] tss s)
  wakes_lead n v s tss = woken_in_leads n v tss [] tss s refl
