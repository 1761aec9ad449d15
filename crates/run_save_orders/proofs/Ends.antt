-- What tasks do with one another is the same beside other trees.
use Rattle.std.proofs.Common.{ℕ, zero, suc, List, [], ◌∷◌, ◌++◌, Option, Some, None, Bool, true, false, cond}
use Rattle.verse_base.specs.declared.places.Place.{Place}
use Rattle.verse_value.specs.Val.{Val}
use Rattle.verse_value.specs.Answer.{Answer, gives, fails, error, stuck}
use Rattle.verse_value.specs.Operations.{tuple_of}
use Rattle.verse_value.specs.declared.runs.Ending.{Ending}
use Rattle.verse_value.specs.declared.runs.Ending.TheVariants as ending
use Rattle.verse_meaning_state.specs.State.{State, spending, stepped, with_result, drawn}
use Rattle.verse_meaning_state.specs.Waits.{Cause, waiting}
use Rattle.verse_meaning_state.specs.Turns.{Kind, sync, race, rush}
use Rattle.verse_code_machine.specs.Tasks.{Handler, Frame, Role, root, part, Who, Part, did, runs, Rest, asleep, group, Thread, thread}
use Rattle.verse_code_machine.specs.Tasks.{Task, After}
use Rattle.verse_code_machine.specs.Tasks.{resuming, closing, finishing, Up, begins, branching, spawning, clearing, Trees, World, world}
use Rattle.verse_code_machine.specs.Tasks.{Machine, Step}
use Rattle.verse_code_machine.specs.Tasks.{Next, Over, Turn, onto, among, planted, same_path, since, beneath_arms}
use Rattle.verse_code_machine.specs.Cancelling.{without, cancelled, on_deferred, clears_frame, clears_frames, clears, cancels}
use Rattle.verse_code_machine.specs.Ends.{resumes, all_did, first_did, tupled, or_stands, grouped, next_arm, arm_did, rested, suspends}
use Rattle.verse_code_machine.specs.Ends.{is_run}
use Rattle.verse_code_machine.specs.Ends.{with_did, joined, climbs, part_ends, root_ends, role_ends, ends_role, ends, returns_role, returns}
use Rattle.verse_code_machine.specs.Ends.{follows}
use Rattle.verse_code_machine.specs.Ends.{cleared, is_asleep, woken}

abbrev pub at : Who → World → State → Frame → List Frame → Machine
at w o s f fs = record { who = w; world = o; state = s; frame = f; below = fs }

-- two steps that differ in the trees beside the one in which a task runs
pub data Alike (R : Trees → Trees → Type 0) : Step → Step → Type 0 where
  nexts : {w : Who} {pre post : List Task} {us : List Up} {t u : Trees} {s : State} {f : Frame} {fs : List Frame} → R t u →
      Alike R (Next (at w (world pre post us t) s f fs)) (Next (at w (world pre post us u) s f fs))
  overs : {e : Ending} {s : State} → Alike R (Over e s) (Over e s)
  turns : {s : State} {t u : Trees} (ts : List Task) → R t u → Alike R (Turn s (among ts t)) (Turn s (among ts u))

module _ (R : Trees → Trees → Type 0) (plants : (t u : Trees) (ts : List Task) → R t u → R (planted t ts) (planted u ts)) (t u : Trees)
    (r : R t u) where
  abbrev pub Both : (Trees → Step) → Type 0
  Both q = Alike R (q t) (q u)

  pub cond_both : (b : Bool) (p q : Trees → Step) → Both p → Both q → Both (λ t. cond b (p t) (q t))
  cond_both true p q a b = a
  cond_both false p q a b = b

  pub spending_are : (k : ℕ) (s : State) (go on : State → Step) → ((l : ℕ) → Alike R (go (stepped l s)) (on (stepped l s))) →
      Alike R (spending k s (Over ending.Steps s) go) (spending k s (Over ending.Steps s) on)
  spending_are zero s go on f = overs
  spending_are (suc l) s go on f = f l

  pub resumes_both : (x : Thread) (v : Val) (pre post : List Task) (us : List Up) (s : State) →
      Both (λ t. resumes x v (world pre post us t) s)
  resumes_both x v pre post us s = nexts r

  -- cancelling
  deferred_both : (rest : Trees → Step) (w : Who) (pre post : List Task) (us : List Up) (s : State) (f : Frame) (fs : List Frame)
      (ds : List ℕ) → Both rest → Both (λ t. on_deferred ds (rest t) (λ q ds. clears_frame w (world pre post us t) s f fs q ds))
  deferred_both rest w pre post us s f fs [] a = a
  deferred_both rest w pre post us s f fs (d ∷ ds) a = spending_are s.clock.left s _ _ (λ l. nexts r)

  pub frames_both : (next : Trees → State → Step) (w : Who) (pre post : List Task) (us : List Up) (s : State) (fs : List Frame) →
      Both (λ t. next t s) → Both (λ t. clears_frames (next t) w (world pre post us t) s fs)
  frames_both next w pre post us s [] a = a
  frames_both next w pre post us s (f ∷ fs) a =
      deferred_both (λ t. clears_frames (next t) w (world pre post us t) s fs) w pre post us s f fs f.life.defers
      (frames_both next w pre post us s fs a)

  abbrev pub Follows : (World → State → Step) → Type 0
  Follows last = (pre post : List Task) (us : List Up) (s : State) → Both (λ t. last (world pre post us t) s)

  pub clears_both : (last : World → State → Step) (after : After) (ts : List Task) (pre post : List Task) (us : List Up) (s : State) →
      Follows last → Both (λ t. clears last after ts (world pre post us t) s)
  clears_both last after [] pre post us s f = f pre post us s
  clears_both last after (y ∷ ts) pre post us s f =
      frames_both (λ t s. clears last after ts (world pre post us t) s) y.thread.who pre post (clearing after ts ∷
      us) s (y.thread.frame ∷ y.thread.below) (clears_both last after ts pre post us s f)

  pub cancels_both : (last : World → State → Step) (after : After) (f : List ℕ → Bool) (pre post : List Task) (us : List Up) (s : State) →
      Follows last → Both (λ t. cancels last after f (world pre post us t) s)
  cancels_both last after f pre post us s g =
      clears_both last after (cancelled f (world pre post us t)) (without f pre) (without f post) us s g

  -- groups
  stands_both : {A : Type 0} (m : Option A) (q : Trees → Step) (go : Trees → A → Step) → Both q → ((x : A) → Both (λ t. go t x)) →
      Both (λ t. or_stands m (q t) (go t))
  stands_both None q go a f = a
  stands_both (Some x) q go a f = f x

  tupled_both : (p : Place) (a : Answer Val) (x : Thread) (pre post : List Task) (us : List Up) (s : State) →
      Both (λ t. tupled p a x (world pre post us t) s)
  tupled_both p (gives v) x pre post us s = nexts r
  tupled_both p fails x pre post us s = overs
  tupled_both p (error k) x pre post us s = overs
  tupled_both p stuck x pre post us s = overs

  pub grouped_both : (k : Kind) (p : Place) (gs : List Part) (x : Thread) (pre post : List Task) (us : List Up) (s : State)
      (stands : Trees → Task → Step) → ((q : Rest) → Both (λ t. stands t (record { thread = x; rest = q }))) →
      Both (λ t. grouped k p gs x (world pre post us t) s (stands t))
  grouped_both sync p gs x pre post us s stands f = stands_both (all_did gs) (λ t. stands t (record { thread = x; rest = group sync p gs }))
      (λ t vs. tupled p (tuple_of vs) x (world pre post us t) s) (f (group sync p gs)) (λ vs. tupled_both p (tuple_of vs) x pre post us s)
  grouped_both race p gs x pre post us s stands f =
      stands_both (first_did gs) (λ t. stands t (record { thread = x; rest = group race p gs }))
      (λ t v. cancels (λ o s. resumes x v o s) (resuming x v) (beneath_arms x.who.path gs) (world pre post us t) s) (f (group race p gs))
      (λ v. cancels_both (λ o s. resumes x v o s) (resuming x v) (beneath_arms x.who.path gs) pre post us s (λ pre post us s. nexts r))
  grouped_both rush p gs x pre post us s stands f =
      stands_both (first_did gs) (λ t. stands t (record { thread = x; rest = group rush p gs }))
      (λ t v. resumes x v (world pre post us t) s) (f (group rush p gs)) (λ v. nexts r)

  pub next_both : (k : Kind) (p : Place) (gs : List Part) (ls : List ℕ) (x : Thread) (pre post : List Task) (us : List Up) (s : State)
      (stands : Trees → Task → Step) → ((q : Rest) → Both (λ t. stands t (record { thread = x; rest = q }))) →
      Both (λ t. next_arm k p gs ls x pre post us t s (stands t))
  next_both k p gs [] x pre post us s stands f = grouped_both k p gs x pre post us s stands f
  next_both k p gs (l ∷ ls) x pre post us s stands f = spending_are s.clock.left s _ _ (λ l. nexts r)

  did_both : (k : Kind) (p : Place) (gs : List Part) (ls : List ℕ) (x : Thread) (pre post : List Task) (us : List Up) (s : State)
      (stands : Trees → Task → Step) → ((q : Rest) → Both (λ t. stands t (record { thread = x; rest = q }))) →
      Both (λ t. arm_did k p gs ls x pre post us t s (stands t))
  did_both sync p gs ls x pre post us s stands f = next_both sync p gs ls x pre post us s stands f
  did_both race p gs ls x pre post us s stands f = grouped_both race p gs x pre post us s stands f
  did_both rush p gs ls x pre post us s stands f = next_both rush p gs ls x pre post us s stands f

  -- no task runs
  pub rested_both : (us : List Up) (pre post : List Task) (s : State) → Both (λ t. rested pre post us t s)
  rested_both [] pre post s = turns _ r
  rested_both (begins x k p gs n ls ∷ us) pre post s =
      next_both k p (gs ++ runs n ∷ []) ls x pre post us s (λ t y. rested (y ∷ pre) post us t s)
      (λ q. rested_both us (record { thread = x; rest = q } ∷ pre) post s)
  rested_both (branching x ∷ us) pre post s = nexts r
  rested_both (spawning x entry ps qs ∷ us) pre post s = nexts (plants t u (onto pre post) r)
  rested_both (clearing after ts ∷ us) pre post s = overs

  pub suspends_both : (c : Cause) (x : Thread) (pre post : List Task) (us : List Up) (s : State) →
      Both (λ t. suspends c x (world pre post us t) s)
  suspends_both c x pre post us s = rested_both us (record { thread = x; rest = asleep (waiting c s) } ∷ pre) post (drawn s)

  -- the end of a task
  joined_both : (n : ℕ) (v : Val) (q : Rest) (y : Task) (pre post : List Task) (s : State) → Both (λ t. joined n v q y pre post t s)
  joined_both n v (asleep w) y pre post s = turns _ r
  joined_both n v (group k p gs) y pre post s =
      cond_both (is_run n gs) (λ t. grouped k p (with_did n v gs) y.thread (world pre post [] t) s (λ y. rested (y ∷ pre) post [] t s))
      (λ t. Turn s (among (onto pre (y ∷ post)) t))
      (grouped_both k p (with_did n v gs) y.thread pre post [] s (λ t y. rested (y ∷ pre) post [] t s)
      (λ q. rested_both [] (record { thread = y.thread; rest = q } ∷ pre) post s)) (turns _ r)

  climbs_both : (up : List ℕ) (n : ℕ) (v : Val) (pre post : List Task) (s : State) → Both (λ t. climbs up n v pre post t s)
  climbs_both up n v pre [] s = overs
  climbs_both up n v pre (y ∷ post) s = cond_both (same_path up y.thread.who.path) (λ t. joined n v y.rest y pre post t s)
      (λ t. climbs up n v (y ∷ pre) post t
      s) (joined_both n v y.rest y pre post s) (climbs_both up n v (y ∷ pre) post s)

  part_both : (us : List Up) (up : List ℕ) (n : ℕ) (v : Val) (pre post : List Task) (s : State) →
      Both (λ t. part_ends up n v pre post us t s)
  part_both [] up n v pre post s = climbs_both up n v pre post s
  part_both (begins x k p gs m ls ∷ us) up n v pre post s =
      did_both k p (gs ++ did v ∷ []) ls x pre post us s (λ t y. rested (y ∷ pre) post us t s)
      (λ q. rested_both us (record { thread = x; rest = q } ∷ pre) post s)
  part_both (branching x ∷ us) up n v pre post s = nexts r
  part_both (spawning x entry ps qs ∷ us) up n v pre post s = overs
  part_both (clearing after ts ∷ us) up n v pre post s = overs

  root_both : (us : List Up) (pre post : List Task) (s : State) → Both (λ t. root_ends pre post us t s)
  root_both [] pre post s = turns _ r
  root_both (spawning x entry ps qs ∷ us) pre post s = nexts r
  root_both (begins x k p gs n ls ∷ us) pre post s = overs
  root_both (branching x ∷ us) pre post s = overs
  root_both (clearing after ts ∷ us) pre post s = overs

  role_both : (k : Role) (w : Who) (v : Val) → Follows (λ o s. role_ends k w v o s)
  role_both (root entry) w v pre post us s = root_both us pre post s
  role_both part w v pre post us s = part_both us w.up w.number v pre post s

  pub ends_role_both : (k : Role) (w : Who) (born : ℕ) (v : Val) → Follows (λ o s. ends_role k w o born v s)
  ends_role_both (root entry) w born v pre post us s = overs
  ends_role_both part w born v pre post us s =
      cancels_both (λ o s. role_ends part w v o s) (closing w v) (since w.path born) pre post us s (role_both part w v)

  pub ends_both : (w : Who) (born : ℕ) (v : Val) (hs : List Handler) (bl : List Frame) → Follows (λ o s. ends w o born v s hs bl)
  ends_both w born v (h ∷ hs) bl pre post us s = overs
  ends_both w born v [] (f ∷ bl) pre post us s = overs
  ends_both w born v [] [] pre post us s = ends_role_both w.role w born v pre post us s

  finishing_both : (w : Who) (entry : Option ℕ) (v : Val) → Follows (λ o s. role_ends (root entry) w v o (with_result entry v s))
  finishing_both w entry v pre post us s = root_both us pre post (with_result entry v s)

  returns_role_both : (k : Role) (w : Who) (born : ℕ) (v : Val) → Follows (λ o s. returns_role k w o born v s)
  returns_role_both (root entry) w born v pre post us s =
      cancels_both (λ o s. role_ends (root entry) w v o (with_result entry v s)) (finishing w entry v) (since w.path born) pre post us s
      (finishing_both w entry v)
  returns_role_both part w born v pre post us s = overs

  pub returns_both : (w : Who) (born : ℕ) (v : Val) (hs : List Handler) (bl : List Frame) → Follows (λ o s. returns w o born v s hs bl)
  returns_both w born v (h ∷ hs) bl pre post us s = overs
  returns_both w born v [] [] pre post us s = returns_role_both w.role w born v pre post us s
  returns_both w born v [] (f ∷ bl) pre post us s =
      cancels_both (λ o s. resumes (thread w f bl) v o s) (resuming (thread w f bl) v) (since w.path born) pre post
      us s (λ pre post us s. nexts r)

  follows_both : (after : After) → Follows (follows after)
  follows_both (resuming x v) pre post us s = nexts r
  follows_both (closing w v) pre post us s = role_both w.role w v pre post us s
  follows_both (finishing w entry v) pre post us s = finishing_both w entry v pre post us s

  pub cleared_both : (us : List Up) (pre post : List Task) (s : State) → Both (λ t. cleared us pre post t s)
  cleared_both [] pre post s = overs
  cleared_both (clearing after ts ∷ us) pre post s = clears_both (follows after) after ts pre post us s (follows_both after)
  cleared_both (begins x k p gs n ls ∷ us) pre post s = overs
  cleared_both (branching x ∷ us) pre post s = overs
  cleared_both (spawning x entry ps qs ∷ us) pre post s = overs

  -- a wait is woken
  pub woken_both : (n : ℕ) (v : Val) (pre post : List Task) (s : State) → Both (λ t. woken n v pre post t s)
  woken_both n v pre [] s = overs
  woken_both n v pre (y ∷ post) s = cond_both (is_asleep n y.rest) (λ t. resumes y.thread v (world pre post [] t) s)
      (λ t. woken n v (y ∷ pre) post t s) (nexts r) (woken_both n v (y ∷ pre) post s)
