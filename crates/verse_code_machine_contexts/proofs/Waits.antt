-- What tasks do with one another leaves no group that has its value.
use Rattle.std.proofs.Common.{◌≡◌, ℕ, zero, suc, List, [], ◌∷◌, ◌++◌, Option, Some, None, Bool, true, false, cond, refl}
use Rattle.verse_base.specs.declared.places.Place.{Place}
use Rattle.verse_value.specs.Val.{Val}
use Rattle.verse_value.specs.Answer.{Answer, gives, fails, error, stuck}
use Rattle.verse_value.specs.Operations.{tuple_of}
use Rattle.verse_value.specs.declared.runs.Ending.TheVariants as ending
use Rattle.verse_meaning_state.specs.State.{State, spending, stepped, drawn}
use Rattle.verse_meaning_state.specs.Waits.{Cause, waiting, has}
use Rattle.verse_meaning_state.specs.Turns.{Kind, sync, race, rush}
use Rattle.verse_code_machine.specs.Tasks.{Handler, Frame, Role, root, part, Who, Part, did, runs, Rest}
use Rattle.verse_code_machine.specs.Tasks.{asleep, group, Thread}
use Rattle.verse_code_machine.specs.Tasks.{Task, After, resuming, closing, finishing, Up, begins, branching, spawning}
use Rattle.verse_code_machine.specs.Tasks.{clearing, Trees}
use Rattle.verse_code_machine.specs.Tasks.{World, world, Machine, Step, Next, Over, Turn, onto, among}
use Rattle.verse_code_machine.specs.Tasks.{waits_of, same_path, since}
use Rattle.verse_code_machine.specs.Tasks.{beneath_arms, thread}
use Rattle.verse_code_machine.specs.Cancelling.{world_without, cancelled, on_deferred}
use Rattle.verse_code_machine.specs.Cancelling.{clears_frames, clears, cancels}
use Rattle.verse_code_machine.specs.Ends.{all_did, first_did, tupled, or_stands, grouped, next_arm, arm_did}
use Rattle.verse_code_machine.specs.Ends.{rested, suspends}
use Rattle.verse_code_machine.specs.Ends.{is_run, with_did, joined, climbs, part_ends, root_ends, role_ends, ends_role}
use Rattle.verse_code_machine.specs.Ends.{ends, returns_role}
use Rattle.verse_code_machine.specs.Ends.{returns, follows, cleared, is_asleep, woken, woken_in}
use Rattle.verse_code_machine.specs.Runs.{Forest}
use Rattle.verse_code_machine_parents.proofs.Leaving.{each_onto}
use Rattle.verse_code_machine_contexts.specs.Waits.{Waits, TasksWait, ForestWaits, StillBegins, UpsWait, WorldWaits}
use Rattle.verse_code_machine_contexts.proofs.Cancels.{each_without}

abbrev pub StepWaits : Step → Type 0
StepWaits (Next m) = WorldWaits m.world
StepWaits (Over e s) = Unit {0}
StepWaits (Turn s tss) = ForestWaits tss

-- a step of which that holds
pub record Low (q : Step) : Type 0 where
  pub holds : StepWaits q

pub over : {e : _} {s : State} → Low (Over e s)
over = record { holds = tt }

pub next : {m : Machine} → WorldWaits m.world → Low (Next m)
next o = record { holds = o }

abbrev pub Others : List Task → List Task → List Up → Trees → Type 0
Others pre post us trees = WorldWaits (world pre post us trees)

-- the same with other tasks that wait
pub with_ups : {pre post : List Task} {us vs : List Up} {trees : Trees} → UpsWait vs → Others pre post us trees → Others
    pre post vs trees
with_ups u o = record { pre = o.pre; post = o.post; ups = u; before = o.before; behind = o.behind }

pub with_tasks : {pre post ps qs : List Task} {us : List Up} {trees : Trees} → TasksWait ps → TasksWait qs → Others pre
    post us trees → Others ps qs us trees
with_tasks a b o = record { pre = a; post = b; ups = o.ups; before = o.before; behind = o.behind }

forests : (xs ys : Forest) → ForestWaits xs → ForestWaits ys → ForestWaits (xs ++ ys)
forests [] ys a b = b
forests (x ∷ xs) ys a b = (a.0, forests xs ys a.1 b)

-- the tasks of the tree, among the other trees
stand_among : {pre post : List Task} {us : List Up} {trees : Trees} (ts : List Task) → TasksWait ts → Others pre post us
    trees → ForestWaits (among ts trees)
stand_among {trees = trees} ts a o = forests trees.before (ts ∷ trees.behind) o.before (a, o.behind)

onto_wait : (pre post : List Task) → TasksWait pre → TasksWait post → TasksWait (onto pre post)
onto_wait = each_onto (λ t. Waits t.rest)

pub without_wait : (f : List ℕ → Bool) (o : World) → WorldWaits o → WorldWaits (world_without f o)
without_wait f o w = record {
  pre = each_without (λ t. Waits t.rest) f o.pre w.pre;
  post = each_without (λ t. Waits t.rest) f o.post w.post;
  ups = w.ups;
  before = w.before;
  behind = w.behind;
}

pub spending_low : (left : ℕ) (s : State) (go : State → Step) → ((u : State) → Low (go u)) → Low (spending left s (Over
    ending.Steps s) go)
spending_low zero s go f = over
spending_low (suc l) s go f = f (stepped l s)

-- ---- cancelling

deferred_low : (ds : List ℕ) (q : Step) (go : ℕ → List ℕ → Step) → Low q → ((d : ℕ) (ds : List ℕ) → Low (go d ds)) →
    Low (on_deferred ds q go)
deferred_low [] q go a f = a
deferred_low (d ∷ ds) q go a f = f d ds

pub frames_low : (after : State → Step) (w : Who) (o : World) (s : State) (fs : List Frame) → WorldWaits o → ((s :
    State) → Low (after s)) → Low (clears_frames after w o s fs)
frames_low after w o s [] a f = f s
frames_low after w o s (x ∷ fs) a f =
    deferred_low x.life.defers _ _ (frames_low after w o s fs a f) (λ d ds. spending_low s.clock.left s _ (λ u. next a))

clears_low : (last : World → State → Step) (after : After) (ts : List Task) (o : World) (s : State) → WorldWaits o →
    ((s : State) → Low (last o s)) → Low (clears last after ts o s)
clears_low last after [] o s a f = f s
clears_low last after (t ∷ ts) o s a f =
    frames_low _ t.thread.who (world o.pre o.post (clearing after ts ∷ o.ups) o.trees) s (t.thread.frame ∷
    t.thread.below) (record { pre = a.pre; post = a.post; ups = a.ups; before = a.before; behind = a.behind }) (λ s.
    clears_low last after ts o s a f)

cancels_low : (last : World → State → Step) (after : After) (f : List ℕ → Bool) (o : World) (s : State) → WorldWaits o →
    ((o : World) (s : State) → WorldWaits o → Low (last o s)) → Low (cancels last after f o s)
cancels_low last after f o s a go =
    clears_low last after (cancelled f o) (world_without f o) s (without_wait f o a) (λ s. go (world_without f o) s
    (without_wait f o a))

-- ---- groups

stands_low : {A : Type 0} (x : Option A) (q : Step) (go : A → Step) → (x ≡ None → Low q) → ((a : A) → Low (go a)) → Low
    (or_stands x q go)
stands_low None q go f g = f refl
stands_low (Some a) q go f g = g a

tupled_low : (p : Place) (a : Answer Val) (x : Thread) (o : World) (s : State) → WorldWaits o → Low (tupled p a x o s)
tupled_low p (gives v) x o s a = next a
tupled_low p fails x o s a = over
tupled_low p (error k) x o s a = over
tupled_low p stuck x o s a = over

grouped_low : (k : Kind) (p : Place) (gs : List Part) (x : Thread) (o : World) (s : State) (stands : Task → Step) →
    WorldWaits o → ((t : Task) → Waits t.rest → Low (stands t)) → Low (grouped k p gs x o s stands)
grouped_low sync p gs x o s stands a f =
    stands_low (all_did gs) _ _ (λ e. f (record { thread = x; rest = group sync p gs }) e) (λ vs. tupled_low p
    (tuple_of vs) x o s a)
grouped_low race p gs x o s stands a f =
    stands_low (first_did gs) _ _ (λ e. f (record { thread = x; rest = group race p gs }) e) (λ v. cancels_low _
    (resuming x v)
    (beneath_arms x.who.path gs) o s a (λ o s b. next b))
grouped_low rush p gs x o s stands a f =
    stands_low (first_did gs) _ _ (λ e. f (record { thread = x; rest = group rush p gs }) e) (λ v. next a)

pub next_low : (k : Kind) (p : Place) (gs : List Part) (ls : List ℕ) (x : Thread) (pre post : List Task) (us : List Up)
    (trees : Trees) (s : State) (stands : Task → Step) → StillBegins k gs → Others pre post us trees → ((t : Task) →
    Waits
    t.rest → Low (stands t)) → Low (next_arm k p gs ls x pre post us trees s stands)
next_low k p gs [] x pre post us trees s stands b o f = grouped_low k p gs x (world pre post us trees) s stands o f
next_low k p gs (l ∷ ls) x pre post us trees s stands b o f = spending_low s.clock.left s _ (λ u. next (with_ups (
  b,
  o.ups,
) o))

did_low : (k : Kind) (p : Place) (gs : List Part) (ls : List ℕ) (x : Thread) (pre post : List Task) (us : List Up)
    (trees : Trees) (s : State) (stands : Task → Step) → Others pre post us trees → ((t : Task) → Waits t.rest → Low
    (stands t)) → Low (arm_did k p gs ls x pre post us trees s stands)
did_low sync p gs ls x pre post us trees s stands o f = next_low sync p gs ls x pre post us trees s stands tt o f
did_low race p gs ls x pre post us trees s stands o f = grouped_low race p gs x (world pre post us trees) s
    stands o f
did_low rush p gs ls x pre post us trees s stands o f = next_low rush p gs ls x pre post us trees s stands tt o f

none_more : (gs : List Part) (n : ℕ) → first_did gs ≡ None → first_did (gs ++ runs n ∷ []) ≡ None
none_more [] n e = refl
none_more (did v ∷ gs) n e = cc
none_more (runs m ∷ gs) n e = none_more gs n e

arm_more : (k : Kind) (gs : List Part) (n : ℕ) → StillBegins k gs → StillBegins k (gs ++ runs n ∷ [])
arm_more sync gs n b = tt
arm_more race gs n b = none_more gs n b
arm_more rush gs n b = tt

pub rested_low : (pre post : List Task) (us : List Up) (trees : Trees) (s : State) → Others pre post us trees →
    Low (rested pre post us trees s)
rested_low pre post [] trees s o = record { holds = stand_among (onto pre post) (onto_wait pre post o.pre o.post) o }
rested_low pre post (begins x k p gs n ls ∷ us) trees s o =
    next_low k p (gs ++ runs n ∷ []) ls x pre post us trees s _ (arm_more k gs n o.ups.0) (with_ups o.ups.1 o) (λ y a.
    rested_low (y ∷ pre) post us trees s (with_tasks (a, o.pre) o.post (with_ups o.ups.1 o)))
rested_low pre post (branching x ∷ us) trees s o = next (with_ups o.ups o)
rested_low pre post (spawning x entry ps qs ∷ us) trees s o = next (record {
  pre = o.ups.0;
  post = o.ups.1;
  ups = o.ups.2;
  before = o.before;
  behind = forests trees.behind (onto pre post ∷ []) o.behind (onto_wait pre post o.pre o.post, tt);
})
rested_low pre post (clearing after ts ∷ us) trees s o = over

pub suspends_low : (c : Cause) (x : Thread) (o : World) (s : State) → WorldWaits o → Low (suspends c x o s)
suspends_low c x o s a =
    rested_low (record { thread = x; rest = asleep (waiting c s) } ∷ o.pre) o.post o.ups o.trees (drawn s) (with_tasks
    (tt, a.pre) a.post a)

-- ---- the end of a task

joined_low : (n : ℕ) (v : Val) (r : Rest) (y : Task) (pre post : List Task) (trees : Trees) (s : State) → Waits y.rest →
    Others pre post [] trees → Low (joined n v r y pre post trees s)
joined_low n v (asleep w) y pre post trees s a o =
    record { holds = stand_among (onto pre (y ∷ post)) (onto_wait pre (y ∷ post) o.pre (a, o.post)) o }
joined_low n v (group k p gs) y pre post trees s a o = by_test (is_run n gs)
  where
    by_test : (b : Bool) → Low (cond b (grouped k p (with_did n v gs) y.thread (world pre post [] trees) s (λ y. rested
        (y ∷ pre) post [] trees s)) (Turn s (among (onto pre (y ∷ post)) trees)))
    by_test true = grouped_low k p (with_did n v gs) y.thread (world pre post [] trees) s _ o (λ z b. rested_low (z ∷
        pre) post [] trees s (with_tasks (b, o.pre) o.post o))
    by_test false = record { holds = stand_among (onto pre (y ∷ post)) (onto_wait pre (y ∷ post) o.pre (a, o.post)) o }

either_low : (b : Bool) (q r : Step) → Low q → Low r → Low (cond b q r)
either_low true q r a b = a
either_low false q r a b = b

climbs_low : (up : List ℕ) (n : ℕ) (v : Val) (pre post : List Task) (trees : Trees) (s : State) → Others pre post []
    trees → Low (climbs up n v pre post trees s)
climbs_low up n v pre [] trees s o = over
climbs_low up n v pre (y ∷ post) trees s o =
    either_low (same_path up y.thread.who.path) _ _ (joined_low n v y.rest y pre post trees s o.post.0 (with_tasks o.pre
    o.post.1 o)) (climbs_low up n v (y ∷ pre) post trees s (with_tasks (o.post.0, o.pre) o.post.1 o))

part_low : (up : List ℕ) (n : ℕ) (v : Val) (pre post : List Task) (us : List Up) (trees : Trees) (s : State) →
    Others pre post us trees → Low (part_ends up n v pre post us trees s)
part_low up n v pre post [] trees s o = climbs_low up n v pre post trees s o
part_low up n v pre post (begins x k p gs m ls ∷ us) trees s o =
    did_low k p (gs ++ did v ∷ []) ls x pre post us trees s _ (with_ups o.ups.1 o) (λ y a. rested_low (y ∷ pre) post us
    trees s (with_tasks (a, o.pre) o.post (with_ups o.ups.1 o)))
part_low up n v pre post (branching x ∷ us) trees s o = next (with_ups o.ups o)
part_low up n v pre post (spawning x entry ps qs ∷ us) trees s o = over
part_low up n v pre post (clearing after ts ∷ us) trees s o = over

root_low : (pre post : List Task) (us : List Up) (trees : Trees) (s : State) → Others pre post us trees →
    Low (root_ends pre post us trees s)
root_low pre post [] trees s o = record { holds = stand_among (onto pre post) (onto_wait pre post o.pre o.post) o }
root_low pre post (spawning x entry ps qs ∷ us) trees s o =
    next (record { pre = o.ups.0; post = o.ups.1; ups = o.ups.2; before = o.before; behind = o.behind })
root_low pre post (begins x k p gs n ls ∷ us) trees s o = over
root_low pre post (branching x ∷ us) trees s o = over
root_low pre post (clearing after ts ∷ us) trees s o = over

role_low : (r : Role) (w : Who) (v : Val) (o : World) (s : State) → WorldWaits o → Low (role_ends r w v o s)
role_low (root entry) w v o s a = root_low o.pre o.post o.ups o.trees s a
role_low part w v o s a = part_low w.up w.number v o.pre o.post o.ups o.trees s a

pub returns_low : (w : Who) (o : World) (born : ℕ) (v : Val) (s : State) (hs : List Handler) (bl : List Frame) →
    WorldWaits o → Low (returns w o born v s hs bl)
returns_low w o born v s (h ∷ hs) bl a = over
returns_low w o born v s [] [] a = by_role w.role
  where
    by_role : (r : Role) → Low (returns_role r w o born v s)
    by_role (root entry) = cancels_low _ (finishing w entry v) (since w.path born) o s a (λ o s b. role_low (root entry)
        w v o _ b)
    by_role part = over
returns_low w o born v s [] (f ∷ bl) a = cancels_low _ (resuming (thread w f bl) v) (since w.path born) o s a (λ o s b.
    next b)

pub ends_low : (w : Who) (o : World) (born : ℕ) (v : Val) (s : State) (hs : List Handler) (bl : List Frame) → WorldWaits
    o → Low (ends w o born v s hs bl)
ends_low w o born v s (h ∷ hs) bl a = over
ends_low w o born v s [] (f ∷ bl) a = over
ends_low w o born v s [] [] a = by_role w.role
  where
    by_role : (r : Role) → Low (ends_role r w o born v s)
    by_role (root entry) = over
    by_role part = cancels_low _ (closing w v) (since w.path born) o s a (λ o s b. role_low part w v o s b)

follows_low : (after : After) (o : World) (s : State) → WorldWaits o → Low (follows after o s)
follows_low (resuming x v) o s a = next a
follows_low (closing w v) o s a = role_low w.role w v o s a
follows_low (finishing w entry v) o s a = role_low (root entry) w v o _ a

pub cleared_low : (us : List Up) (pre post : List Task) (trees : Trees) (s : State) → Others pre post us trees →
    Low (cleared us pre post trees s)
cleared_low [] pre post trees s o = over
cleared_low (clearing after ts ∷ us) pre post trees s o =
    clears_low (follows after) after ts (world pre post us trees) s (with_ups o.ups o) (λ s. follows_low after (world
    pre post us trees) s (with_ups o.ups o))
cleared_low (begins x k p gs n ls ∷ us) pre post trees s o = over
cleared_low (branching x ∷ us) pre post trees s o = over
cleared_low (spawning x entry ps qs ∷ us) pre post trees s o = over

-- ---- a wait is woken

woken_low : (n : ℕ) (v : Val) (pre post : List Task) (trees : Trees) (s : State) → Others pre post [] trees →
    Low (woken n v pre post trees s)
woken_low n v pre [] trees s o = over
woken_low n v pre (y ∷ post) trees s o =
    either_low (is_asleep n y.rest) _ _ (next (with_tasks o.pre o.post.1 o)) (woken_low n v (y ∷ pre) post trees s
    (with_tasks (
      o.post.0,
      o.pre,
    ) o.post.1 o))

pub woken_in_low : (n : ℕ) (v : Val) (before behind : Forest) (s : State) → ForestWaits before → ForestWaits behind →
    Low (woken_in n v before behind s)
woken_in_low n v before [] s a b = over
woken_in_low n v before (ts ∷ behind) s a b =
    either_low (has n (waits_of ts)) _ _ (woken_low n v [] ts _ s (record {
      pre = tt;
      post = b.0;
      ups = tt;
      before = a;
      behind = b.1;
    })) (woken_in_low n v (before ++ ts ∷ []) behind s (forests before (ts ∷ []) a (b.0, tt)) b.1)
