-- What an operation does to the tasks, move by move.
use Rattle.std.specs.Prelude.{◌≡◌, ℕ, suc, ◌+◌, ◌≤◌, List, [], ◌∷◌, ◌++◌, length, Option, Some}
use Rattle.std.specs.Prelude.{None, Bool, true, false, slice_get}
use Rattle.verse_base.specs.declared.places.Place.{Place}
use Rattle.verse_code.specs.declared.codes.Code.{Code}
use Rattle.verse_value.specs.Val.{Val, unit, task}
use Rattle.verse_value.specs.declared.runs.Ending.{Ending}
use Rattle.verse_meaning_state.specs.State.{State, stepped, with_result, drawn, with_entry}
use Rattle.verse_meaning_state.specs.Waits.{Cause, till, never, done, heard, Wait, waiting, eqn}
use Rattle.verse_meaning_state.specs.Waits.{nth}
use Rattle.verse_meaning_state.specs.Turns.{Kind, sync, race, rush}
use Rattle.verse_code_machine.specs.Tasks.{Life, Frame, gone, Role, root, part, Who, Part, did}
use Rattle.verse_code_machine.specs.Tasks.{runs, Rest, asleep, group, Thread, thread}
use Rattle.verse_code_machine.specs.Tasks.{Task, After, resuming, closing, finishing, Up, begins}
use Rattle.verse_code_machine.specs.Tasks.{branching, spawning, clearing, Trees, World}
use Rattle.verse_code_machine.specs.Tasks.{world, Machine, Step, Next, Over, Turn, life_from}
use Rattle.verse_code_machine.specs.Tasks.{root_named, child_named, onto, among, planted}
use Rattle.verse_code_machine.specs.Tasks.{same_path, since, beneath_arms}
use Rattle.verse_code_machine.specs.Frames.{free}
use Rattle.verse_code_machine.specs.Cancelling.{cancelled, world_without}
use Rattle.verse_code_machine.specs.Ends.{all_did, first_did, is_run, with_did}
use Rattle.verse_code_machine.specs.Acts.{kind_of, place_at}
use Rattle.verse_code_machine.specs.Runs.{Forest}
use Rattle.verse_code_machine_parents.specs.Parents.{whos, line, chain, Rooted, UpsRooted}
use Rattle.run_save_shots.specs.Kept.{leaf}
use Rattle.run_save_shots.specs.Fitting.{ValueFits, ValuesFit, ArmFits, calls, gathers, stand_at}
use Rattle.run_save_shots.specs.Fitting.{RestSuits}
use Rattle.run_save_moves.specs.Fine.{Scene, IsEvent, StateFine, FrameFine, Changes}
use Rattle.run_save_shots.specs.Lists.{Each}

-- where an operation stands within its moves
pub data Point : Type 0 where
  -- a task runs
  acts : Machine → Point
  -- the task that ran stands among the others
  rests : (pre post : List Task) → List Up → Trees → State → Point
  -- a task with its group, some arms of which have begun, and the labels of those that have not
  gathering : Kind → Place → List Part → List ℕ → Thread → (pre post : List Task) → List Up →
      Trees → State → Point
  -- these are cancelled
  cancels : After → List Task → World → State → Point
  -- the frames of a cancelled task go
  going : Who → List Frame → World → State → Point
  -- a task is over
  ended : Role → Who → Val → World → State → Point
  climbs : List ℕ → ℕ → Val → (pre post : List Task) → Trees → State → Point
  -- the wait of a number is to be woken
  wakes : ℕ → Val → Forest → State → Point
  -- no task runs
  turns : State → Forest → Point

abbrev pub at : Who → World → State → Frame → List Frame → Machine
at w o s f fs = record { who = w; world = o; state = s; frame = f; below = fs }

-- a frame begins with these locals
abbrev pub begun : (born place : ℕ) → List Val → Frame
begun born place ls = record {
  life = life_from born;
  locals = ls;
  stack = [];
  place = place;
  handlers = [];
}

-- the frame goes on with the value
abbrev pub given : Frame → Val → Frame
given f v = record f { stack = v ∷ f.stack }

abbrev pub resumed : Thread → Val → World → State → Machine
resumed x v o s = at x.who o s (given x.frame v) x.below

-- the place is behind a call
abbrev pub BehindCall : Code → ℕ → Type 0
BehindCall c place = (p : ℕ) × (place ≡ suc p) × (stand_at c p ≡ calls)

-- the place is behind an operation that waits for this
abbrev pub BehindWait : Code → ℕ → Cause → Type 0
BehindWait c place cause = (p : ℕ) × (place ≡ suc p) × ((n : ℕ) →
    RestSuits (stand_at c p) (leaf n cause))

-- the place is behind a group of so many arms
pub record BehindGroup (c : Code) (place : ℕ) (kind : Kind) (source : Place) (arms : ℕ) : Type 0
  where
    pub index : ℕ
    pub number : ℕ
    pub where_at : ℕ
    pub is_behind : place ≡ suc index + arms
    pub stand : stand_at c index ≡ gathers number arms where_at
    pub is_kind : kind ≡ kind_of number
    pub is_source : place_at c where_at ≡ Some source

-- the longest wait, in milliseconds
abbrev pub MOST_WAIT : ℕ
MOST_WAIT = 1000000000

-- what is waited for is there
abbrev pub CauseIs : State → Cause → Type 0
CauseIs s (till moment) = moment ≤ s.clock.now + MOST_WAIT
CauseIs s never = Unit {0}
CauseIs s (done entry) = nth s.clock.results entry ≡ Some None
CauseIs s (heard event) = IsEvent s.memory.store event

-- a group has no value yet
abbrev pub NotYet : Kind → List Part → Type 0
NotYet sync gs = all_did gs ≡ None
NotYet race gs = first_did gs ≡ None
NotYet rush gs = first_did gs ≡ None

abbrev pub PartFits : ℕ → Part → Type 0
PartFits n (did v) = ValueFits n v
PartFits n (runs m) = Unit {0}

abbrev pub IsArmOf : ℕ → Rest → Bool → Type 0
IsArmOf n (asleep w) b = false ≡ b
IsArmOf n (group k p gs) b = is_run n gs ≡ b

-- values that a frame holds
abbrev pub Holds : Code → State → Frame → List Val → Type 0
Holds c s f vs = (x : Scene) → StateFine c x s → FrameFine c x f → ValuesFit x.entries vs

-- no deferred block of a cancelled task runs, and no task that waits has an open Try
pub record IsCalm (s : State) (w : Who) (o : World) (f : Frame) (fs : List Frame) : Type 0 where
  pub is_free : free f.handlers f.life.noted fs ≡ true
  pub list : Rooted s.clock.left (line o.pre (w ∷ chain o.ups ++ whos o.post))
  pub ups : UpsRooted s.clock.left o.ups

pub data Move (c : Code) : Point → Point → Type 0 where
  -- within a frame
  stays : {w : Who} {o : World} {s u : State} {f g : Frame} {fs : List Frame} → Changes c s f u g →
      Move c (acts (at w o s f fs)) (acts (at w o u g fs))
  -- to the frame below, where this one fails
  drops : {w : Who} {o : World} {s : State} {f g : Frame} {fs : List Frame} →
      Move c (acts (at w o s f (g ∷ fs))) (acts (at w o s g fs))
  enters : {w : Who} {o : World} {s : State} {f g : Frame} {fs : List Frame} {l place : ℕ} {ls :
      List Val} → suc l ≡ s.clock.left →
      Changes c s f s g → BehindCall c g.place → Holds c s f ls →
      Move c (acts (at w o s f fs)) (acts (at w o (stepped l s) (begun l place ls) (g ∷ fs)))
  suspends : {w : Who} {o : World} {s : State} {f : Frame} {fs : List Frame} {cause : Cause} →
      IsCalm s w o f fs →
      BehindWait c f.place cause → CauseIs s cause →
      Move c (acts (at w o s f fs)) (rests (record {
        thread = thread w f fs;
        rest = asleep
            (waiting cause s);
      } ∷ o.pre) o.post o.ups o.trees
      (drawn s))
  spawns : {w : Who} {o : World} {s : State} {f g : Frame} {fs : List Frame} {l place : ℕ} {ls :
      List Val} → IsCalm s w o g fs →
      suc l ≡ s.clock.left → Changes c s f s g → Holds c s f ls →
      Move c (acts (at w o s f fs)) (acts (at (root_named l (Some (length s.clock.results)))
      (world [] [] (spawning (thread w g fs) (length
      s.clock.results) o.pre o.post ∷ o.ups) o.trees) (with_entry (stepped l s)) (begun l place
      ls) []))
  branches : {w : Who} {o : World} {s : State} {f : Frame} {fs : List Frame} {l place : ℕ} →
      IsCalm s w o f fs → suc l ≡ s.clock.left →
      Move c (acts (at w o s f fs)) (acts (at (child_named w l) (world o.pre o.post (branching
      (thread w f fs) ∷ o.ups) o.trees) (stepped l
      s) (begun l place f.locals) []))
  begins_group : {w : Who} {o : World} {s : State} {f : Frame} {fs : List Frame} {k : Kind} {p :
      Place} {l : ℕ} {ls : List ℕ} → IsCalm s w o f fs →
      BehindGroup c f.place k p (suc (length ls)) →
      Move c (acts (at w o s f fs)) (gathering k p [] (l ∷ ls) (thread w f fs) o.pre o.post o.ups
      o.trees s)
  -- a frame returns
  returns : {w : Who} {o : World} {s : State} {f g : Frame} {fs : List Frame} {v : Val} →
      Holds c s f (v ∷ []) →
      Move c (acts (at w o s f (g ∷ fs))) (cancels (resuming (thread w g fs) v) (cancelled (since
      w.path f.life.born) o) (world_without (since
      w.path f.life.born) o) s)
  finishes : {w : Who} {o : World} {s : State} {f : Frame} {entry : Option ℕ} {v : Val} →
      w.role ≡ root entry → Holds c s f (v ∷ []) →
      Move c (acts (at w o s f [])) (cancels (finishing w entry v) (cancelled (since w.path
      f.life.born) o) (world_without (since w.path
      f.life.born) o) s)
  ends : {w : Who} {o : World} {s : State} {f : Frame} {v : Val} → w.role ≡ part →
      Holds c s f (v ∷ []) →
      Move c (acts (at w o s f [])) (cancels (closing w v) (cancelled (since w.path f.life.born)
      o) (world_without (since w.path f.life.born)
      o) s)
  -- a deferred block of a cancelled task has run
  dies : {w : Who} {o : World} {s : State} {f g : Frame} {fs : List Frame} → Changes c s f s g →
      Move c (acts (at w o s f fs)) (going w (g ∷ fs) o s)
  -- groups
  arm_begins : {k : Kind} {p : Place} {gs : List Part} {n l : ℕ} {ls : List ℕ} {x : Thread} {pre
      post : List Task} {us : List Up}
      {trees : Trees} {s : State} → suc l ≡ s.clock.left →
      Move c (gathering k p gs (n ∷ ls) x pre post us trees s) (acts (at (child_named x.who l)
      (world pre post (begins x k p gs l ls ∷ us)
      trees) (stepped l s) (begun l n x.frame.locals) []))
  stands : {k : Kind} {p : Place} {gs : List Part} {x : Thread} {pre post : List Task} {us : List
      Up} {trees : Trees} {s : State} →
      NotYet k gs →
      Move c (gathering k p gs [] x pre post us trees s) (rests (record {
        thread = x;
        rest = group
            k p gs;
      } ∷ pre) post us trees s)
  gathered : {k : Kind} {p : Place} {gs : List Part} {x : Thread} {pre post : List Task} {us :
      List Up} {trees : Trees} {s : State}
      {v : Val} → ((n : ℕ) → Each (PartFits n) gs → ValueFits n v) →
      Move c (gathering k p gs [] x pre post us trees s) (acts (resumed x v (world pre post us
      trees) s))
  races : {p : Place} {gs : List Part} {ls : List ℕ} {x : Thread} {pre post : List Task} {us :
      List Up} {trees : Trees} {s : State}
      {v : Val} → ((n : ℕ) → Each (PartFits n) gs → ValueFits n v) →
      Move c (gathering race p gs ls x pre post us trees s) (cancels (resuming x v) (cancelled
      (beneath_arms x.who.path gs) (world pre
      post us trees)) (world_without (beneath_arms x.who.path gs) (world pre post us trees)) s)
  -- what waits for the task
  rests_alone : {pre post : List Task} {trees : Trees} {s : State} →
      Move c (rests pre post [] trees s) (turns s (among (onto pre post) trees))
  rests_arm : {k : Kind} {p : Place} {gs : List Part} {n : ℕ} {ls : List ℕ} {x : Thread} {pre post
      : List Task} {us : List Up}
      {trees : Trees} {s : State} →
      Move c (rests pre post (begins x k p gs n ls ∷ us) trees s) (gathering k p (gs ++ runs n ∷
      []) ls x pre post us trees s)
  rests_behind : {x : Thread} {pre post : List Task} {us : List Up} {trees : Trees} {s : State} →
      Move c (rests pre post (branching x ∷ us) trees s) (acts (resumed x unit (world pre post us
      trees) s))
  rests_spawned : {x : Thread} {entry : ℕ} {ps qs pre post : List Task} {us : List Up} {trees :
      Trees} {s : State} →
      Move c (rests pre post (spawning x entry ps qs ∷ us) trees s) (acts (resumed x (task entry)
      (world ps qs us (planted trees (onto pre
      post))) s))
  -- cancelling
  resumes : {x : Thread} {v : Val} {o : World} {s : State} →
      Move c (cancels (resuming x v) [] o s) (acts (resumed x v o s))
  closes : {w : Who} {v : Val} {o : World} {s : State} →
      Move c (cancels (closing w v) [] o s) (ended w.role w v o s)
  gives_result : {w : Who} {entry : Option ℕ} {v : Val} {o : World} {s : State} →
      Move c (cancels (finishing w entry v) [] o s) (ended (root entry) w v o (with_result entry v
      s))
  cancels_next : {a : After} {t : Task} {ts : List Task} {o : World} {s : State} →
      Move c (cancels a (t ∷ ts) o s) (going t.thread.who (t.thread.frame ∷ t.thread.below) (world
      o.pre o.post (clearing a ts ∷ o.ups) o.trees)
      s)
  all_gone : {w : Who} {a : After} {ts pre post : List Task} {us : List Up} {trees : Trees} {s :
      State} →
      Move c (going w [] (world pre post (clearing a ts ∷ us) trees) s) (cancels a ts (world pre
      post us trees) s)
  frame_gone : {w : Who} {o : World} {s : State} {f : Frame} {fs : List Frame} →
      Move c (going w (f ∷ fs) o s) (going w fs o s)
  frame_clears : {w : Who} {o : World} {s : State} {f : Frame} {fs : List Frame} {l d : ℕ} {ds :
      List ℕ} → suc l ≡ s.clock.left →
      f.life.defers ≡ d ∷ ds →
      Move c (going w (f ∷ fs) o s) (acts (at w o (stepped l s) (record {
        life = record { born = f.life.born; defers = ds; noted = gone ∷ f.life.noted };
        locals = f.locals;
        stack = f.stack;
        place = d;
        handlers = [];
      }) fs))
  -- the end of a task
  ended_alone : {w : Who} {v : Val} {pre post : List Task} {trees : Trees} {s : State} →
      Move c (ended part w v (world pre post [] trees) s) (climbs w.up w.number v pre post trees s)
  ended_arm : {w : Who} {v : Val} {k : Kind} {p : Place} {gs : List Part} {n : ℕ} {ls : List ℕ} {x
      : Thread} {pre post : List Task}
      {us : List Up} {trees : Trees} {s : State} →
      Move c (ended part w v (world pre post (begins x k p gs n ls ∷ us) trees) s) (gathering k p
      (gs ++ did v ∷ []) ls x pre post us trees s)
  ended_behind : {w : Who} {v : Val} {x : Thread} {pre post : List Task} {us : List Up} {trees :
      Trees} {s : State} →
      Move c (ended part w v (world pre post (branching x ∷ us) trees) s) (acts (resumed x unit
      (world pre post us trees) s))
  ended_root : {w : Who} {v : Val} {entry : Option ℕ} {pre post : List Task} {trees : Trees} {s :
      State} →
      Move c (ended (root entry) w v (world pre post [] trees) s) (turns s (among (onto pre post)
      trees))
  ended_spawned : {w : Who} {v : Val} {entry : Option ℕ} {x : Thread} {e : ℕ} {ps qs pre post :
      List Task} {us : List Up} {trees : Trees}
      {s : State} →
      Move c (ended (root entry) w v (world pre post (spawning x e ps qs ∷ us) trees) s) (acts
      (resumed x (task e) (world ps qs us trees) s))
  climbs_on : {up : List ℕ} {n : ℕ} {v : Val} {y : Task} {pre post : List Task} {trees : Trees} {s
      : State} →
      same_path up y.thread.who.path ≡ false →
      Move c (climbs up n v pre (y ∷ post) trees s) (climbs up n v (y ∷ pre) post trees s)
  joins_no_group : {up : List ℕ} {n : ℕ} {v : Val} {y : Task} {pre post : List Task} {trees :
      Trees} {s : State} →
      same_path up y.thread.who.path ≡ true → IsArmOf n y.rest false →
      Move c (climbs up n v pre (y ∷ post) trees s) (turns s (among (onto pre (y ∷ post)) trees))
  joins : {up : List ℕ} {n : ℕ} {v : Val} {y : Task} {k : Kind} {p : Place} {gs : List Part} {pre
      post : List Task} {trees : Trees}
      {s : State} → same_path up y.thread.who.path ≡ true → y.rest ≡ group k p gs →
      is_run n gs ≡ true →
      Move c (climbs up n v pre (y ∷ post) trees s) (gathering k p (with_did n v gs) [] y.thread
      pre post [] trees s)
  -- a wait is woken
  woken : {n : ℕ} {v : Val} {tss before behind : Forest} {pre post : List Task} {y : Task} {wait :
      Wait} {s : State} →
      tss ≡ before ++ onto pre (y ∷ post) ∷ behind → y.rest ≡ asleep wait →
      eqn n wait.number ≡ true →
      Move c (wakes n v tss s) (acts (resumed y.thread v (world pre post [] (record {
        before =
            before;
        behind = behind;
      })) s))

-- moves one after another
pub data Leads (c : Code) : Point → Step → Type 0 where
  ends_run : {x : Point} {e : Ending} {s : State} → Leads c x (Over e s)
  acts_next : {m : Machine} → Leads c (acts m) (Next m)
  turns_next : {s : State} {tss : Forest} → Leads c (turns s tss) (Turn s tss)
  then_leads : {x y : Point} {q : Step} → Move c x y → Leads c y q → Leads c x q
