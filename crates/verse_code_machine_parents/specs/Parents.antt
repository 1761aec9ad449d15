-- A parent stands behind its children: what holds of the tasks of every run, whatever the code.
use Rattle.std.specs.Prelude.{◌≡◌, ℕ, ◌≤◌, ◌<◌, ℤ, List, [], ◌∷◌, ◌++◌, Option, Bool, true, false}
use Rattle.verse_code.specs.declared.codes.Code.{Code}
use Rattle.verse_meaning_state.specs.Turns.{Stage, going, closed, broken, amiss}
use Rattle.verse_code_machine.specs.Tasks.{Life, Handler, Frame, Note, gone, root, part, Who}
use Rattle.verse_code_machine.specs.Tasks.{Thread, Task, resuming, closing, finishing, Up}
use Rattle.verse_code_machine.specs.Tasks.{begins, branching, spawning, clearing, World, Machine}
use Rattle.verse_code_machine.specs.Tasks.{Step, Next, Over, Turn}
use Rattle.verse_code_machine.specs.Frames.{free}
use Rattle.verse_code_machine.specs.Runs.{step, Forest, mach_after}

abbrev pub whos : List Task → List Who
whos [] = []
whos (t ∷ ts) = t.thread.who ∷ whos ts

-- tasks of which the nearest is the first, before others
abbrev pub line : List Task → List Who → List Who
line [] ws = ws
line (t ∷ ts) ws = line ts (t.thread.who ∷ ws)

-- a task of this path, with a number above the one given, is in the list
pub data HasParent (up : List ℕ) (number : ℕ) : List Who → Type 0 where
  here : {w : Who} {ws : List Who} → w.path ≡ up → number < w.number → HasParent up number (w ∷ ws)
  later : {w : Who} {ws : List Who} → HasParent up number ws → HasParent up number (w ∷ ws)

-- each arm and each task behind stands before its parent, and began later; no task began with fewer
-- steps than are left
pub data Rooted (left : ℕ) : List Who → Type 0 where
  rooted_no : Rooted left []
  rooted_root : {w : Who} {ws : List Who} {entry : Option ℕ} → w.role ≡ root entry →
      w.path ≡ w.number ∷ [] → left ≤ w.number → Rooted left ws → Rooted left (w ∷ ws)
  rooted_part : {w : Who} {ws : List Who} → w.role ≡ part → w.path ≡ w.up ++ w.number ∷ [] →
      left ≤ w.number → HasParent w.up w.number ws → Rooted left ws → Rooted left (w ∷ ws)

-- the second path goes on from the first
pub record Beneath (a x : List ℕ) : Type 0 where
  pub next : ℕ
  pub rest : List ℕ
  pub goes_on : x ≡ a ++ next ∷ rest

-- the tasks that wait for the one that runs, in its tree
abbrev pub chain : List Up → List Who
chain [] = []
chain (begins y k p gs number ls ∷ us) = y.who ∷ chain us
chain (branching y ∷ us) = y.who ∷ chain us
chain (spawning y entry ps qs ∷ us) = []
chain (clearing after ts ∷ us) = []

-- each of them encloses the one before; none is cancelled
abbrev pub Follow : Who → List Up → Type 0
Follow w [] = Unit {0}
Follow w (begins y k p gs number ls ∷ us) = (w.role ≡ part) × Beneath y.who.path w.path ×
    Follow y.who us
Follow w (branching y ∷ us) = (w.role ≡ part) × Beneath y.who.path w.path × Follow y.who us
Follow w (spawning y entry ps qs ∷ us) = Unit {0}
Follow w (clearing after ts ∷ us) = ⊥

-- the frame with which a task began has the task's number, and so have the copies that its open
-- Trys keep
abbrev pub HandlersBorn : ℕ → List Handler → Type 0
HandlersBorn n [] = Unit {0}
HandlersBorn n (h ∷ hs) = (h.life.born ≡ n) × HandlersBorn n hs

abbrev pub Born : ℕ → Life → List Handler → List Frame → Type 0
Born n g hs [] = (g.born ≡ n) × HandlersBorn n hs
Born n g hs (f ∷ fs) = Born n f.life f.handlers fs

-- a frame that is being cancelled has that noted
pub data HasGone : List Note → Type 0 where
  first_gone : {ns : List Note} → HasGone (gone ∷ ns)
  later_gone : {y : Note} {ns : List Note} → HasGone ns → HasGone (y ∷ ns)

abbrev pub AllGone : List Handler → Type 0
AllGone [] = Unit {0}
AllGone (h ∷ hs) = HasGone h.life.noted × AllGone hs

-- no Try is open
abbrev pub Closed : List Frame → Type 0
Closed [] = Unit {0}
Closed (f ∷ fs) = (f.handlers ≡ []) × Closed fs

-- one of the frames is being cancelled, and those below it have no open Try
pub data Marked : Life → List Handler → List Frame → Type 0 where
  marked : {g : Life} {hs : List Handler} {fs : List Frame} → HasGone g.noted → AllGone hs → Closed fs → Marked g hs fs
  marked_below : {g : Life} {hs : List Handler} {f : Frame} {fs : List Frame} →
      Marked f.life f.handlers fs → Marked g hs (f ∷ fs)

-- the task that runs is cancelled
abbrev pub is_clearing : List Up → Bool
is_clearing [] = false
is_clearing (begins y k p gs number ls ∷ us) = false
is_clearing (branching y ∷ us) = false
is_clearing (spawning y entry ps qs ∷ us) = false
is_clearing (clearing after ts ∷ us) = true

-- the frames of the task that runs
pub record Framed (w : Who) (us : List Up) (g : Life) (hs : List Handler) (fs : List Frame) :
    Type 0 where
  pub born : Born w.number g hs fs
  pub mark : is_clearing us ≡ true → Marked g hs fs

-- a suspended task
pub record Still (x : Thread) : Type 0 where
  pub born : Born x.who.number x.frame.life x.frame.handlers x.below
  pub free : free x.frame.handlers x.frame.life.noted x.below ≡ true

abbrev pub EachTask : (Task → Type 0) → List Task → Type 0
EachTask is [] = Unit {0}
EachTask is (t ∷ ts) = is t × EachTask is ts

abbrev pub AllStill : List Task → Type 0
AllStill = EachTask (λ t. Still t.thread)

abbrev pub TreesRooted : ℕ → Forest → Type 0
TreesRooted left [] = Unit {0}
TreesRooted left (ts ∷ tss) = Rooted left (whos ts) × AllStill ts × TreesRooted left tss

-- the tasks that wait, and the trees of those that have spawned
abbrev pub UpsRooted : ℕ → List Up → Type 0
UpsRooted left [] = Unit {0}
UpsRooted left (begins y k p gs number ls ∷ us) = Still y × UpsRooted left us
UpsRooted left (branching y ∷ us) = Still y × UpsRooted left us
UpsRooted left (spawning y entry ps qs ∷ us) =
    Still y × (AllStill ps × AllStill qs) ×
    (Rooted left (line ps (y.who ∷ chain us ++ whos qs)) × Follow y.who us) × UpsRooted left us
UpsRooted left (clearing after ts ∷ us) = ⊥

-- a cancelled task, and those that are cancelled next, are beneath the one that goes on
abbrev pub AllBeneath : List ℕ → List Task → Type 0
AllBeneath a = EachTask (λ t. Beneath a t.thread.who.path)

-- what has ended leaves its tree: its own parent stands, and nothing is left that it has begun
pub record Leaving (left : ℕ) (pre post : List Task) (us : List Up) (w : Who) : Type 0 where
  pub others : Rooted left (line pre (chain us ++ whos post))
  pub own : Rooted left (w ∷ chain us ++ whos post)
  pub follow : Follow w us
  pub ups : UpsRooted left us

-- the tree of the task that runs; where that is cancelled, without it and those that are cancelled
-- next
pub data Tree (left : ℕ) (pre post : List Task) : Who → List Up → Type 0 where
  running : {w : Who} {us : List Up} → Rooted left (line pre (w ∷ chain us ++ whos post)) →
      Follow w us → UpsRooted left us → Tree left pre post w us
  before_resuming : {w : Who} {y : Thread} {v : _} {ts : List Task} {us : List Up} →
      Beneath y.who.path w.path → AllBeneath y.who.path ts → AllStill ts →
      Framed y.who us y.frame.life y.frame.handlers y.below → Tree left pre post y.who us →
      Tree left pre post w (clearing (resuming y v) ts ∷ us)
  before_closing : {w x : Who} {v : _} {ts : List Task} {us : List Up} → Beneath x.path w.path →
      AllBeneath x.path ts → AllStill ts → Leaving left pre post us x →
      Tree left pre post w (clearing (closing x v) ts ∷ us)
  before_finishing : {w x : Who} {entry : Option ℕ} {v : _} {ts : List Task} {us : List Up} →
      Beneath x.path w.path → AllBeneath x.path ts → AllStill ts → Leaving left pre post us x →
      Tree left pre post w (clearing (finishing x entry v) ts ∷ us)

pub record WorldRooted (left : ℕ) (w : Who) (o : World) : Type 0 where
  pub tree : Tree left o.pre o.post w o.ups
  pub pre : AllStill o.pre
  pub post : AllStill o.post
  pub before : TreesRooted left o.trees.before
  pub behind : TreesRooted left o.trees.behind

pub record MachineRooted (m : Machine) : Type 0 where
  pub frames : Framed m.who m.world.ups m.frame.life m.frame.handlers m.below
  pub world : WorldRooted m.state.clock.left m.who m.world

abbrev pub StepRooted : Step → Type 0
StepRooted (Next m) = MachineRooted m
StepRooted (Over e s) = Unit {0}
StepRooted (Turn s tss) = TreesRooted s.clock.left tss

abbrev pub StageRooted : Stage Forest → Type 0
StageRooted (going s tss) = TreesRooted s.clock.left tss
StageRooted (closed e s tss) = TreesRooted s.clock.left tss
StageRooted (broken e s) = Unit {0}
StageRooted (amiss s) = Unit {0}

-- each operation keeps that parents stand
abbrev pub OperationRoots : Type 0
OperationRoots = (c : Code) (m : Machine) → MachineRooted m → StepRooted (step c m)

-- they stand between all turns of a run
abbrev pub RunRoots : Type 0
RunRoots = (c : Code) (ns : List ℤ) (steps until k : ℕ) →
    StageRooted (mach_after c ns steps until k)
