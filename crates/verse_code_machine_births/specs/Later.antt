-- What begins later has a number below the births of all frames that stand, so it counts as begun
-- since each of them.
use Rattle.std.specs.Prelude.{◌≡◌, ◌<◌, ◌⊎◌, ℕ, List, [], ◌∷◌, ◌++◌, Some, true, slice_get}
use Rattle.verse_base.specs.declared.places.Place.{Place}
use Rattle.verse_code.specs.declared.operations.Op.TheVariants as o
use Rattle.verse_code.specs.declared.codes.Code.{Code}
use Rattle.verse_value.specs.Val.{Val}
use Rattle.verse_meaning_state.specs.State.{State}
use Rattle.verse_meaning_state.specs.Turns.{Kind}
use Rattle.verse_code_machine.specs.Tasks.{Frame, Who, Part, Thread, Task, After, resuming}
use Rattle.verse_code_machine.specs.Tasks.{closing, finishing, Up, begins, branching, spawning}
use Rattle.verse_code_machine.specs.Tasks.{clearing, Trees, World, Machine, Step}
use Rattle.verse_code_machine.specs.Tasks.{Next, Over, Turn, since}
use Rattle.verse_code_machine.specs.Ends.{next_arm, woken_in}
use Rattle.verse_code_machine.specs.Runs.{step, Forest}
use Rattle.verse_code_machine_births.specs.Stages.{StepIs}
use Rattle.verse_code_machine_births.specs.Framed.{TreesAre, MachineIs}
use Rattle.verse_code_machine_births.specs.Births.{FramesBorn, MachineBorn}

-- the names of tasks, wherever they stand
abbrev pub whos : List Task → List Who
whos [] = []
whos (t ∷ ts) = t.thread.who ∷ whos ts

abbrev pub tree_whos : Forest → List Who
tree_whos [] = []
tree_whos (ts ∷ tss) = whos ts ++ tree_whos tss

abbrev pub after_whos : After → List Who
after_whos (resuming x v) = x.who ∷ []
after_whos (closing w v) = []
after_whos (finishing w entry v) = []

abbrev pub up_whos : Up → List Who
up_whos (begins x k p gs number ls) = x.who ∷ []
up_whos (branching x) = x.who ∷ []
up_whos (spawning x entry ps qs) = x.who ∷ whos ps ++ whos qs
up_whos (clearing a ts) = after_whos a ++ whos ts

abbrev pub ups_whos : List Up → List Who
ups_whos [] = []
ups_whos (u ∷ us) = up_whos u ++ ups_whos us

abbrev pub world_whos : World → List Who
world_whos o =
    whos o.pre ++ (whos o.post ++ (ups_whos o.ups ++
    (tree_whos o.trees.before ++ tree_whos o.trees.behind)))

pub data In (w : Who) : List Who → Type 0 where
  here : {ws : List Who} → In w (w ∷ ws)
  later : {v : Who} {ws : List Who} → In w ws → In w (v ∷ ws)

-- one of those, or it began with fewer steps left
abbrev pub StoodOrBelow : List Who → ℕ → Who → Type 0
StoodOrBelow ws left w = In w ws ⊎ (w.number < left)

-- of any birth
abbrev pub Any : ℕ → Type 0
Any born = Unit {0}

abbrev pub StepNamed : (Who → Type 0) → Step → Type 0
StepNamed Named = StepIs (λ left. TreesAre Any Named) (MachineIs Any Named)

-- each task that stands after an operation stood before it, or has a number below the steps that
-- were left
abbrev pub NewBelow : Type 0
NewBelow = (c : Code) (m : Machine) →
    StepNamed (StoodOrBelow (m.who ∷ world_whos m.world) m.state.clock.left) (step c m)

-- and so where a wait is woken
abbrev pub WokenBelow : Type 0
WokenBelow = (number : ℕ) (v : Val) (s : State) (tss : Forest) →
    StepNamed (StoodOrBelow (tree_whos tss) s.clock.left) (woken_in number v [] tss s)

-- the task of the second path is among what the task of the first has begun since each of these
-- frames began
abbrev pub SinceEach : (path other : List ℕ) → List Frame → Type 0
SinceEach path other [] = Unit {0}
SinceEach path other (f ∷ fs) = (since path f.life.born other ≡ true) × SinceEach path other fs

-- a task beneath the running one with such a number counts so, and so does all that it encloses
abbrev pub LaterSince : Type 0
LaterSince = (m : Machine) (number : ℕ) (rest : List ℕ) → MachineBorn m →
    number < m.state.clock.left →
    SinceEach m.who.path (m.who.path ++ number ∷ rest) (m.frame ∷ m.below)

-- the task behind runs next
abbrev pub BranchSince : Type 0
BranchSince = (c : Code) (m n : Machine) (l : ℕ) → MachineBorn m →
    slice_get c.ops m.frame.place ≡ Some (o.Branch l) → step c m ≡ Next n →
    SinceEach m.who.path n.who.path (m.frame ∷ m.below)

-- the arm runs next
abbrev pub ArmSince : Type 0
ArmSince = (k : Kind) (p : Place) (gs : List Part) (l : ℕ) (ls : List ℕ) (x : Thread)
    (pre post : List Task) (us : List Up) (trees : Trees) (s : State) (stands : Task → Step)
    (n : Machine) → FramesBorn s.clock.left (x.frame ∷ x.below) →
    next_arm k p gs (l ∷ ls) x pre post us trees s stands ≡ Next n →
    SinceEach x.who.path n.who.path (x.frame ∷ x.below)
