-- The other tasks of a run of a verified code, its clock, and what holds where a task ends.
use Rattle.std.specs.Prelude.{◌≡◌, ℕ, ◌≤◌, List, [], ◌∷◌, ◌++◌, length, Option, Some, None, Bool}
use Rattle.std.specs.Prelude.{true, false}
use Rattle.verse_code.specs.declared.codes.Code.{Code}
use Rattle.verse_value.specs.Val.{Val}
use Rattle.verse_meaning_state.specs.State.{State, Given, Signal}
use Rattle.verse_meaning_state.specs.Waits.{Cause, till, never, done, heard}
use Rattle.verse_meaning_state.specs.Turns.{Kind, sync, race, rush}
use Rattle.verse_code_machine.specs.Tasks.{Role, root, part, Who, Part, did, runs, asleep, group}
use Rattle.verse_code_machine.specs.Tasks.{Thread, Task, resuming, closing}
use Rattle.verse_code_machine.specs.Tasks.{finishing, Up, begins, branching, spawning, clearing}
use Rattle.verse_code_machine.specs.Tasks.{Trees, World}
use Rattle.verse_code_machine.specs.Runs.{Forest}
use Rattle.verse_sorts.specs.Sorts as s
use Rattle.verse_sorts.specs.Sorts.{Sort}
use Rattle.verse_sorts.specs.Typing.{at, Typing}
use Rattle.verse_verify_kept.specs.Notes.{Point, Notes, point_at}
use Rattle.verse_verify_kept.specs.Rules.{Fit, AllIn, sorts}
use Rattle.verse_verify_kept.specs.Kept.{Giver, Of, All, StoreIs, Below}

-- what a suspended task waits for, seen as what the frame above it gives
abbrev pub coming : Bool → Sort → Giver
coming wait a = record { result = a; part = false; may_fail = false; may_wait = wait }

-- the first frame of an arm or a task behind
abbrev pub closing_with : Sort → Giver
closing_with a = record { result = a; part = true; may_fail = false; may_wait = true }

module _ (c : Code) (n : Notes) where
  -- what the first frame of a task gives is what is waited for
  pub data RoleIs (t : Typing) : Role → ℕ → Giver → Type 0 where
    main_is : {i : ℕ} {g : Giver} → g.part ≡ false → RoleIs t (root None) i g
    root_is : {e i : ℕ} {a : Sort} {g : Giver} → g.part ≡ false → at t.entries e ≡ Some a →
        Fit c n g.result a → RoleIs t (root (Some e)) i g
    part_is : {i : ℕ} {a : Sort} {g : Giver} → g.part ≡ true → t.parts i ≡ Some a →
        Fit c n g.result a → RoleIs t part i g

  abbrev pub Alone : Who → Giver → Bool → Typing → Type 0
  Alone w g false t = (g.may_fail ≡ false) × RoleIs t w.role w.number g
  Alone w g true t = ⊥

  -- a suspended task goes on with a value of a sort
  abbrev pub ThreadIs : Typing → Sort → Thread → Type 0
  ThreadIs t a x = Below c n (Alone x.who) (coming true a) (x.frame ∷ x.below) false t

  pub data Causes (t : Typing) : Cause → Sort → Type 0 where
    till_gives : {m : ℕ} {a : Sort} → Fit c n s.unit a → Causes t (till m) a
    never_gives : {a : Sort} → Causes t never a
    done_gives : {e : ℕ} {a b : Sort} → at t.entries e ≡ Some b → Fit c n b a → Causes t (done e) a
    heard_gives : {e : ℕ} {a b : Sort} → at t.cells e ≡ Some (s.event b) → Fit c n b a →
        Causes t (heard e) a

  -- the arms of a group, each with what it gives
  pub data PartsAre (t : Typing) : List Part → List Sort → Type 0 where
    parts_no : PartsAre t [] []
    part_did : {v : Val} {gs : List Part} {a : Sort} {xs : List Sort} → Of c n t v a →
        PartsAre t gs xs → PartsAre t (did v ∷ gs) (a ∷ xs)
    part_runs : {i : ℕ} {gs : List Part} {a b : Sort} {xs : List Sort} → t.parts i ≡ Some b →
        Fit c n b a → PartsAre t gs xs → PartsAre t (runs i ∷ gs) (a ∷ xs)

  pub data KindGives : Kind → List Sort → Sort → Type 0 where
    all_give : {rs : List Sort} {a : Sort} → Fit c n (s.tuple (sorts rs)) a → KindGives sync rs a
    first_gives : {rs : List Sort} {u : Sort} → AllIn c n u rs → KindGives race rs u
    rush_gives : {rs : List Sort} {u : Sort} → AllIn c n u rs → KindGives rush rs u

  -- an arm may begin with these locals
  pub record Starts (t : Typing) (ls : List Val) (l : ℕ) (r : Sort) : Type 0 where
    pub point : Point
    pub live : point_at n l ≡ Some point
    pub arm : point.arm ≡ Some r
    pub locals : All c n t ls point.locals
    pub stack : point.stack ≡ []
    pub tries : point.tries ≡ []
    pub block : point.block ≡ None
    pub outer : point.outer ≡ []
    pub under : point.under ≡ 0
    pub defers : point.defers ≡ []

  pub data LabelsAre (t : Typing) (ls : List Val) : List ℕ → List Sort → Type 0 where
    labels_no : LabelsAre t ls [] []
    labels_so : {l : ℕ} {more : List ℕ} {r : Sort} {rs : List Sort} → Starts t ls l r →
        LabelsAre t ls more rs → LabelsAre t ls (l ∷ more) (r ∷ rs)

  pub data TaskIs (t : Typing) : Task → Type 0 where
    sleeps : {x : Task} {i : ℕ} {cause : Cause} {a : Sort} →
        x.rest ≡ asleep (record { number = i; cause = cause }) → at t.waits i ≡ Some a →
        Causes t cause a → ThreadIs t a x.thread → TaskIs t x
    groups : {x : Task} {k : Kind} {p : _} {gs : List Part} {rs : List Sort} {a : Sort} →
        x.rest ≡ group k p gs → PartsAre t gs rs → KindGives k rs a → ThreadIs t a x.thread →
        TaskIs t x

  pub data TasksAre (t : Typing) : List Task → Type 0 where
    tasks_no : TasksAre t []
    tasks_so : {x : Task} {xs : List Task} → TaskIs t x → TasksAre t xs → TasksAre t (x ∷ xs)

  pub data TreesAre (t : Typing) : List (List Task) → Type 0 where
    trees_no : TreesAre t []
    trees_so : {xs : List Task} {xss : List (List Task)} → TasksAre t xs → TreesAre t xss →
        TreesAre t (xs ∷ xss)

  -- a group whose arms begin: those before, the number of the one that runs, the labels of those to
  -- come
  pub record Begun (t : Typing) (y : Thread) (k : Kind) (gs : List Part) (m : ℕ) (ls : List ℕ) :
      Type 0 where
    pub result : Sort
    pub before : List Sort
    pub given : Sort
    pub running : Sort
    pub after : List Sort
    pub thread : ThreadIs t result y
    pub parts : PartsAre t gs before
    pub names : t.parts m ≡ Some given
    pub fits : Fit c n given running
    pub labels : LabelsAre t y.frame.locals ls after
    pub gives : KindGives k (before ++ running ∷ after) result

  -- the tasks that wait until the one that runs is suspended or over
  pub data UpsAre (t : Typing) : Who → List Up → Type 0 where
    ups_no : {w : Who} → UpsAre t w []
    ups_begin : {w : Who} {y : Thread} {k : Kind} {p : _} {gs : List Part} {m : ℕ} {ls : List ℕ}
        {us : List Up} → w.role ≡ part → m ≡ w.number → Begun t y k gs m ls → UpsAre t y.who us →
        UpsAre t w (begins y k p gs m ls ∷ us)
    ups_branch : {w : Who} {y : Thread} {us : List Up} → w.role ≡ part → ThreadIs t s.unit y →
        UpsAre t y.who us → UpsAre t w (branching y ∷ us)
    ups_spawn : {w : Who} {y : Thread} {e : ℕ} {a : Sort} {pre post : List Task} {us : List Up} →
        w.role ≡ root (Some e) → at t.entries e ≡ Some a → ThreadIs t (s.task a) y →
        TasksAre t pre → TasksAre t post → UpsAre t y.who us →
        UpsAre t w (spawning y e pre post ∷ us)

  pub data ResultsAre (t : Typing) : List (Option Given) → List Sort → Type 0 where
    results_no : ResultsAre t [] []
    result_none : {rs : List (Option Given)} {a : Sort} {xs : List Sort} → ResultsAre t rs xs →
        ResultsAre t (None ∷ rs) (a ∷ xs)
    result_some : {g : Given} {rs : List (Option Given)} {a : Sort} {xs : List Sort} →
        Of c n t g.value a → ResultsAre t rs xs → ResultsAre t (Some g ∷ rs) (a ∷ xs)

  pub data SignalsAre (t : Typing) : List Signal → Type 0 where
    signals_no : SignalsAre t []
    signals_so : {g : Signal} {gs : List Signal} {a : Sort} →
        at t.cells g.event ≡ Some (s.event a) → Of c n t g.given.value a → SignalsAre t gs →
        SignalsAre t (g ∷ gs)

  pub record Clocked (t : Typing) (rs : List (Option Given)) (gs : List Signal) (k : ℕ) :
      Type 0 where
    pub results : ResultsAre t rs t.entries
    pub signals : SignalsAre t gs
    pub waits : length t.waits ≡ k

  pub record Tasked (t : Typing) (pre post : List Task) (trees : Trees) : Type 0 where
    pub pre_are : TasksAre t pre
    pub post_are : TasksAre t post
    pub before_are : TreesAre t trees.before
    pub behind_are : TreesAre t trees.behind

  module _ (pre post : List Task) (trees : Trees) (rs : List (Option Given)) (gs : List Signal)
      (k : ℕ) where
    -- what holds beneath the first frame of the task that runs, by those that wait for it; it is
    -- `true` of a task that is cancelled
    abbrev pub Ends_in : List Up → Who → Giver → Bool → Typing → Type 0
    Ends_in us w g false t = Alone w g false t × UpsAre t w us × Clocked t rs gs k ×
        Tasked t pre post trees
    Ends_in [] w g true t = ⊥
    Ends_in (begins y kd p ps m ls ∷ us) w g true t = ⊥
    Ends_in (branching y ∷ us) w g true t = ⊥
    Ends_in (spawning y e qs ps ∷ us) w g true t = ⊥
    Ends_in (clearing (resuming y v) ts ∷ us) w g true t =
        TasksAre t ts × (a : Sort) × Of c n t v a ×
        Below c n (λ g b u. Ends_in us y.who g b u) (coming false a) (y.frame ∷ y.below) false t
    Ends_in (clearing (closing x v) ts ∷ us) w g true t =
        TasksAre t ts × (a : Sort) × Of c n t v a × Ends_in us x (closing_with a) false t
    Ends_in (clearing (finishing x e v) ts ∷ us) w g true t =
        TasksAre t ts × (a : Sort) × Of c n t v a × (x.role ≡ root e) ×
        Ends_in us x (coming false a) false t

  -- what holds beneath the frames of the task that runs
  abbrev pub World_is : Who → World → List (Option Given) → List Signal → ℕ → Giver → Bool →
      Typing → Type 0
  World_is w x rs gs k g b t = Ends_in x.pre x.post x.trees rs gs k x.ups w g b t

  -- between two turns
  pub record ForestFits (s : State) (tss : Forest) : Type 0 where
    pub typing : Typing
    pub store : StoreIs c n typing s.memory.store
    pub fresh : (i : ℕ) (a : Sort) → typing.parts i ≡ Some a → s.clock.left ≤ i
    pub clocked : Clocked typing s.clock.results s.clock.signals s.clock.next
    pub trees : TreesAre typing tss
