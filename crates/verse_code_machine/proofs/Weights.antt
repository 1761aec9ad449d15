-- What a machine weighs: each operation that spends no step makes it lighter, and a step is more than an operation can add.
use Rattle.std.proofs.Common.{◌≡◌, ℕ, length, ◌+◌, ◌*◌, ◌-◌, ◌<◌, ◌≤◌, List, [], ◌∷◌, ◌++◌, Bool, true, false, cond, refl, arith}
use Rattle.std.proofs.lemmas.Bool.{cond_both}
use Rattle.verse_value.specs.declared.runs.Ending.{Ending}
use Rattle.verse_meaning_state.specs.State.{State}
use Rattle.verse_code_machine.specs.Tasks.{Handler, Frame, Thread, Task, After, resuming, closing, finishing, Up, begins, branching}
use Rattle.verse_code_machine.specs.Tasks.{spawning}
use Rattle.verse_code_machine.specs.Tasks.{clearing, Trees, World, Machine, Step, Next, Over, Turn, onto, starts}
use Rattle.verse_code_machine.specs.Frames.{fits}
use Rattle.verse_code_machine.specs.Cancelling.{without, inserted, gone_before, gone_behind}

-- each handler keeps no more noted places than there are, and those below it no more than it
abbrev pub Kept : List Handler → ℕ → Type 0
Kept [] m = Unit {0}
Kept (h ∷ hs) m = (length h.life.noted ≤ m) × Kept hs (length h.life.noted)

pub kept_more : (hs : List Handler) (a b : ℕ) → a ≤ b → Kept hs a → Kept hs b
kept_more [] a b le k = tt
kept_more (h ∷ hs) a b le k = (omega (arith, le, k.0), k.1)

abbrev pub FrameIs : Frame → Type 0
FrameIs f = (fits f.handlers f.place ≡ true) × Kept f.handlers (length f.life.noted)

abbrev pub FramesAre : List Frame → Type 0
FramesAre [] = Unit {0}
FramesAre (f ∷ fs) = FrameIs f × FramesAre fs

abbrev pub ThreadIs : Thread → Type 0
ThreadIs x = FrameIs x.frame × FramesAre x.below

abbrev pub TasksAre : List Task → Type 0
TasksAre [] = Unit {0}
TasksAre (t ∷ ts) = ThreadIs t.thread × TasksAre ts

abbrev pub TreesAre : List (List Task) → Type 0
TreesAre [] = Unit {0}
TreesAre (ts ∷ tss) = TasksAre ts × TreesAre tss

abbrev pub AfterIs : After → Type 0
AfterIs (resuming x v) = ThreadIs x
AfterIs (closing w v) = Unit {0}
AfterIs (finishing w entry v) = Unit {0}

abbrev pub UpIs : Up → Type 0
UpIs (begins x k p gs number ls) = ThreadIs x
UpIs (branching x) = ThreadIs x
UpIs (spawning x entry ps qs) = ThreadIs x × (TasksAre ps × TasksAre qs)
UpIs (clearing a ts) = AfterIs a × TasksAre ts

abbrev pub UpsAre : List Up → Type 0
UpsAre [] = Unit {0}
UpsAre (u ∷ us) = UpIs u × UpsAre us

pub record WorldIs (o : World) : Type 0 where
  pub pre : TasksAre o.pre
  pub post : TasksAre o.post
  pub ups : UpsAre o.ups
  pub before : TreesAre o.trees.before
  pub behind : TreesAre o.trees.behind

-- n is the number of operations
module _ (n : ℕ) where
  abbrev pub frame_weight : Frame → ℕ
  frame_weight f = (n + 1 - f.place) + (n + 2) * length f.life.noted

  abbrev pub frames_weight : List Frame → ℕ
  frames_weight [] = 0
  frames_weight (f ∷ fs) = frame_weight f + frames_weight fs

  abbrev pub thread_weight : Thread → ℕ
  thread_weight x = frame_weight x.frame + frames_weight x.below

  abbrev pub tasks_weight : List Task → ℕ
  tasks_weight [] = 0
  tasks_weight (t ∷ ts) = thread_weight t.thread + tasks_weight ts

  abbrev pub trees_weight : List (List Task) → ℕ
  trees_weight [] = 0
  trees_weight (ts ∷ tss) = tasks_weight ts + trees_weight tss

  abbrev pub after_weight : After → ℕ
  after_weight (resuming x v) = thread_weight x
  after_weight (closing w v) = 0
  after_weight (finishing w entry v) = 0

  abbrev pub up_weight : Up → ℕ
  up_weight (begins x k p gs number ls) = thread_weight x
  up_weight (branching x) = thread_weight x
  up_weight (spawning x entry ps qs) = thread_weight x + (tasks_weight ps + tasks_weight qs)
  up_weight (clearing a ts) = after_weight a + tasks_weight ts

  abbrev pub ups_weight : List Up → ℕ
  ups_weight [] = 0
  ups_weight (u ∷ us) = up_weight u + ups_weight us

  abbrev pub others_weight : List Task → List Task → List Up → Trees → ℕ
  others_weight pre post us trees =
      tasks_weight pre + tasks_weight post + ups_weight us + trees_weight trees.before + trees_weight trees.behind

  abbrev pub world_weight : World → ℕ
  world_weight o = others_weight o.pre o.post o.ups o.trees

  abbrev pub steps_weight : State → ℕ
  steps_weight s = s.clock.left * (2 * n + 4)

  abbrev pub weight : Machine → ℕ
  weight m = steps_weight m.state + frame_weight m.frame + frames_weight m.below + world_weight m.world

  -- the machine goes on with less than w, or no task runs and it is no heavier, or the run is over
  abbrev pub IsLow : ℕ → Step → Type 0
  IsLow w (Over e s) = Unit {0}
  IsLow w (Next m) = (weight m < w) × (FrameIs m.frame × (FramesAre m.below × WorldIs m.world))
  IsLow w (Turn s tss) = (steps_weight s + trees_weight tss < w) × TreesAre tss

  pub record Low (w : ℕ) (q : Step) : Type 0 where
    pub holds : IsLow w q

  pub over : {w : ℕ} {e : Ending} {s : State} → Low w (Over e s)
  over = record { holds = tt }

  pub low_more : (v w : ℕ) (q : Step) → v ≤ w → Low v q → Low w q
  low_more v w (Over e s) le l = record { holds = tt }
  low_more v w (Next m) le l = record { holds = (omega (arith, l.holds.0, le), l.holds.1) }
  low_more v w (Turn s tss) le l = record { holds = (omega (arith, l.holds.0, le), l.holds.1) }

  -- lists
  pub onto_weight : (xs ts : List Task) → tasks_weight (onto xs ts) ≡ tasks_weight xs + tasks_weight ts
  onto_weight [] ts = omega arith
  onto_weight (x ∷ xs) ts = omega (arith, onto_weight xs (x ∷ ts))

  pub tasks_more : (xs ts : List Task) → tasks_weight (xs ++ ts) ≡ tasks_weight xs + tasks_weight ts
  tasks_more [] ts = omega arith
  tasks_more (x ∷ xs) ts = omega (arith, tasks_more xs ts)

  pub trees_more : (xs ts : List (List Task)) → trees_weight (xs ++ ts) ≡ trees_weight xs + trees_weight ts
  trees_more [] ts = omega arith
  trees_more (x ∷ xs) ts = omega (arith, trees_more xs ts)

  pub inserted_weight : (t : Task) (ts : List Task) → tasks_weight (inserted t ts) ≡ thread_weight t.thread + tasks_weight ts
  inserted_weight t [] = refl
  inserted_weight t (x ∷ xs) =
      cond_both (starts t.thread.who.path x.thread.who.path) (x ∷ inserted t xs) (t ∷ x ∷ xs) (λ z. tasks_weight z ≡ thread_weight
      t.thread + tasks_weight (x ∷ xs))
      (λ e. omega (arith, inserted_weight t xs)) (λ e. refl)

  split_before : (b : Bool) (t : Task) (xs ys ts : List Task) → tasks_weight xs + tasks_weight ys ≡ tasks_weight ts →
      tasks_weight (cond b xs (t ∷ xs)) + tasks_weight (cond b (inserted t ys) ys) ≡ thread_weight t.thread + tasks_weight ts
  split_before true t xs ys ts e = omega (arith, e, inserted_weight t ys)
  split_before false t xs ys ts e = omega (arith, e)

  split_behind : (b : Bool) (t : Task) (xs ys ts : List Task) → tasks_weight xs + tasks_weight ys ≡ tasks_weight ts →
      tasks_weight (cond b xs (t ∷ xs)) + tasks_weight (cond b (t ∷ ys) ys) ≡ thread_weight t.thread + tasks_weight ts
  split_behind true t xs ys ts e = omega (arith, e)
  split_behind false t xs ys ts e = omega (arith, e)

  pub without_before : (f : List ℕ → Bool) (ts : List Task) →
      tasks_weight (without f ts) + tasks_weight (gone_before f ts) ≡ tasks_weight ts
  without_before f [] = refl
  without_before f (t ∷ ts) = split_before (f t.thread.who.path) t (without f ts) (gone_before f ts) ts (without_before f ts)

  pub without_behind : (f : List ℕ → Bool) (ts : List Task) →
      tasks_weight (without f ts) + tasks_weight (gone_behind f ts) ≡ tasks_weight ts
  without_behind f [] = refl
  without_behind f (t ∷ ts) = split_behind (f t.thread.who.path) t (without f ts) (gone_behind f ts) ts (without_behind f ts)

pub onto_are : (xs ts : List Task) → TasksAre xs → TasksAre ts → TasksAre (onto xs ts)
onto_are [] ts a b = b
onto_are (x ∷ xs) ts a b = onto_are xs (x ∷ ts) a.1 (a.0, b)

pub tasks_are : (xs ts : List Task) → TasksAre xs → TasksAre ts → TasksAre (xs ++ ts)
tasks_are [] ts a b = b
tasks_are (x ∷ xs) ts a b = (a.0, tasks_are xs ts a.1 b)

pub trees_are : (xs ts : List (List Task)) → TreesAre xs → TreesAre ts → TreesAre (xs ++ ts)
trees_are [] ts a b = b
trees_are (x ∷ xs) ts a b = (a.0, trees_are xs ts a.1 b)

pub inserted_are : (t : Task) (ts : List Task) → ThreadIs t.thread → TasksAre ts → TasksAre (inserted t ts)
inserted_are t [] a b = (a, b)
inserted_are t (x ∷ xs) a b =
    cond_both (starts t.thread.who.path x.thread.who.path) (x ∷ inserted t xs) (t ∷ x ∷ xs) TasksAre (λ e. (b.0, inserted_are t xs a b.1))
    (λ e. (a, b))

pub without_are : (f : List ℕ → Bool) (ts : List Task) → TasksAre ts → TasksAre (without f ts)
without_are f [] a = a
without_are f (t ∷ ts) a =
    cond_both (f t.thread.who.path) (without f ts) (t ∷ without f ts) TasksAre (λ e. without_are f ts a.1) (λ e. (
      a.0,
      without_are f ts
          a.1,
    ))

pub gone_before_are : (f : List ℕ → Bool) (ts : List Task) → TasksAre ts → TasksAre (gone_before f ts)
gone_before_are f [] a = a
gone_before_are f (t ∷ ts) a =
    cond_both (f t.thread.who.path) (inserted t (gone_before f ts)) (gone_before f ts) TasksAre (λ e. inserted_are t (gone_before f ts)
    a.0 (gone_before_are f ts a.1)) (λ e. gone_before_are f ts a.1)

pub gone_behind_are : (f : List ℕ → Bool) (ts : List Task) → TasksAre ts → TasksAre (gone_behind f ts)
gone_behind_are f [] a = a
gone_behind_are f (t ∷ ts) a =
    cond_both (f t.thread.who.path) (t ∷ gone_behind f ts) (gone_behind f ts) TasksAre (λ e. (a.0, gone_behind_are f ts a.1)) (λ e.
    gone_behind_are f ts a.1)
