-- Trees of tasks that differ in their numbers alone: those beneath a path are paired, in one order.
use Rattle.std.specs.Prelude.{◌≡◌, ℕ, List, [], ◌∷◌, ◌++◌, Some, false, cond}
use Rattle.verse_meaning_state.specs.State.{State}
use Rattle.verse_meaning_state.specs.Waits.{nth}
use Rattle.verse_code_machine.specs.Tasks.{Frame, Who, Part, did, runs, Rest, asleep, group, Thread}
use Rattle.verse_code_machine.specs.Tasks.{Task, same_path}
use Rattle.verse_code_machine.specs.Runs.{Forest}
use Rattle.verse_code_machine_saved.specs.Numbers.{Pairs, Rising, NoneBelow}
use Rattle.verse_code_machine_saved.specs.Resuming.{SameTrees}

-- for each path of the first trees the pairs beneath it, and for each path of the others the one of
-- the first
module _ (f : List ℕ → Pairs) (first : List ℕ → List ℕ) where
  -- beneath the path a the number n, beneath b the number m
  pub record IsPair (a b : List ℕ) (n m : ℕ) : Type 0 where
    pub path : first b ≡ a
    pub front : Pairs
    pub back : Pairs
    pub is : f a ≡ front ++ (n, m) ∷ back

  -- paths that go on from a and from b
  abbrev pub PathsPaired : (a b x y : List ℕ) → Type 0
  PathsPaired a b [] [] = Unit {0}
  PathsPaired a b (n ∷ x) (m ∷ y) = IsPair a b n m × PathsPaired (a ++ n ∷ []) (b ++ m ∷ []) x y
  PathsPaired a b [] (m ∷ y) = ⊥
  PathsPaired a b (n ∷ x) [] = ⊥

  pub record WhoPaired (w v : Who) : Type 0 where
    pub path : PathsPaired [] [] w.path v.path
    pub up : PathsPaired [] [] w.up v.up
    pub number : IsPair w.up v.up w.number v.number
    pub role : w.role ≡ v.role

  -- no frame has a handler
  pub record FramePaired (a b : List ℕ) (g h : Frame) : Type 0 where
    pub born : IsPair a b g.life.born h.life.born
    pub defers : g.life.defers ≡ h.life.defers
    pub noted : g.life.noted ≡ h.life.noted
    pub locals : g.locals ≡ h.locals
    pub stack : g.stack ≡ h.stack
    pub place : g.place ≡ h.place
    pub bare : g.handlers ≡ []
    pub other_bare : h.handlers ≡ []

  abbrev pub FramesPaired : (a b : List ℕ) → List Frame → List Frame → Type 0
  FramesPaired a b [] [] = Unit {0}
  FramesPaired a b (g ∷ gs) (h ∷ hs) = FramePaired a b g h × FramesPaired a b gs hs
  FramesPaired a b [] (h ∷ hs) = ⊥
  FramesPaired a b (g ∷ gs) [] = ⊥

  pub record ThreadPaired (x y : Thread) : Type 0 where
    pub who : WhoPaired x.who y.who
    pub frame : FramePaired x.who.path y.who.path x.frame y.frame
    pub below : FramesPaired x.who.path y.who.path x.below y.below

  abbrev pub PartPaired : (a b : List ℕ) → Part → Part → Type 0
  PartPaired a b (did v) (did w) = v ≡ w
  PartPaired a b (runs n) (runs m) = IsPair a b n m
  PartPaired a b (did v) (runs m) = ⊥
  PartPaired a b (runs n) (did w) = ⊥

  abbrev pub PartsPaired : (a b : List ℕ) → List Part → List Part → Type 0
  PartsPaired a b [] [] = Unit {0}
  PartsPaired a b (g ∷ gs) (h ∷ hs) = PartPaired a b g h × PartsPaired a b gs hs
  PartsPaired a b [] (h ∷ hs) = ⊥
  PartsPaired a b (g ∷ gs) [] = ⊥

  abbrev pub RestPaired : (a b : List ℕ) → Rest → Rest → Type 0
  RestPaired a b (asleep w) (asleep v) = w ≡ v
  RestPaired a b (group k p gs) (group j q hs) = (k ≡ j) × (p ≡ q) × PartsPaired a b gs hs
  RestPaired a b (asleep w) (group j q hs) = ⊥
  RestPaired a b (group k p gs) (asleep v) = ⊥

  pub record TaskPaired (t u : Task) : Type 0 where
    pub thread : ThreadPaired t.thread u.thread
    pub rest : RestPaired t.thread.who.path u.thread.who.path t.rest u.rest

  abbrev pub TasksPaired : List Task → List Task → Type 0
  TasksPaired [] [] = Unit {0}
  TasksPaired (t ∷ ts) (u ∷ us) = TaskPaired t u × TasksPaired ts us
  TasksPaired [] (u ∷ us) = ⊥
  TasksPaired (t ∷ ts) [] = ⊥

  abbrev pub TreesPaired : Forest → Forest → Type 0
  TreesPaired [] [] = Unit {0}
  TreesPaired (ts ∷ tss) (us ∷ uss) = TasksPaired ts us × TreesPaired tss uss
  TreesPaired [] (us ∷ uss) = ⊥
  TreesPaired (ts ∷ tss) [] = ⊥

-- such trees come to the same under two numberings, so either can be resumed
abbrev pub TreesMeet : Type 0
TreesMeet = (f : List ℕ → Pairs) (first : List ℕ → List ℕ) (s : State) (tss uss : Forest) →
    ((a : List ℕ) → Rising (f a)) → ((a : List ℕ) → NoneBelow s.clock.left (f a)) →
    TreesPaired f first tss uss → SameTrees s tss uss

-- a task's path in both, and the pairs beneath it
pub record Entry : Type 0 where
  pub path : List ℕ
  pub other : List ℕ
  pub pairs : Pairs

-- of the entry with the path
abbrev pub pairs_at : List Entry → List ℕ → Pairs
pairs_at [] a = []
pairs_at (e ∷ es) a = cond (same_path e.path a) e.pairs (pairs_at es a)

abbrev pub path_at : List Entry → List ℕ → List ℕ
path_at [] b = []
path_at (e ∷ es) b = cond (same_path e.other b) e.path (path_at es b)

-- no two entries have one path
abbrev pub IsAlone : Entry → List Entry → Type 0
IsAlone e [] = Unit {0}
IsAlone e (d ∷ ds) = (same_path e.path d.path ≡ false) × (same_path e.other d.other ≡ false) ×
    IsAlone e ds

abbrev pub AreDistinct : List Entry → Type 0
AreDistinct [] = Unit {0}
AreDistinct (e ∷ es) = IsAlone e es × AreDistinct es

-- the pairs of each entry rise, and none is below the bound
abbrev pub AreOrdered : ℕ → List Entry → Type 0
AreOrdered bound [] = Unit {0}
AreOrdered bound (e ∷ es) = Rising e.pairs × NoneBelow bound e.pairs × AreOrdered bound es

-- the pairs of the entry at a place are pairs
abbrev pub TablePairs : Type 0
TablePairs = (es : List Entry) (i : ℕ) (e : Entry) (front back : Pairs) (n m : ℕ) → AreDistinct es →
    nth es i ≡ Some e → e.pairs ≡ front ++ (n, m) ∷ back →
    IsPair (pairs_at es) (path_at es) e.path e.other n m

-- so trees whose numbers are paired by a table of their tasks are such trees
abbrev pub TableMeets : Type 0
TableMeets = (es : List Entry) (s : State) (tss uss : Forest) → AreOrdered s.clock.left es →
    TreesPaired (pairs_at es) (path_at es) tss uss → SameTrees s tss uss
