-- Births and numbers in every state of a run.
use Rattle.std.proofs.Common.{◌≡◌, ◌⊎◌, ℕ, List, [], ◌∷◌, ◌++◌, Option, Some, None, refl, ap, subst, ◌∙◌}
use Rattle.std.specs.Prelude.{ℤ, slice_get}
use mathlib.Core.Logic.{inl, inr}
use Rattle.std.proofs.lemmas.Bool.{cases_eq}
use Rattle.verse_code.specs.declared.codes.Func.{Func}
use Rattle.verse_code.specs.declared.codes.Code.{Code}
use Rattle.verse_value.specs.Val.{Val}
use Rattle.verse_meaning_state.specs.State.{State, begun}
use Rattle.verse_meaning_state.specs.Turns.{Stage, going, closed, broken, amiss, turns}
use Rattle.verse_code_machine.specs.Tasks.{Who, Thread, Task, Machine}
use Rattle.verse_code_machine.specs.Frames.{on_there}
use Rattle.verse_code_machine.specs.Ends.{woken_in}
use Rattle.verse_code_machine.specs.Runs.{step, Forest, turn_taken, main_starts, started, mach_after}
use Rattle.verse_code_machine_births.specs.Stages.{StageIs}
use Rattle.verse_code_machine_births.proofs.Kept.{is_new, new_root}
use Rattle.verse_code_machine_births.proofs.Ends.{others, spending_low, woken_in_low}
use Rattle.verse_code_machine_births.proofs.Acts.{there_low, act_low}
use Rattle.verse_code_machine_births.proofs.Running.{Invariant, started_is, turns_is}
use Rattle.verse_code_machine_births.proofs.Runs.{AnyArms}
use Rattle.run_save_shots.specs.Lists.{Each}
use Rattle.run_save_shots.proofs.Lists.{each_middle}
use Rattle.run_save_births.specs.Births.{births_of, KeepsBirth, NoChild, IsBorn, AreBorn}
use Rattle.run_save_births.specs.Everywhere.{FramesAre, TaskIs, BeginsIs, TasksAre, TreesAre, MachineIs, MachineApart, Stands}
use Rattle.run_save_births.specs.Everywhere.{Unborn, NotChild, TreesApart, StepApart}
use Rattle.run_save_births.specs.Laws.{OperationIsBorn, StageIsBorn, RunIsBorn, BirthsGoOn}
use Rattle.run_save_births.proofs.Kept.{frames_kept, Low, low_of}
use Rattle.run_save_births.proofs.Apart.{out, trees_lower, same_paths}

abbrev StageApart : List ℕ → ℕ → Stage Forest → Type 0
StageApart path n = StageIs (TreesApart path n)

step_low : (c : Code) (m : Machine) (T : Who → List ℕ → Type 0)
    (drops : (w : Who) (i k : ℕ) (ns : List ℕ) → T w (i ∷ k ∷ ns) → T w (k ∷ ns)) → MachineIs T m →
    Low T drops m.state.clock.left (step c m)
step_low c m T drops h =
    let l = m.state.clock.left in
    low_of T drops l (step c m) (there_low l (FramesAre T) AnyArms (TaskIs T) (BeginsIs T) (frames_kept T drops l)
    (slice_get c.ops m.frame.place) m.state _ (λ op. act_low l (FramesAre T) AnyArms (TaskIs T) (BeginsIs T)
    (frames_kept T drops l) m.who m.world m.state m.frame.life m.frame.place m.frame.handlers m.below refl h.frames
    h.world c op m.frame.locals m.frame.stack))

pub operation_is_born : OperationIsBorn
operation_is_born c path n m a = out path n m.state.clock.left (step c m) (λ T. MachineIs T m) (step_low c m) a

module _ (path : List ℕ) (n : ℕ) where
  woken_apart : (i : ℕ) (v : Val) (s : State) (tss : Forest) → TreesApart path n s.clock.left tss → StepApart path n (woken_in i v [] tss s)
  woken_apart i v s tss a = out path n s.clock.left (woken_in i v [] tss s) (λ T. TreesAre T tss)
      (λ T drops h. low_of T drops s.clock.left (woken_in i v [] tss s)
      (woken_in_low s.clock.left (FramesAre T) AnyArms (TaskIs T) (BeginsIs T) (frames_kept T drops s.clock.left) i v [] tss s refl tt h)) a

  main_apart : (ns : List ℤ) (steps : ℕ) (f : Option Func) →
      StepApart path n (on_there f (begun steps) (λ f. main_starts ns (begun steps) f))
  main_apart ns steps f = out path n steps (on_there f (begun steps) (λ f. main_starts ns (begun steps) f)) (λ T. Unit {0})
      (λ T drops h. low_of T drops steps _ (there_low steps (FramesAre T) AnyArms (TaskIs T) (BeginsIs T) (frames_kept T drops steps) f
      (begun steps) _
      (λ (f : Func). spending_low steps (FramesAre T) AnyArms (TaskIs T) (BeginsIs T) (frames_kept T drops steps) steps (begun steps) _ refl
      (λ l d. record {
        holds = (
          new_root d is_new,
          others steps (FramesAre T) AnyArms (TaskIs T) (BeginsIs T) (frames_kept T drops steps) tt tt tt tt tt,
        );
      })))) (inl tt)

  invariant : (c : Code) → Invariant c (TreesApart path n) (MachineApart path n)
  invariant c = record {
    operates = operation_is_born c path n;
    wakes = woken_apart;
    fewer = λ l k tss e a. trees_lower path n l k tss e a;
  }

  turns_apart : (c : Code) (steps until k : ℕ) (g : Stage Forest) → StageApart path n g →
      StageApart path n (turns (turn_taken c steps until) k g)
  turns_apart c = turns_is c (TreesApart path n) (MachineApart path n) (invariant c)

  started_apart : (c : Code) (ns : List ℤ) (steps : ℕ) → StageApart path n (started c ns steps)
  started_apart c ns steps =
      started_is c (TreesApart path n) (MachineApart path n) (invariant c) steps _ (main_apart ns steps (slice_get c.functions c.main))

-- ---- for all paths and numbers

module _ (left : ℕ) (tss : Forest) where
  -- from what holds of each task to what holds of all, for one path and number
  module _ (path : List ℕ) (n : ℕ) where
    abbrev Other : List ℕ → Type 0
    Other ns = Each (λ k. k ≡ n → ⊥) ns

    births_differ : (ns : List ℕ) → Each (NoChild tss path) ns → Other ns ⊎ NoChild tss path n
    births_differ [] a = inl tt
    births_differ (k ∷ ns) a = by_number (cases_eq k n) (births_differ ns a.1)
      where
        by_number : (k ≡ n) ⊎ (k ≡ n → ⊥) → Other ns ⊎ NoChild tss path n → Other (k ∷ ns) ⊎ NoChild tss path n
        by_number (inl e) h = inr (subst (NoChild tss path) e a.0)
        by_number (inr f) (inl h) = inl (f, h)
        by_number (inr f) (inr h) = inr h

    stands_of : (x : Thread) → IsBorn left tss x → Stands left x.who (births_of x)
    stands_of x a = record { rises = a.rises; above = a.above }

    task_apart : (x : Thread) → IsBorn left tss x → Unborn path n left x.who (births_of x) ⊎ NoChild tss path n
    task_apart x a = by_path (same_paths x.who.path path)
      where
        by_births : Other (births_of x) ⊎ NoChild tss path n → Unborn path n left x.who (births_of x) ⊎ NoChild tss path n
        by_births (inl h) = inl (record { stands = stands_of x a; other = λ e. h })
        by_births (inr h) = inr h

        by_path : (x.who.path ≡ path) ⊎ (x.who.path ≡ path → ⊥) → Unborn path n left x.who (births_of x) ⊎ NoChild tss path n
        by_path (inl e) = by_births (births_differ (births_of x) (subst (λ p. Each (NoChild tss p) (births_of x)) e a.apart))
        by_path (inr f) = inl (record { stands = stands_of x a; other = λ e. absurd (f e) })

    tasks_apart : (ts : List Task) → Each (λ (t : Task). IsBorn left tss t.thread) ts → TasksAre (Unborn path n left) ts ⊎
        NoChild tss path n
    tasks_apart [] a = inl tt
    tasks_apart (t ∷ ts) a = both (task_apart t.thread a.0) (tasks_apart ts a.1)
      where
        both : Unborn path n left t.thread.who (births_of t.thread) ⊎ NoChild tss path n → TasksAre (Unborn path n left) ts ⊎
            NoChild tss path n → TasksAre (Unborn path n left) (t ∷ ts) ⊎ NoChild tss path n
        both (inl x) (inl y) = inl ((x, a.0.keeps), y)
        both (inl x) (inr y) = inr y
        both (inr x) y = inr x

    all_apart : (uss : Forest) → Each (Each (λ (t : Task). IsBorn left tss t.thread)) uss → TreesAre (Unborn path n left) uss ⊎
        NoChild tss path n
    all_apart [] a = inl tt
    all_apart (ts ∷ uss) a = both (tasks_apart ts a.0) (all_apart uss a.1)
      where
        both : TasksAre (Unborn path n left) ts ⊎ NoChild tss path n → TreesAre (Unborn path n left) uss ⊎ NoChild tss path n →
            TreesAre (Unborn path n left) (ts ∷ uss) ⊎ NoChild tss path n
        both (inl x) (inl y) = inl (x, y)
        both (inl x) (inr y) = inr y
        both (inr x) y = inr x

    tasks_not : (ts : List Task) → Each (λ (t : Task). IsBorn left tss t.thread) ts →
        Each (λ (t : Task). t.thread.who.path ≡ path ++ n ∷ [] → ⊥) ts → TasksAre (NotChild path n left) ts
    tasks_not [] a b = tt
    tasks_not (t ∷ ts) a b = ((record { stands = stands_of t.thread a.0; other = b.0 }, a.0.keeps), tasks_not ts a.1 b.1)

    trees_not : (uss : Forest) → Each (Each (λ (t : Task). IsBorn left tss t.thread)) uss → NoChild uss path n →
        TreesAre (NotChild path n left) uss
    trees_not [] a b = tt
    trees_not (ts ∷ uss) a b = (tasks_not ts a.0 b.0, trees_not uss a.1 b.1)

    pub from_born : AreBorn left tss → TreesApart path n left tss
    from_born a = by_all (all_apart tss a)
      where
        by_all : TreesAre (Unborn path n left) tss ⊎ NoChild tss path n → TreesApart path n left tss
        by_all (inl x) = inl x
        by_all (inr x) = inr (trees_not tss a x)

    -- and back
    not_tasks : (ts : List Task) → TasksAre (NotChild path n left) ts → Each (λ (t : Task). t.thread.who.path ≡ path ++ n ∷ [] → ⊥) ts
    not_tasks [] a = tt
    not_tasks (t ∷ ts) a = (a.0.0.other, not_tasks ts a.1)

    not_trees : (uss : Forest) → TreesAre (NotChild path n left) uss → NoChild uss path n
    not_trees [] a = tt
    not_trees (ts ∷ uss) a = (not_tasks ts a.0, not_trees uss a.1)

  pub trees_each : (T : Who → List ℕ → Type 0) (uss : Forest) → TreesAre T uss →
      Each (Each (λ (t : Task). T t.thread.who (births_of t.thread) × Each KeepsBirth (t.thread.frame ∷ t.thread.below))) uss
  trees_each T [] a = tt
  trees_each T (ts ∷ uss) a = (tasks_each ts a.0, trees_each T uss a.1)
    where
      tasks_each : (ts : List Task) → TasksAre T ts →
          Each (λ (t : Task). T t.thread.who (births_of t.thread) × Each KeepsBirth (t.thread.frame ∷ t.thread.below)) ts
      tasks_each [] a = tt
      tasks_each (t ∷ ts) a = (a.0, tasks_each ts a.1)

  module _ (apart : (path : List ℕ) (n : ℕ) → TreesApart path n left tss) where
    -- one task of the trees, and a birth of one of its frames
    birth_apart : (x : Thread) (ns ms : List ℕ) (k : ℕ) → births_of x ≡ ns ++ k ∷ ms →
        ((T : Who → List ℕ → Type 0) → TreesAre T tss → T x.who (births_of x)) → NoChild tss x.who.path k
    birth_apart x ns ms k e there = by_apart (apart x.who.path k)
      where
        no : Each (λ i. i ≡ k → ⊥) (births_of x) → ⊥
        no h = each_middle (λ i. i ≡ k → ⊥) ns k ms (subst (Each (λ i. i ≡ k → ⊥)) e h) refl

        by_apart : TreesApart x.who.path k left tss → NoChild tss x.who.path k
        by_apart (inl a) = absurd (no ((there (Unborn x.who.path k left) a).other refl))
        by_apart (inr a) = not_trees x.who.path k tss a

    births_apart : (x : Thread) (ns ms : List ℕ) → births_of x ≡ ns ++ ms →
        ((T : Who → List ℕ → Type 0) → TreesAre T tss → T x.who (births_of x)) → Each (NoChild tss x.who.path) ms
    births_apart x ns [] e there = tt
    births_apart x ns (k ∷ ms) e there = (birth_apart x ns ms k e there, births_apart x (ns ++ k ∷ []) ms (e ∙ further ns) there)
      where
        further : (ns : List ℕ) → ns ++ k ∷ ms ≡ (ns ++ k ∷ []) ++ ms
        further [] = refl
        further (i ∷ ns) = ap (λ xs. i ∷ xs) (further ns)

    thread_born : (x : Thread) → ((T : Who → List ℕ → Type 0) → TreesAre T tss → T x.who (births_of x) ×
        Each KeepsBirth (x.frame ∷ x.below)) → IsBorn left tss x
    thread_born x there = record {
      rises = stands.rises;
      keeps = keeps (apart [] 0);
      above = stands.above;
      apart = births_apart x [] (births_of x) refl (λ T a. (there T a).0);
    }
      where
        by_apart : TreesApart [] 0 left tss → Stands left x.who (births_of x)
        by_apart (inl a) = (there (Unborn [] 0 left) a).0.stands
        by_apart (inr a) = (there (NotChild [] 0 left) a).0.stands

        stands : Stands left x.who (births_of x)
        stands = by_apart (apart [] 0)

        keeps : TreesApart [] 0 left tss → Each KeepsBirth (x.frame ∷ x.below)
        keeps (inl a) = (there (Unborn [] 0 left) a).1
        keeps (inr a) = (there (NotChild [] 0 left) a).1

    abbrev Held : (Who → List ℕ → Type 0) → Task → Type 0
    Held T t = T t.thread.who (births_of t.thread) × Each KeepsBirth (t.thread.frame ∷ t.thread.below)

    tasks_born : (ts : List Task) → ((T : Who → List ℕ → Type 0) → TreesAre T tss → Each (Held T) ts) →
        Each (λ (t : Task). IsBorn left tss t.thread) ts
    tasks_born [] there = tt
    tasks_born (t ∷ ts) there = (thread_born t.thread (λ T a. (there T a).0), tasks_born ts (λ T a. (there T a).1))

    all_born : (uss : Forest) → ((T : Who → List ℕ → Type 0) → TreesAre T tss → Each (Each (Held T)) uss) →
        Each (Each (λ (t : Task). IsBorn left tss t.thread)) uss
    all_born [] there = tt
    all_born (ts ∷ uss) there = (tasks_born ts (λ T a. (there T a).0), all_born uss (λ T a. (there T a).1))

    pub to_born : AreBorn left tss
    to_born = all_born tss (λ T a. trees_each T tss a)

stage_born : (g : Stage Forest) → ((path : List ℕ) (n : ℕ) → StageApart path n g) → StageIsBorn g
stage_born (going s tss) a = to_born s.clock.left tss a
stage_born (closed e s tss) a = to_born s.clock.left tss a
stage_born (broken e s) a = tt
stage_born (amiss s) a = tt

pub run_is_born : RunIsBorn
run_is_born c ns steps until k = stage_born (mach_after c ns steps until k)
    (λ path n. turns_apart path n c steps until k (started c ns steps) (started_apart path n c ns steps))

pub births_go_on : BirthsGoOn
births_go_on c steps until k s tss a = stage_born (turns (turn_taken c steps until) k (going s tss))
    (λ path n. turns_apart path n c steps until k (going s tss) (from_born s.clock.left tss path n a))
