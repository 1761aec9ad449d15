-- What is kept of a whole run that stopped fits its code.
use Rattle.std.proofs.Common.{◌≡◌, ℕ, suc, ◌+◌, ◌≤◌, length, map, reverse, List, [], ◌∷◌, ◌++◌, Option, Some, None, Bool, true, false}
use Rattle.std.proofs.Common.{cond}
use Rattle.std.proofs.Common.{refl, sym, subst, ap, ◌∙◌, arith}
use Rattle.std.specs.Prelude.{◌≢◌, decimal}
use Rattle.std.proofs.lemmas.List.{length-append}
use Rattle.task_tree.specs.declared.tasks.Role as r
use Rattle.verse_base.specs.TraceLine.{line_bytes, escaped}
use Rattle.verse_code.specs.declared.codes.Code.{Code}
use Rattle.verse_code.specs.Validity.{Valid}
use Rattle.verse_value.specs.Store.{Cell}
use Rattle.verse_value.specs.Runs.{Line}
use Rattle.verse_value.specs.declared.runs.Ending.TheVariants as ending
use Rattle.verse_meaning_state.specs.State.{State}
use Rattle.verse_meaning_state.specs.Waits.{eqn, ltn, nth}
use Rattle.verse_meaning_state.specs.Effects.{printed, printed_by}
use Rattle.verse_meaning_state.specs.Turns.{Stage, going, closed, turns}
use Rattle.verse_code_machine.specs.Tasks.{Frame, Rest, asleep, group, Task, same_path}
use Rattle.verse_code_machine.specs.Runs.{Forest, turn_taken, started, mach_after}
use Rattle.verse_code_machine.specs.Belonging.{StoreBelongs, StageBelongs, RunBelongs}
use Rattle.verse_code_machine_parents.specs.Parents.{whos, Rooted, TreesRooted}
use Rattle.run_save_shots.specs.Lists.{count, Each, EachTwo, AreDistinct, Reordered, no_elements, one_more}
use Rattle.run_save_shots.specs.Kept as k
use Rattle.run_save_shots.specs.Kept.{KeptFrame, KeptTask, Kept}
use Rattle.run_save_shots.specs.Fitting.{ValuesFit, GivenFits, TaskFits, waits_in, frames_in, is_root}
use Rattle.run_save_shots.specs.Keeping as kp
use Rattle.run_save_shots.specs.Keeping.{behind_parent, walked, walk, kept, Spells}
use Rattle.verse_base.specs.declared.limits.TheConstants.{MOST_STEPS, MOST_NOW}
use Rattle.verse_meaning_state.proofs.Numbers.{eqn_same}
use Rattle.run_save_shots.proofs.Lists.{each_join, each_front, each_back, all_as, each_both, each_cond}
use Rattle.run_save_fits.specs.Held.{WhoIs, is_main, TaskFine, Savable, tasks_sum, trees_sum, one, is_wait, is_task_of, unfinished}
use Rattle.run_save_fits.specs.Laws.{FitsApart, StoppedRunFits, ResumedRunFits, StageSavable}
use Rattle.run_save_fits.proofs.KeptTasks.{each_map, RootRuns, RestLate, frames_number, task_fits}
use Rattle.run_save_fits.proofs.KeptOrder.{InWalk, walk_well, depths_fit, parents_fit, main_fits, roots_fit}
use Rattle.run_save_fits.proofs.Stopping.{TaskLate, TreesLate, StageLate, within_late, turns_late}
use Rattle.run_save_fits.proofs.Saved.{run_is_savable, savable_goes_on}
use Rattle.run_save_fits.proofs.Counted.{one_most}

-- ---- the tasks in their order

module _ (P : Task → Type 0) where
  pub behind_each : (y : Task) (xs : List Task) → P y → Each P xs → Each P (behind_parent y xs)
  behind_each y [] a b = (a, tt)
  behind_each y (x ∷ xs) a b =
      each_cond P (same_path y.thread.who.up x.thread.who.path) (x ∷ y ∷ xs) (x ∷ behind_parent y xs) (b.0, (a, b.1)) (
        b.0,
        behind_each y xs a b.1,
      )

  pub walked_each : (ys : List Task) → Each P ys → Each P (walked ys)
  walked_each [] a = tt
  walked_each (y ∷ ys) a = behind_each y (walked ys) a.0 (walked_each ys a.1)

  walk_each : (tss : Forest) → Each (λ ts. Each P ts) tss → Each P (walk tss)
  walk_each [] a = tt
  walk_each (ts ∷ tss) a = each_join P (walked ts) (walk tss) (walked_each ts a.0) (walk_each tss a.1)

pub reordered_each : {A : Type 0} (P : A → Type 0) {xs zs : List A} → Reordered xs zs → Each P xs → Each P zs
reordered_each P no_elements a = tt
reordered_each P (one_more {x = x} front back e o) a = let b = reordered_each P o a.1 in
    subst (Each P) (sym e) (each_join P front (x ∷ back) (each_front P front back b) (a.0, each_back P front back b))

module _ (f : Task → ℕ) where
  pub tasks_join : (xs ys : List Task) → tasks_sum f (xs ++ ys) ≡ tasks_sum f xs + tasks_sum f ys
  tasks_join [] ys = omega arith
  tasks_join (x ∷ xs) ys = let h = tasks_join xs ys in omega (arith, h)

  pub trees_join : (xs ys : Forest) → trees_sum f (xs ++ ys) ≡ trees_sum f xs + trees_sum f ys
  trees_join [] ys = omega arith
  trees_join (x ∷ xs) ys = let h = trees_join xs ys in omega (arith, h)

  pub cond_sum : (b : Bool) (xs ys : List Task) (n : ℕ) → tasks_sum f xs ≡ n → tasks_sum f ys ≡ n → tasks_sum f (cond b xs ys) ≡ n
  cond_sum true xs ys n a b = a
  cond_sum false xs ys n a b = b

  pub behind_sum : (y : Task) (xs : List Task) → tasks_sum f (behind_parent y xs) ≡ f y + tasks_sum f xs
  behind_sum y [] = refl
  behind_sum y (x ∷ xs) = let h = behind_sum y xs in cond_sum (same_path y.thread.who.up x.thread.who.path) (x ∷ y ∷ xs)
      (x ∷ behind_parent y xs) (f y + (f x + tasks_sum f xs)) (omega arith) (omega (arith, h))

  pub walked_sum : (ys : List Task) → tasks_sum f (walked ys) ≡ tasks_sum f ys
  walked_sum [] = refl
  walked_sum (y ∷ ys) = let h = walked_sum ys in let g = behind_sum y (walked ys) in omega (arith, h, g)

  walk_sum : (tss : Forest) → tasks_sum f (walk tss) ≡ trees_sum f tss
  walk_sum [] = refl
  walk_sum (ts ∷ tss) = let a = tasks_join (walked ts) (walk tss) in let b = walked_sum ts in let d = walk_sum tss in omega (arith, a, b, d)

  pub reordered_sum : {xs zs : Forest} → Reordered xs zs → trees_sum f zs ≡ trees_sum f xs
  reordered_sum no_elements = refl
  reordered_sum (one_more {x = x} {xs = xs} {zs = zs} front back e o) = let h = reordered_sum o in let a =
      trees_join front (x ∷ back) in let b = trees_join front
      back in let d = ap (trees_sum f) e in omega (arith, h, a, b, d)

  all_sum : {xs zs : Forest} → Reordered xs zs → tasks_sum f (walk zs) ≡ trees_sum f xs
  all_sum {zs = zs} o = walk_sum zs ∙ reordered_sum o

-- ---- what each task is in a sum

each_within : (n : ℕ) (f : ℕ → Task → ℕ) (bound : ℕ → ℕ) (ts : List Task) → ((e : ℕ) → tasks_sum (f e) ts ≤ bound e) →
    Each (λ (t : Task). (e : ℕ) → f e t ≤ bound e) ts
each_within n f bound [] a = tt
each_within n f bound (t ∷ ts) a = (
  (λ e. first (f e t) (tasks_sum (f e) ts) (bound e) (a e)),
  each_within n f bound ts (λ e. rest (f e t) (tasks_sum (f e) ts) (bound e) (a e)),
)
  where
    first : (a b c : ℕ) → a + b ≤ c → a ≤ c
    first a b c e = omega (arith, e)

    rest : (a b c : ℕ) → a + b ≤ c → b ≤ c
    rest a b c e = omega (arith, e)

-- ---- counts of what is kept

many : (ys zs : List Task) → length (map (kp.task ys) zs) ≡ tasks_sum (λ t. 1) zs
many ys [] = refl
many ys (z ∷ zs) = let h = many ys zs in omega (arith, h)

frames_are : (c : Code) (ys zs : List Task) → frames_in (map (kp.task ys) zs) ≡ tasks_sum (λ (t : Task). suc (length t.thread.below)) zs
frames_are c ys [] = refl
frames_are c ys (z ∷ zs) = let h = frames_are c ys zs in let a = frames_number c z in
    sums (length (kp.task ys z).frames) (suc (length z.thread.below)) (frames_in (map (kp.task ys) zs))
    (tasks_sum (λ (t : Task). suc (length t.thread.below)) zs) a h
  where
    sums : (a b m n : ℕ) → a ≡ b → m ≡ n → a + m ≡ b + n
    sums a b m n e f = omega (arith, e, f)

abbrev occurs : ℕ → List ℕ → ℕ
occurs n [] = 0
occurs n (m ∷ ms) = one (eqn n m) + occurs n ms

one_wait : (n : ℕ) (p : Option ℕ) (q : r.Role) (o : Option ℕ) (fs : List KeptFrame) (x : Rest) (ts : List KeptTask) →
    occurs n (waits_in (record { parent = p; role = q; root = o; frames = fs; rest = kp.rest x } ∷ ts)) ≡ is_wait n x +
    occurs n (waits_in ts)
one_wait n p q o fs (asleep w) ts = refl
one_wait n p q o fs (group k s gs) ts = omega arith

waits_are : (n : ℕ) (ys zs : List Task) → occurs n (waits_in (map (kp.task ys) zs)) ≡ tasks_sum (λ (t : Task). is_wait n t.rest) zs
waits_are n ys [] = refl
waits_are n ys (z ∷ zs) = let h = waits_are n ys zs in one_wait n (kp.task ys z).parent (kp.task ys z).role (kp.task ys z).root
    (kp.task ys z).frames z.rest (map (kp.task ys) zs) ∙ ap (λ i. is_wait n z.rest + i) h

apart : (m : ℕ) (ns : List ℕ) → occurs m ns ≤ 0 → Each (λ n. m ≢ n) ns
apart m [] h = tt
apart m (n ∷ ns) h = (
  (λ e. no (one (eqn m n)) (occurs m ns) h (subst (λ i. one (eqn m i) ≡ 1) e (ap one (eqn_same m)))),
  apart m ns (rest (one (eqn m n))
      (occurs m ns) h),
)
  where
    no : (a b : ℕ) → a + b ≤ 0 → a ≡ 1 → ⊥
    no a b e f = omega (arith, e, f)

    rest : (a b : ℕ) → a + b ≤ 0 → b ≤ 0
    rest a b e = omega (arith, e)

distinct : (ns : List ℕ) → ((n : ℕ) → occurs n ns ≤ 1) → AreDistinct ns
distinct [] a = tt
distinct (m ∷ ns) a = (
  apart m ns (others (one (eqn m m)) (occurs m ns) (ap one (eqn_same m)) (a m)),
  distinct ns (λ n. fewer (one (eqn n m)) (occurs n ns) (a n)),
)
  where
    others : (a b : ℕ) → a ≡ 1 → a + b ≤ 1 → b ≤ 0
    others a b e f = omega (arith, e, f)

    fewer : (a b : ℕ) → a + b ≤ 1 → b ≤ 1
    fewer a b e = omega (arith, e)

pub each_rooted : (left : ℕ) (tss : Forest) → TreesRooted left tss → Each (λ ts. Rooted left (whos ts)) tss
each_rooted left [] r = tt
each_rooted left (ts ∷ tss) r = (r.0, each_rooted left tss r.2)

-- ---- lines

pub line_long : (l : Line) → 1 ≤ length (line_bytes l.moment l.bytes)
line_long l = let a = length-append (decimal l.moment) (32 ∷ (escaped l.bytes ++ 10 ∷ [])) in
    long (length (decimal l.moment)) (length (escaped l.bytes ++ 10 ∷ [])) (length (line_bytes l.moment l.bytes)) a
  where
    long : (a b n : ℕ) → n ≡ a + suc b → 1 ≤ n
    long a b n e = omega (arith, e)

pub lines_few : (ls : List Line) → length ls ≤ length (printed ls)
lines_few [] = omega arith
lines_few (l ∷ ls) = more (length ls) (length (line_bytes l.moment l.bytes)) (length (printed ls)) (length (printed (l ∷ ls)))
    (length-append (line_bytes l.moment l.bytes) (printed ls)) (line_long l) (lines_few ls)
  where
    more : (n a b all : ℕ) → all ≡ a + b → 1 ≤ a → n ≤ b → suc n ≤ all
    more n a b all e f g = omega (arith, e, f, g)

at_most : (a b n : ℕ) → a ≡ b → b ≤ n → a ≤ n
at_most a b n e f = omega (arith, e, f)

module _ (c : Code) (steps until : ℕ) (few : steps ≤ MOST_STEPS) (short : until ≤ MOST_NOW) (s : State) (tss ordered : Forest)
    (o : Reordered tss ordered) (a : Savable c steps until s tss) (late : TreesLate until s tss)
    (belongs : StoreBelongs c.classes s.memory.store) where
  -- of each task in the order that is kept
  of_all : (P : Task → Type 0) → Each (λ ts. Each P ts) tss → Each P (walk ordered)
  of_all P b = walk_each P ordered (reordered_each (λ ts. Each P ts) o b)

  names : Each (λ (y : Task). WhoIs y.thread.who) (walk ordered)
  names = of_all (λ (y : Task). WhoIs y.thread.who)
      (all_as (λ ts. Each (TaskFine c a.scene s.clock.next) ts) (λ ts. Each (λ (y : Task). WhoIs y.thread.who) ts)
      (λ ts b. all_as (TaskFine c a.scene s.clock.next) (λ (y : Task). WhoIs y.thread.who) (λ y d. d.still.named) ts b) tss a.trees)

  roots_run : Each (RootRuns s.clock.results) (walk ordered)
  roots_run = each_within 0 (λ e (t : Task). is_task_of e t.thread.who.role) (λ e. unfinished (nth s.clock.results e)) (walk ordered)
      (λ e. at_most (tasks_sum (λ (t : Task). is_task_of e t.thread.who.role) (walk ordered)) _ _
      (all_sum (λ (t : Task). is_task_of e t.thread.who.role) o) (a.tasks_of e))

  frames_few : Each (λ (t : Task). (e : ℕ) → suc (length t.thread.below) ≤ s.clock.spent) (walk ordered)
  frames_few = each_within 0 (λ e (t : Task). suc (length t.thread.below)) (λ e. s.clock.spent) (walk ordered)
      (λ e. at_most (tasks_sum (λ (t : Task). suc (length t.thread.below)) (walk ordered)) _ _
      (all_sum (λ (t : Task). suc (length t.thread.below)) o) a.few_frames)

  well : InWalk [] (walk ordered)
  well = walk_well s.clock.left ordered (reordered_each (λ ts. Rooted s.clock.left (whos ts)) o (each_rooted s.clock.left tss a.rooted))

  tasks_fit : Each (λ y. TaskFits c (kept s ordered) (kp.task (walk ordered) y)) (walk ordered)
  tasks_fit = all_as (λ y. (TaskFine c a.scene s.clock.next y × RootRuns s.clock.results y) ×
      (TaskLate until s y × ((e : ℕ) → suc (length y.thread.below) ≤ s.clock.spent)))
      (λ y. TaskFits c (kept s ordered) (kp.task (walk ordered) y))
      (λ y b. task_fits c until a.scene s a.state ordered (walk ordered) y names b.0.0 b.0.1 b.1.0 (b.1.1 0)) (walk ordered)
      (each_both (λ y. TaskFine c a.scene s.clock.next y × RootRuns s.clock.results y)
      (λ y. TaskLate until s y × ((e : ℕ) → suc (length y.thread.below) ≤ s.clock.spent)) (walk ordered)
      (each_both (TaskFine c a.scene s.clock.next) (RootRuns s.clock.results) (walk ordered)
      (of_all (TaskFine c a.scene s.clock.next) a.trees) roots_run)
      (each_both (TaskLate until s) (λ (t : Task). (e : ℕ) → suc (length t.thread.below) ≤ s.clock.spent) (walk ordered)
      (of_all (TaskLate until s) late) frames_few))

  pub fits_apart : FitsApart c (kept s ordered)
  fits_apart = record {
    steps = at_most (s.clock.left + s.clock.spent) steps MOST_STEPS a.sum few;
    now = ends_early s.clock.now until MOST_NOW a.state.now short;
    next = a.few_waits;
    bytes = told s.clock.before.bytes a.scene.bytes (length (printed s.memory.trace)) _ a.state.fine.before a.state.fine.memory.told;
    lines = lines s.clock.before.lines s.clock.before.bytes (length s.memory.trace) (length (printed s.memory.trace)) a.before
        (lines_few s.memory.trace);
    few_entries = a.few_entries;
    few_tasks = at_most (length (map (kp.task (walk ordered)) (walk ordered))) _ _ (many (walk ordered) (walk ordered) ∙ all_sum (λ t. 1) o)
        a.few_tasks;
    cells = belongs;
    slots = subst (λ n. Each (λ (x : Cell). ValuesFit n x.slots) s.memory.store) (sym a.state.fine.entries) a.state.fine.memory.slots;
    weight = a.state.fine.memory.weight;
    spawned = subst (λ n. Each (GivenFits n) s.clock.results) (sym a.state.fine.entries) a.state.fine.results;
    tasks = each_map (TaskFits c (kept s ordered)) (kp.task (walk ordered)) (walk ordered) tasks_fit;
    waits = distinct (waits_in (map (kp.task (walk ordered)) (walk ordered)))
        (λ n. no_more (occurs n (waits_in (map (kp.task (walk ordered)) (walk ordered)))) _ (one (ltn n s.clock.next))
        (waits_are n (walk ordered) (walk ordered) ∙ all_sum (λ (t : Task). is_wait n t.rest) o) (a.waits n)
        (one_most (ltn n s.clock.next)));
    few_frames = at_most (frames_in (map (kp.task (walk ordered)) (walk ordered))) _ _
        (frames_are c (walk ordered) (walk ordered) ∙ all_sum (λ (t : Task). suc (length t.thread.below)) o) a.few_frames;
    parents = parents_fit (walk ordered) names well;
    main = at_most_main (count (is_root None) (map (kp.task (walk ordered)) (walk ordered))) _ _ (main_fits (walk ordered) names well)
        (all_sum (λ (t : Task). is_main t.thread.who.role) o) a.main;
    roots = roots_fit (walk ordered) names s.clock.results
        (λ e. same (tasks_sum (λ (t : Task). is_task_of e t.thread.who.role) (walk ordered)) _ _
        (all_sum (λ (t : Task). is_task_of e t.thread.who.role) o) (a.tasks_of e) (a.runs_of e));
    depths = depths_fit c (walk ordered);
  }
    where
      at_most_main : (a b k : ℕ) → a ≤ b → b ≡ k → k ≤ 1 → a ≤ 1
      at_most_main a b k e f g = omega (arith, e, f, g)

      same : (a b k : ℕ) → a ≡ b → b ≤ k → k ≤ b → a ≡ k
      same a b k e f g = omega (arith, e, f, g)

      ends_early : (n u v : ℕ) → n ≤ u → u ≤ v → n ≤ v
      ends_early n u v e f = omega (arith, e, f)

      told : (b x n most : ℕ) → b ≡ x → x + n ≤ most → b + n ≤ most
      told b x n most e f = omega (arith, e, f)

      lines : (l b n m : ℕ) → l ≤ b → n ≤ m → l + n ≤ b + m
      lines l b n m e f = omega (arith, e, f)

      no_more : (a b k : ℕ) → a ≡ b → b ≤ k → k ≤ 1 → a ≤ 1
      no_more a b k e f g = omega (arith, e, f, g)

module _ (c : Code) (steps until : ℕ) (few : steps ≤ MOST_STEPS) (short : until ≤ MOST_NOW) (s : State) (tss : Forest) (x : Kept) where
  fits_here : (g : Stage Forest) → g ≡ closed ending.Until s tss → StageSavable c steps until g → StageLate until g → StoreBelongs c.classes
      s.memory.store → Spells x s tss → FitsApart c x
  fits_here g e a l b y = subst (FitsApart c) (sym y.is)
      (fits_apart c steps until few short s tss y.ordered y.reordered (subst (StageSavable c steps until) e a)
      (subst (StageLate until) e l refl) b)

pub stopped_run_fits : RunBelongs → StoppedRunFits
stopped_run_fits belongs c ns steps until s tss x valid bytes inputs few short e y =
    fits_here c steps until few short s tss x (mach_after c ns steps until (suc steps)) e
    (run_is_savable c ns steps until (suc steps) valid bytes inputs short)
    (turns_late c steps until (suc steps) (started c ns steps) (within_late until _))
    (subst (StageBelongs c.classes) e (belongs c ns steps until (suc steps))).0 y

pub resumed_run_fits : ResumedRunFits
resumed_run_fits c steps u v k s t tss uss x valid bytes few le short a e b y =
    fits_here c steps v few short t uss x (turns (turn_taken c steps v) k (going s tss)) e
    (savable_goes_on c steps u v k s tss valid bytes le short a) (turns_late c steps v k (going s tss) tt) b y
