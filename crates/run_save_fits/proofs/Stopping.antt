-- At a horizon no wait that is left is due.
use Rattle.std.proofs.Common.{◌≡◌, ℕ, zero, suc, ◌<◌, List, [], ◌∷◌, ◌++◌, Option, Some, None, Bool, true, false, cond, nat_lt, refl, sym}
use Rattle.std.proofs.Common.{subst, arith}
use Rattle.std.proofs.lemmas.Bool.Decides.{nat_tests}
use Rattle.verse_code.specs.declared.codes.Code.{Code}
use Rattle.verse_value.specs.declared.runs.Ending.{Ending}
use Rattle.verse_value.specs.declared.runs.Ending.TheVariants as ending
use Rattle.verse_meaning_state.specs.State.{State, Given, spending, at_moment}
use Rattle.verse_meaning_state.specs.Waits.{Wait, due_of, Due, least, sooner_of}
use Rattle.verse_meaning_state.specs.Turns.{Stage, going, closed, broken, amiss, turn, turn_at, turns}
use Rattle.verse_meaning_state.proofs.Dues.{DueBehind, sooner_behind}
use Rattle.verse_code_machine.specs.Tasks.{Rest, asleep, group, Task, Step, Next, Over, Turn, waits_of, waits_with, tree_waits}
use Rattle.verse_code_machine.specs.Ends.{woken_in}
use Rattle.verse_code_machine.specs.Runs.{carried, room, Forest, stage_of, turn_taken}
use Rattle.run_save_shots.specs.Lists.{Each}
use Rattle.run_save_shots.proofs.Lists.{each_front, each_back}
use Rattle.run_save_fits.proofs.KeptTasks.{Behind_, RestLate}

abbrev AllBehind : ℕ → State → List Wait → Type 0
AllBehind m s ws = Each (λ (w : Wait). Behind_ m (due_of s w.number w.cause)) ws

of_behind : (m n : ℕ) (g : Option Given) (o : Option Due) → DueBehind m (sooner_of n g o) → Behind_ m g × DueBehind m o
of_behind m n None o h = (tt, h)
of_behind m n (Some g) o h = sooner_behind m n g o h

all_behind : (m : ℕ) (s : State) (ws : List Wait) → DueBehind m (least s ws) → AllBehind m s ws
all_behind m s [] h = tt
all_behind m s (w ∷ ws) h =
    let r = of_behind m w.number (due_of s w.number w.cause) (least s ws) h in (r.0, all_behind m s ws r.1)

-- of each task
abbrev pub TaskLate : ℕ → State → Task → Type 0
TaskLate m s t = RestLate m s t.rest

abbrev pub TreesLate : ℕ → State → Forest → Type 0
TreesLate m s tss = Each (λ ts. Each (TaskLate m s) ts) tss

one_late : (m : ℕ) (s : State) (q : Rest) (ws : List Wait) → AllBehind m s (waits_with q ws) →
    RestLate m s q × AllBehind m s ws
one_late m s (asleep w) ws a = a
one_late m s (group k p gs) ws a = (tt, a)

tasks_late : (m : ℕ) (s : State) (ts : List Task) → AllBehind m s (waits_of ts) → Each (TaskLate m s) ts
tasks_late m s [] a = tt
tasks_late m s (t ∷ ts) a = let h = one_late m s t.rest (waits_of ts) a in (h.0, tasks_late m s ts h.1)

trees_late : (m : ℕ) (s : State) (tss : Forest) → AllBehind m s (tree_waits tss) → TreesLate m s tss
trees_late m s [] a = tt
trees_late m s (ts ∷ tss) a = (
  tasks_late m s ts (each_front (λ (w : Wait). Behind_ m (due_of s w.number w.cause)) (waits_of ts) (tree_waits tss) a),
  trees_late m s tss (each_back (λ (w : Wait). Behind_ m (due_of s w.number w.cause)) (waits_of ts) (tree_waits tss) a),
)

-- a stage at the horizon
abbrev pub StageLate : ℕ → Stage Forest → Type 0
StageLate m (going s tss) = Unit {0}
StageLate m (closed e s tss) = e ≡ ending.Until → TreesLate m s tss
StageLate m (broken e s) = Unit {0}
StageLate m (amiss s) = Unit {0}

pub within_late : (m : ℕ) (q : Step) → StageLate m (stage_of q)
within_late m (Next k) = tt
within_late m (Over e s) = tt
within_late m (Turn s tss) = tt

module _ (c : Code) (steps m : ℕ) where
  spent_late : (left : ℕ) (s : State) (tss : Forest) (d : Due) →
      StageLate m (spending left s (closed ending.Steps s tss)
      (λ s. stage_of (carried c (room c steps) (woken_in d.number d.given.value [] tss (at_moment d.given.moment s)))))
  spent_late zero s tss d = λ e. cc
  spent_late (suc l) s tss d = within_late m _

  cond_late : (b : Bool) (s : State) (tss : Forest) (g : Stage Forest) → (b ≡ true → TreesLate m s tss) → StageLate m g →
      StageLate m (cond b (closed ending.Until s tss) g)
  cond_late true s tss g a b = λ e. a refl
  cond_late false s tss g a b = b

  due_late : (s : State) (tss : Forest) (o : Option Due) → (DueBehind m o → TreesLate m s tss) →
      StageLate m (turn_at m o s tss (λ due s. stage_of (carried c (room c steps) (woken_in due.number due.given.value [] tss s))))
  due_late s tss None f = λ e. cc
  due_late s tss (Some d) f = cond_late (nat_lt m d.given.moment) s tss _ (λ e. f (behind m d.given.moment e))
      (spent_late s.clock.left s tss d)
    where
      behind : (m n : ℕ) → nat_lt m n ≡ true → m < n
      behind m n e = grind (arith, nat_tests, e)

  taken_late : (s : State) (tss : Forest) (ws : List Wait) → (AllBehind m s ws → TreesLate m s tss) →
      StageLate m (turn m ws s tss (λ due s. stage_of (carried c (room c steps) (woken_in due.number due.given.value [] tss s))))
  taken_late s tss [] f = λ e. cc
  taken_late s tss (w ∷ ws) f = due_late s tss (least s (w ∷ ws)) (λ h. f (all_behind m s (w ∷ ws) h))

  pub turns_late : (k : ℕ) (g : Stage Forest) → StageLate m g → StageLate m (turns (turn_taken c steps m) k g)
  turns_late zero g a = a
  turns_late (suc k) (going s tss) a = turns_late k (turn_taken c steps m s tss) (taken_late s tss (tree_waits tss) (trees_late m s tss))
  turns_late (suc k) (closed e s tss) a = a
  turns_late (suc k) (broken e s) a = a
  turns_late (suc k) (amiss s) a = a
