-- What each operation keeps of all tasks holds in every state of a run.
use Rattle.std.proofs.Common.{◌≡◌, ◌≤◌, ℕ, zero, suc, List, [], ◌∷◌, Option, Some, None, Bool, true, false, cond, nat_lt, refl}
use Rattle.std.proofs.Common.{arith}
use Rattle.verse_code.specs.declared.codes.Code.{Code}
use Rattle.verse_value.specs.Val.{Val}
use Rattle.verse_value.specs.declared.runs.Ending.TheVariants as ending
use Rattle.verse_meaning_state.specs.State.{State, spending, stepped, at_moment}
use Rattle.verse_meaning_state.specs.Waits.{Wait, Due, least}
use Rattle.verse_meaning_state.specs.Turns.{Stage, going, closed, broken, amiss, turn, turn_at, turns}
use Rattle.verse_code_machine.specs.Tasks.{Machine, Step, Next, Over, Turn, tree_waits}
use Rattle.verse_code_machine.specs.Ends.{woken_in}
use Rattle.verse_code_machine.specs.Runs.{step, carried, room, Forest, stage_of, turn_taken}
use Rattle.verse_code_machine_births.specs.Stages.{StageIs, StepIs}

-- an operation keeps it, and so does a wait that is woken; and it holds too where fewer steps are left
pub record Invariant (c : Code) (OfTrees : ℕ → Forest → Type 0) (OfMachine : Machine → Type 0) : Type 0 where
  pub operates : (m : Machine) → OfMachine m → StepIs OfTrees OfMachine (step c m)
  pub wakes : (number : ℕ) (v : Val) (s : State) (tss : Forest) → OfTrees s.clock.left tss →
      StepIs OfTrees OfMachine (woken_in number v [] tss s)
  pub fewer : (l k : ℕ) (tss : Forest) → l ≤ k → OfTrees k tss → OfTrees l tss

module _ (c : Code) (OfTrees : ℕ → Forest → Type 0) (OfMachine : Machine → Type 0) (law : Invariant c OfTrees OfMachine) where
  abbrev Stage_is : Stage Forest → Type 0
  Stage_is = StageIs OfTrees

  abbrev Step_is : Step → Type 0
  Step_is = StepIs OfTrees OfMachine

  carried_is : (n : ℕ) (q : Step) → Step_is q → Step_is (carried c n q)
  carried_is zero q h = h
  carried_is (suc n) (Next m) h = carried_is n (step c m) (law.operates m h)
  carried_is (suc n) (Over e s) h = h
  carried_is (suc n) (Turn s tss) h = h

  stage_is : (q : Step) → Step_is q → Stage_is (stage_of q)
  stage_is (Next m) h = tt
  stage_is (Over e s) h = h
  stage_is (Turn s tss) h = h

  -- a run that begins with such a step
  pub started_is : (steps : ℕ) (q : Step) → Step_is q → Stage_is (stage_of (carried c (room c steps) q))
  started_is steps q h = stage_is _ (carried_is (room c steps) q h)

  spent_is : (steps left : ℕ) (s : State) (tss : Forest) (d : Due) → s.clock.left ≡ left → OfTrees s.clock.left tss →
      Stage_is (spending left s (closed ending.Steps s tss) (λ s. stage_of (carried c (room c steps) (woken_in
      d.number d.given.value [] tss (at_moment d.given.moment s)))))
  spent_is steps zero s tss d e h = h
  spent_is steps (suc l) s tss d e h =
      started_is steps _ (law.wakes d.number d.given.value (at_moment d.given.moment (stepped l s)) tss
      (law.fewer l s.clock.left tss (omega (arith, e)) h))

  late_is : (late : Bool) (g h : Stage Forest) → Stage_is g → Stage_is h → Stage_is (cond late g h)
  late_is true g h a b = a
  late_is false g h a b = b

  due_is : (steps until : ℕ) (s : State) (tss : Forest) (d : Option Due) → OfTrees s.clock.left tss →
      Stage_is (turn_at until d s tss (λ due s. stage_of (carried c (room c steps) (woken_in due.number
      due.given.value [] tss s))))
  due_is steps until s tss None h = h
  due_is steps until s tss (Some d) h =
      late_is (nat_lt until d.given.moment) _ _ h (spent_is steps s.clock.left s tss d refl h)

  turn_is : (steps until : ℕ) (s : State) (tss : Forest) (ws : List Wait) → OfTrees s.clock.left tss →
      Stage_is (turn until ws s tss (λ due s. stage_of (carried c (room c steps) (woken_in due.number
      due.given.value [] tss s))))
  turn_is steps until s tss [] h = h
  turn_is steps until s tss (w ∷ ws) h = due_is steps until s tss (least s (w ∷ ws)) h

  pub turns_is : (steps until k : ℕ) (g : Stage Forest) → Stage_is g → Stage_is (turns (turn_taken c steps until) k g)
  turns_is steps until zero g h = h
  turns_is steps until (suc k) (going s tss) h =
      turns_is steps until k (turn_taken c steps until s tss) (turn_is steps until s tss (tree_waits tss) h)
  turns_is steps until (suc k) (closed e s tss) h = h
  turns_is steps until (suc k) (broken e s) h = h
  turns_is steps until (suc k) (amiss s) h = h
