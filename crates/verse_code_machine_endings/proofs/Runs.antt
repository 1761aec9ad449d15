-- A run that is over before a turn, and one that is over within a turn.
use Rattle.std.proofs.Common.{ℕ, zero, suc, List, [], ◌∷◌, Option, Some, None, Bool, true, false, cond, nat_lt}
use Rattle.std.specs.Prelude.{ℤ, slice_get}
use Rattle.verse_code.specs.declared.codes.Func.{Func}
use Rattle.verse_code.specs.declared.codes.Code.{Code}
use Rattle.verse_value.specs.declared.runs.Ending.TheVariants as ending
use Rattle.verse_meaning_state.specs.State.{State, begun, spending, stepped, at_moment}
use Rattle.verse_meaning_state.specs.Waits.{Wait, Due, least}
use Rattle.verse_meaning_state.specs.Turns.{Stage, going, closed, broken, amiss, turn, turn_at, turns}
use Rattle.verse_code_machine.specs.Tasks.{Machine, Step, Next, Over, Turn, tree_waits}
use Rattle.verse_code_machine.specs.Frames.{on_there}
use Rattle.verse_code_machine.specs.Ends.{woken_in}
use Rattle.verse_code_machine.specs.Runs.{step, carried, room, Forest, stage_of, turn_taken, main_starts, started}
use Rattle.verse_code_machine_endings.specs.Endings.{EndsSo, RunsEndSo, RunsEndSoFrom}
use Rattle.verse_code_machine_endings.proofs.Inside.{Inside, act_in, spending_in, there_in, woken_ends_in}

record Right (g : Stage Forest) : Type 0 where
  holds : EndsSo g

right : {g : Stage Forest} → EndsSo g → Right g
right h = record { holds = h }

module _ (c : Code) where
  step_inside : (m : Machine) → Inside (step c m)
  step_inside m =
      there_in (slice_get c.ops m.frame.place) m.state _ (λ op. act_in c m.who m.world m.state m.frame.life m.frame.place m.frame.handlers
      m.below op m.frame.locals m.frame.stack)

  carried_inside : (n : ℕ) (q : Step) → Inside q → Inside (carried c n q)
  carried_inside zero q a = a
  carried_inside (suc n) (Next m) a = carried_inside n (step c m) (step_inside m)
  carried_inside (suc n) (Over e s) a = a
  carried_inside (suc n) (Turn s tss) a = a

  stage_right : (q : Step) → Inside q → Right (stage_of q)
  stage_right (Next m) a = right tt
  stage_right (Over e s) a = right a.holds
  stage_right (Turn s tss) a = right tt

  spent_right : (steps left : ℕ) (s : State) (tss : Forest) (d : Due) →
      Right (spending left s (closed ending.Steps s tss) (λ s. stage_of (carried c (room c steps) (woken_in d.number d.given.value [] tss
      (at_moment d.given.moment s)))))
  spent_right steps zero s tss d = right tt
  spent_right steps (suc l) s tss d =
      stage_right _ (carried_inside (room c steps) _ (woken_ends_in d.number d.given.value [] tss (at_moment d.given.moment (stepped l
      s))))

  late_right : (late : Bool) (g h : Stage Forest) → Right g → Right h → Right (cond late g h)
  late_right true g h a b = a
  late_right false g h a b = b

  due_right : (steps until : ℕ) (s : State) (tss : Forest) (d : Option Due) →
      Right (turn_at until d s tss (λ due s. stage_of (carried c (room c steps) (woken_in due.number due.given.value [] tss s))))
  due_right steps until s tss None = right tt
  due_right steps until s tss (Some d) =
      late_right (nat_lt until d.given.moment) _ _ (right tt) (spent_right steps s.clock.left s tss d)

  turn_right : (steps until : ℕ) (s : State) (tss : Forest) (ws : List Wait) →
      Right (turn until ws s tss (λ due s. stage_of (carried c (room c steps) (woken_in due.number due.given.value [] tss s))))
  turn_right steps until s tss [] = right tt
  turn_right steps until s tss (w ∷ ws) = due_right steps until s tss (least s (w ∷ ws))

  turns_right : (steps until k : ℕ) (g : Stage Forest) → Right g → Right (turns (turn_taken c steps until) k g)
  turns_right steps until zero g a = a
  turns_right steps until (suc k) (going s tss) a =
      turns_right steps until k (turn_taken c steps until s tss) (turn_right steps until s tss (tree_waits tss))
  turns_right steps until (suc k) (closed e s tss) a = a
  turns_right steps until (suc k) (broken e s) a = a
  turns_right steps until (suc k) (amiss s) a = a

  main_inside : (ns : List ℤ) (steps : ℕ) (f : Option Func) → Inside (on_there f (begun steps) (λ f. main_starts ns (begun steps) f))
  main_inside ns steps f =
      there_in f (begun steps) _ (λ (f : Func). spending_in steps (begun steps) _ (λ u. record { holds = tt }))

pub runs_end_so : RunsEndSo
runs_end_so c ns steps until k = (turns_right c steps until k (started c ns steps) (stage_right c _ (carried_inside c (room c steps) _
    (main_inside c ns steps (slice_get c.functions c.main))))).holds

pub runs_end_so_from : RunsEndSoFrom
runs_end_so_from c steps until k s tss = (turns_right c steps until k (going s tss) (right tt)).holds
