-- Every state of a run belongs to its code.
use Rattle.std.proofs.Common.{ℕ, zero, suc, List, [], ◌∷◌, Option, Some, None, Bool, true, false, cond, nat_lt, refl}
use Rattle.std.specs.Prelude.{ℤ, slice_get}
use Rattle.verse_code.specs.declared.codes.Func.{Func}
use Rattle.verse_code.specs.declared.codes.Code.{Code}
use Rattle.verse_value.specs.declared.runs.Ending.TheVariants as ending
use Rattle.verse_meaning_state.specs.State.{State, begun, spending, stepped, at_moment}
use Rattle.verse_meaning_state.specs.Waits.{Wait, Due, least}
use Rattle.verse_meaning_state.specs.Turns.{Stage, going, closed, broken, amiss, turn, turn_at}
use Rattle.verse_meaning_state.specs.Turns.{turns}
use Rattle.verse_code_machine.specs.Tasks.{Step, Next, Over, Turn, tree_waits}
use Rattle.verse_code_machine.specs.Frames.{on_there}
use Rattle.verse_code_machine.specs.Ends.{woken_in}
use Rattle.verse_code_machine.specs.Runs.{step, carried, room, Forest, stage_of, turn_taken, main_starts, started}
use Rattle.verse_code_machine.specs.Belonging.{StateBelongs, TreesBelong, StepBelongs, StageBelongs, OperationKeeps, RunBelongs}
use Rattle.verse_code_machine.proofs.BelongingEnds.{others, spending_low, woken_in_low}
use Rattle.verse_code_machine.proofs.BelongingActs.{there_low, act_low}

pub operation_keeps : OperationKeeps
operation_keeps c m a =
    (there_low c.classes (slice_get c.ops m.frame.place) m.state _ a.0 (λ op e. act_low c.classes m.who m.world m.state m.frame.life
    m.frame.place m.frame.handlers m.below a.0 a.1.0 a.1.1.0 a.1.1.1 c refl op
    m.frame.locals m.frame.stack)).holds

module _ (c : Code) where
  carried_belongs : (n : ℕ) (q : Step) → StepBelongs c.classes q → StepBelongs c.classes (carried c n q)
  carried_belongs zero q a = a
  carried_belongs (suc n) (Next m) a = carried_belongs n (step c m) (operation_keeps c m a)
  carried_belongs (suc n) (Over e s) a = a
  carried_belongs (suc n) (Turn s tss) a = a

  stage_belongs : (q : Step) → StepBelongs c.classes q → StageBelongs c.classes (stage_of q)
  stage_belongs (Next m) a = a.0
  stage_belongs (Over e s) a = a
  stage_belongs (Turn s tss) a = a

  spent_belongs : (steps left : ℕ) (s : State) (tss : Forest) (d : Due) → StateBelongs c.classes s → TreesBelong c.classes tss →
      StageBelongs c.classes (spending left s (closed ending.Steps s tss) (λ s. stage_of (carried c (room c steps) (woken_in d.number
      d.given.value [] tss (at_moment d.given.moment s)))))
  spent_belongs steps zero s tss d a b = (a, b)
  spent_belongs steps (suc l) s tss d a b =
      stage_belongs _ (carried_belongs (room c steps) _ (woken_in_low c.classes d.number d.given.value [] tss (at_moment d.given.moment
      (stepped l s)) a tt b).holds)

  late_belongs : (late : Bool) (g h : Stage Forest) → StageBelongs c.classes g → StageBelongs c.classes h →
      StageBelongs c.classes (cond late g h)
  late_belongs true g h a b = a
  late_belongs false g h a b = b

  due_belongs : (steps until : ℕ) (s : State) (tss : Forest) (d : Option Due) → StateBelongs c.classes s → TreesBelong c.classes tss →
      StageBelongs c.classes (turn_at until d s tss (λ due s. stage_of (carried c (room c steps) (woken_in due.number due.given.value []
      tss s))))
  due_belongs steps until s tss None a b = (a, b)
  due_belongs steps until s tss (Some d) a b =
      late_belongs (nat_lt until d.given.moment) _ _ (a, b) (spent_belongs steps s.clock.left s tss d a b)

  turn_belongs : (steps until : ℕ) (s : State) (tss : Forest) (ws : List Wait) → StateBelongs c.classes s → TreesBelong c.classes tss →
      StageBelongs c.classes (turn until ws s tss (λ due s. stage_of (carried c (room c steps) (woken_in due.number due.given.value [] tss
      s))))
  turn_belongs steps until s tss [] a b = (a, b)
  turn_belongs steps until s tss (w ∷ ws) a b = due_belongs steps until s tss (least s (w ∷ ws)) a b

  pub turns_belong : (steps until k : ℕ) (g : Stage Forest) → StageBelongs c.classes g →
      StageBelongs c.classes (turns (turn_taken c steps until) k g)
  turns_belong steps until zero g a = a
  turns_belong steps until (suc k) (going s tss) a =
      turns_belong steps until k (turn_taken c steps until s tss) (turn_belongs steps until s tss (tree_waits tss) a.0 a.1)
  turns_belong steps until (suc k) (closed e s tss) a = a
  turns_belong steps until (suc k) (broken e s) a = a
  turns_belong steps until (suc k) (amiss s) a = a

  main_belongs : (ns : List ℤ) (steps : ℕ) (f : Option Func) →
      StepBelongs c.classes (on_there f (begun steps) (λ f. main_starts ns (begun steps) f))
  main_belongs ns steps f =
      (there_low c.classes f (begun steps) _ tt (λ (f : Func) e. spending_low c.classes steps (begun steps) _ tt (λ l e. record {
        holds =
            (tt, (tt, (tt, others c.classes tt tt tt tt tt)));
      }))).holds

pub run_belongs : RunBelongs
run_belongs c ns steps until k =
    turns_belong c steps until k (started c ns steps) (stage_belongs c _ (carried_belongs c (room c steps) _ (main_belongs c ns steps
    (slice_get c.functions c.main))))
