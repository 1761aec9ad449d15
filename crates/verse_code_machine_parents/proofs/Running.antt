-- Parents stand in every state of a run.
use Rattle.std.proofs.Common.{◌≡◌, ℕ, zero, suc, ◌≤◌, List, [], ◌∷◌, Option, Some, None, Bool, true, false, cond, nat_lt, refl, sym, arith}
use Rattle.std.specs.Prelude.{ℤ, slice_get}
use Rattle.verse_code.specs.declared.codes.Func.{Func}
use Rattle.verse_code.specs.declared.codes.Code.{Code}
use Rattle.verse_value.specs.declared.runs.Ending.TheVariants as ending
use Rattle.verse_meaning_state.specs.State.{State, begun, spending, stepped, at_moment}
use Rattle.verse_meaning_state.specs.Waits.{Wait, Due, least}
use Rattle.verse_meaning_state.specs.Turns.{Stage, going, closed, broken, amiss, turn, turn_at, turns}
use Rattle.verse_code_machine.specs.Tasks.{Step, Next, Over, Turn, tree_waits}
use Rattle.verse_code_machine.specs.Ends.{woken_in}
use Rattle.verse_code_machine.specs.Runs.{step, carried, room, Forest, stage_of, turn_taken, main_starts, started}
use Rattle.verse_code_machine_parents.specs.Parents.{rooted_no, rooted_root, TreesRooted, StepRooted, StageRooted}
use Rattle.verse_code_machine_parents.specs.Parents.{OperationRoots, RunRoots}
use Rattle.verse_code_machine_parents.proofs.Lists.{no_both}
use Rattle.verse_code_machine_parents.proofs.Leaving.{trees_less, spending_low, one_less, runs_world, woken_in_low}
use Rattle.verse_code_machine_parents.proofs.Operating.{there_low, act_low}

pub operation_roots : OperationRoots
operation_roots c m r =
    (there_low (slice_get c.ops m.frame.place) m.state _ (λ op. act_low m.who m.world m.state m.frame.life m.frame.place m.frame.handlers
    m.below r.frames r.world c op m.frame.locals m.frame.stack)).holds

-- a wait is woken
pub woken_roots : (number : ℕ) (v : _) (s : State) (tss : Forest) → TreesRooted s.clock.left tss → StepRooted (woken_in number v [] tss s)
woken_roots number v s tss r = (woken_in_low number v [] tss s tt r).holds

pub main_roots : (ns : List ℤ) (steps : ℕ) (f : Func) → StepRooted (main_starts ns (begun steps) f)
main_roots ns steps f = (spending_low steps (begun steps) _ (λ l e. record {
  holds = record {
    frames = record { born = (refl, tt); mark = λ e. no_both (sym e) };
    world = runs_world (record {
      list = rooted_root refl refl (same l) rooted_no;
      follow = tt;
      ups = tt;
      others = record { pre_still = tt; post_still = tt; before = tt; behind = tt };
    });
  };
})).holds
  where
    same : (n : ℕ) → n ≤ n
    same n = omega arith

module _ (c : Code) where
  pub carried_roots : (n : ℕ) (q : Step) → StepRooted q → StepRooted (carried c n q)
  carried_roots zero q a = a
  carried_roots (suc n) (Next m) a = carried_roots n (step c m) (operation_roots c m a)
  carried_roots (suc n) (Over e s) a = a
  carried_roots (suc n) (Turn s tss) a = a

  pub stage_roots : (q : Step) → StepRooted q → StageRooted (stage_of q)
  stage_roots (Next m) a = tt
  stage_roots (Over e s) a = a
  stage_roots (Turn s tss) a = a

  spent_roots : (steps left : ℕ) (s : State) (tss : Forest) (d : Due) → s.clock.left ≡ left → TreesRooted s.clock.left tss →
      StageRooted (spending left s (closed ending.Steps s tss)
      (λ s. stage_of (carried c (room c steps) (woken_in d.number d.given.value [] tss (at_moment d.given.moment s)))))
  spent_roots steps zero s tss d e a = a
  spent_roots steps (suc l) s tss d e a =
      stage_roots _ (carried_roots (room c steps) _ (woken_roots d.number d.given.value (at_moment d.given.moment (stepped l s)) tss
      (trees_less tss (one_less e) a)))

  late_roots : (late : Bool) (g h : Stage Forest) → StageRooted g → StageRooted h → StageRooted (cond late g h)
  late_roots true g h a b = a
  late_roots false g h a b = b

  due_roots : (steps until : ℕ) (s : State) (tss : Forest) (d : Option Due) → TreesRooted s.clock.left tss → StageRooted (turn_at until d s
      tss (λ due s. stage_of (carried c (room c steps) (woken_in due.number due.given.value [] tss s))))
  due_roots steps until s tss None a = a
  due_roots steps until s tss (Some d) a =
      late_roots (nat_lt until d.given.moment) _ _ a (spent_roots steps s.clock.left s tss d refl a)

  pub turn_roots : (steps until : ℕ) (s : State) (tss : Forest) (ws : List Wait) → TreesRooted s.clock.left tss →
      StageRooted (turn until ws s tss (λ due s. stage_of (carried c (room c steps) (woken_in due.number due.given.value [] tss s))))
  turn_roots steps until s tss [] a = a
  turn_roots steps until s tss (w ∷ ws) a = due_roots steps until s tss (least s (w ∷ ws)) a

  turns_root : (steps until k : ℕ) (g : Stage Forest) → StageRooted g → StageRooted (turns (turn_taken c steps until) k g)
  turns_root steps until zero g a = a
  turns_root steps until (suc k) (going s tss) a =
      turns_root steps until k (turn_taken c steps until s tss) (turn_roots steps until s tss (tree_waits tss) a)
  turns_root steps until (suc k) (closed e s tss) a = a
  turns_root steps until (suc k) (broken e s) a = a
  turns_root steps until (suc k) (amiss s) a = a

pub run_roots : RunRoots
run_roots c ns steps until k =
    turns_root c steps until k (started c ns steps) (stage_roots c _ (carried_roots c (room c steps) _ (there_low (slice_get c.functions
    c.main) (begun steps) _ (λ (f : Func). record { holds = main_roots ns steps f })).holds))
