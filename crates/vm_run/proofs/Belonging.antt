-- What belongs to a code goes on doing so.
use Rattle.std.proofs.Common.{◌≢◌, ℕ, zero, suc, List, [], ◌∷◌, ◌++◌, Option, Some, None, Bool, true, false, cond, nat_lt, refl}
use Rattle.std.specs.Prelude.{ℤ}
use Rattle.verse_code.specs.declared.codes.Class.{Class}
use Rattle.verse_code.specs.declared.codes.Code.{Code}
use Rattle.verse_code.specs.declared.codes.Func.{Func}
use Rattle.verse_value.specs.Val.{Val}
use Rattle.verse_value.specs.declared.runs.Ending.TheVariants as ending
use Rattle.verse_meaning_state.specs.State.{State, Memory, begun, spending, at_moment}
use Rattle.verse_meaning_state.specs.Waits.{Wait, Due, least, has}
use Rattle.verse_meaning_state.specs.Turns.{closed, amiss, turn, turn_at}
use Rattle.verse_code_machine.specs.Tasks.{Task, Trees, Who, World, Step, waits_of}
use Rattle.verse_code_machine.specs.Ends.{is_asleep, woken, woken_in}
use Rattle.verse_code_machine.specs.Runs.{Forest, main_starts}
use Rattle.verse_code_machine.specs.Belonging.{StoreBelongs, StateBelongs, TasksBelong, TreesBelong, StepBelongs, StageBelongs}
use Rattle.verse_code_machine.specs.Belonging.{OperationKeeps}
use Rattle.vm_frames.specs.Framed.{Framed}
use Rattle.vm_frames.specs.Machine.{frames_with}
use Rattle.vm_running.specs.Views.{View, Aside, state_of, memories}
use Rattle.vm_running.specs.Doings.{on_frame, going}
use Rattle.vm_running.specs.Comes.{done}
use Rattle.vm_step.specs.Steps.{steps}

module _ (cs : List Class) where
  either : (b : Bool) (p q : Step) → StepBelongs cs p → StepBelongs cs q → StepBelongs cs (cond b p q)
  either true p q a b = a
  either false p q a b = b

  woken_belongs : (n : ℕ) (v : Val) (pre post : List Task) (trees : Trees) (s : State) → StateBelongs cs s → TasksBelong cs pre →
      TasksBelong cs post → TreesBelong cs trees.before → TreesBelong cs trees.behind →
      StepBelongs cs (woken n v pre post trees s)
  woken_belongs n v pre [] trees s h a b before behind = h
  woken_belongs n v pre (y ∷ post) trees s h a b before behind =
      either (is_asleep n y.rest) _ _ (h, (b.0.0, (b.0.1, record { pre = a; post = b.1; ups = tt; before = before; behind = behind })))
      (woken_belongs n v (y ∷ pre) post trees s h (b.0, a) b.1 before behind)

  one_more : (tss : Forest) (ts : List Task) → TreesBelong cs tss → TasksBelong cs ts → TreesBelong cs (tss ++ ts ∷ [])
  one_more [] ts a b = (b, tt)
  one_more (xs ∷ tss) ts a b = (a.0, one_more tss ts a.1 b)

  pub woken_in_belongs : (n : ℕ) (v : Val) (before behind : Forest) (s : State) → StateBelongs cs s → TreesBelong cs before →
      TreesBelong cs behind → StepBelongs cs (woken_in n v before behind s)
  woken_in_belongs n v before [] s h a b = h
  woken_in_belongs n v before (ts ∷ behind) s h a b =
      either (has n (waits_of ts)) _ _ (woken_belongs n v [] ts (record { before = before; behind = behind }) s h tt b.0 a b.1)
      (woken_in_belongs n v (before ++ ts ∷ []) behind s h (one_more before ts a b.0) b.1)

  -- the state with which a turn begins
  spent_belongs : (left : ℕ) (d : Due) (s : State) (tss : Forest) → StateBelongs cs s → TreesBelong cs tss →
      StageBelongs cs (spending left s (closed ending.Steps s tss) (λ s. amiss (at_moment d.given.moment s)))
  spent_belongs zero d s tss a b = (a, b)
  spent_belongs (suc left) d s tss a b = a

  late_belongs : (late : Bool) (d : Due) (s : State) (tss : Forest) → StateBelongs cs s → TreesBelong cs tss →
      StageBelongs cs (cond late (closed ending.Until s tss)
      (spending s.clock.left s (closed ending.Steps s tss) (λ s. amiss (at_moment d.given.moment s))))
  late_belongs true d s tss a b = (a, b)
  late_belongs false d s tss a b = spent_belongs s.clock.left d s tss a b

  due_belongs : (until : ℕ) (d : Option Due) (s : State) (tss : Forest) → StateBelongs cs s → TreesBelong cs tss →
      StageBelongs cs (turn_at until d s tss (λ due s. amiss s))
  due_belongs until None s tss a b = (a, b)
  due_belongs until (Some d) s tss a b = late_belongs (nat_lt until d.given.moment) d s tss a b

  pub turn_belongs : (until : ℕ) (ws : List Wait) (s : State) (tss : Forest) → StateBelongs cs s → TreesBelong cs tss →
      StageBelongs cs (turn until ws s tss (λ due s. amiss s))
  turn_belongs until [] s tss a b = (a, b)
  turn_belongs until (w ∷ ws) s tss a b = due_belongs until (least s (w ∷ ws)) s tss a b

  pub main_belongs : (ns : List ℤ) (left : ℕ) (f : Func) → StepBelongs cs (main_starts ns (begun left) f)
  main_belongs ns zero f = tt
  main_belongs ns (suc left) f = (tt, (tt, (tt, record { pre = tt; post = tt; ups = tt; before = tt; behind = tt })))

  store_in : (fs : List Framed) (ms : List Memory) (w : Who) (x : World) (s : State) → fs ≢ [] →
      StepBelongs cs (on_frame (frames_with fs ms) s (going w x s)) → StoreBelongs cs s.memory.store
  store_in [] ms w x s some h = absurd (some refl)
  store_in (f ∷ fs) ms w x s some h = h.0

  -- of a task that runs
  pub store_belongs : (a : Aside) (w : Who) (x : World) (v : View) → v.frames ≢ [] → StepBelongs cs (done going a w x v) →
      StoreBelongs cs v.heap.cells
  store_belongs a w x v some h = store_in v.frames (memories a.past v.heap.copies v.trace.marks) w x (state_of a v) some h

module _ (c : Code) (law : OperationKeeps) where
  step_in : (fs : List Framed) (ms : List Memory) (w : Who) (x : World) (s : State) → fs ≢ [] →
      StepBelongs c.classes (on_frame (frames_with fs ms) s (going w x s)) →
      StepBelongs c.classes (on_frame (frames_with fs ms) s (steps c w x s))
  step_in [] ms w x s some h = absurd (some refl)
  step_in (f ∷ fs) ms w x s some h = law c _ h

  pub step_belongs : (a : Aside) (w : Who) (x : World) (v : View) → v.frames ≢ [] → StepBelongs c.classes (done going a w x v) →
      StepBelongs c.classes (done (steps c) a w x v)
  step_belongs a w x v some h = step_in v.frames (memories a.past v.heap.copies v.trace.marks) w x (state_of a v) some h
