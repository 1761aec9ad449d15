-- In every state of a run the arms of a group began later than the frames of its task.
use Rattle.std.proofs.Common.{◌≡◌, ◌≤◌, ℕ, List, [], ◌∷◌, Option, Some, None, refl, sym, subst}
use Rattle.std.specs.Prelude.{ℤ, slice_get}
use Rattle.verse_code.specs.declared.codes.Func.{Func}
use Rattle.verse_code.specs.declared.codes.Code.{Code}
use Rattle.verse_value.specs.Val.{Val}
use Rattle.verse_meaning_state.specs.State.{State, begun}
use Rattle.verse_meaning_state.specs.Turns.{going}
use Rattle.verse_code_machine.specs.Tasks.{Frame, Who, Thread, Task, After, resuming, closing, finishing, Up}
use Rattle.verse_code_machine.specs.Tasks.{begins, branching, spawning, clearing, World, Machine, Step, Next, Over, Turn}
use Rattle.verse_code_machine.specs.Frames.{on_there}
use Rattle.verse_code_machine.specs.Ends.{woken_in}
use Rattle.verse_code_machine.specs.Runs.{step, Forest, main_starts, started}
use Rattle.verse_code_machine_births.specs.Births.{Anyone}
use Rattle.verse_code_machine_births.proofs.Kept.{is_new, new_root, comes_so}
use Rattle.verse_code_machine_births.proofs.Ends.{Low, others, spending_low, woken_in_low}
use Rattle.verse_code_machine_births.proofs.Acts.{there_low, act_low}
use Rattle.verse_code_machine_births.proofs.Running.{Invariant, started_is, turns_is}
use Rattle.verse_code_machine_births.proofs.Runs.{Least, Held, frames_so, fewer_so, same, comes_few, running_so}
use Rattle.run_save_groups.specs.Arms.{ThreadIs, TaskIs, BeginsIs, TasksAre, TreesAre, AfterIs, UpIs, UpsAre, WorldIs}
use Rattle.run_save_groups.specs.Arms.{MachineIs, StepIs}
use Rattle.run_save_groups.specs.Laws.{OperationKeepsArms, StageIs, RunKeepsArms, ArmsGoOn}
use Rattle.run_save_groups.proofs.Kept.{FramesIn, ArmsIn, arms_kept}

-- with fewer steps left
module _ (l k : ℕ) (h : l ≤ k) where
  thread_fewer : (x : Thread) → ThreadIs k x → ThreadIs l x
  thread_fewer x a = frames_so (Least k) (Least l) Anyone (λ born g. fewer_so l k born h g) (x.frame ∷ x.below) a

  tasks_fewer : (ts : List Task) → TasksAre k ts → TasksAre l ts
  tasks_fewer [] a = tt
  tasks_fewer (t ∷ ts) a = ((thread_fewer t.thread a.0.0, a.0.1), tasks_fewer ts a.1)

  trees_fewer : (tss : Forest) → TreesAre k tss → TreesAre l tss
  trees_fewer [] a = tt
  trees_fewer (ts ∷ tss) a = (tasks_fewer ts a.0, trees_fewer tss a.1)

  after_fewer : (x : After) → AfterIs k x → AfterIs l x
  after_fewer (resuming x v) a = thread_fewer x a
  after_fewer (closing w v) a = tt
  after_fewer (finishing w entry v) a = tt

  up_fewer : (u : Up) → UpIs k u → UpIs l u
  up_fewer (begins x j p gs n ls) a = (thread_fewer x a.0, a.1)
  up_fewer (branching x) a = thread_fewer x a
  up_fewer (spawning x entry ps qs) a = (thread_fewer x a.0, (tasks_fewer ps a.1.0, tasks_fewer qs a.1.1))
  up_fewer (clearing x ts) a = (after_fewer x a.0, tasks_fewer ts a.1)

  ups_fewer : (us : List Up) → UpsAre k us → UpsAre l us
  ups_fewer [] a = tt
  ups_fewer (u ∷ us) a = (up_fewer u a.0, ups_fewer us a.1)

  world_fewer : (o : World) → WorldIs k o → WorldIs l o
  world_fewer o a = record {
    pre = tasks_fewer o.pre a.pre;
    post = tasks_fewer o.post a.post;
    ups = ups_fewer o.ups a.ups;
    before = trees_fewer o.trees.before a.before;
    behind = trees_fewer o.trees.behind a.behind;
  }

-- what an operation comes to
out : (most : ℕ) (q : Step) → Low most (FramesIn most) ArmsIn (TaskIs most) (BeginsIs most) (arms_kept most) q → StepIs q
out most (Next m) low =
    let l = m.state.clock.left in
    let few : l ≤ most = comes_few most (FramesIn most) m.who (m.frame ∷ m.below) l low.holds.0 in
    let own = running_so (Least most) Anyone (Least l) (λ born g. fewer_so l most born few g) most (λ w h. tt) m.who
    m.frame m.below l (same l) (comes_so most (FramesIn most) (Held (Least most) Anyone) (λ w fs a. (tt, a)) m.who
    (m.frame ∷ m.below) l low.holds.0) in
    record { frames = own.1; world = world_fewer l most few m.world low.holds.1 }
out most (Over e s) low = tt
out most (Turn s tss) low = subst (λ l. TreesAre l tss) (sym low.holds.0) low.holds.1

pub operation_keeps_arms : OperationKeepsArms
operation_keeps_arms c m h =
    let l = m.state.clock.left in
    out l (step c m) (there_low l (FramesIn l) ArmsIn (TaskIs l) (BeginsIs l) (arms_kept l)
    (slice_get c.ops m.frame.place) m.state _ (λ op. act_low l (FramesIn l) ArmsIn (TaskIs l) (BeginsIs l) (arms_kept l)
    m.who m.world m.state m.frame.life m.frame.place m.frame.handlers m.below refl h.frames h.world c op
    m.frame.locals m.frame.stack))

woken_arms : (number : ℕ) (v : Val) (s : State) (tss : Forest) → TreesAre s.clock.left tss →
    StepIs (woken_in number v [] tss s)
woken_arms number v s tss h =
    let l = s.clock.left in
    out l (woken_in number v [] tss s) (woken_in_low l (FramesIn l) ArmsIn (TaskIs l) (BeginsIs l) (arms_kept l)
    number v [] tss s refl tt h)

main_arms : (ns : List ℤ) (steps : ℕ) (f : Option Func) →
    StepIs (on_there f (begun steps) (λ f. main_starts ns (begun steps) f))
main_arms ns steps f = out steps (on_there f (begun steps) (λ f. main_starts ns (begun steps) f))
    (there_low steps (FramesIn steps) ArmsIn (TaskIs steps) (BeginsIs steps) (arms_kept steps) f (begun steps) _
    (λ (f : Func). spending_low steps (FramesIn steps) ArmsIn (TaskIs steps) (BeginsIs steps) (arms_kept steps) steps
    (begun steps) _ refl (λ l d. record {
      holds = (
        new_root d is_new,
        others steps (FramesIn steps) ArmsIn (TaskIs steps) (BeginsIs steps) (arms_kept steps) tt tt tt tt tt,
      );
    })))

invariant : (c : Code) → Invariant c TreesAre (λ m. MachineIs m.state.clock.left m)
invariant c = record {
  operates = operation_keeps_arms c;
  wakes = woken_arms;
  fewer = λ l k tss e a. trees_fewer l k e tss a;
}

pub run_keeps_arms : RunKeepsArms
run_keeps_arms c ns steps until k =
    turns_is c TreesAre (λ m. MachineIs m.state.clock.left m) (invariant c) steps until k (started c ns steps)
    (started_is c TreesAre (λ m. MachineIs m.state.clock.left m) (invariant c) steps _
    (main_arms ns steps (slice_get c.functions c.main)))

pub arms_go_on : ArmsGoOn
arms_go_on c steps until k s tss h =
    turns_is c TreesAre (λ m. MachineIs m.state.clock.left m) (invariant c) steps until k (going s tss) h
