-- In every state of a run the frames began when no fewer steps were left; what begins has a number below those that
-- were left.
use Rattle.std.proofs.Common.{◌≡◌, ◌<◌, ◌≤◌, ℕ, suc, List, [], ◌∷◌, Option, Some, None, refl, sym, subst, arith}
use Rattle.std.specs.Prelude.{ℤ, slice_get}
use Rattle.verse_code.specs.declared.codes.Func.{Func}
use Rattle.verse_code.specs.declared.codes.Code.{Code}
use Rattle.verse_value.specs.Val.{Val}
use Rattle.verse_meaning_state.specs.State.{State, begun}
use Rattle.verse_code_machine.specs.Tasks.{Handler, Frame, Who, Part, Rest, asleep, group, Thread, Task, After, resuming}
use Rattle.verse_code_machine.specs.Tasks.{closing, finishing, Up}
use Rattle.verse_code_machine.specs.Tasks.{begins, branching, spawning, clearing, World, Machine, Step, Next, Over}
use Rattle.verse_code_machine.specs.Tasks.{Turn}
use Rattle.verse_code_machine.specs.Frames.{on_there}
use Rattle.verse_code_machine.specs.Ends.{woken_in}
use Rattle.verse_code_machine.specs.Runs.{step, Forest, main_starts, started}
use Rattle.verse_code_machine_births.specs.Framed.{HandlersAre, FrameIs, FramesAre, ThreadIs, TaskIs, BeginsIs, TasksAre}
use Rattle.verse_code_machine_births.specs.Framed.{TreesAre, AfterIs, UpIs, UpsAre, WorldIs, MachineIs}
use Rattle.verse_code_machine_births.specs.Births.{Anyone, TreesBorn, MachineBorn, StepBorn, OperationKeepsBirths}
use Rattle.verse_code_machine_births.specs.Births.{RunKeepsBirths}
use Rattle.verse_code_machine_births.proofs.Kept.{Becomes, moved, tried, released, failed, bared, IsNew, is_new, Comes}
use Rattle.verse_code_machine_births.proofs.Kept.{same_frames, new_frame, new_child, new_root, OfRest, Kept}
use Rattle.verse_code_machine_births.proofs.Ends.{Low, others, spending_low, woken_in_low}
use Rattle.verse_code_machine_births.proofs.Acts.{there_low, act_low}
use Rattle.verse_code_machine_births.proofs.Running.{Invariant, started_is, turns_is}

-- what follows from what holds of all births
module _ (Born Other : ℕ → Type 0) (Named : Who → Type 0) (so : (n : ℕ) → Born n → Other n) where
  handlers_so : (hs : List Handler) → HandlersAre Born Named hs → HandlersAre Other Named hs
  handlers_so [] h = tt
  handlers_so (x ∷ hs) h = (so x.life.born h.0, handlers_so hs h.1)

  frame_so : (f : Frame) → FrameIs Born Named f → FrameIs Other Named f
  frame_so f h = (so f.life.born h.0, handlers_so f.handlers h.1)

  pub frames_so : (fs : List Frame) → FramesAre Born Named fs → FramesAre Other Named fs
  frames_so [] h = tt
  frames_so (f ∷ fs) h = (frame_so f h.0, frames_so fs h.1)

  thread_so : (x : Thread) → ThreadIs Born Named x → ThreadIs Other Named x
  thread_so x h = (h.0, (frame_so x.frame h.1.0, frames_so x.below h.1.1))

  tasks_so : (ts : List Task) → TasksAre Born Named ts → TasksAre Other Named ts
  tasks_so [] h = tt
  tasks_so (t ∷ ts) h = (thread_so t.thread h.0, tasks_so ts h.1)

  trees_so : (tss : Forest) → TreesAre Born Named tss → TreesAre Other Named tss
  trees_so [] h = tt
  trees_so (ts ∷ tss) h = (tasks_so ts h.0, trees_so tss h.1)

  after_so : (x : After) → AfterIs Born Named x → AfterIs Other Named x
  after_so (resuming x v) h = thread_so x h
  after_so (closing w v) h = tt
  after_so (finishing w entry v) h = tt

  up_so : (u : Up) → UpIs Born Named u → UpIs Other Named u
  up_so (begins x k p gs number ls) h = thread_so x h
  up_so (branching x) h = thread_so x h
  up_so (spawning x entry ps qs) h = (thread_so x h.0, (tasks_so ps h.1.0, tasks_so qs h.1.1))
  up_so (clearing x ts) h = (after_so x h.0, tasks_so ts h.1)

  ups_so : (us : List Up) → UpsAre Born Named us → UpsAre Other Named us
  ups_so [] h = tt
  ups_so (u ∷ us) h = (up_so u h.0, ups_so us h.1)

  world_so : (o : World) → WorldIs Born Named o → WorldIs Other Named o
  world_so o h = record {
    pre = tasks_so o.pre h.pre;
    post = tasks_so o.post h.post;
    ups = ups_so o.ups h.ups;
    before = trees_so o.trees.before h.before;
    behind = trees_so o.trees.behind h.behind;
  }

  machine_so : (m : Machine) → MachineIs Born Named m → MachineIs Other Named m
  machine_so m h = record {
    who = h.who;
    frame = frame_so m.frame h.frame;
    below = frames_so m.below h.below;
    world = world_so m.world h.world;
  }

pub same : (n : ℕ) → n ≤ n
same n = omega arith

pub fewer_so : (a b n : ℕ) → a ≤ b → b ≤ n → a ≤ n
fewer_so a b n h g = omega (arith, h, g)

step_fewer : (l k : ℕ) → suc l ≡ k → l ≤ k
step_fewer l k e = omega (arith, e)

step_below : (l k : ℕ) → suc l ≡ k → l < k
step_below l k e = omega (arith, e)

-- nothing is asked of arms
abbrev pub AnyArms : Thread → List Part → Type 0
AnyArms x gs = Unit {0}

module _ (Born : ℕ → Type 0) (Named : Who → Type 0) where
  -- of a name and frames
  abbrev pub Held : Who → List Frame → Type 0
  Held w fs = Named w × FramesAre Born Named fs

  pub frame_becomes : (f g : Frame) → Becomes f g → FrameIs Born Named f → FrameIs Born Named g
  frame_becomes f g (moved e d) a = (subst Born e a.0, subst (HandlersAre Born Named) d a.1)
  frame_becomes f g (tried h e d i) a =
      (subst Born e a.0, subst (HandlersAre Born Named) (sym i) (subst Born d a.0, a.1))
  frame_becomes f g (released h e d) a = (subst Born e a.0, (subst (HandlersAre Born Named) d a.1).1)
  frame_becomes f g (failed h e d) a =
      (subst Born e (subst (HandlersAre Born Named) d a.1).0, (subst (HandlersAre Born Named) d a.1).1)
  frame_becomes f g (bared e d) a = (subst Born e a.0, subst (HandlersAre Born Named) (sym d) tt)

  any_rest : (x : Thread) (r : Rest) → OfRest Held AnyArms x r
  any_rest x (asleep w) = tt
  any_rest x (group k p gs) = tt

  pub framed_kept : (most : ℕ) → Kept most Held AnyArms (TaskIs Born Named) (BeginsIs Born Named)
  framed_kept most = record {
    left = λ w f fs a. (a.0, a.1.1);
    becomes = λ w f g fs b a. (a.0, (frame_becomes f g b a.1.0, a.1.1));
    rests = λ x r a g. a;
    thread = λ t a. a;
    rest = λ t a. any_rest t.thread t.rest;
    begins = λ x gs number e a g. a;
    begun = λ x gs number a. (a, tt);
    none = λ x. tt;
    gave = λ x gs number v a. tt;
    gives = λ x gs number v a. tt;
  }

  pub step_low : (c : Code) (m : Machine) → MachineIs Born Named m →
      Low m.state.clock.left Held AnyArms (TaskIs Born Named) (BeginsIs Born Named) (framed_kept m.state.clock.left)
      (step c m)
  step_low c m h =
      there_low m.state.clock.left Held AnyArms (TaskIs Born Named) (BeginsIs Born Named)
      (framed_kept m.state.clock.left) (slice_get c.ops m.frame.place) m.state _ (λ op. act_low m.state.clock.left
      Held AnyArms (TaskIs Born Named) (BeginsIs Born Named) (framed_kept m.state.clock.left) m.who m.world m.state
      m.frame.life m.frame.place m.frame.handlers m.below refl (h.who, (h.frame, h.below)) h.world c op
      m.frame.locals m.frame.stack)

  -- the task that runs behind an operation, with what follows of all births, and holds of those of new frames
  module _ (Other : ℕ → Type 0) (so : (n : ℕ) → Born n → Other n) (most : ℕ)
      (new : (w : Who) → w.number < most → Named w) where
    new_is : (left : ℕ) (f : Frame) → Other left → IsNew left f → FrameIs Other Named f
    new_is left f own n = (subst Other (sym n.born) own, subst (HandlersAre Other Named) (sym n.bare) tt)

    pub running_so : (w : Who) (f : Frame) (fs : List Frame) (left : ℕ) → Other left → Comes most Held w (f ∷ fs) left →
        Named w × (FrameIs Other Named f × FramesAre Other Named fs)
    running_so w f fs left own (same_frames e a) =
        (a.0, (frame_so Born Other Named so f a.1.0, frames_so Born Other Named so fs a.1.1))
    running_so w f (g ∷ fs) left own (new_frame e n a) =
        (a.0, (new_is left f own n, frames_so Born Other Named so (g ∷ fs) a.1))
    running_so w f [] left own (new_child e n a) = (new w (step_below left most e), (new_is left f own n, tt))
    running_so w f [] left own (new_root e n) = (new w (step_below left most e), (new_is left f own n, tt))

pub comes_few : (most : ℕ) (H : Who → List Frame → Type 0) (w : Who) (fs : List Frame) (left : ℕ) →
    Comes most H w fs left → left ≤ most
comes_few most H w fs left (same_frames e a) = e
comes_few most H w fs left (new_frame e n a) = step_fewer left most e
comes_few most H w fs left (new_child e n a) = step_fewer left most e
comes_few most H w fs left (new_root e n) = step_fewer left most e

-- while so many steps are left
abbrev pub Least : ℕ → ℕ → Type 0
Least most born = most ≤ born

trees_fewer : (a b : ℕ) (tss : Forest) → a ≤ b → TreesBorn b tss → TreesBorn a tss
trees_fewer a b tss fewer h = trees_so (Least b) (Least a) Anyone (λ born g. fewer_so a b born fewer g) tss h

-- the steps that are left then are no more than before, and all frames began with no fewer
born_then : (most : ℕ) (q : Step) → Low most (Held (Least most) Anyone) AnyArms (TaskIs (Least most) Anyone)
    (BeginsIs (Least most) Anyone) (framed_kept (Least most) Anyone most) q → StepBorn q
born_then most (Next m) low =
    let l = m.state.clock.left in
    let few : l ≤ most = comes_few most (Held (Least most) Anyone) m.who (m.frame ∷ m.below) l low.holds.0 in
    let so : (born : ℕ) → Least most born → Least l born = λ born g. fewer_so l most born few g in
    let own = running_so (Least most) Anyone (Least l) so most (λ w h. tt) m.who m.frame m.below l (same l) low.holds.0 in
    record {
      who = tt;
      frame = own.1.0;
      below = own.1.1;
      world = world_so (Least most) (Least l) Anyone so m.world low.holds.1;
    }
born_then most (Over e s) low = tt
born_then most (Turn s tss) low = subst (λ l. TreesBorn l tss) (sym low.holds.0) low.holds.1

pub operation_births : OperationKeepsBirths
operation_births c m h =
    born_then m.state.clock.left (step c m) (step_low (Least m.state.clock.left) Anyone c m h)

-- a wait is woken
woken_births : (number : ℕ) (v : Val) (s : State) (tss : Forest) → TreesBorn s.clock.left tss →
    StepBorn (woken_in number v [] tss s)
woken_births number v s tss h =
    let l = s.clock.left in
    born_then l (woken_in number v [] tss s) (woken_in_low l (Held (Least l) Anyone) AnyArms (TaskIs (Least l) Anyone)
    (BeginsIs (Least l) Anyone) (framed_kept (Least l) Anyone l) number v [] tss s refl tt h)

main_births : (ns : List ℤ) (steps : ℕ) (f : Option Func) →
    StepBorn (on_there f (begun steps) (λ f. main_starts ns (begun steps) f))
main_births ns steps f =
    let law = framed_kept (Least steps) Anyone steps in
    let H = Held (Least steps) Anyone in
    let T = TaskIs (Least steps) Anyone in
    let B = BeginsIs (Least steps) Anyone in
    born_then steps (on_there f (begun steps) (λ f. main_starts ns (begun steps) f))
    (there_low steps H AnyArms T B law f (begun steps) _ (λ (f : Func). spending_low steps H AnyArms T B law steps
    (begun steps) _ refl (λ l d. record {
      holds = (new_root d is_new, others steps H AnyArms T B law tt tt tt tt tt);
    })))

invariant : (c : Code) → Invariant c TreesBorn MachineBorn
invariant c = record { operates = operation_births c; wakes = woken_births; fewer = trees_fewer }

pub run_births : RunKeepsBirths
run_births c ns steps until k =
    turns_is c TreesBorn MachineBorn (invariant c) steps until k (started c ns steps)
    (started_is c TreesBorn MachineBorn (invariant c) steps _ (main_births ns steps (slice_get c.functions c.main)))
