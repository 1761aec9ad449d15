-- Each task that stands after an operation stood before it, or has a number below the steps that were left.
use Rattle.std.proofs.Common.{ℕ, ◌<◌, refl, inl, inr, List, [], ◌∷◌, ◌++◌}
use Rattle.verse_code_machine.specs.Tasks.{Handler, Frame, Who, Thread, Task, After, resuming, closing, finishing, Up}
use Rattle.verse_code_machine.specs.Tasks.{begins, branching, spawning, clearing, World, Machine, Step, Next, Over}
use Rattle.verse_code_machine.specs.Tasks.{Turn}
use Rattle.verse_code_machine.specs.Ends.{woken_in}
use Rattle.verse_code_machine.specs.Runs.{step, Forest}
use Rattle.verse_code_machine_births.specs.Framed.{HandlersAre, FramesAre, ThreadIs, TasksAre, TreesAre, AfterIs}
use Rattle.verse_code_machine_births.specs.Framed.{TaskIs, BeginsIs, UpIs, UpsAre, WorldIs, MachineIs}
use Rattle.verse_code_machine_births.specs.Later.{whos, tree_whos, after_whos, up_whos, ups_whos, world_whos, In}
use Rattle.verse_code_machine_births.specs.Later.{here, later}
use Rattle.verse_code_machine_births.specs.Later.{StoodOrBelow, Any, StepNamed, NewBelow, WokenBelow}
use Rattle.verse_code_machine_births.proofs.Ends.{Low, woken_in_low}
use Rattle.verse_code_machine_births.proofs.Runs.{AnyArms, Held, framed_kept, step_low, running_so}

in_first : (w : Who) (xs ys : List Who) → In w xs → In w (xs ++ ys)
in_first w [] ys i = elim i [ ]
in_first w (x ∷ xs) ys here = here
in_first w (x ∷ xs) ys (later i) = later (in_first w xs ys i)

in_last : (w : Who) (xs ys : List Who) → In w ys → In w (xs ++ ys)
in_last w [] ys i = i
in_last w (x ∷ xs) ys i = later (in_last w xs ys i)

-- what holds of all tasks of a list of names
module _ (Named : Who → Type 0) where
  abbrev Each : List Who → Type 0
  Each ws = (w : Who) → In w ws → Named w

  of_first : (xs ys : List Who) → Each (xs ++ ys) → Each xs
  of_first xs ys f w i = f w (in_first w xs ys i)

  of_last : (xs ys : List Who) → Each (xs ++ ys) → Each ys
  of_last xs ys f w i = f w (in_last w xs ys i)

  handlers_any : (hs : List Handler) → HandlersAre Any Named hs
  handlers_any [] = tt
  handlers_any (h ∷ hs) = (tt, handlers_any hs)

  frames_any : (fs : List Frame) → FramesAre Any Named fs
  frames_any [] = tt
  frames_any (f ∷ fs) = ((tt, handlers_any f.handlers), frames_any fs)

  thread_named : (x : Thread) → Named x.who → ThreadIs Any Named x
  thread_named x n = (n, ((tt, handlers_any x.frame.handlers), frames_any x.below))

  tasks_named : (ts : List Task) → Each (whos ts) → TasksAre Any Named ts
  tasks_named [] f = tt
  tasks_named (t ∷ ts) f = (thread_named t.thread (f t.thread.who here), tasks_named ts (λ w i. f w (later i)))

  trees_named : (tss : Forest) → Each (tree_whos tss) → TreesAre Any Named tss
  trees_named [] f = tt
  trees_named (ts ∷ tss) f =
      (tasks_named ts (of_first (whos ts) (tree_whos tss) f), trees_named tss (of_last (whos ts) (tree_whos tss) f))

  after_named : (a : After) → Each (after_whos a) → AfterIs Any Named a
  after_named (resuming x v) f = thread_named x (f x.who here)
  after_named (closing w v) f = tt
  after_named (finishing w entry v) f = tt

  up_named : (u : Up) → Each (up_whos u) → UpIs Any Named u
  up_named (begins x k p gs number ls) f = thread_named x (f x.who here)
  up_named (branching x) f = thread_named x (f x.who here)
  up_named (spawning x entry ps qs) f = (
    thread_named x (f x.who here),
    (
      tasks_named ps (of_first (whos ps) (whos qs) (λ w i. f w (later i))),
      tasks_named qs (of_last (whos ps) (whos qs) (λ w i. f w (later i))),
    ),
  )
  up_named (clearing a ts) f =
      (after_named a (of_first (after_whos a) (whos ts) f), tasks_named ts (of_last (after_whos a) (whos ts) f))

  ups_named : (us : List Up) → Each (ups_whos us) → UpsAre Any Named us
  ups_named [] f = tt
  ups_named (u ∷ us) f =
      (up_named u (of_first (up_whos u) (ups_whos us) f), ups_named us (of_last (up_whos u) (ups_whos us) f))

  world_named : (o : World) → Each (world_whos o) → WorldIs Any Named o
  world_named o f =
      let trees = tree_whos o.trees.before ++ tree_whos o.trees.behind in
      let rest = ups_whos o.ups ++ trees in
      let behind = of_last (whos o.pre) (whos o.post ++ rest) f in
      let above = of_last (whos o.post) rest behind in
      let others = of_last (ups_whos o.ups) trees above in
      record {
        pre = tasks_named o.pre (of_first (whos o.pre) (whos o.post ++ rest) f);
        post = tasks_named o.post (of_first (whos o.post) rest behind);
        ups = ups_named o.ups (of_first (ups_whos o.ups) trees above);
        before = trees_named o.trees.before (of_first (tree_whos o.trees.before) (tree_whos o.trees.behind) others);
        behind = trees_named o.trees.behind (of_last (tree_whos o.trees.before) (tree_whos o.trees.behind) others);
      }

  machine_named : (m : Machine) → Each (m.who ∷ world_whos m.world) → MachineIs Any Named m
  machine_named m f = record {
    who = f m.who here;
    frame = (tt, handlers_any m.frame.handlers);
    below = frames_any m.below;
    world = world_named m.world (λ w i. f w (later i));
  }

  named_then : (most : ℕ) → ((w : Who) → w.number < most → Named w) → (q : Step) →
      Low most (Held Any Named) AnyArms (TaskIs Any Named) (BeginsIs Any Named) (framed_kept Any Named most) q →
      StepNamed Named q
  named_then most new (Next m) low =
      let own = running_so Any Named Any (λ n g. g) most new m.who m.frame m.below m.state.clock.left tt low.holds.0 in
      record { who = own.0; frame = own.1.0; below = own.1.1; world = low.holds.1 }
  named_then most new (Over e s) low = tt
  named_then most new (Turn s tss) low = low.holds.1

pub new_below : NewBelow
new_below c m =
    let left = m.state.clock.left in
    let ws = m.who ∷ world_whos m.world in
    let new : (w : Who) → w.number < left → StoodOrBelow ws left w = λ w h. inr h in
    named_then (StoodOrBelow ws left) left new (step c m) (step_low Any (StoodOrBelow ws left) c m
    (machine_named (StoodOrBelow ws left) m (λ w i. inl i)))

pub woken_below : WokenBelow
woken_below number v s tss =
    let left = s.clock.left in
    let N = StoodOrBelow (tree_whos tss) left in
    let new : (w : Who) → w.number < left → N w = λ w h. inr h in
    named_then N left new (woken_in number v [] tss s) (woken_in_low left (Held Any N) AnyArms (TaskIs Any N)
    (BeginsIs Any N) (framed_kept Any N left) number v [] tss s refl tt (trees_named N tss (λ w i. inl i)))
