-- What the tree keeps of a task.
use Rattle.std.specs.Prelude.{◌≡◌, ◌<◌, ℕ, suc, List, [], ◌∷◌, length, map, Option, Some, None}
use Rattle.sim_clock.specs.declared.waits.WaitKind.{WaitKind}
use Rattle.verse_code.specs.declared.codes.Code.{Code}
use Rattle.verse_value.specs.Val.{Val}
use Rattle.verse_code_machine.specs.Tasks.{Part, did, runs, Rest, group}
use Rattle.vm_frames.specs.Framed.{Framed}
use Rattle.vm_tasks.specs.declared.slots.Group.{Group}
use Rattle.vm_tasks.specs.declared.slots.Held.{Held}
use Rattle.vm_tasks.specs.declared.slots.Held.TheVariants.{ByMachine, Asleep, AtGroup}
use Rattle.vm_tasks.specs.declared.slots.Root.{Root}
use Rattle.vm_tasks.specs.declared.slots.Root.TheVariants.{Part as APart, Main, Spawned}
use Rattle.vm_tasks.specs.declared.slots.Slot.{Slot}
use Rattle.vm_tasks.specs.View.{kind_of, part_of}
use Rattle.run_save_shots.specs.Lists.{Each}
use Rattle.run_save_shots.specs.Kept as k
use Rattle.run_save_shots.specs.Kept.{KeptFrame, KeptRest, KeptTask}
use Rattle.run_save_shots.specs.View.{cause_of}
use Rattle.run_save_shots.specs.Fitting.{stand_at, top_place, arms_of}
use Rattle.run_save_shots.specs.Spelling.{gathered}
use Rattle.run_save_numbers.specs.Numbers.{Numbers}
use Rattle.run_save_slots.specs.Stacking.{IsNear, stacked}

abbrev pub root_of : Option ℕ → Option ℕ → Root
root_of (Some p) root = APart
root_of None (Some entry) = Spawned entry
root_of None None = Main

abbrev pub rest_of_group : Group → Rest
rest_of_group g = group (kind_of g.kind) g.place (map part_of g.arms.items)

-- an arm has given a value, or is the task of a number
abbrev pub part : Option Val → ℕ → Part
part (Some v) n = did v
part None n = runs n

abbrev pub parts : List (Option Val) → List ℕ → List Part
parts [] ns = []
parts (v ∷ vs) [] = []
parts (v ∷ vs) (n ∷ ns) = part v n ∷ parts vs ns

-- each frame has a number, and where it goes on is a place of 32 bits
pub record FramesSuit (frames : List KeptFrame) (arms : ℕ) (n : Numbers) : Type 0 where
  pub borns : length n.borns ≡ length frames
  pub few : length frames < 4294967295
  pub near : Each (IsNear arms) frames

-- and so with its arms
pub record Suits (t : KeptTask) (n : Numbers) : Type 0 where
  pub frames : FramesSuit t.frames (length (arms_of t.rest)) n
  pub arms : length n.arms ≡ length (arms_of t.rest)
  pub few_arms : length (arms_of t.rest) < 4294967295
  pub above : n.above < 18446744073709551615

abbrev pub IsAsleep : List KeptFrame → (number : ℕ) → WaitKind → Numbers → Held (List Framed) →
    Type 0
IsAsleep frames number kind n h = h ≡ Asleep (stacked 0 n.borns frames []) number kind

-- at the group of the operation at which its top frame stands
pub data IsAtGroup (c : Code) (frames : List KeptFrame) (arms : List (Option Val)) (n : Numbers) :
    Held (List Framed) → Type 0 where
  is_at_group : {g : Group} {fs : List Framed} → fs ≡ stacked (length arms) n.borns frames [] →
      rest_of_group g ≡ gathered c (stand_at c (top_place frames)) (parts arms n.arms) →
      IsAtGroup c frames arms n (AtGroup fs g)

-- what the tree holds of a task that waits so
pub data Waits (c : Code) (frames : List KeptFrame) (n : Numbers) : KeptRest → Held (List Framed) →
    Type 0 where
  waits_asleep : {number : ℕ} {kind : WaitKind} {h : Held (List Framed)} →
      IsAsleep frames number kind n h → Waits c frames n (k.leaf number (cause_of kind)) h
  waits_at_group : {arms : List (Option Val)} {h : Held (List Framed)} →
      IsAtGroup c frames arms n h → Waits c frames n (k.group arms) h

-- made of a task with these numbers
pub record IsMade (c : Code) (t : KeptTask) (n : Numbers) (x : Slot (List Framed)) : Type 0 where
  pub number : x.number ≡ n.own
  pub since : x.since ≡ suc n.above
  pub root : x.root ≡ root_of t.parent t.root
  pub held : Waits c t.frames n t.rest x.held
