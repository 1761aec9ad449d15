-- The task that has begun one that is over.
use Rattle.std.proofs.Common.{◌≡◌, ◌≢◌, ℕ, Result, Ok, Err, IfOk, List, [], ◌∷◌, ◌++◌, map, reverse, Option, Some, None, refl, sym, ap}
use Rattle.std.proofs.Common.{subst, ◌∙◌}
use Rattle.std.specs.Global.{Vec}
use Rattle.std.proofs.lemmas.List.{map-append}
use Rattle.verse_value.specs.Val.{Val, unit}
use Rattle.verse_value.specs.Val as val
use Rattle.verse_value.specs.View.{val_of}
use Rattle.verse_value.specs.declared.values.Value.{Value}
use Rattle.verse_value.specs.declared.runs.Ending.TheVariants as ending
use Rattle.verse_code_machine.specs.Tasks as m
use Rattle.verse_code_machine.specs.Tasks.{root, Who, Part, did, begins, branching, spawning, World, world}
use Rattle.verse_code_machine.specs.Ends.{rested, arm_did, part_ends, root_ends}
use Rattle.sim_clock.specs.declared.waits.Pending.{Pending}
use Rattle.vm_tasks_laws.specs.Slots.{held}
use Rattle.vm_tasks_laws.specs.Standing.{Stands}
use Rattle.vm_frames.specs.Framed.{Framed}
use Rattle.vm_running.specs.Views.{View, Aside, state_of}
use Rattle.vm_tasks.specs.declared.slots.Arm.{Arm}
use Rattle.vm_tasks.specs.declared.slots.Arm.TheVariants.{Did}
use Rattle.vm_tasks.specs.View.{slot_of, kind_of, part_of}
use Rattle.vm_scheduler.specs.declared.tasks.Begins.{Begins}
use Rattle.vm_scheduler.specs.declared.tasks.Tasks.{Tasks}
use Rattle.vm_scheduler.specs.declared.tasks.Up.{Up}
use Rattle.vm_scheduler.specs.declared.tasks.Up.TheVariants as up
use Rattle.vm_scheduler.specs.declared.tasks.Went.{Went}
use Rattle.vm_scheduler.specs.declared.tasks.Went.TheVariants as went
use Rattle.vm_scheduler.specs.Frames.{frames_in, threaded, Suspended}
use Rattle.vm_scheduler.specs.Ups.{ups_of, id_of, begins_of, UpsAre, no_ups, begins_up, branching_up, spawning_up}
use Rattle.vm_scheduler.specs.Standing.{Standing}
use Rattle.vm_scheduler.specs.Meets.{Meets}
use Rattle.vm_scheduler.specs.Moving.{Resumes}
use Rattle.vm_scheduler.proofs.Running.{on_meets}
use Rattle.vm_group.specs.Groups.{Hand}
use Rattle.vm_suspend.proofs.Above.{begins_or, entry_or, frames_or, first_or, others_of, BeginsAbove}
use Rattle.vm_complete.specs.Groups.{ArmEndsOn}
use Rattle.vm_complete.specs.Overs.{Gone, IsGone, IsGoneRoot, PartGone, RootGone}

-- which one it is

record BranchesAbove (fs : List Framed) (us : List Up) (ms : List m.Up) : Type 0 where
  who : Who
  later : List m.Up
  is : ms ≡ branching (threaded who fs) ∷ later
  suspended : Suspended who.number fs
  are : UpsAre us later

record SpawnsAbove (fs : List Framed) (entry : ℕ) (us : List Up) (ms : List m.Up) : Type 0 where
  who : Who
  pre : List m.Task
  post : List m.Task
  later : List m.Up
  is : ms ≡ spawning (threaded who fs) entry pre post ∷ later
  suspended : Suspended who.number fs
  are : UpsAre us later

begins_above : (b : Begins) (us all : List Up) (ms : List m.Up) → UpsAre all ms → all ≡ up.Begins b ∷ us → BeginsAbove b us ms
begins_above b us all ms no_ups e = absurd (cc)
begins_above b us all ms (begins_up {us = vs} {ms = ns} c w s a) e =
    let same : c ≡ b = ap (λ z. begins_or b (first_or (up.Begins b) z)) e in
    let rest : vs ≡ us = ap (λ z. others_of z) e in
    record {
      who = w;
      later = ns;
      is = ap (λ z. begins_of w z ∷ ns) same;
      suspended =
          subst (λ (z : Begins). Suspended w.number z.thread) same s;
      are = subst (λ z. UpsAre z ns) rest a;
    }
begins_above b us all ms (branching_up id fs w s a) e = let same : up.Branching id fs ≡ up.Begins b =
    ap (λ z. first_or (up.Begins b) z) e in absurd (cc)
begins_above b us all ms (spawning_up id fs entry w ps qs s a) e = let same : up.Spawning id fs entry ≡ up.Begins b =
    ap (λ z. first_or (up.Begins b) z) e in absurd (cc)

branches_above : (i : ℕ) (gs : List Framed) (us all : List Up) (ms : List m.Up) → UpsAre all ms → all ≡ up.Branching i gs ∷ us →
    BranchesAbove gs us ms
branches_above i gs us all ms no_ups e = absurd (cc)
branches_above i gs us all ms (begins_up c w s a) e = let same : up.Begins c ≡ up.Branching i gs =
    ap (λ z. first_or (up.Branching i gs) z) e in absurd (cc)
branches_above i gs us all ms (branching_up {us = vs} {ms = ns} id fs w s a) e =
    let same : fs ≡ gs = ap (λ z. frames_or gs (first_or (up.Branching i gs) z)) e in
    let rest : vs ≡ us = ap (λ z. others_of z) e in
    record {
      who = w;
      later = ns;
      is = ap (λ z. branching (threaded w z) ∷ ns) same;
      suspended =
          subst (λ z. Suspended w.number z) same s;
      are = subst (λ z. UpsAre z ns) rest a;
    }
branches_above i gs us all ms (spawning_up id fs entry w ps qs s a) e = let same : up.Spawning id fs entry ≡ up.Branching i gs =
    ap (λ z. first_or (up.Branching i gs) z) e in absurd (cc)

spawns_above : (i : ℕ) (gs : List Framed) (n : ℕ) (us all : List Up) (ms : List m.Up) → UpsAre all ms → all ≡ up.Spawning i gs n ∷ us →
    SpawnsAbove gs n us ms
spawns_above i gs n us all ms no_ups e = absurd (cc)
spawns_above i gs n us all ms (begins_up c w s a) e = let same : up.Begins c ≡ up.Spawning i gs n =
    ap (λ z. first_or (up.Spawning i gs n) z) e in absurd (cc)
spawns_above i gs n us all ms (branching_up id fs w s a) e = let same : up.Branching id fs ≡ up.Spawning i gs n =
    ap (λ z. first_or (up.Spawning i gs n) z) e in absurd (cc)
spawns_above i gs n us all ms (spawning_up {us = vs} {ms = ns} id fs entry w ps qs s a) e =
    let same : fs ≡ gs = ap (λ z. frames_or gs (first_or (up.Spawning i gs n) z)) e in
    let it : entry ≡ n = ap (λ z. entry_or n (first_or (up.Spawning i gs n) z)) e in
    let rest : vs ≡ us = ap (λ z. others_of z) e in
    record {
      who = w;
      pre = ps;
      post = qs;
      later = ns;
      is = ap (λ z. spawning (threaded w z) entry ps qs ∷ ns) same ∙ ap (λ z. spawning (threaded w gs) z ps qs ∷ ns) it;
      suspended = subst (λ z. Suspended w.number z) same s;
      are = subst (λ z. UpsAre z ns) rest a;
    }

module _ {W : Type 0} (pending : W → List Pending) where
  -- it stands again where its child is gone

  standing_of : (id : ℕ) (w : Who) (arms : Option (List Part)) (u : Up) (a : Aside) (c : Who) (o other : World) (v : View) (t : Tasks W) →
      Gone pending u a c o v t → Stands (slot_of frames_in) t.tree (map id_of (ups_of t.ups.items)) (held id w arms ∷ []) other →
      UpsAre (ups_of t.ups.items) other.ups →
      Standing pending (held id w arms ∷ []) a other v t
  standing_of id w arms u a c o other v t h s are = record { clock = h.clock; stands = s; ups = are; still = h.still; none = h.none }

  record GroupHere (b : Begins) (x : Val) (a : Aside) (c : Who) (o : World) (v : View) (t : Tasks W) : Type 0 where
    who : Who
    later : List m.Up
    is : o.ups ≡ begins_of who b ∷ later
    suspended : Suspended who.number b.thread
    standing : Standing pending (held b.id who (Some (map part_of b.arms.items ++ did x ∷ [])) ∷ []) a
        (world o.pre o.post later o.trees) v t

  group_here : (b : Begins) (x : Val) (a : Aside) (c : Who) (o : World) (v : View) (t : Tasks W) → Gone pending (up.Begins b) a c o v t →
      GroupHere b x a c o v t
  group_here b x a c o v t h =
      let k = begins_above b (ups_of t.ups.items) (up.Begins b ∷ ups_of t.ups.items) o.ups h.ups refl in
      let one : Stands (slot_of frames_in) h.tree (b.id ∷ map id_of (ups_of t.ups.items)) (held h.id c None ∷ [])
      (world o.pre o.post (begins_of k.who b ∷ k.later) o.trees) =
      subst (λ z. Stands (slot_of frames_in) h.tree (b.id ∷ map id_of (ups_of t.ups.items)) (held h.id c None ∷ [])
      (world o.pre o.post z o.trees)) k.is h.stands in
      let two = h.ended.arm frames_in b.id (map id_of (ups_of t.ups.items)) c (threaded k.who b.thread) (kind_of b.kind) b.place
      (map part_of b.arms.items) b.number (reverse b.labels.items) k.later o.pre o.post o.trees x one in
      record {
        who = k.who;
        later = k.later;
        is = k.is;
        suspended = k.suspended;
        standing = standing_of b.id k.who (Some (map part_of b.arms.items ++ did x ∷ [])) (up.Begins b) a c o
            (world o.pre o.post k.later o.trees) v t h two k.are;
      }

  gave : (b : Begins) (arms : Vec Arm) (x : Value) → arms.items ≡ b.arms.items ++ Did x ∷ [] →
      map part_of b.arms.items ++ did (val_of x) ∷ [] ≡ map part_of arms.items
  gave b arms x e = sym (ap (λ z. map part_of z) e ∙ map-append part_of b.arms.items (Did x ∷ []))

  pub arm_hand : (b : Begins) (arms : Vec Arm) (x : Value) (v : View) (t : Tasks W) → arms.items ≡ b.arms.items ++ Did x ∷ [] →
      IsGone pending (up.Begins b) v t → Hand pending (record b { arms = arms }) v t
  arm_hand b arms x v t e g =
      let o = g.world in
      let k = group_here b (val_of x) g.aside g.who o v t g.here in
      record {
        aside = g.aside;
        who = k.who;
        world = world o.pre o.post k.later o.trees;
        standing = subst (λ z. Standing pending (held b.id k.who (Some z) ∷ []) g.aside (world o.pre o.post k.later o.trees) v t)
            (gave b arms x e) k.standing;
        bare = g.here.bare;
        suspended = k.suspended;
      }

  pub arm_goes : {E : Type 0} (d : Result Went E) (b : Begins) (arms : Vec Arm) (x : Value) (v u : View) (t s : Tasks W) →
      arms.items ≡ b.arms.items ++ Did x ∷ [] → IfOk d (λ r. ArmEndsOn pending (record b { arms = arms }) r v t u s) →
      IfOk d (λ r. PartGone pending (up.Begins b) (val_of x) r v t u s)
  arm_goes (Err f) b arms x v u t s e h = tt
  arm_goes (Ok r) b arms x v u t s e h = record {
    meets = λ a w o g.
        let k = group_here b (val_of x) a w o v t g in
        let other = world o.pre o.post k.later o.trees in
        let st = subst (λ z. Standing pending (held b.id k.who (Some z) ∷ []) a other v t) (gave b arms x e) k.standing in
        let is : part_ends w.up w.number (val_of x) o.pre o.post o.ups o.trees (state_of a v) ≡
        part_ends w.up w.number (val_of x) o.pre o.post (begins_of k.who b ∷ k.later) o.trees (state_of a v) =
        ap (λ z. part_ends w.up w.number (val_of x) o.pre o.post z o.trees (state_of a v)) k.is in
        let to : Meets pending (part_ends w.up w.number (val_of x) o.pre o.post (begins_of k.who b ∷ k.later) o.trees (state_of a v)) a.past
        r u s =
        subst (λ z. Meets pending (arm_did (kind_of b.kind) b.place z (reverse b.labels.items)
        (threaded k.who b.thread) o.pre o.post k.later o.trees (state_of a v)
        (λ y. rested (y ∷ o.pre) o.post k.later o.trees (state_of a v))) a.past r u s) (sym (gave b arms x e))
        (h.meets a k.who other st g.bare k.suspended) in
        subst (λ z. Meets pending z a.past r u s) (sym is) to;
  }

  -- it goes on, or the run is over

  pub some_frames : (u : Up) (id : ℕ) (fs : List Framed) (v : View) (t : Tasks W) → u ≡ up.Branching id fs → IsGone pending u v t → fs ≢ []
  some_frames u id fs v t is g =
      let k = branches_above id fs (ups_of t.ups.items) (u ∷ ups_of t.ups.items) g.world.ups g.here.ups
      (ap (λ z. z ∷ ups_of t.ups.items) is) in
      k.suspended.unguarded.some

  pub branch_goes : {E : Type 0} (d : Result Went E) (id : ℕ) (fs : List Framed) (x : Val) (v u : View) (t s : Tasks W) →
      IfOk d (λ r. Resumes pending id fs unit r v t u s) → IfOk d (λ r. PartGone pending (up.Branching id fs) x r v t u s)
  branch_goes (Err f) id fs x v u t s h = tt
  branch_goes (Ok r) id fs x v u t s h = record {
    meets = λ a w o g.
        let k = branches_above id fs (ups_of t.ups.items) (up.Branching id fs ∷ ups_of t.ups.items) o.ups g.ups refl in
        let other = world o.pre o.post k.later o.trees in
        let one : Stands (slot_of frames_in) g.tree (id ∷ map id_of (ups_of t.ups.items)) (held g.id w None ∷ [])
        (world o.pre o.post (branching (threaded k.who fs) ∷ k.later) o.trees) =
        subst (λ z. Stands (slot_of frames_in) g.tree (id ∷ map id_of (ups_of t.ups.items)) (held g.id w None ∷ [])
        (world o.pre o.post z o.trees)) k.is g.stands in
        let two = g.ended.behind frames_in id (map id_of (ups_of t.ups.items)) w (threaded k.who fs) k.later o.pre o.post o.trees one in
        let st = standing_of id k.who None (up.Branching id fs) a w o other v t g two k.are in
        subst (λ z. Meets pending z a.past r u s) (sym (ap (λ z. part_ends w.up w.number x o.pre o.post z o.trees (state_of a v)) k.is))
        (on_meets pending _ a.past r u s (h.resumes a k.who other st g.bare k.suspended));
  }

  pub spawner_stuck : (id : ℕ) (fs : List Framed) (entry : ℕ) (x : Val) (v : View) (t s : Tasks W) →
      PartGone pending (up.Spawning id fs entry) x (went.Over ending.Stuck) v t v s
  spawner_stuck id fs entry x v t s = record {
    meets = λ a w o g.
        let k = spawns_above id fs entry (ups_of t.ups.items) (up.Spawning id fs entry ∷ ups_of t.ups.items) o.ups g.ups refl in
        record { aside = a; same = refl; is = ap (λ z. part_ends w.up w.number x o.pre o.post z o.trees (state_of a v)) k.is };
  }

  -- a root

  pub spawner_frames : (u : Up) (id : ℕ) (fs : List Framed) (entry : ℕ) (v : View) (t : Tasks W) → u ≡ up.Spawning id fs entry →
      IsGoneRoot pending u v t → fs ≢ []
  spawner_frames u id fs entry v t is g =
      let k = spawns_above id fs entry (ups_of t.ups.items) (u ∷ ups_of t.ups.items) g.world.ups g.here.ups
      (ap (λ z. z ∷ ups_of t.ups.items) is) in
      k.suspended.unguarded.some

  pub spawner_goes : {E : Type 0} (d : Result Went E) (id : ℕ) (fs : List Framed) (entry : ℕ) (v u : View) (t s : Tasks W) →
      IfOk d (λ r. Resumes pending id fs (val.task entry) r v t u s) → IfOk d (λ r. RootGone pending (up.Spawning id fs entry) r v t u s)
  spawner_goes (Err f) id fs entry v u t s h = tt
  spawner_goes (Ok r) id fs entry v u t s h = record {
    meets = λ a w e o g role.
        let k = spawns_above id fs entry (ups_of t.ups.items) (up.Spawning id fs entry ∷ ups_of t.ups.items) o.ups g.ups refl in
        let other = world k.pre k.post k.later o.trees in
        let one : Stands (slot_of frames_in) g.tree (id ∷ map id_of (ups_of t.ups.items)) (held g.id w None ∷ [])
        (world o.pre o.post (spawning (threaded k.who fs) entry k.pre k.post ∷ k.later) o.trees) =
        subst (λ z. Stands (slot_of frames_in) g.tree (id ∷ map id_of (ups_of t.ups.items)) (held g.id w None ∷ [])
        (world o.pre o.post z o.trees)) k.is g.stands in
        let two = g.ended.spawned frames_in id (map id_of (ups_of t.ups.items)) w e
        (threaded k.who fs) entry o.pre o.post k.pre k.post k.later o.trees role one in
        let st = standing_of id k.who None (up.Spawning id fs entry) a w o other v t g two k.are in
        subst (λ z. Meets pending z a.past r u s) (sym (ap (λ z. root_ends o.pre o.post z o.trees (state_of a v)) k.is))
        (on_meets pending _ a.past r u s (h.resumes a k.who other st g.bare k.suspended));
  }

  pub beginner_stuck : (b : Begins) (v : View) (t s : Tasks W) → RootGone pending (up.Begins b) (went.Over ending.Stuck) v t v s
  beginner_stuck b v t s = record {
    meets = λ a w e o g role.
        let k = begins_above b (ups_of t.ups.items) (up.Begins b ∷ ups_of t.ups.items) o.ups g.ups refl in
        record { aside = a; same = refl; is = ap (λ z. root_ends o.pre o.post z o.trees (state_of a v)) k.is };
  }

  pub brancher_stuck : (id : ℕ) (fs : List Framed) (v : View) (t s : Tasks W) →
      RootGone pending (up.Branching id fs) (went.Over ending.Stuck) v t v s
  brancher_stuck id fs v t s = record {
    meets = λ a w e o g role.
        let k = branches_above id fs (ups_of t.ups.items) (up.Branching id fs ∷ ups_of t.ups.items) o.ups g.ups refl in
        record { aside = a; same = refl; is = ap (λ z. root_ends o.pre o.post z o.trees (state_of a v)) k.is };
  }

  -- the same, where it is this one

  pub arm_hand_at : (z : Up) (b : Begins) (arms : Vec Arm) (x : Value) (v : View) (t : Tasks W) → z ≡ up.Begins b →
      arms.items ≡ b.arms.items ++ Did x ∷ [] → IsGone pending z v t → Hand pending (record b { arms = arms }) v t
  arm_hand_at z b arms x v t is e g = arm_hand b arms x v t e (subst (λ y. IsGone pending y v t) is g)

  pub arm_goes_at : {E : Type 0} (d : Result Went E) (z : Up) (b : Begins) (arms : Vec Arm) (x : Value) (v u : View) (t s : Tasks W) →
      z ≡ up.Begins b → arms.items ≡ b.arms.items ++ Did x ∷ [] → IfOk d (λ r. ArmEndsOn pending (record b { arms = arms }) r v t u s) →
      IfOk d (λ r. PartGone pending z (val_of x) r v t u s)
  arm_goes_at d z b arms x v u t s is e h =
      subst (λ y. IfOk d (λ r. PartGone pending y (val_of x) r v t u s)) (sym is) (arm_goes d b arms x v u t s e h)

  pub branch_goes_at : {E : Type 0} (d : Result Went E) (z : Up) (id : ℕ) (fs : List Framed) (x : Val) (v u : View) (t s : Tasks W) →
      z ≡ up.Branching id fs → IfOk d (λ r. Resumes pending id fs unit r v t u s) → IfOk d (λ r. PartGone pending z x r v t u s)
  branch_goes_at d z id fs x v u t s is h =
      subst (λ y. IfOk d (λ r. PartGone pending y x r v t u s)) (sym is) (branch_goes d id fs x v u t s h)

  pub spawner_stuck_at : (z : Up) (id : ℕ) (fs : List Framed) (entry : ℕ) (x : Val) (v : View) (t s : Tasks W) →
      z ≡ up.Spawning id fs entry → PartGone pending z x (went.Over ending.Stuck) v t v s
  spawner_stuck_at z id fs entry x v t s is =
      subst (λ y. PartGone pending y x (went.Over ending.Stuck) v t v s) (sym is) (spawner_stuck id fs entry x v t s)

  pub spawner_goes_at : {E : Type 0} (d : Result Went E) (z : Up) (id : ℕ) (fs : List Framed) (entry : ℕ) (v u : View) (t s : Tasks W) →
      z ≡ up.Spawning id fs entry → IfOk d (λ r. Resumes pending id fs (val.task entry) r v t u s) →
      IfOk d (λ r. RootGone pending z r v t u s)
  spawner_goes_at d z id fs entry v u t s is h =
      subst (λ y. IfOk d (λ r. RootGone pending y r v t u s)) (sym is) (spawner_goes d id fs entry v u t s h)

  pub beginner_stuck_at : (z : Up) (b : Begins) (v : View) (t s : Tasks W) → z ≡ up.Begins b →
      RootGone pending z (went.Over ending.Stuck) v t v s
  beginner_stuck_at z b v t s is = subst (λ y. RootGone pending y (went.Over ending.Stuck) v t v s) (sym is) (beginner_stuck b v t s)

  pub brancher_stuck_at : (z : Up) (id : ℕ) (fs : List Framed) (v : View) (t s : Tasks W) → z ≡ up.Branching id fs →
      RootGone pending z (went.Over ending.Stuck) v t v s
  brancher_stuck_at z id fs v t s is = subst (λ y. RootGone pending y (went.Over ending.Stuck) v t v s) (sym is)
      (brancher_stuck id fs v t s)
