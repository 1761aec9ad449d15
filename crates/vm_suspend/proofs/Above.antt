-- The nearest of those above goes on.
use Rattle.std.proofs.Common.{◌≡◌, ◌≢◌, ℕ, ◌<◌, ◌+◌, Result, Ok, Err, IfOk, List, [], ◌∷◌, ◌++◌, length, map, reverse, Some, None, refl}
use Rattle.std.proofs.Common.{sym, ap, subst, ◌∙◌, arith}
use Rattle.std.specs.Global.{Vec}
use Rattle.std.proofs.lemmas.List.{length-append, map-append}
use Rattle.verse_value.specs.Val.{Val, unit}
use Rattle.verse_value.specs.Val as val
use Rattle.verse_value.specs.Runs.{Line}
use Rattle.verse_code_machine.specs.Tasks as m
use Rattle.verse_code_machine.specs.Tasks.{Who, Part, runs, begins, branching, spawning, World, world, Step, onto, among, planted}
use Rattle.verse_code_machine.specs.Ends.{rested, resumes, next_arm}
use Rattle.sim_clock.specs.declared.waits.Pending.{Pending}
use Rattle.vm_tasks_laws.specs.Slots.{held}
use Rattle.vm_tasks_laws.specs.Standing.{Stands}
use Rattle.vm_tasks_laws.proofs.Overs.{turn_over, plants}
use Rattle.vm_frames.specs.Framed.{Framed}
use Rattle.vm_running.specs.Views.{View, Aside, state_of}
use Rattle.vm_tasks.specs.declared.slots.Arm.{Arm}
use Rattle.vm_tasks.specs.declared.slots.Arm.TheVariants.{Runs}
use Rattle.vm_tasks.specs.View.{slot_of, kind_of, part_of}
use Rattle.vm_scheduler.specs.declared.tasks.Begins.{Begins}
use Rattle.vm_scheduler.specs.declared.tasks.Tasks.{Tasks}
use Rattle.vm_scheduler.specs.declared.tasks.Up.{Up}
use Rattle.vm_scheduler.specs.declared.tasks.Up.TheVariants as up
use Rattle.vm_scheduler.specs.declared.tasks.Went.{Went}
use Rattle.vm_scheduler.specs.declared.tasks.Went.TheVariants as went
use Rattle.vm_scheduler.specs.Frames.{frames_in, threaded, Suspended}
use Rattle.vm_scheduler.specs.Ups.{ups_of, id_of, begins_of, UpsAre, no_ups, begins_up, branching_up, spawning_up}
use Rattle.vm_scheduler.specs.Standing.{Clocked, Standing, Bare}
use Rattle.vm_scheduler.specs.Meets.{MovesOn, Moves, Meets, Lies}
use Rattle.vm_scheduler.specs.Moving.{Resumes}
use Rattle.vm_scheduler.proofs.Running.{on_moves}
use Rattle.vm_scheduler.proofs.Ends.{last_first}
use Rattle.vm_group.specs.Groups.{on_rest, Hand, NextArm}
use Rattle.vm_suspend.specs.Idle.{Idle, RestsTo, Above, GoesUp, AboveGroup, GroupUp}

-- which one it is

abbrev pub begins_or : Begins → Up → Begins
begins_or b (up.Begins c) = c
begins_or b (up.Branching id fs) = b
begins_or b (up.Spawning id fs entry) = b

abbrev id_or : ℕ → Up → ℕ
id_or i (up.Begins c) = i
id_or i (up.Branching id fs) = id
id_or i (up.Spawning id fs entry) = id

abbrev pub frames_or : List Framed → Up → List Framed
frames_or gs (up.Begins c) = gs
frames_or gs (up.Branching id fs) = fs
frames_or gs (up.Spawning id fs entry) = fs

abbrev pub entry_or : ℕ → Up → ℕ
entry_or i (up.Begins c) = i
entry_or i (up.Branching id fs) = i
entry_or i (up.Spawning id fs entry) = entry

abbrev pub first_or : Up → List Up → Up
first_or x [] = x
first_or x (y ∷ ys) = y

abbrev pub others_of : List Up → List Up
others_of [] = []
others_of (y ∷ ys) = ys

pub record BeginsAbove (b : Begins) (us : List Up) (ms : List m.Up) : Type 0 where
  pub who : Who
  pub later : List m.Up
  pub is : ms ≡ begins_of who b ∷ later
  pub suspended : Suspended who.number b.thread
  pub are : UpsAre us later

record BranchesAbove (id : ℕ) (fs : List Framed) (us : List Up) (ms : List m.Up) : Type 0 where
  who : Who
  later : List m.Up
  is : ms ≡ branching (threaded who fs) ∷ later
  suspended : Suspended who.number fs
  are : UpsAre us later

record SpawnsAbove (id : ℕ) (fs : List Framed) (entry : ℕ) (us : List Up) (ms : List m.Up) : Type 0 where
  who : Who
  pre : List m.Task
  post : List m.Task
  later : List m.Up
  is : ms ≡ spawning (threaded who fs) entry pre post ∷ later
  suspended : Suspended who.number fs
  are : UpsAre us later

begins_above : (b : Begins) (us all : List Up) (ms : List m.Up) → UpsAre all ms → all ≡ up.Begins b ∷ us → BeginsAbove b us ms
begins_above b us all ms no_ups e = absurd (cc)
begins_above b us all ms (begins_up {us = vs} {ms = ns} c w s a) e =
    let same : c ≡ b = ap (λ z. begins_or b (first_or (up.Begins b) z)) e in
    let rest : vs ≡ us = ap (λ z. others_of z) e in
    record {
      who = w;
      later = ns;
      is = ap (λ z. begins_of w z ∷ ns) same;
      suspended = subst (λ z. Suspended w.number z.thread) same s;
      are =
          subst (λ z. UpsAre z ns) rest a;
    }
begins_above b us all ms (branching_up {us = vs} {ms = ns} id fs w s a) e = let same : up.Branching id fs ≡ up.Begins b =
    ap (λ z. first_or (up.Begins b) z) e in absurd (cc)
begins_above b us all ms (spawning_up {us = vs} {ms = ns} id fs entry w ps qs s a) e = let same : up.Spawning id fs entry ≡ up.Begins b =
    ap (λ z. first_or (up.Begins b) z) e in absurd (cc)

branches_above : (i : ℕ) (gs : List Framed) (us all : List Up) (ms : List m.Up) → UpsAre all ms → all ≡ up.Branching i gs ∷ us →
    BranchesAbove i gs us ms
branches_above i gs us all ms no_ups e = absurd (cc)
branches_above i gs us all ms (begins_up {us = vs} {ms = ns} c w s a) e = let same : up.Begins c ≡ up.Branching i gs =
    ap (λ z. first_or (up.Branching i gs) z) e in absurd (cc)
branches_above i gs us all ms (branching_up {us = vs} {ms = ns} id fs w s a) e =
    let same : fs ≡ gs = ap (λ z. frames_or gs (first_or (up.Branching i gs) z)) e in
    let rest : vs ≡ us = ap (λ z. others_of z) e in
    record {
      who = w;
      later = ns;
      is = ap (λ z. branching (threaded w z) ∷ ns) same;
      suspended =
          subst (λ z. Suspended w.number z) same s;
      are = subst (λ z. UpsAre z ns) rest a;
    }
branches_above i gs us all ms (spawning_up {us = vs} {ms = ns} id fs entry w ps qs s a) e =
    let same : up.Spawning id fs entry ≡ up.Branching i gs = ap (λ z. first_or (up.Branching i gs) z) e in absurd (cc)

spawns_above : (i : ℕ) (gs : List Framed) (n : ℕ) (us all : List Up) (ms : List m.Up) → UpsAre all ms → all ≡ up.Spawning i gs n ∷ us →
    SpawnsAbove i gs n us ms
spawns_above i gs n us all ms no_ups e = absurd (cc)
spawns_above i gs n us all ms (begins_up {us = vs} {ms = ns} c w s a) e = let same : up.Begins c ≡ up.Spawning i gs n =
    ap (λ z. first_or (up.Spawning i gs n) z) e in absurd (cc)
spawns_above i gs n us all ms (branching_up {us = vs} {ms = ns} id fs w s a) e = let same : up.Branching id fs ≡ up.Spawning i gs n =
    ap (λ z. first_or (up.Spawning i gs n) z) e in absurd (cc)
spawns_above i gs n us all ms (spawning_up {us = vs} {ms = ns} id fs entry w ps qs s a) e =
    let same : fs ≡ gs = ap (λ z. frames_or gs (first_or (up.Spawning i gs n) z)) e in
    let it : entry ≡ n = ap (λ z. entry_or n (first_or (up.Spawning i gs n) z)) e in
    let rest : vs ≡ us = ap (λ z. others_of z) e in
    record {
      who = w;
      pre = ps;
      post = qs;
      later = ns;
      is = ap (λ z. spawning (threaded w z) entry ps qs ∷ ns) same ∙ ap (λ z. spawning (threaded w gs) z ps qs ∷ ns) it;
      suspended = subst (λ z. Suspended w.number z) same s;
      are = subst (λ z. UpsAre z ns) rest a;
    }

none_above : (all : List Up) (ms : List m.Up) → UpsAre all ms → all ≡ [] → ms ≡ []
none_above all ms no_ups e = refl
none_above all ms (begins_up c w s a) e = absurd (cc)
none_above all ms (branching_up id fs w s a) e = absurd (cc)
none_above all ms (spawning_up id fs entry w ps qs s a) e = absurd (cc)

module _ {W : Type 0} (pending : W → List Pending) where
  abbrev with_ups : Tasks W → Vec Up → Tasks W
  with_ups t ups = record t { ups = ups }

  clock_of : (a : Aside) (v : View) (t : Tasks W) (ups : Vec Up) → Clocked pending a v (with_ups t ups) → Clocked pending a v t
  clock_of a v t ups c = record {
    past = c.past;
    next = c.next;
    results = c.results;
    signals = c.signals;
    timed = c.timed;
    fine =
        c.fine;
    untold = c.untold;
  }

  -- the world without it

  record GroupHere (b : Begins) (a : Aside) (o : World) (v : View) (t : Tasks W) : Type 0 where
    who : Who
    later : List m.Up
    is : o.ups ≡ begins_of who b ∷ later
    suspended : Suspended who.number b.thread
    standing : Standing pending (held b.id who (Some (map part_of b.arms.items ++ runs b.number ∷ [])) ∷ []) a
        (world o.pre o.post later o.trees) v t

  group_here : (b : Begins) (ups : Vec Up) (a : Aside) (o : World) (v : View) (t : Tasks W) →
      ups_of ups.items ≡ up.Begins b ∷ ups_of t.ups.items → Standing pending [] a o v (with_ups t ups) → GroupHere b a o v t
  group_here b ups a o v t are s =
      let k = begins_above b (ups_of t.ups.items) (ups_of ups.items) o.ups s.ups are in
      let one : Stands (slot_of frames_in) t.tree (map id_of (up.Begins b ∷ ups_of t.ups.items)) [] o =
      subst (λ z. Stands (slot_of frames_in) t.tree (map id_of z) [] o) are s.stands in
      let two : Stands (slot_of frames_in) t.tree (b.id ∷ map id_of (ups_of t.ups.items)) []
      (world o.pre o.post (begins_of k.who b ∷ k.later) o.trees) =
      subst (λ z. Stands (slot_of frames_in) t.tree (b.id ∷ map id_of (ups_of t.ups.items)) [] (world o.pre o.post z o.trees)) k.is one in
      record {
        who = k.who;
        later = k.later;
        is = k.is;
        suspended = k.suspended;
        standing = record {
          clock = clock_of a v t ups s.clock;
          stands = record { others = two.others; planted = two.planted; chain = two.chain; others_are = two.others_are };
          ups = k.are;
          still = s.still;
          none = s.none;
        };
      }

  record TaskHere (id : ℕ) (fs : List Framed) (x : Val) (a : Aside) (o : World) (v : View) (t : Tasks W) : Type 0 where
    who : Who
    other : World
    is : rested o.pre o.post o.ups o.trees (state_of a v) ≡ resumes (threaded who fs) x other (state_of a v)
    suspended : Suspended who.number fs
    standing : Standing pending (held id who None ∷ []) a other v t

  branch_here : (id : ℕ) (fs : List Framed) (ups : Vec Up) (a : Aside) (o : World) (v : View) (t : Tasks W) →
      ups_of ups.items ≡ up.Branching id fs ∷ ups_of t.ups.items → Standing pending [] a o v (with_ups t ups) → TaskHere id fs unit a o v t
  branch_here id fs ups a o v t are s =
      let k = branches_above id fs (ups_of t.ups.items) (ups_of ups.items) o.ups s.ups are in
      let one : Stands (slot_of frames_in) t.tree (map id_of (up.Branching id fs ∷ ups_of t.ups.items)) [] o =
      subst (λ z. Stands (slot_of frames_in) t.tree (map id_of z) [] o) are s.stands in
      let two : Stands (slot_of frames_in) t.tree (id ∷ map id_of (ups_of t.ups.items)) []
      (world o.pre o.post (branching (threaded k.who fs) ∷ k.later) o.trees) =
      subst (λ z. Stands (slot_of frames_in) t.tree (id ∷ map id_of (ups_of t.ups.items)) [] (world o.pre o.post z o.trees)) k.is one in
      record {
        who = k.who;
        other = world o.pre o.post k.later o.trees;
        is = ap (λ z. rested o.pre o.post z o.trees (state_of a v)) k.is;
        suspended = k.suspended;
        standing = record {
          clock = clock_of a v t ups s.clock;
          stands = record { others = two.others; planted = two.planted; chain = two.chain; others_are = two.others_are };
          ups = k.are;
          still = s.still;
          none = s.none;
        };
      }

  spawn_here : (id : ℕ) (fs : List Framed) (entry : ℕ) (ups : Vec Up) (a : Aside) (o : World) (v : View) (t : Tasks W) →
      ups_of ups.items ≡ up.Spawning id fs entry ∷ ups_of t.ups.items → Standing pending [] a o v (with_ups t ups) →
      TaskHere id fs (val.task entry) a o v t
  spawn_here id fs entry ups a o v t are s =
      let k = spawns_above id fs entry (ups_of t.ups.items) (ups_of ups.items) o.ups s.ups are in
      let one : Stands (slot_of frames_in) t.tree (map id_of (up.Spawning id fs entry ∷ ups_of t.ups.items)) [] o =
      subst (λ z. Stands (slot_of frames_in) t.tree (map id_of z) [] o) are s.stands in
      let two : Stands (slot_of frames_in) t.tree (id ∷ map id_of (ups_of t.ups.items)) []
      (world o.pre o.post (spawning (threaded k.who fs) entry k.pre k.post ∷ k.later) o.trees) =
      subst (λ z. Stands (slot_of frames_in) t.tree (id ∷ map id_of (ups_of t.ups.items)) [] (world o.pre o.post z o.trees)) k.is one in
      record {
        who = k.who;
        other = world k.pre k.post k.later (planted o.trees (onto o.pre o.post));
        is = ap (λ z. rested o.pre o.post z o.trees (state_of a v)) k.is;
        suspended = k.suspended;
        standing = record {
          clock = clock_of a v t ups s.clock;
          stands = plants (slot_of frames_in) t.tree (map id_of (ups_of t.ups.items)) id (threaded k.who fs) entry o.pre o.post k.pre k.post
              k.later o.trees two;
          ups = k.are;
          still = s.still;
          none = s.none;
        };
      }

  never_down : (q : Step) (past : List Line) (r : Went) (u : View) (s : Tasks W) → MovesOn pending q past r u s → r ≡ went.Down → ⊥
  never_down q past r u s k e = subst (λ z. MovesOn pending q past z u s) e k

  -- it goes on

  task_moves : (id : ℕ) (fs : List Framed) (x : Val) (r : Went) (a : Aside) (o : World) (v u : View) (t s : Tasks W) →
      TaskHere id fs x a o v t → Bare v → Resumes pending id fs x r v t u s →
      MovesOn pending (rested o.pre o.post o.ups o.trees (state_of a v)) a.past r u s
  task_moves id fs x r a o v u t s h bare k =
      subst (λ q. MovesOn pending q a.past r u s) (sym h.is) (k.resumes a h.who h.other h.standing bare h.suspended)

  branch_goes : {E : Type 0} (d : Result Went E) (id : ℕ) (fs : List Framed) (v u : View) (t s : Tasks W) →
      IfOk d (λ r. Resumes pending id fs unit r v t u s) → IfOk d (λ r. GoesUp pending (up.Branching id fs) r v t u s)
  branch_goes (Err e) id fs v u t s h = tt
  branch_goes (Ok r) id fs v u t s h = record {
    goes = λ ups a o are st bare. on_moves pending (rested o.pre o.post o.ups o.trees (state_of a v)) a.past r u s
        (task_moves id fs unit r a o v u t s (branch_here id fs ups a o v t are st) bare h);
  }

  spawn_goes : {E : Type 0} (d : Result Went E) (id : ℕ) (fs : List Framed) (entry : ℕ) (v u : View) (t s : Tasks W) →
      IfOk d (λ r. Resumes pending id fs (val.task entry) r v t u s) → IfOk d (λ r. GoesUp pending (up.Spawning id fs entry) r v t u s)
  spawn_goes (Err e) id fs entry v u t s h = tt
  spawn_goes (Ok r) id fs entry v u t s h = record {
    goes = λ ups a o are st bare. on_moves pending (rested o.pre o.post o.ups o.trees (state_of a v)) a.past r u s
        (task_moves id fs (val.task entry) r a o v u t s (spawn_here id fs entry ups a o v t are st) bare h);
  }

  branch_runs : {E : Type 0} (d : Result Went E) (A : Type 0) (id : ℕ) (fs : List Framed) (v u : View) (t s : Tasks W) →
      Above pending (up.Branching id fs) v t → IfOk d (λ r. Resumes pending id fs unit r v t u s) → IfOk d (λ r. r ≡ went.Down → A)
  branch_runs (Err e) A id fs v u t s x h = tt
  branch_runs (Ok r) A id fs v u t s x h =
      λ e. absurd (never_down _ x.idle.aside.past r u s
      (task_moves id fs unit r x.idle.aside x.idle.world v u t s
      (branch_here id fs x.ups x.idle.aside x.idle.world v t x.are x.idle.standing) x.idle.bare h) e)

  spawn_runs : {E : Type 0} (d : Result Went E) (A : Type 0) (id : ℕ) (fs : List Framed) (entry : ℕ) (v u : View) (t s : Tasks W) →
      Above pending (up.Spawning id fs entry) v t → IfOk d (λ r. Resumes pending id fs (val.task entry) r v t u s) →
      IfOk d (λ r. r ≡ went.Down → A)
  spawn_runs (Err e) A id fs entry v u t s x h = tt
  spawn_runs (Ok r) A id fs entry v u t s x h =
      λ e. absurd (never_down _ x.idle.aside.past r u s
      (task_moves id fs (val.task entry) r x.idle.aside x.idle.world v u t s
      (spawn_here id fs entry x.ups x.idle.aside x.idle.world v t x.are x.idle.standing) x.idle.bare h) e)

  -- a group

  above_group : (b : Begins) (v : View) (t : Tasks W) → Above pending (up.Begins b) v t → AboveGroup pending b v t
  above_group b v t x =
      let h = group_here b x.ups x.idle.aside x.idle.world v t x.are x.idle.standing in
      record {
        aside = x.idle.aside;
        who = h.who;
        world = world x.idle.world.pre x.idle.world.post h.later x.idle.world.trees;
        standing =
            h.standing;
        bare = x.idle.bare;
        suspended = h.suspended;
      }

  group_goes : {E : Type 0} (d : Result Went E) (b : Begins) (v u : View) (t s : Tasks W) → IfOk d (λ r. GroupUp pending b r v t u s) →
      IfOk d (λ r. GoesUp pending (up.Begins b) r v t u s)
  group_goes (Err e) b v u t s h = tt
  group_goes (Ok r) b v u t s k = record {
    goes = λ ups a o are st bare.
        let h = group_here b ups a o v t are st in
        subst (λ z. Moves pending (rested o.pre o.post z o.trees (state_of a v)) a.past r u s) (sym h.is)
        (k.goes a h.who (world o.pre o.post h.later o.trees) h.standing bare h.suspended);
  }

  pub hand_of : (b : Begins) (arms : Vec Arm) (v : View) (t : Tasks W) → arms.items ≡ b.arms.items ++ Runs b.number ∷ [] →
      AboveGroup pending b v t → Hand pending (record b { arms = arms }) v t
  hand_of b arms v t are x =
      let same : map part_of b.arms.items ++ runs b.number ∷ [] ≡ map part_of arms.items =
      sym (ap (λ z. map part_of z) are ∙ map-append part_of b.arms.items (Runs b.number ∷ [])) in
      record {
        aside = x.aside;
        who = x.who;
        world = x.world;
        standing =
            subst (λ z. Standing pending (held b.id x.who (Some z) ∷ []) x.aside x.world v t) same x.standing;
        bare = x.bare;
        suspended =
            x.suspended;
      }

  pub next_goes : {E : Type 0} (d : Result Went E) (b : Begins) (arms : Vec Arm) (v u : View) (t s : Tasks W) →
      arms.items ≡ b.arms.items ++ Runs b.number ∷ [] → IfOk d (λ r. NextArm pending (record b { arms = arms }) r v t u s) →
      IfOk d (λ r. GroupUp pending b r v t u s)
  next_goes (Err e) b arms v u t s are h = tt
  next_goes (Ok r) b arms v u t s are k =
      let same : map part_of arms.items ≡ map part_of b.arms.items ++ runs b.number ∷ [] =
      ap (λ z. map part_of z) are ∙ map-append part_of b.arms.items (Runs b.number ∷ []) in
      record {
        goes = λ a w o st bare sus.
            subst (λ z. Moves pending (next_arm (kind_of b.kind) b.place z (reverse b.labels.items)
            (threaded w b.thread) o.pre o.post o.ups o.trees (state_of a v) (on_rest o (state_of a v))) a.past r u s) same
            (k.next a w o (subst (λ z. Standing pending (held b.id w (Some z) ∷ []) a o v t) (sym same) st) bare sus);
      }

  -- by what is told of it

  pub group_above : (x : Up) (b : Begins) (v : View) (t : Tasks W) → x ≡ up.Begins b → Above pending x v t → AboveGroup pending b v t
  group_above x b v t is h = above_group b v t (subst (λ z. Above pending z v t) is h)

  pub group_up : {E : Type 0} (d : Result Went E) (x : Up) (b : Begins) (v u : View) (t s : Tasks W) → x ≡ up.Begins b →
      IfOk d (λ r. GroupUp pending b r v t u s) → IfOk d (λ r. GoesUp pending x r v t u s)
  group_up d x b v u t s is h = subst (λ z. IfOk d (λ r. GoesUp pending z r v t u s)) (sym is) (group_goes d b v u t s h)

  pub branch_some : (x : Up) (id : ℕ) (fs : List Framed) (v : View) (t : Tasks W) → x ≡ up.Branching id fs → Above pending x v t → fs ≢ []
  branch_some x id fs v t is h =
      let k = subst (λ z. Above pending z v t) is h in
      (branch_here id fs k.ups k.idle.aside k.idle.world v t k.are k.idle.standing).suspended.unguarded.some

  pub branch_up : {E : Type 0} (d : Result Went E) (x : Up) (id : ℕ) (fs : List Framed) (v u : View) (t s : Tasks W) →
      x ≡ up.Branching id fs → IfOk d (λ r. Resumes pending id fs unit r v t u s) → IfOk d (λ r. GoesUp pending x r v t u s)
  branch_up d x id fs v u t s is h = subst (λ z. IfOk d (λ r. GoesUp pending z r v t u s)) (sym is) (branch_goes d id fs v u t s h)

  pub branch_over : {E : Type 0} (d : Result Went E) (A : Type 0) (x : Up) (id : ℕ) (fs : List Framed) (v u : View) (t s : Tasks W) →
      x ≡ up.Branching id fs → Above pending x v t → IfOk d (λ r. Resumes pending id fs unit r v t u s) → IfOk d (λ r. r ≡ went.Down → A)
  branch_over d A x id fs v u t s is k h = branch_runs d A id fs v u t s (subst (λ z. Above pending z v t) is k) h

  pub spawn_some : (x : Up) (id : ℕ) (fs : List Framed) (entry : ℕ) (v : View) (t : Tasks W) → x ≡ up.Spawning id fs entry →
      Above pending x v t → fs ≢ []
  spawn_some x id fs entry v t is h =
      let k = subst (λ z. Above pending z v t) is h in
      (spawn_here id fs entry k.ups k.idle.aside k.idle.world v t k.are k.idle.standing).suspended.unguarded.some

  pub spawn_up : {E : Type 0} (d : Result Went E) (x : Up) (id : ℕ) (fs : List Framed) (entry : ℕ) (v u : View) (t s : Tasks W) →
      x ≡ up.Spawning id fs entry → IfOk d (λ r. Resumes pending id fs (val.task entry) r v t u s) →
      IfOk d (λ r. GoesUp pending x r v t u s)
  spawn_up d x id fs entry v u t s is h = subst (λ z. IfOk d (λ r. GoesUp pending z r v t u s)) (sym is)
      (spawn_goes d id fs entry v u t s h)

  pub spawn_over : {E : Type 0} (d : Result Went E) (A : Type 0) (x : Up) (id : ℕ) (fs : List Framed) (entry : ℕ) (v u : View)
      (t s : Tasks W) → x ≡ up.Spawning id fs entry → Above pending x v t → IfOk d (λ r. Resumes pending id fs (val.task entry) r v t u s) →
      IfOk d (λ r. r ≡ went.Down → A)
  spawn_over d A x id fs entry v u t s is k h = spawn_runs d A id fs entry v u t s (subst (λ z. Above pending z v t) is k) h

  -- one after the other

  module _ (v : View) (t : Tasks W) (x : Up) (ups : Vec Up) (are : t.ups.items ≡ ups.items ++ x ∷ []) where
    turned : ups_of t.ups.items ≡ x ∷ ups_of ups.items
    turned = last_first ups.items t.ups.items x are

    pub above_of : Idle pending v t → Above pending x v (with_ups t ups)
    above_of i = record { ups = t.ups; are = turned; idle = i }

    lies_of : (u : View) (s : Tasks W) (a : Aside) (o : World) → GoesUp pending x went.Down v (with_ups t ups) u s →
        Standing pending [] a o v t → Bare v → Lies pending (rested o.pre o.post o.ups o.trees (state_of a v)) a.past u s
    lies_of u s a o g st bare = g.goes t.ups a o turned st bare

    pub still_idle : (r : Went) (u : View) (s : Tasks W) → r ≡ went.Down → GoesUp pending x r v (with_ups t ups) u s → Idle pending v t →
        Idle pending u s
    still_idle r u s down g i =
        let k = lies_of u s i.aside i.world (subst (λ z. GoesUp pending x z v (with_ups t ups) u s) down g) i.standing i.bare in
        record { aside = k.aside; world = k.world; standing = k.standing; bare = k.bare }

    pub one_up : (r : Went) (u : View) (s : Tasks W) (q : Went) (z : View) (w : Tasks W) → r ≡ went.Down →
        GoesUp pending x r v (with_ups t ups) u s → RestsTo pending q u s z w → RestsTo pending q v t z w
    one_up r u s q z w down g more = record {
      rests = λ a o st bare.
          let k = lies_of u s a o (subst (λ z. GoesUp pending x z v (with_ups t ups) u s) down g) st bare in
          subst (λ p. Meets pending (rested o.pre o.post o.ups o.trees (state_of a v)) p q z w) k.same
          (subst (λ p. Meets pending p k.aside.past q z w) (sym k.is) (more.rests k.aside k.world k.standing k.bare));
    }

    pub goes_on : (r : Went) (u : View) (s : Tasks W) → (r ≡ went.Down → ⊥) → GoesUp pending x r v (with_ups t ups) u s →
        RestsTo pending r v t u s
    goes_on went.On u s d g = record { rests = λ a o st bare. g.goes t.ups a o turned st bare }
    goes_on (went.Over e) u s d g = record { rests = λ a o st bare. g.goes t.ups a o turned st bare }
    goes_on went.Down u s d g = absurd (d refl)

    pub fewer : (s : Tasks W) → s.ups ≡ ups → length s.ups.items < length t.ups.items
    fewer s e =
        let count : length t.ups.items ≡ length (ups.items ++ x ∷ []) = ap (λ z. length z) are in
        let same : length s.ups.items ≡ length ups.items = ap (λ (z : Vec Up). length z.items) e in
        let more : length (ups.items ++ x ∷ []) ≡ length ups.items + 1 = length-append ups.items (x ∷ []) in
        omega (arith, count, same, more)

  pub turn_ends : (v : View) (t : Tasks W) (ups : Vec Up) → t.ups.items ≡ [] → ups.items ≡ [] →
      RestsTo pending went.Down v t v (with_ups t ups)
  turn_ends v t ups none still = record {
    rests = λ a o st bare.
        let empty : o.ups ≡ [] = none_above (ups_of t.ups.items) o.ups st.ups (ap (λ z. ups_of z) none) in
        let c = st.clock in
        record {
          aside = a;
          trees = among (onto o.pre o.post) o.trees;
          same = refl;
          resting = record {
            clock = record {
              past = c.past;
              next = c.next;
              results = c.results;
              signals = c.signals;
              timed = c.timed;
              fine =
                  c.fine;
              untold = c.untold;
            };
            rests = turn_over (slot_of frames_in) t.tree (map id_of (ups_of t.ups.items)) o.pre o.post o.trees
                (subst (λ z. Stands (slot_of frames_in) t.tree (map id_of (ups_of t.ups.items)) [] (world o.pre o.post z o.trees)) empty
                st.stands);
            bare = bare;
            no_ups = still;
            still = st.still;
            none = st.none;
          };
          is = ap (λ z. rested o.pre o.post z o.trees (state_of a v)) empty;
        };
  }
