-- What every state of a run holds: values within their limits, and frames that stand where they may.
use Rattle.std.proofs.Common.{◌≡◌, ℕ, zero, suc, ◌+◌, ◌≤◌, ◌<◌, length, List, [], ◌∷◌, ◌++◌, Option, Some, None, Bool, true, false, cond}
use Rattle.std.proofs.Common.{refl, sym}
use Rattle.std.proofs.Common.{subst, ap, ◌∙◌, arith, ◌⊎◌}
use mathlib.Core.Logic.{inl, inr}
use Rattle.std.proofs.lemmas.List.{length-append}
use Rattle.verse_base.specs.declared.places.Place.{Place}
use Rattle.verse_code.specs.declared.codes.Code.{Code}
use Rattle.verse_value.specs.Val.{Val, unit, falsity, truth, int, char, enum, object, event, task, some, array, mapping, tuple, Vals}
use Rattle.verse_value.specs.Val.{no_vals}
use Rattle.verse_value.specs.Val.{more_vals, Pairs, no_pairs, more_pairs}
use Rattle.verse_value.specs.Store.{Store, Cell}
use Rattle.verse_meaning_state.specs.State.{State, Given, Signal, stepped, at_moment, with_result, drawn, with_entry, set_at}
use Rattle.verse_meaning_state.specs.Waits.{Cause, till, never, done, heard, Wait, waiting, eqn}
use Rattle.verse_meaning_state.specs.Turns.{Kind}
use Rattle.verse_code_machine.specs.Tasks.{Handler, Frame, Note, Role, root, part, Who, Part, did, runs, Rest, asleep, group, Thread}
use Rattle.verse_code_machine.specs.Tasks.{thread, Task}
use Rattle.verse_code_machine.specs.Tasks.{After, resuming, closing, finishing, Up, begins, branching, spawning, clearing, Trees, World}
use Rattle.verse_code_machine.specs.Tasks.{world}
use Rattle.verse_code_machine.specs.Tasks.{Step, Next, Over, Turn, onto, starts, since, beneath_arms, root_named, child_named}
use Rattle.verse_code_machine.specs.Frames.{free}
use Rattle.verse_code_machine.specs.Cancelling.{without, inserted, gone_before, gone_behind, cancelled, world_without}
use Rattle.verse_code_machine.specs.Ends.{with_did}
use Rattle.verse_code_machine.specs.Runs.{Forest}
use Rattle.verse_code_machine_parents.specs.Parents.{UpsRooted}
use Rattle.run_save_shots.specs.Lists.{Each}
use Rattle.run_save_shots.specs.Fitting.{IsSound, AreSound, PairsAreSound, ValueFits, ValuesFit, GivenFits, IsBlock}
use Rattle.verse_base.specs.declared.limits.TheConstants.{MOST_NOW, MOST_MOMENT}
use Rattle.verse_meaning_state.proofs.Numbers.{nth_within}
use Rattle.run_save_shots.proofs.Lists.{each_join, each_front, each_back, all_as, each_cond}
use Rattle.run_save_moves.specs.Fine.{Scene, SlotsFine, MemoryFine, HandlerFine, FrameFine, StateFine, Ticks, Changes, IsEvent}
use Rattle.run_save_moves.specs.Moves as m
use Rattle.run_save_moves.specs.Moves.{Point, Move, Leads, IsCalm, Holds, BehindCall, BehindWait, BehindGroup, CauseIs, NotYet, PartFits}
use Rattle.run_save_moves.specs.Moves.{given}
use Rattle.run_save_moves.specs.Moves.{begun, ends_run, acts_next, turns_next, then_leads}
use Rattle.run_save_fits.specs.Held as d
use Rattle.run_save_fits.specs.Held.{Has, IsSome, RoleIs, WhoIs, NoLater}
use Rattle.run_save_moves.proofs.Values.{unit_fits, task_fits}

-- ---- lists

module _ (P : Task → Type 0) where
  onto_each : (xs ts : List Task) → Each P xs → Each P ts → Each P (onto xs ts)
  onto_each [] ts a b = b
  onto_each (x ∷ xs) ts a b = onto_each xs (x ∷ ts) a.1 (a.0, b)

  onto_post : (xs ts : List Task) → Each P (onto xs ts) → Each P xs × Each P ts
  onto_post [] ts a = (tt, a)
  onto_post (x ∷ xs) ts a = let h = onto_post xs (x ∷ ts) a in ((h.1.0, h.0), h.1.1)

  without_each : (f : List ℕ → Bool) (ts : List Task) → Each P ts → Each P (without f ts)
  without_each f [] a = tt
  without_each f (t ∷ ts) a = each_cond P (f t.thread.who.path) _ _ (without_each f ts a.1) (a.0, without_each f ts a.1)

  inserted_each : (t : Task) (ts : List Task) → P t → Each P ts → Each P (inserted t ts)
  inserted_each t [] a b = (a, tt)
  inserted_each t (x ∷ xs) a b = each_cond P (starts t.thread.who.path x.thread.who.path) (x ∷ inserted t xs) (t ∷ x ∷ xs) (
    b.0,
    inserted_each t xs a
        b.1,
  ) (a, b)

  before_each : (f : List ℕ → Bool) (ts : List Task) → Each P ts → Each P (gone_before f ts)
  before_each f [] a = tt
  before_each f (t ∷ ts) a = each_cond P (f t.thread.who.path) _ _ (inserted_each t (gone_before f ts) a.0 (before_each f ts a.1))
      (before_each f ts a.1)

  behind_each : (f : List ℕ → Bool) (ts : List Task) → Each P ts → Each P (gone_behind f ts)
  behind_each f [] a = tt
  behind_each f (t ∷ ts) a = each_cond P (f t.thread.who.path) (t ∷ gone_behind f ts) _ (a.0, behind_each f ts a.1) (behind_each f ts a.1)

  cancelled_each : (f : List ℕ → Bool) (o : World) → Each P o.pre → Each P o.post → Each P (cancelled f o)
  cancelled_each f o a b = each_join P (gone_before f o.pre) (gone_behind f o.post) (before_each f o.pre a) (behind_each f o.post b)

-- ---- what is fine stays so where there are more entries

mutual
  lift_sound : {n m : ℕ} → n ≤ m → (v : Val) → IsSound n v → IsSound m v
  lift_sound {n} {m} h unit a = a
  lift_sound {n} {m} h falsity a = a
  lift_sound {n} {m} h truth a = a
  lift_sound {n} {m} h (int j) a = a
  lift_sound {n} {m} h (char j) a = a
  lift_sound {n} {m} h (enum j l) a = a
  lift_sound {n} {m} h (object j) a = a
  lift_sound {n} {m} h (event j) a = a
  lift_sound {n} {m} h (task j) a = omega (arith, h, a)
  lift_sound {n} {m} h (some w) a = lift_sound h w a
  lift_sound {n} {m} h (array vs) a = lift_all h vs a
  lift_sound {n} {m} h (mapping ps) a = lift_pairs h ps a
  lift_sound {n} {m} h (tuple vs) a = lift_all h vs a

  lift_all : {n m : ℕ} → n ≤ m → (vs : Vals) → AreSound n vs → AreSound m vs
  lift_all {n} {m} h no_vals a = tt
  lift_all {n} {m} h (more_vals v vs) a = (lift_sound h v a.0, lift_all h vs a.1)

  lift_pairs : {n m : ℕ} → n ≤ m → (ps : Pairs) → PairsAreSound n ps → PairsAreSound m ps
  lift_pairs {n} {m} h no_pairs a = tt
  lift_pairs {n} {m} h (more_pairs k v ps) a = (a.0, lift_sound h v a.1, a.2, lift_pairs h ps a.3)

lift_value : (n m : ℕ) → n ≤ m → (v : Val) → ValueFits n v → ValueFits m v
lift_value n m h v a = record { small = a.small; sound = lift_sound h v a.sound }

lift_values : (n m : ℕ) → n ≤ m → (vs : List Val) → ValuesFit n vs → ValuesFit m vs
lift_values n m h vs a = all_as (ValueFits n) (ValueFits m) (lift_value n m h) vs a

lift_given : (n m : ℕ) → n ≤ m → (g : Option Given) → GivenFits n g → GivenFits m g
lift_given n m h None a = tt
lift_given n m h (Some g) a = lift_value n m h g.value a

lift_part : (n m : ℕ) → n ≤ m → (g : Part) → PartFits n g → PartFits m g
lift_part n m h (did v) a = lift_value n m h v a
lift_part n m h (runs i) a = tt

pub end_some : (xs : List ℕ) (n : ℕ) → IsSome (xs ++ n ∷ [])
end_some [] n = tt
end_some (x ∷ xs) n = tt

pub role_some : (r : Role) (w : Who) → RoleIs r w → IsSome w.path
role_some (root entry) w a = subst IsSome (sym a.1) tt
role_some part w a = subst IsSome (sym a.0) (end_some w.up w.number)

pub child_who : (w : Who) (l : ℕ) → WhoIs w → WhoIs (child_named w l)
child_who w l a = (refl, role_some w.role w a)

module _ (c : Code) (until : ℕ) (short : until ≤ MOST_NOW) where
  abbrev pub FrameStill : ℕ → Frame → Type 0
  FrameStill = d.FrameStill c

  abbrev pub LowerStill : ℕ → Frame → Type 0
  LowerStill = d.LowerStill c

  abbrev pub ThreadStill : ℕ → Thread → Type 0
  ThreadStill = d.ThreadStill c

  abbrev pub LowerFine : Scene → Frame → Type 0
  LowerFine = d.LowerFine c

  abbrev pub ThreadFine : Scene → Thread → Type 0
  ThreadFine = d.ThreadFine c

  abbrev pub CauseFine : Scene → Cause → Type 0
  CauseFine = d.CauseFine c

  abbrev pub RestFine : Scene → (next place : ℕ) → Rest → Type 0
  RestFine = d.RestFine c

  abbrev pub TaskFine : Scene → ℕ → Task → Type 0
  TaskFine = d.TaskFine c

  abbrev pub TasksFine : Scene → ℕ → List Task → Type 0
  TasksFine = d.TasksFine c

  abbrev pub TreesFine : Scene → ℕ → Forest → Type 0
  TreesFine = d.TreesFine c

  abbrev pub AfterFine : Scene → After → Type 0
  AfterFine = d.AfterFine c

  abbrev pub GroupFine : Scene → Kind → Place → List Part → ℕ → Thread → Type 0
  GroupFine = d.GroupFine c

  abbrev pub UpFine : Scene → ℕ → Up → Type 0
  UpFine = d.UpFine c

  abbrev pub Others : Scene → ℕ → List Task → List Task → List Up → Trees → Type 0
  Others = d.Others c

  abbrev pub WorldFine : Scene → ℕ → World → Type 0
  WorldFine = d.WorldFine c

  abbrev pub StateHeld : Scene → State → Type 0
  StateHeld = d.StateHeld c until

  abbrev pub GoingFine : Scene → List Frame → Type 0
  GoingFine z [] = Unit {0}
  GoingFine z (f ∷ fs) = FrameFine c z f × Each (LowerFine z) fs

  -- at a point of an operation, in a scene
  abbrev pub Holding : Scene → Point → Type 0
  Holding z (m.acts k) = StateHeld z k.state × ThreadFine z (thread k.who k.frame k.below) × WorldFine z k.state.clock.next k.world
  Holding z (m.rests pre post us trees s) = StateHeld z s × Others z s.clock.next pre post us trees
  Holding z (m.gathering k p gs ls x pre post us trees s) =
      StateHeld z s × GroupFine z k p gs (length gs + length ls) x × Others z s.clock.next pre post us trees
  Holding z (m.cancels a ts o s) = StateHeld z s × (AfterFine z a × TasksFine z s.clock.next ts) × WorldFine z s.clock.next o
  Holding z (m.going x fs o s) = StateHeld z s × (WhoIs x × GoingFine z fs) × WorldFine z s.clock.next o
  Holding z (m.ended r x v o s) = StateHeld z s × ValueFits z.entries v × WorldFine z s.clock.next o
  Holding z (m.climbs up n v pre post trees s) = StateHeld z s × ValueFits z.entries v × Others z s.clock.next pre post [] trees
  Holding z (m.wakes n v tss s) = StateHeld z s × ValueFits z.entries v × TreesFine z s.clock.next tss
  Holding z (m.turns s tss) = StateHeld z s × TreesFine z s.clock.next tss

  -- ---- a suspended task, and one that runs

  free_none : (hs : List Handler) (ns : List Note) (fs : List Frame) → free hs ns fs ≡ true → (hs ≡ []) ×
      Each (λ (f : Frame). f.handlers ≡ []) fs
  free_none (h ∷ hs) ns fs e = absurd (cc)
  free_none [] (n ∷ ns) fs e = absurd (cc)
  free_none [] [] [] e = (refl, tt)
  free_none [] [] (f ∷ fs) e = (refl, free_none f.handlers f.life.noted fs e)

  still_frame : (z : Scene) (f : Frame) → FrameFine c z f → f.handlers ≡ [] → FrameStill z.entries f
  still_frame z f a e = record { locals = a.locals; stack = a.stack; defers = a.defers; handlers = e }

  still_lower : (z : Scene) (fs : List Frame) → Each (LowerFine z) fs → Each (λ (f : Frame). f.handlers ≡ []) fs →
      Each (LowerStill z.entries) fs
  still_lower z [] a b = tt
  still_lower z (f ∷ fs) a b = ((still_frame z f a.0.0 b.0, a.0.1), still_lower z fs a.1 b.1)

  still_thread : (z : Scene) (w : Who) (f : Frame) (fs : List Frame) → free f.handlers f.life.noted fs ≡ true →
      ThreadFine z (thread w f fs) → ThreadStill z.entries (thread w f fs)
  still_thread z w f fs e a = let h = free_none f.handlers f.life.noted fs e in
      record { named = a.named; frame = still_frame z f a.frame h.0; below = still_lower z fs a.below h.1 }

  fine_frame : (z : Scene) (f : Frame) → FrameStill z.entries f → FrameFine c z f
  fine_frame z f a = record {
    locals = a.locals;
    stack = a.stack;
    defers = a.defers;
    handlers = subst (Each (HandlerFine c z)) (sym a.handlers) tt;
  }

  fine_thread : (z : Scene) (x : Thread) → ThreadStill z.entries x → ThreadFine z x
  fine_thread z x a = record {
    named = a.named;
    frame = fine_frame z x.frame a.frame;
    below = all_as (LowerStill z.entries) (LowerFine z) (λ f b. (fine_frame z f b.0, b.1)) x.below a.below;
  }

  with_value : (z : Scene) (x : Thread) (v : Val) → ThreadFine z x → ValueFits z.entries v →
      ThreadFine z (thread x.who (given x.frame v) x.below)
  with_value z x v a b = record {
    named = a.named;
    frame = record { locals = a.frame.locals; stack = (b, a.frame.stack); defers = a.frame.defers; handlers = a.frame.handlers };
    below = a.below;
  }

  pub begun_fine : (z : Scene) (l place : ℕ) (ls : List Val) → ValuesFit z.entries ls → FrameFine c z (begun l place ls)
  begun_fine z l place ls a = record { locals = a; stack = tt; defers = tt; handlers = tt }

  -- ---- a wider scene

  record Wider (z : Scene) (n : ℕ) (y : Scene) (i : ℕ) : Type 0 where
    pub entries : z.entries ≤ y.entries
    pub next : n ≤ i
    pub events : (e : ℕ) → Has e z.events → Has e y.events

  lift_frame : (n i : ℕ) → n ≤ i → (f : Frame) → FrameStill n f → FrameStill i f
  lift_frame n i h f a = record {
    locals = lift_values n i h f.locals a.locals;
    stack = lift_values n i h f.stack a.stack;
    defers = a.defers;
    handlers = a.handlers;
  }

  lift_thread : (n i : ℕ) → n ≤ i → (x : Thread) → ThreadStill n x → ThreadStill i x
  lift_thread n i h x a = record {
    named = a.named;
    frame = lift_frame n i h x.frame a.frame;
    below = all_as (LowerStill n) (LowerStill i) (λ f b. (lift_frame n i h f b.0, b.1)) x.below a.below;
  }

  module _ (z : Scene) (n : ℕ) (y : Scene) (i : ℕ) (wide : Wider z n y i) where
    lift_cause : (q : Cause) → CauseFine z q → CauseFine y q
    lift_cause (till moment) a = a
    lift_cause never a = tt
    lift_cause (done entry) a = let h = wide.entries in omega (arith, h, a)
    lift_cause (heard d) a = wide.events d a

    lift_parts : (gs : List Part) → Each (PartFits z.entries) gs → Each (PartFits y.entries) gs
    lift_parts gs a = all_as (PartFits z.entries) (PartFits y.entries) (lift_part z.entries y.entries wide.entries) gs a

    lift_rest : (place : ℕ) (r : Rest) → RestFine z n place r → RestFine y i place r
    lift_rest place (asleep w) a = let h = wide.next in let b = a.0 in (omega (arith, b, h), a.1, lift_cause w.cause a.2)
    lift_rest place (group k p gs) a = (a.0, a.1, lift_parts gs a.2, a.3)

    lift_task : (t : Task) → TaskFine z n t → TaskFine y i t
    lift_task t a = record {
      still = lift_thread z.entries y.entries wide.entries t.thread a.still;
      rest = lift_rest t.thread.frame.place t.rest a.rest;
    }

    lift_tasks : (ts : List Task) → TasksFine z n ts → TasksFine y i ts
    lift_tasks ts a = all_as (TaskFine z n) (TaskFine y i) lift_task ts a

    lift_trees : (tss : Forest) → TreesFine z n tss → TreesFine y i tss
    lift_trees tss a = all_as (TasksFine z n) (TasksFine y i) lift_tasks tss a

    lift_group : (k : Kind) (p : Place) (gs : List Part) (arms : ℕ) (x : Thread) → GroupFine z k p gs arms x → GroupFine y k p gs arms x
    lift_group k p gs arms x a = record {
      still = lift_thread z.entries y.entries wide.entries x a.still;
      place = a.place;
      some = a.some;
      parts = lift_parts gs a.parts;
    }

    lift_ups : (left : ℕ) (us : List Up) → UpsRooted left us → Each (UpFine z n) us → Each (UpFine y i) us
    lift_ups left [] r a = tt
    lift_ups left (begins x k p gs m ls ∷ us) r a = (lift_group k p gs (suc (length gs + length ls)) x a.0, lift_ups left us r.1 a.1)
    lift_ups left (branching x ∷ us) r a = (lift_thread z.entries y.entries wide.entries x a.0, lift_ups left us r.1 a.1)
    lift_ups left (spawning x e ps qs ∷ us) r a = let h = wide.entries in let b = a.0.1 in (
      (lift_thread z.entries y.entries wide.entries x a.0.0, omega (arith, h, b), lift_tasks ps a.0.2, lift_tasks qs a.0.3),
      lift_ups left us r.3 a.1,
    )
    lift_ups left (clearing b ts ∷ us) r a = absurd r

  -- ---- states

  stepped_held : (z : Scene) (l : ℕ) (s : State) → StateHeld z s → StateHeld z (stepped l s)
  stepped_held z l s a = record {
    fine = record {
      before = a.fine.before;
      entries = a.fine.entries;
      memory = a.fine.memory;
      results = a.fine.results;
      signals = a.fine.signals;
    };
    now = a.now;
    results = a.results;
  }

  changed_held : (z : Scene) (s u : State) (f g : Frame) → Changes c s f u g → StateHeld z s → FrameFine c z f → StateHeld z u
  changed_held z s u f g h a b = record {
    fine = h.state z a.fine b;
    now = subst (λ n. n ≤ until) (sym h.ticks.now) a.now;
    results = subst (Each (NoLater until)) (sym h.ticks.results) a.results;
  }

  set_results : (n : ℕ) (rs : List (Option Given)) (e : ℕ) (g : Given) → Each (GivenFits n) rs → ValueFits n g.value →
      Each (GivenFits n) (set_at rs e (Some g))
  set_results n [] e g a b = tt
  set_results n (r ∷ rs) zero g a b = (b, a.1)
  set_results n (r ∷ rs) (suc e) g a b = (a.0, set_results n rs e g a.1 b)

  set_length : (rs : List (Option Given)) (e : ℕ) (g : Option Given) → length (set_at rs e g) ≡ length rs
  set_length [] e g = refl
  set_length (r ∷ rs) zero g = refl
  set_length (r ∷ rs) (suc e) g = ap suc (set_length rs e g)

  set_later : (rs : List (Option Given)) (e : ℕ) (g : Given) → Each (NoLater until) rs → g.moment ≤ until →
      Each (NoLater until) (set_at rs e (Some g))
  set_later [] e g a b = tt
  set_later (r ∷ rs) zero g a b = (b, a.1)
  set_later (r ∷ rs) (suc e) g a b = (a.0, set_later rs e g a.1 b)

  given_held : (z : Scene) (e : ℕ) (v : Val) (s : State) → StateHeld z s → ValueFits z.entries v → StateHeld z (with_result (Some e) v s)
  given_held z e v s a b = record {
    fine = record {
      before = a.fine.before;
      entries = set_length s.clock.results e _ ∙ a.fine.entries;
      memory = a.fine.memory;
      results = set_results z.entries s.clock.results e _ a.fine.results b;
      signals = a.fine.signals;
    };
    now = a.now;
    results = set_later s.clock.results e _ a.results a.now;
  }

  abbrev awaited : Cause → List ℕ → List ℕ
  awaited (till moment) es = es
  awaited never es = es
  awaited (done entry) es = es
  awaited (heard d) es = d ∷ es

  abbrev awaiting : Scene → Cause → Scene
  awaiting z cause = record { entries = z.entries; bytes = z.bytes; events = awaited cause z.events }

  events_there : (s : State) (cause : Cause) (es : List ℕ) → CauseIs s cause → Each (IsEvent s.memory.store) es →
      Each (IsEvent s.memory.store) (awaited cause es)
  events_there s (till moment) es i a = a
  events_there s never es i a = a
  events_there s (done entry) es i a = a
  events_there s (heard d) es i a = (i, a)

  still_has : (cause : Cause) (es : List ℕ) (e : ℕ) → Has e es → Has e (awaited cause es)
  still_has (till moment) es e a = a
  still_has never es e a = a
  still_has (done entry) es e a = a
  still_has (heard d) es e a = inr a

  soon : (moment now : ℕ) → moment ≤ now + 1000000000 → now ≤ 1000000000000 → moment ≤ 2000000000000
  soon moment now e f = omega (arith, e, f)

  early : (now : ℕ) → now ≤ until → now ≤ 1000000000000
  early now e = let h = short in omega (arith, e, h)

  within : (i n k : ℕ) → i < n → n ≡ k → i < k
  within i n k e f = omega (arith, e, f)

  cause_fine : (z : Scene) (s : State) (cause : Cause) → StateHeld z s → CauseIs s cause → CauseFine (awaiting z cause) cause
  cause_fine z s (till moment) a i = soon moment s.clock.now i (early s.clock.now a.now)
  cause_fine z s never a i = tt
  cause_fine z s (done entry) a i = within entry (length s.clock.results) z.entries (nth_within s.clock.results entry None i) a.fine.entries
  cause_fine z s (heard d) a i = inl refl

  awaiting_wide : (z : Scene) (n : ℕ) (cause : Cause) → Wider z n (awaiting z cause) (suc n)
  awaiting_wide z n cause = record { entries = omega arith; next = omega arith; events = still_has cause z.events }

  drawn_held : (z : Scene) (s : State) (cause : Cause) → StateHeld z s → CauseIs s cause → StateHeld (awaiting z cause) (drawn s)
  drawn_held z s cause a i = record {
    fine = record {
      before = a.fine.before;
      entries = a.fine.entries;
      memory = record {
        slots = a.fine.memory.slots;
        weight = a.fine.memory.weight;
        told = a.fine.memory.told;
        events = events_there s cause z.events i a.fine.memory.events;
      };
      results = a.fine.results;
      signals = a.fine.signals;
    };
    now = a.now;
    results = a.results;
  }

  abbrev more : Scene → Scene
  more z = record { entries = suc z.entries; bytes = z.bytes; events = z.events }

  more_wide : (z : Scene) (n : ℕ) → Wider z n (more z) n
  more_wide z n = record { entries = omega arith; next = omega arith; events = λ e a. a }

  one_more : (n k : ℕ) → n ≡ k → n + 1 ≡ suc k
  one_more n k e = omega (arith, e)

  entry_held : (z : Scene) (l : ℕ) (s : State) → StateHeld z s → StateHeld (more z) (with_entry (stepped l s))
  entry_held z l s a = let h : z.entries ≤ suc z.entries = omega arith in record {
    fine = record {
      before = a.fine.before;
      entries = length-append s.clock.results (None ∷ []) ∙ one_more (length s.clock.results) z.entries a.fine.entries;
      memory = record {
        slots = all_as (λ (d : Cell). ValuesFit z.entries d.slots) (λ (d : Cell). ValuesFit (suc z.entries) d.slots)
            (λ d b. lift_values z.entries (suc z.entries) h d.slots b) s.memory.store a.fine.memory.slots;
        weight = a.fine.memory.weight;
        told = a.fine.memory.told;
        events = a.fine.memory.events;
      };
      results = each_join (GivenFits (suc z.entries)) s.clock.results (None ∷ [])
          (all_as (GivenFits z.entries) (GivenFits (suc z.entries)) (lift_given z.entries (suc z.entries) h) s.clock.results
          a.fine.results) (tt, tt);
      signals = all_as (λ (g : Signal). ValueFits z.entries g.given.value) (λ (g : Signal). ValueFits (suc z.entries) g.given.value)
          (λ g b. lift_value z.entries (suc z.entries) h g.given.value b) s.clock.signals a.fine.signals;
    };
    now = a.now;
    results = each_join (NoLater until) s.clock.results (None ∷ []) a.results (tt, tt);
  }

  -- ---- groups and worlds

  regroup : (z : Scene) (k : Kind) (p : Place) (gs : List Part) (i j : ℕ) (x : Thread) → i ≡ j → GroupFine z k p gs i x →
      GroupFine z k p gs j x
  regroup z k p gs i j x e a = subst (λ n. GroupFine z k p gs n x) e a

  one_part : (z : Scene) (k : Kind) (p : Place) (gs : List Part) (g : Part) (ls : ℕ) (x : Thread) → PartFits z.entries g →
      GroupFine z k p gs (suc (length gs + ls)) x → GroupFine z k p (gs ++ g ∷ []) (length (gs ++ g ∷ []) + ls) x
  one_part z k p gs g ls x b a = record {
    still = a.still;
    place = subst (λ n. BehindGroup c x.frame.place k p n) (sums (length gs) (length (gs ++ g ∷ [])) ls (length-append gs (g ∷ [])))
        a.place;
    some = subst (λ n. 1 ≤ n) (sums (length gs) (length (gs ++ g ∷ [])) ls (length-append gs (g ∷ []))) a.some;
    parts = each_join (PartFits z.entries) gs (g ∷ []) a.parts (b, tt);
  }
    where
      sums : (n m ls : ℕ) → m ≡ n + 1 → suc (n + ls) ≡ m + ls
      sums n m ls e = omega (arith, e)

  did_length : (n : ℕ) (v : Val) (gs : List Part) → length (with_did n v gs) ≡ length gs
  did_length n v [] = refl
  did_length n v (did w ∷ gs) = ap suc (did_length n v gs)
  did_length n v (runs i ∷ gs) = two (eqn n i) (did_length n v gs)
    where
      two : (b : Bool) → length (with_did n v gs) ≡ length gs → length (cond b (did v ∷ gs) (runs i ∷ with_did n v gs)) ≡ suc (length gs)
      two true e = refl
      two false e = ap suc e

  did_parts : (k n : ℕ) (v : Val) (gs : List Part) → ValueFits k v → Each (PartFits k) gs → Each (PartFits k) (with_did n v gs)
  did_parts k n v [] b a = tt
  did_parts k n v (did w ∷ gs) b a = (a.0, did_parts k n v gs b a.1)
  did_parts k n v (runs i ∷ gs) b a = two (eqn n i) (did_parts k n v gs b a.1)
    where
      two : (t : Bool) → Each (PartFits k) (with_did n v gs) → Each (PartFits k) (cond t (did v ∷ gs) (runs i ∷ with_did n v gs))
      two true h = (b, a.1)
      two false h = (tt, h)

  others : {z : Scene} {n : ℕ} {pre post : List Task} {us : List Up} {trees : Trees} → TasksFine z n pre → TasksFine z n post →
      Each (UpFine z n) us → TreesFine z n trees.before → TreesFine z n trees.behind → Others z n pre post us trees
  others a b d e f = record { pre_fine = a; post_fine = b; ups = d; before_fine = e; behind_fine = f }

  without_fine : (z : Scene) (n : ℕ) (f : List ℕ → Bool) (o : World) → WorldFine z n o → WorldFine z n (world_without f o)
  without_fine z n f o a = others (without_each (TaskFine z n) f o.pre a.pre_fine) (without_each (TaskFine z n) f o.post a.post_fine) a.ups
      a.before_fine a.behind_fine

  gone_fine : (z : Scene) (n : ℕ) (f : List ℕ → Bool) (o : World) → WorldFine z n o → TasksFine z n (cancelled f o)
  gone_fine z n f o a = cancelled_each (TaskFine z n) f o a.pre_fine a.post_fine

  turn_fine : (z : Scene) (n : ℕ) (pre post : List Task) (trees : Trees) (us : List Up) → Others z n pre post us trees →
      TreesFine z n (trees.before ++ onto pre post ∷ trees.behind)
  turn_fine z n pre post trees us a = each_join (TasksFine z n) trees.before (onto pre post ∷ trees.behind) a.before_fine (
    onto_each (TaskFine z n) pre post a.pre_fine a.post_fine,
    a.behind_fine,
  )

  -- some scene goes with a point
  abbrev pub Held : Point → Type 0
  Held x = (z : Scene) × Holding z x

  pub keeps : {x y : Point} → Move c x y → (z : Scene) → Holding z x → Held y
  keeps (m.stays {w = w} {o = o} {s = s} {u = u} {f = f} {g = g} {fs = fs} h) z a = (
    z,
    (
      changed_held z s u f g h a.0 a.1.frame,
      record { named = a.1.named; frame = h.frame z a.0.fine a.1.frame; below = a.1.below },
      subst (λ n. WorldFine z n o) (sym h.ticks.next) a.2,
    ),
  )
  keeps m.drops z a = (z, (a.0, record { named = a.1.named; frame = a.1.below.0.0; below = a.1.below.1 }, a.2))
  keeps (m.enters {s = s} {f = f} {g = g} {l = l} {place = place} {ls = ls} e h p v) z a = (
    z,
    (
      stepped_held z l s a.0,
      record {
        named = a.1.named;
        frame = begun_fine z l place ls (v z a.0.fine a.1.frame);
        below = ((h.frame z a.0.fine a.1.frame, p), a.1.below);
      },
      a.2,
    ),
  )
  keeps (m.suspends {w = w} {o = o} {s = s} {f = f} {fs = fs} {cause = cause} i p q) z a = let wide =
      awaiting_wide z s.clock.next cause in (
        awaiting z cause,
        (
          drawn_held z s cause a.0 q,
          others (
            record {
              still = lift_thread z.entries (awaiting z cause).entries wide.entries (thread w f fs) (still_thread z w f fs i.is_free a.1);
              rest = (omega arith, p, cause_fine z s cause a.0 q);
            },
            lift_tasks z s.clock.next (awaiting z cause) (suc s.clock.next) wide o.pre a.2.pre_fine,
          )
              (lift_tasks z s.clock.next (awaiting z cause) (suc s.clock.next) wide o.post a.2.post_fine)
              (lift_ups z s.clock.next (awaiting z cause) (suc s.clock.next) wide s.clock.left o.ups i.ups a.2.ups)
              (lift_trees z s.clock.next (awaiting z cause) (suc s.clock.next) wide o.trees.before a.2.before_fine)
              (lift_trees z s.clock.next (awaiting z cause) (suc s.clock.next) wide o.trees.behind a.2.behind_fine),
        ),
      )
  keeps (m.spawns {w = w} {o = o} {s = s} {f = f} {g = g} {fs = fs} {l = l} {place = place} {ls = ls} i e h v) z a = spawned
    where
      below_more : (i k : ℕ) → i ≡ k → i < suc k
      below_more i k e = omega (arith, e)

      wide : Wider z s.clock.next (more z) s.clock.next
      wide = more_wide z s.clock.next

      own : ThreadStill z.entries (thread w g fs)
      own = still_thread z w g fs i.is_free (record { named = a.1.named; frame = h.frame z a.0.fine a.1.frame; below = a.1.below })

      spawned : Held (m.acts (m.at (root_named l (Some (length s.clock.results))) (world [] [] (spawning (thread w
          g fs) (length s.clock.results) o.pre o.post ∷ o.ups) o.trees) (with_entry (stepped l s)) (begun l place ls) []))
      spawned = (
        more z,
        (
          entry_held z l s a.0,
          record {
            named = (refl, refl);
            frame = begun_fine (more z) l place ls
                (lift_values z.entries (suc z.entries) (omega arith) ls (v z a.0.fine a.1.frame));
            below = tt;
          },
          others tt tt (
            (
              lift_thread z.entries (suc z.entries) (omega arith) (thread w g fs) own,
              below_more (length s.clock.results) z.entries a.0.fine.entries,
              lift_tasks z s.clock.next (more z) s.clock.next wide o.pre a.2.pre_fine,
              lift_tasks z s.clock.next (more z) s.clock.next wide o.post a.2.post_fine,
            ),
            lift_ups z s.clock.next (more z) s.clock.next wide s.clock.left o.ups i.ups a.2.ups,
          )
              (lift_trees z s.clock.next (more z) s.clock.next wide o.trees.before a.2.before_fine)
              (lift_trees z s.clock.next (more z) s.clock.next wide o.trees.behind a.2.behind_fine),
        ),
      )
  keeps (m.branches {w = w} {o = o} {s = s} {f = f} {fs = fs} {l = l} {place = place} i e) z a = (
    z,
    (
      stepped_held z l s a.0,
      record { named = child_who w l a.1.named; frame = begun_fine z l place f.locals a.1.frame.locals; below = tt },
      others a.2.pre_fine a.2.post_fine (still_thread z w f fs i.is_free a.1, a.2.ups) a.2.before_fine a.2.behind_fine,
    ),
  )
  keeps (m.begins_group {w = w} {o = o} {s = s} {f = f} {fs = fs} {k = k} {p = p} {ls = ls} i q) z a = (
    z,
    (
      a.0,
      record {
        still = still_thread z w f fs i.is_free a.1;
        place = subst (λ n. BehindGroup c f.place k p n) (zeroes (suc (length ls))) q;
        some = omega arith;
        parts = tt;
      },
      a.2,
    ),
  )
    where
      zeroes : (n : ℕ) → n ≡ 0 + n
      zeroes n = omega arith
  keeps (m.returns {w = w} {o = o} {s = s} {f = f} v) z a = (
    z,
    (
      a.0,
      (
        (record { named = a.1.named; frame = a.1.below.0.0; below = a.1.below.1 }, (v z a.0.fine a.1.frame).0),
        gone_fine z s.clock.next (since w.path f.life.born) o a.2,
      ),
      without_fine z s.clock.next (since w.path f.life.born) o a.2,
    ),
  )
  keeps (m.finishes {w = w} {o = o} {s = s} {f = f} r v) z a = (
    z,
    (
      a.0,
      ((v z a.0.fine a.1.frame).0, gone_fine z s.clock.next (since w.path f.life.born) o a.2),
      without_fine z s.clock.next (since w.path f.life.born) o a.2,
    ),
  )
  keeps (m.ends {w = w} {o = o} {s = s} {f = f} r v) z a = (
    z,
    (
      a.0,
      ((v z a.0.fine a.1.frame).0, gone_fine z s.clock.next (since w.path f.life.born) o a.2),
      without_fine z s.clock.next (since w.path f.life.born) o a.2,
    ),
  )
  keeps (m.dies h) z a = (z, (a.0, (a.1.named, (h.frame z a.0.fine a.1.frame, a.1.below)), a.2))
  keeps (m.arm_begins {k = k} {p = p} {gs = gs} {n = n} {l = l} {ls = ls} {x = x} {s = s} e) z a = (
    z,
    (
      stepped_held z l s a.0,
      record { named = child_who x.who l a.1.still.named; frame = begun_fine z l n x.frame.locals a.1.still.frame.locals; below = tt },
      others a.2.pre_fine a.2.post_fine (
        regroup z k p gs (length gs + length (n ∷ ls)) (suc (length gs + length ls)) x (sums (length gs) (length ls))
            a.1,
        a.2.ups,
      ) a.2.before_fine a.2.behind_fine,
    ),
  )
    where
      sums : (i j : ℕ) → i + suc j ≡ suc (i + j)
      sums i j = omega arith
  keeps (m.stands {k = k} {p = p} {gs = gs} {x = x} n) z a = (
    z,
    (
      a.0,
      others (
        record {
          still = a.1.still;
          rest = (
            subst (λ i. BehindGroup c x.frame.place k p i) (none (length gs)) a.1.place,
            n,
            a.1.parts,
            subst (λ i. 1 ≤ i) (none (length gs)) a.1.some,
          );
        },
        a.2.pre_fine,
      ) a.2.post_fine a.2.ups a.2.before_fine a.2.behind_fine,
    ),
  )
    where
      none : (i : ℕ) → i + 0 ≡ i
      none i = omega arith
  keeps (m.gathered {x = x} {v = v} h) z a = (z, (a.0, with_value z x v (fine_thread z x a.1.still) (h z.entries a.1.parts), a.2))
  keeps (m.races {gs = gs} {x = x} {pre = pre} {post = post} {us = us} {trees = trees} {s = s} h) z a = (
    z,
    (
      a.0,
      (
        (fine_thread z x a.1.still, h z.entries a.1.parts),
        gone_fine z s.clock.next (beneath_arms x.who.path gs) (world pre post us trees) a.2,
      ),
      without_fine z s.clock.next (beneath_arms x.who.path gs) (world pre post us trees) a.2,
    ),
  )
  keeps (m.rests_alone {pre = pre} {post = post} {trees = trees} {s = s}) z a = (z, (a.0, turn_fine z s.clock.next pre post trees [] a.1))
  keeps (m.rests_arm {k = k} {p = p} {gs = gs} {n = n} {ls = ls} {x = x}) z a = (
    z,
    (
      a.0,
      one_part z k p gs (runs n) (length ls) x tt a.1.ups.0,
      others a.1.pre_fine a.1.post_fine a.1.ups.1 a.1.before_fine a.1.behind_fine,
    ),
  )
  keeps (m.rests_behind {x = x}) z a = (
    z,
    (
      a.0,
      with_value z x unit (fine_thread z x a.1.ups.0) (unit_fits z.entries),
      others a.1.pre_fine a.1.post_fine a.1.ups.1 a.1.before_fine a.1.behind_fine,
    ),
  )
  keeps (m.rests_spawned {x = x} {entry = entry} {pre = pre} {post = post} {trees = trees} {s = s}) z a = (
    z,
    (
      a.0,
      with_value z x (task entry) (fine_thread z x a.1.ups.0.0) (task_fits z.entries entry a.1.ups.0.1),
      others a.1.ups.0.2 a.1.ups.0.3 a.1.ups.1 a.1.before_fine
          (each_join (TasksFine z s.clock.next) trees.behind (onto pre post ∷ []) a.1.behind_fine (
            onto_each (TaskFine z s.clock.next) pre post a.1.pre_fine a.1.post_fine,
            tt,
          )),
    ),
  )
  keeps (m.resumes {x = x} {v = v}) z a = (z, (a.0, with_value z x v a.1.0.0 a.1.0.1, a.2))
  keeps m.closes z a = (z, (a.0, a.1.0, a.2))
  keeps (m.gives_result {w = w} {entry = None}) z a = (z, (a.0, a.1.0, a.2))
  keeps (m.gives_result {w = w} {entry = Some e} {v = v} {s = s}) z a = (z, (given_held z e v s a.0 a.1.0, a.1.0, a.2))
  keeps (m.cancels_next {t = t}) z a = (
    z,
    (
      a.0,
      (a.1.1.0.still.named, (fine_frame z t.thread.frame a.1.1.0.still.frame, (fine_thread z t.thread a.1.1.0.still).below)),
      others a.2.pre_fine a.2.post_fine ((a.1.0, a.1.1.1), a.2.ups) a.2.before_fine a.2.behind_fine,
    ),
  )
  keeps m.all_gone z a = (z, (a.0, (a.2.ups.0.0, a.2.ups.0.1), others a.2.pre_fine a.2.post_fine a.2.ups.1 a.2.before_fine a.2.behind_fine))
  keeps (m.frame_gone {fs = fs}) z a = (z, (a.0, (a.1.0, rest_goes fs a.1.1.1), a.2))
    where
      rest_goes : (fs : List Frame) → Each (LowerFine z) fs → GoingFine z fs
      rest_goes [] b = tt
      rest_goes (f ∷ fs) b = (b.0.0, b.1)
  keeps (m.frame_clears {s = s} {f = f} {l = l} e d) z a = (
    z,
    (
      stepped_held z l s a.0,
      record {
        named = a.1.0;
        frame = record {
          locals = a.1.1.0.locals;
          stack = a.1.1.0.stack;
          defers = (subst (Each (IsBlock c)) d a.1.1.0.defers).1;
          handlers =
              tt;
        };
        below = a.1.1.1;
      },
      a.2,
    ),
  )
  keeps m.ended_alone z a = (z, (a.0, a.1, a.2))
  keeps (m.ended_arm {v = v} {k = k} {p = p} {gs = gs} {ls = ls} {x = x}) z a = (
    z,
    (
      a.0,
      one_part z k p gs (did v) (length ls) x a.1 a.2.ups.0,
      others a.2.pre_fine a.2.post_fine a.2.ups.1 a.2.before_fine a.2.behind_fine,
    ),
  )
  keeps (m.ended_behind {x = x}) z a = (
    z,
    (
      a.0,
      with_value z x unit (fine_thread z x a.2.ups.0) (unit_fits z.entries),
      others a.2.pre_fine a.2.post_fine a.2.ups.1 a.2.before_fine a.2.behind_fine,
    ),
  )
  keeps (m.ended_root {pre = pre} {post = post} {trees = trees} {s = s}) z a = (z, (a.0, turn_fine z s.clock.next pre post trees [] a.2))
  keeps (m.ended_spawned {x = x} {e = e}) z a = (
    z,
    (
      a.0,
      with_value z x (task e) (fine_thread z x a.2.ups.0.0) (task_fits z.entries e a.2.ups.0.1),
      others a.2.ups.0.2 a.2.ups.0.3 a.2.ups.1 a.2.before_fine a.2.behind_fine,
    ),
  )
  keeps (m.climbs_on e) z a = (z, (a.0, a.1, others (a.2.post_fine.0, a.2.pre_fine) a.2.post_fine.1 tt a.2.before_fine a.2.behind_fine))
  keeps (m.joins_no_group {y = y} {pre = pre} {post = post} {trees = trees} {s = s} e i) z a = (
    z,
    (
      a.0,
      turn_fine z s.clock.next pre (y ∷ post) trees [] a.2,
    ),
  )
  keeps (m.joins {n = n} {v = v} {y = y} {k = k} {p = p} {gs = gs} {s = s} e r i) z a =
      let b = a.2.post_fine.0 in let q = subst (RestFine z s.clock.next y.thread.frame.place) r b.rest in (
        z,
        (
          a.0,
          record {
            still = b.still;
            place = subst (λ i. BehindGroup c y.thread.frame.place k p i) (sums (length gs) (length (with_did n v gs)) (did_length n v gs))
                q.0;
            some = subst (λ i. 1 ≤ i) (sums (length gs) (length (with_did n v gs)) (did_length n v gs)) q.3;
            parts = did_parts z.entries n v gs a.1 q.2;
          },
          others a.2.pre_fine a.2.post_fine.1 tt a.2.before_fine a.2.behind_fine,
        ),
      )
    where
      sums : (i j : ℕ) → j ≡ i → i ≡ j + 0
      sums i j e = omega (arith, e)
  keeps (m.woken {v = v} {before = before} {behind = behind} {pre = pre} {post = post} {y = y} {s = s} e r i) z a =
      let b = subst (TreesFine z s.clock.next) e a.2 in
      let d = each_back (TasksFine z s.clock.next) before (onto pre (y ∷ post) ∷ behind) b in
      let h = onto_post (TaskFine z s.clock.next) pre (y ∷ post) d.0 in (
        z,
        (
          a.0,
          with_value z y.thread v (fine_thread z y.thread h.1.0.still) a.1,
          others h.0 h.1.1 tt (each_front (TasksFine z s.clock.next) before (onto pre (y ∷ post) ∷ behind) b) d.1,
        ),
      )

  pub holds : {x y : Point} → Move c x y → Held x → Held y
  holds v k = keeps v k.0 k.1

  abbrev pub StepHeld : Step → Type 0
  StepHeld (Next k) = Held (m.acts k)
  StepHeld (Over e s) = Unit {0}
  StepHeld (Turn s tss) = Held (m.turns s tss)

  pub leads_hold : {x : Point} {q : Step} → Leads c x q → Held x → StepHeld q
  leads_hold ends_run a = tt
  leads_hold acts_next a = a
  leads_hold turns_next a = a
  leads_hold (then_leads v l) a = leads_hold l (holds v a)
