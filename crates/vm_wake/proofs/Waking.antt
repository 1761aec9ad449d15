-- The task of the wait that is due next goes on.
use Rattle.std.proofs.Common.{◌≡◌, ◌≢◌, ℕ, Bool, true, false, cond, eqb, if◌then◌else◌, Result, Ok, Err, IfOk, List, [], ◌∷◌, ◌++◌, map}
use Rattle.std.proofs.Common.{Option, Some, None, IsSome, option_map, refl, sym, ap, subst, ◌∙◌}
use Rattle.std.proofs.lemmas.Option.{same_Some}
use Rattle.task_tree.specs.Tasks.{Task, task_at, with_item, IsLive}
use Rattle.task_tree.specs.Nested.{IsTree}
use Rattle.verse_value.specs.Val.{Val}
use Rattle.verse_value.specs.Runs.{Line}
use Rattle.verse_meaning_state.specs.State.{State}
use Rattle.verse_meaning_state.specs.Waits.{Due, has}
use Rattle.verse_code_machine.specs.Tasks as m
use Rattle.verse_code_machine.specs.Tasks.{Frame, Who, World, world, Trees, Thread, Step, Next, Over, Turn, Rest, asleep, waits_of}
use Rattle.verse_code_machine.specs.Ends.{resumes, is_asleep, woken, woken_in}
use Rattle.verse_code_machine.specs.Runs.{Forest}
use Rattle.sim_clock.specs.declared.waits.WaitKind.{WaitKind}
use Rattle.sim_clock.specs.declared.waits.Pending.{Pending}
use Rattle.sim_clock.specs.declared.waits.Due.{Due as ClockDue}
use Rattle.sim_clock.specs.Pending.{removed}
use Rattle.vm_tasks_laws.specs.Slots.{held}
use Rattle.vm_tasks_laws.specs.Standing.{Stands}
use Rattle.vm_tasks_laws.specs.Clocks.{cause_of, value_for, with_held, sleeping, Timed, NextIs}
use Rattle.vm_tasks_laws.proofs.Ticks.{removed_timed}
use Rattle.vm_tasks_laws.proofs.Wakings.{item_waits, wakes}
use Rattle.vm_frames.specs.Framed.{Framed}
use Rattle.vm_running.specs.Views.{View, Aside, state_of}
use Rattle.vm_tasks.specs.declared.slots.Slot.{Slot}
use Rattle.vm_tasks.specs.declared.slots.Held.{Held}
use Rattle.vm_tasks.specs.declared.slots.Held.TheVariants.{ByMachine, Asleep, AtGroup}
use Rattle.vm_tasks.specs.View.{held_of, slot_of}
use Rattle.vm_tasks.specs.Begun.{Reheld}
use Rattle.vm_tasks.specs.Ending as ending
use Rattle.vm_scheduler.specs.declared.tasks.Tasks.{Tasks}
use Rattle.vm_scheduler.specs.declared.tasks.Went.{Went}
use Rattle.vm_scheduler.specs.declared.tasks.Went.TheVariants as went
use Rattle.vm_scheduler.specs.Frames.{frames_in, threaded, Suspended}
use Rattle.vm_scheduler.specs.Ups.{ups_of, id_of, UpsAre, no_ups}
use Rattle.vm_scheduler.specs.Standing.{Tree, HeldFine, Clocked, Standing}
use Rattle.vm_scheduler.specs.Going.{Resting}
use Rattle.vm_scheduler.specs.Meets.{MovesOn}
use Rattle.vm_scheduler.specs.Moving.{Resumes}
use Rattle.vm_scheduler.proofs.Fines.{fine_at}
use Rattle.vm_scheduler.proofs.Seated.{seat, fine_reheld}
use Rattle.vm_scheduler.proofs.Untold.{untold_reheld}
use Rattle.vm_wake.specs.Values.{value_at, IsValue}
use Rattle.vm_wake.specs.Turns.{RunsNow, CanWake, WakesNext}
use Rattle.vm_wake.proofs.Telling.{value_is}

-- no task is above one that is woken

abbrev ups_in : Step → List m.Up
ups_in (Next k) = k.world.ups
ups_in (Over e s) = []
ups_in (Turn s tss) = []

either_ups : (b : Bool) (p q : Step) → ups_in p ≡ [] → ups_in q ≡ [] → ups_in (cond b p q) ≡ []
either_ups true p q e f = e
either_ups false p q e f = f

woken_ups : (n : ℕ) (v : Val) (pre post : List m.Task) (trees : Trees) (s : State) → ups_in (woken n v pre post trees s) ≡ []
woken_ups n v pre [] trees s = refl
woken_ups n v pre (y ∷ post) trees s = either_ups (is_asleep n y.rest) (resumes y.thread v (world pre post [] trees) s)
    (woken n v (y ∷ pre) post trees s) refl (woken_ups n v (y ∷ pre) post trees s)

woken_in_ups : (n : ℕ) (v : Val) (before tss : Forest) (s : State) → ups_in (woken_in n v before tss s) ≡ []
woken_in_ups n v before [] s = refl
woken_in_ups n v before (ts ∷ behind) s =
    either_ups (has n (waits_of ts)) (woken n v [] ts (record { before = before; behind = behind }) s)
    (woken_in n v (before ++ ts ∷ []) behind s) (woken_ups n v [] ts (record {
      before = before;
      behind = behind;
    }) s) (woken_in_ups n v (before ++ ts ∷ []) behind s)

abbrev or_this : {A : Type 0} → A → Option A → A
or_this x None = x
or_this x (Some y) = y

-- the task whose item is changed

module _ {T : Type 0} where
  item_at : (id : ℕ) (ts : List (Task T)) (t : Task T) (item : T) → task_at id ts ≡ Some t →
      task_at id (with_item id ts item) ≡ Some (record t { item = item })
  item_at id [] t item e = absurd (cc)
  item_at id (x ∷ ts) t item e = go (eqb x.number id) refl e (item_at id ts t item)
    where
      go : (b : Bool) → eqb x.number id ≡ b → (if b then Some x else task_at id ts) ≡ Some t →
          (task_at id ts ≡ Some t → task_at id (with_item id ts item) ≡ Some (record t { item = item })) →
          task_at id (if b then record x { item = item } ∷ ts else x ∷ with_item id ts item) ≡ Some (record t { item = item })
      go true p e more = ap (λ b. if b then Some (record x { item = item }) else task_at id ts) p ∙
          ap (λ (z : Task T). Some (record z { item = item })) (same_Some x t e)
      go false p e more = ap (λ b. if b then Some x else task_at id (with_item id ts item)) p ∙ more e

-- what is asleep

abbrev frames_or : List Framed → Held (List Framed) → List Framed
frames_or fs ByMachine = fs
frames_or fs (Asleep gs n kind) = gs
frames_or fs (AtGroup gs g) = fs

abbrev number_or : ℕ → Held (List Framed) → ℕ
number_or n ByMachine = n
number_or n (Asleep gs k kind) = k
number_or n (AtGroup gs g) = n

abbrev kind_or : WaitKind → Held (List Framed) → WaitKind
kind_or kind ByMachine = kind
kind_or kind (Asleep gs k other) = other
kind_or kind (AtGroup gs g) = kind

module _ {W : Type 0} (pending : W → List Pending) where
  only_on : (y : Thread) (x : Val) (o : World) (st : State) (past : List Line) (q : Went) (u : View) (s : Tasks W) →
      MovesOn pending (resumes y x o st) past q u s → RunsNow pending (resumes y x o st) past q u s
  only_on y x o st past went.On u s k = k
  only_on y x o st past (went.Over e) u s k = let no : resumes y x o st ≡ Over e (state_of k.aside u) = k.is in absurd (cc)
  only_on y x o st past went.Down u s k = k

  -- the task is live

  pub wakes_live : (e : ClockDue) (v : View) (t : Tasks W) → IsTree t.tree → CanWake pending e v t → IsLive e.task t.tree
  wakes_live e v t nested c =
      let w = wakes (slot_of frames_in) t.tree c.trees (pending t.gone.waits) (state_of c.aside v) c.due e
      (state_of c.aside v) c.resting.rests nested c.resting.clock.timed c.next in
      subst (λ z. IsSome z) (sym w.at_it) refl

  -- and asleep

  abbrev WakesTo : (old new : Tree) → Held (List Framed) → ClockDue → Type 0
  WakesTo old new h e = ending.Wakes old new e.task h

  pub only_asleep : (e : ClockDue) (v : View) (t : Tasks W) (new : Tree) (h : Held (List Framed)) → WakesTo t.tree new h e →
      CanWake pending e v t → (fs : List Framed) × (n : ℕ) × (kind : WaitKind) × (h ≡ Asleep fs n kind)
  only_asleep e v t new h w c =
      let k = w frames_in c.trees (pending t.gone.waits) (state_of c.aside v) c.due e
      (state_of c.aside v) refl c.resting.rests c.resting.clock.timed c.next in
      (k.it_frames, k.number, k.kind, k.was)

  module _ (e : ClockDue) (v : View) (t : Tasks W) (new : Tree) (waits : W) (fs : List Framed) (n : ℕ) (kind : WaitKind) (x : Val)
      (nested : IsTree t.tree)
      (re : Reheld t.tree new e.task ByMachine)
      (value : option_map (λ (z : Task (Slot (List Framed))). z.item.held) (task_at e.task t.tree) ≡ Some (Asleep fs n kind))
      (w : WakesTo t.tree new (Asleep fs n kind) e)
      (gone : pending waits ≡ removed e.number (pending t.gone.waits)) where
    abbrev woken_tasks : Tasks W
    woken_tasks = record t { tree = new; gone = record t.gone { waits = waits } }

    held_is : re.task.item.held ≡ Asleep fs n kind
    held_is = same_Some re.task.item.held (Asleep fs n kind)
        (sym (ap (λ o. option_map (λ (z : Task (Slot (List Framed))). z.item.held) o) re.at_it) ∙ value)

    woken_suspended : (a : Aside) (tss : Forest) → Resting pending a tss v t → Suspended re.task.item.number fs
    woken_suspended a tss r = subst (λ h. HeldFine re.task.item.number h) held_is
        (fine_at v.left e.task t.tree re.task re.at_it r.clock.fine).held

    pub woken_some : CanWake pending e v t → fs ≢ []
    woken_some c = (woken_suspended c.aside c.trees c.resting).unguarded.some

    woken_fine : (a : Aside) (tss : Forest) → Resting pending a tss v t → (d : Due) → NextIs (state_of a v) (pending t.gone.waits) d e →
        Clocked pending a v woken_tasks
    woken_fine a tss r d next =
        let c = r.clock in
        let iw = item_waits (slot_of frames_in) t.tree e.task re.task nested re.at_it in
        let k = w frames_in tss (pending t.gone.waits) (state_of a v) d e (state_of a v) refl r.rests c.timed next in
        let own : n ≡ e.number = ap (λ h. number_or n h) k.was ∙ k.own in
        let were : sleeping (slot_of frames_in) t.tree ≡ iw.first ++ (e.task, record { number = n; cause = cause_of kind }) ∷ iw.last =
        iw.were ∙ ap (λ h. iw.first ++ with_held e.task (held_of frames_in h) iw.last) held_is in
        let are : sleeping (slot_of frames_in) new ≡ iw.first ++ iw.last =
        ap (λ z. sleeping (slot_of frames_in) z) re.is ∙ iw.are (record re.task.item { held = ByMachine }) in
        record {
          past = c.past;
          next = c.next;
          results = c.results;
          signals = c.signals;
          timed = subst (λ ps. Timed (sleeping (slot_of frames_in) new) ps (state_of a v))
              (sym (gone ∙ ap (λ i. removed i (pending t.gone.waits)) (sym own)))
              (removed_timed (sleeping (slot_of frames_in) t.tree) (sleeping (slot_of frames_in) new) (pending t.gone.waits)
              (state_of a v) e.task (record { number = n; cause = cause_of kind }) iw.first iw.last were are c.timed);
          fine = fine_reheld v.left t.tree new e.task ByMachine nested re tt c.fine;
          untold = untold_reheld t.results.items t.tree new e.task ByMachine nested re c.untold;
        }

    pub wakes_to : {E : Type 0} (d : Result Went E) (u : View) (s : Tasks W) → IsTree new → IsValue woken_tasks kind e.cause x →
        IfOk d (λ r. Resumes pending e.task fs x r v woken_tasks u s) → IfOk d (λ r. WakesNext pending e r v t u s)
    wakes_to (Err q) u s after is h = tt
    wakes_to (Ok q) u s after is h = record {
      wakes = λ a tss d r next.
          let k = w frames_in tss (pending t.gone.waits) (state_of a v) d e (state_of a v) refl r.rests r.clock.timed next in
          let frames : fs ≡ k.it_frames = ap (λ h. frames_or fs h) k.was in
          let kinds : k.kind ≡ kind = sym (ap (λ h. kind_or kind h) k.was) in
          let who = k.it.thread.who in
          let thread_is : k.it.thread ≡ threaded who fs =
          sym (ap (λ z. m.thread who z.0 z.1) (ap (λ z. frames_in z) frames ∙ k.frames_are)) in
          let no_one : k.other.ups ≡ [] = sym (ap (λ z. ups_in z) k.goes_on) ∙ woken_in_ups d.number d.given.value [] tss (state_of a v) in
          let clock = woken_fine a tss r d next in
          let told : value_at woken_tasks kind e.cause ≡ Some d.given.value = sym (value_is pending a v woken_tasks kind e.cause clock) ∙
          (ap (λ z. value_for (state_of a v) (cause_of z) e.cause) (sym kinds) ∙ k.value) in
          let value : x ≡ d.given.value = is d.given.value told in
          let standing : Standing pending (held e.task who None ∷ []) a k.other v woken_tasks = record {
            clock = clock;
            stands = subst (λ us. Stands (slot_of frames_in) new (map id_of (ups_of us)) (held e.task who None ∷ []) k.other)
                (sym r.no_ups) k.stands;
            ups = subst (λ us. UpsAre us k.other.ups) (sym (ap (λ z. ups_of z) r.no_ups)) (subst (λ ms. UpsAre [] ms) (sym no_one) no_ups);
            still = r.still;
            none = r.none;
          } in
          let here = seat new [] e.task who None k.other (record re.task { item = record re.task.item { held = ByMachine } }) after k.stands
          (ap (λ z. task_at e.task z) re.is ∙ item_at e.task t.tree re.task (record re.task.item { held = ByMachine }) re.at_it) in
          let sus : Suspended who.number fs = subst (λ i. Suspended i fs) here.number (woken_suspended a tss r) in
          subst (λ z. RunsNow pending z a.past q u s)
          (sym (k.goes_on ∙ (ap (λ z. resumes z d.given.value k.other (state_of a v)) thread_is ∙
          ap (λ z. resumes (threaded who fs) z k.other (state_of a v)) (sym value))))
          (only_on (threaded who fs) x k.other (state_of a v) a.past q u s (h.resumes a who k.other standing r.bare sus));
    }
