-- The running task falls asleep.
use Rattle.std.proofs.Common.{◌≡◌, ◌≢◌, ℕ, suc, true, Result, Ok, Err, IfOk, List, [], ◌∷◌, map, Option, None, option_map, refl, sym}
use Rattle.std.proofs.Common.{ap, subst, ◌∙◌}
use Rattle.task_tree.specs.Nested.{IsTree}
use Rattle.verse_meaning_state.specs.State.{State, drawn}
use Rattle.verse_meaning_state.specs.State as state
use Rattle.verse_meaning_state.specs.Waits.{waiting, nth}
use Rattle.verse_meaning_state.proofs.Numbers.{nth_map}
use Rattle.verse_code_machine.specs.Tasks.{Who, World, world, asleep}
use Rattle.verse_code_machine.specs.Ends.{rested}
use Rattle.sim_clock.specs.declared.waits.WaitKind.{WaitKind}
use Rattle.sim_clock.specs.declared.waits.WaitKind.TheVariants.{At, Never, Task as OnTask, Event}
use Rattle.sim_clock.specs.declared.waits.Pending.{Pending}
use Rattle.sim_clock.specs.Pending.{IsAboveAll, added}
use Rattle.vm_tasks_laws.specs.Standing.{Stands}
use Rattle.vm_tasks_laws.specs.Clocks.{cause_of}
use Rattle.vm_frames.specs.Framed.{Framed}
use Rattle.vm_frames.specs.Machine.{frames_with, all_free}
use Rattle.vm_running.specs.Views.{View, Aside, state_of}
use Rattle.vm_running.specs.Doings.{on_frame}
use Rattle.vm_running.specs.Comes.{done}
use Rattle.vm_tasks.specs.declared.slots.Held.TheVariants.{Asleep}
use Rattle.vm_tasks.specs.View.{slot_of}
use Rattle.vm_tasks.specs.Begun.{Reheld}
use Rattle.vm_tasks.specs.Standing.{SetsDown}
use Rattle.vm_tasks.specs.Ending.{IsUntold}
use Rattle.vm_tasks.proofs.Endings.{falls_asleep_so}
use Rattle.vm_scheduler.specs.declared.tasks.Given as given
use Rattle.vm_scheduler.specs.declared.tasks.Tasks.{Tasks}
use Rattle.vm_scheduler.specs.declared.tasks.Went.{Went}
use Rattle.vm_scheduler.specs.Frames.{frames_in, threaded, Suspended}
use Rattle.vm_scheduler.specs.Ups.{ups_of, id_of}
use Rattle.vm_scheduler.specs.Standing.{Tree, given_of, Standing, Bare}
use Rattle.vm_scheduler.specs.Going.{Scene, Going, Goes}
use Rattle.vm_scheduler.specs.Meets.{Meets, Comes}
use Rattle.vm_scheduler.proofs.Free.{bare_of, frames_bare}
use Rattle.vm_scheduler.proofs.Running.{own_of, suspended_of}
use Rattle.vm_scheduler.proofs.Seated.{seat, fine_reheld}
use Rattle.vm_scheduler.proofs.Untold.{untold_reheld}
use Rattle.vm_suspend.specs.Idle.{Idle, RestsTo}
use Rattle.vm_suspend.specs.Asleep.{suspending, IsOpen}

-- what is known of a result in the clock, by what the tasks have
pub result_at : (results : List (Option state.Given)) (ts : List (Option given.Given)) (n : ℕ) →
    results ≡ map (λ o. option_map given_of o) ts → nth results n ≡ option_map (λ o. option_map given_of o) (nth ts n)
result_at results ts n e = ap (λ z. nth z n) e ∙ nth_map (λ o. option_map given_of o) ts n

module _ {W : Type 0} (pending : W → List Pending) where
  untold : (kind : WaitKind) (a : Aside) (v : View) (t : Tasks W) → IsOpen kind t →
      a.results ≡ map (λ o. option_map given_of o) t.results.items → IsUntold (state_of a v) kind
  untold (At moment) a v t i e = tt
  untold Never a v t i e = tt
  untold (OnTask entry) a v t i e = result_at a.results t.results.items entry e ∙ ap (λ o. option_map (λ o. option_map given_of o) o) i
  untold (Event cell) a v t i e = tt

  pub next_above : (v : View) (t : Tasks W) → Goes pending v t → all_free (frames_with v.frames []) ≡ true →
      IsAboveAll t.next (pending t.gone.waits)
  next_above v t g free =
      let own = own_of pending g.scene v t g.going free in
      subst (λ n. IsAboveAll n (pending t.gone.waits)) own.standing.clock.next own.standing.clock.timed.under_next

  abbrev asleep_with : Tasks W → Tree → W → ℕ → Tasks W
  asleep_with t tree waits next = record t { tree = tree; gone = record t.gone { waits = waits }; next = next }

  module _ (v : View) (t : Tasks W) (kind : WaitKind) (tree : Tree) (waits : W) (next : ℕ) (nested : IsTree t.tree)
      (r : Reheld t.tree tree t.id (Asleep v.frames t.next kind)) (down : SetsDown t.tree tree t.id (Asleep v.frames t.next kind))
      (more : pending waits ≡ added (pending t.gone.waits) (record { number = t.next; task = t.id; kind = kind }))
      (up_one : next ≡ suc t.next) (unset_one : IsOpen kind t) (free : all_free (frames_with v.frames []) ≡ true) where
    abbrev asleep_view : View
    asleep_view = record v { frames = [] }

    abbrev asleep_aside : Aside → Aside
    asleep_aside a = record a { next = suc a.next }

    abbrev asleep_world : Aside → Who → World → World
    asleep_world a w o = world (record { thread = threaded w v.frames; rest = asleep (waiting (cause_of kind) (state_of a v)) } ∷ o.pre)
        o.post o.ups o.trees

    asleep_stands : (scene : Scene) → Going pending scene v t →
        Standing pending [] (asleep_aside scene.aside) (asleep_world scene.aside scene.who scene.world) asleep_view
        (asleep_with t tree waits next)
    asleep_stands scene g =
        let a = scene.aside in
        let w = scene.who in
        let o = scene.world in
        let own = own_of pending scene v t g free in
        let s = own.standing in
        let c = s.clock in
        let sus = suspended_of pending scene v t own g.ready free in
        let here = seat t.tree (map id_of (ups_of t.ups.items)) t.id w None o r.task nested s.stands r.at_it in
        let it : Stands (slot_of frames_in) tree (map id_of (ups_of t.ups.items)) []
        (world (record { thread = threaded w v.frames; rest = asleep (record { number = t.next; cause = cause_of kind }) } ∷ o.pre)
        o.post o.ups o.trees) =
        down frames_in (map id_of (ups_of t.ups.items)) w None o (frames_in v.frames).0 (frames_in v.frames).1
        (asleep (record { number = t.next; cause = cause_of kind })) refl (λ n b k. k) s.stands in
        record {
          clock = record {
            past = c.past;
            next = ap (λ n. suc n) c.next ∙ sym up_one;
            results = c.results;
            signals = c.signals;
            timed = falls_asleep_so pending t.tree tree t.gone (record t.gone { waits = waits }) t.id t.next kind v.frames nested r more
                frames_in (map id_of (ups_of t.ups.items)) w o (state_of a v) s.stands (sym c.next)
                (untold kind a v t unset_one c.results) c.timed;
            fine = fine_reheld v.left t.tree tree t.id (Asleep v.frames t.next kind) nested r
                (subst (λ n. Suspended n v.frames) (sym here.number) sus) c.fine;
            untold = untold_reheld t.results.items t.tree tree t.id (Asleep v.frames t.next kind) nested r c.untold;
          };
          stands = subst (λ n. Stands (slot_of frames_in) tree (map id_of (ups_of t.ups.items)) []
              (world (record { thread = threaded w v.frames; rest = asleep (record { number = n; cause = cause_of kind }) } ∷ o.pre) o.post
              o.ups o.trees)) (sym c.next) it;
          ups = s.ups;
          still = s.still;
          none = s.none;
        }

    asleep_bare : (scene : Scene) → Going pending scene v t → Bare asleep_view
    asleep_bare scene g = let b = bare_of v g.ready free in record { copies = b.copies; marks = b.marks; steps = b.steps }

    pub asleep_idle : Goes pending v t → Idle pending asleep_view (asleep_with t tree waits next)
    asleep_idle g = record {
      aside = asleep_aside g.scene.aside;
      world = asleep_world g.scene.aside g.scene.who g.scene.world;
      standing =
          asleep_stands g.scene g.going;
      bare = asleep_bare g.scene g.going;
    }

    suspends_is : (a : Aside) (w : Who) (o : World) (fs : List Framed) → fs ≢ [] →
        on_frame (frames_with fs []) (state_of a v) (suspending (cause_of kind) w o (state_of a v)) ≡
        rested (record { thread = threaded w fs; rest = asleep (waiting (cause_of kind) (state_of a v)) } ∷ o.pre) o.post o.ups o.trees
        (drawn (state_of a v))
    suspends_is a w o [] some = absurd (some refl)
    suspends_is a w o (f ∷ fs) some = refl

    pub asleep_comes : {E : Type 0} (d : Result Went E) (u : View) (s : Tasks W) →
        IfOk d (λ r. RestsTo pending r asleep_view (asleep_with t tree waits next) u s) →
        IfOk d (λ r. Comes pending (suspending (cause_of kind)) r v t u s)
    asleep_comes (Err e) u s h = tt
    asleep_comes (Ok q) u s h = record {
      comes = λ scene g.
          let a = scene.aside in
          let w = scene.who in
          let o = scene.world in
          let bare = bare_of v g.ready free in
          let is : done (suspending (cause_of kind)) a w o v ≡
          rested (record { thread = threaded w v.frames; rest = asleep (waiting (cause_of kind) (state_of a v)) } ∷ o.pre) o.post o.ups
          o.trees (drawn (state_of a v)) =
          ap (λ fs. on_frame fs (state_of a v) (suspending (cause_of kind) w o (state_of a v))) (frames_bare a v bare) ∙
          suspends_is a w o v.frames g.ready.some in
          subst (λ z. Meets pending z a.past q u s) (sym is)
          (h.rests (asleep_aside a) (asleep_world a w o) (asleep_stands scene g) (asleep_bare scene g));
    }

  -- by what the calls tell

  pub idle_so : (v : View) (t : Tasks W) (kind : WaitKind) (tree : Tree) (waits : W) (next : ℕ) (fs gs : List Framed) → IsTree t.tree →
      Reheld t.tree tree t.id (Asleep fs t.next kind) → SetsDown t.tree tree t.id (Asleep fs t.next kind) → fs ≡ v.frames → gs ≡ [] →
      pending waits ≡ added (pending t.gone.waits) (record { number = t.next; task = t.id; kind = kind }) → next ≡ suc t.next →
      IsOpen kind t → all_free (frames_with v.frames []) ≡ true → Goes pending v t →
      Idle pending (record v { frames = gs }) (asleep_with t tree waits next)
  idle_so v t kind tree waits next fs gs nested r down same none more up_one unset free goes =
      subst (λ z. Idle pending (record v { frames = z }) (asleep_with t tree waits next)) (sym none)
      (asleep_idle v t kind tree waits next nested (subst (λ z. Reheld t.tree tree t.id (Asleep z t.next kind)) same r)
      (subst (λ z. SetsDown t.tree tree t.id (Asleep z t.next kind)) same down) more up_one unset free goes)

  pub comes_so : {E : Type 0} (d : Result Went E) (v u : View) (t s : Tasks W) (kind : WaitKind) (tree : Tree) (waits : W) (next : ℕ)
      (fs gs : List Framed) → IsTree t.tree → Reheld t.tree tree t.id (Asleep fs t.next kind) →
      SetsDown t.tree tree t.id (Asleep fs t.next kind) → fs ≡ v.frames → gs ≡ [] →
      pending waits ≡ added (pending t.gone.waits) (record { number = t.next; task = t.id; kind = kind }) → next ≡ suc t.next →
      IsOpen kind t → all_free (frames_with v.frames []) ≡ true →
      IfOk d (λ r. RestsTo pending r (record v { frames = gs }) (asleep_with t tree waits next) u s) →
      IfOk d (λ r. Comes pending (suspending (cause_of kind)) r v t u s)
  comes_so d v u t s kind tree waits next fs gs nested r down same none more up_one unset free h =
      asleep_comes v t kind tree waits next nested (subst (λ z. Reheld t.tree tree t.id (Asleep z t.next kind)) same r)
      (subst (λ z. SetsDown t.tree tree t.id (Asleep z t.next kind)) same down) more up_one unset free d u s
      (subst (λ z. IfOk d (λ r. RestsTo pending r (record v { frames = z }) (asleep_with t tree waits next) u s)) none h)
