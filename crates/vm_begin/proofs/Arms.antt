-- An arm and a task behind, as they begin.
use Rattle.std.proofs.Common.{◌≡◌, ◌≢◌, ℕ, suc, ◌≤◌, true, List, [], ◌∷◌, map, reverse, Some, None, refl, sym, ap, subst, ◌∙◌, arith}
use Rattle.std.specs.Global.{Vec}
use Rattle.task_tree.specs.Tasks.{Task}
use Rattle.verse_value.specs.Val.{Val}
use Rattle.verse_value.specs.declared.runs.Ending.TheVariants as ending
use Rattle.verse_meaning_state.specs.State.{State, spending, stepped}
use Rattle.verse_code_machine.specs.Tasks as m
use Rattle.verse_code_machine.specs.Tasks.{Who, World, world, Step, Next, Over, machine, life_from, child_named, begins, branching, thread}
use Rattle.sim_clock.specs.declared.waits.Pending.{Pending}
use Rattle.vm_tasks_laws.specs.Slots.{held}
use Rattle.vm_tasks_laws.specs.Standing.{Stands}
use Rattle.vm_tasks_laws.specs.Clocks.{sleeping, Timed}
use Rattle.vm_tasks_laws.proofs.Ticks.{same_timed}
use Rattle.vm_tasks_laws.proofs.Wakings.{added_waits}
use Rattle.vm_frames.specs.Framed.{Framed, locals_of}
use Rattle.vm_frames.specs.Calls.{alone}
use Rattle.vm_frames.specs.Machine.{frames_with, all_free}
use Rattle.vm_running.specs.Views.{View, Aside, state_of}
use Rattle.vm_running.specs.Doings.{on_frame, going}
use Rattle.vm_running.specs.Comes.{done}
use Rattle.vm_tasks.specs.declared.slots.Root.TheVariants.{Part as APart}
use Rattle.vm_tasks.specs.View.{slot_of, kind_of, part_of}
use Rattle.vm_tasks.specs.Begun.{Begun, new_slot, role_under}
use Rattle.vm_tasks.specs.Standing.{Branches}
use Rattle.vm_tasks.specs.Standing as changes
use Rattle.vm_scheduler.specs.declared.tasks.Begins.{Begins}
use Rattle.vm_scheduler.specs.declared.tasks.Tasks.{Tasks}
use Rattle.vm_scheduler.specs.declared.tasks.Up.{Up}
use Rattle.vm_scheduler.specs.declared.tasks.Up.TheVariants as up
use Rattle.vm_scheduler.specs.declared.tasks.Went.TheVariants as went
use Rattle.vm_scheduler.specs.Frames.{frames_in, threaded}
use Rattle.vm_scheduler.specs.Ups.{ups_of, id_of, UpsAre, begins_up, branching_up}
use Rattle.vm_scheduler.specs.Standing.{Tree, Clocked, Standing, Bare}
use Rattle.vm_scheduler.specs.Going.{Scene, Going}
use Rattle.vm_scheduler.specs.Meets.{GoesOn, Ends}
use Rattle.vm_scheduler.proofs.Free.{bare_of, frames_bare}
use Rattle.vm_scheduler.proofs.Fines.{fine_less, fine_earlier, fine_added, fine_at}
use Rattle.vm_scheduler.proofs.Untold.{untold_added}
use Rattle.vm_scheduler.proofs.Running.{own_of, own_goes, suspended_of}
use Rattle.vm_begin.specs.Doings.{branches}
use Rattle.vm_begin.specs.Arms.{BeginsArm}

pub frame_locals : (fs : List Framed) → (frames_in fs).0.locals ≡ locals_of fs
frame_locals [] = refl
frame_locals (f ∷ fs) = refl

module _ {W : Type 0} (pending : W → List Pending) where
  -- a step is spent, and a task is added
  pub added_clock : (a : Aside) (v : View) (t : Tasks W) (own : List Framed) (left spent id k : ℕ) (parent : _) (tree : Tree)
      (ups : Vec Up) → v.left ≡ suc left → Begun t.tree tree parent id left APart → Clocked pending a v t →
      Clocked pending a (record v { frames = own; left = left; spent = spent }) (record t { tree = tree; ups = ups; id = k })
  added_clock a v t own left spent id k parent tree ups less b c =
      let le : left ≤ v.left = omega (arith, less) in
      let u : Task _ = record { number = id; parent = parent; role = role_under parent; item = new_slot left APart } in
      record {
        past = c.past;
        next = c.next;
        results = c.results;
        signals = c.signals;
        timed = subst (λ z. Timed z (pending t.gone.waits) (state_of a (record v { frames = own; left = left; spent = spent })))
            (sym (added_waits (slot_of frames_in) t.tree tree u b.added refl))
            (same_timed (sleeping (slot_of frames_in) t.tree) (pending t.gone.waits) (state_of a v)
            (state_of a (record v { frames = own; left = left; spent = spent })) refl refl refl c.timed);
        fine = fine_added left t.tree tree u b.added (record { number = omega arith; since = omega arith; held = tt })
            (fine_less v.left left t.tree le c.fine);
        untold = untold_added t.results.items t.tree tree u b.added (λ P. tt) c.untold;
      }

  -- no step is left
  pub out_of : (a : Aside) (v : View) (go : State → Step) → v.left ≡ 0 →
      Ends pending (spending v.left (state_of a v) (Over ending.Steps (state_of a v)) go) a.past ending.Steps v
  out_of a v go none = record {
    aside = a;
    same = refl;
    is =
        ap (λ k. spending k (state_of a v) (Over ending.Steps (state_of a v)) go) none;
  }

  pub steps_bare : (v : View) (own : List Framed) (left : ℕ) → v.left ≡ suc left → Bare v →
      Bare (record v { frames = own; left = left; spent = suc v.spent })
  steps_bare v own left less b = let most = b.steps in record { copies = b.copies; marks = b.marks; steps = omega (arith, less, most) }

  module _ (v : View) (t : Tasks W) (label left id : ℕ) (tree : Tree) (ups : Vec Up) where
    abbrev next_view : List Val → View
    next_view ls = record v { frames = alone left label ls; left = left; spent = suc v.spent }

    abbrev next_tasks : Tasks W
    next_tasks = record t { tree = tree; ups = ups; id = id }

    -- a child of the task that has begun it runs in one frame
    child_goes : (a : Aside) (w : Who) (o : World) (ls : List Val) → v.left ≡ suc left → Bare v →
        Standing pending (held id (child_named w left) None ∷ []) a o (next_view ls) next_tasks →
        Going pending (record { aside = a; who = child_named w left; world = o }) (next_view ls) next_tasks
    child_goes a w o ls less b s = own_goes pending (record { aside = a; who = child_named w left; world = o }) (next_view ls) next_tasks s
        (steps_bare v (alone left label ls) left less b) (λ e. absurd (cc)) refl refl

    pub arm_begun : (b : Begins) → v.left ≡ suc left → Begun t.tree tree (Some b.id) id left APart →
        changes.BeginsArm t.tree tree b.id id left → ups_of ups.items ≡ up.Begins (record b { number = left }) ∷ ups_of t.ups.items →
        BeginsArm pending b label went.On v t (next_view (locals_of b.thread)) next_tasks
    arm_begun b less begun stands_so are = record {
      begins = λ a w o stands s bare sus.
          let gs = map part_of b.arms.items in
          let x = threaded w b.thread in
          let up_it = begins x (kind_of b.kind) b.place gs left (reverse b.labels.items) in
          let at = world o.pre o.post (up_it ∷ o.ups) o.trees in
          let lt : suc left ≤ v.left = omega (arith, less) in
          let standing : Standing pending (held id (child_named w left) None ∷ []) a at (next_view (locals_of b.thread)) next_tasks =
          record {
            clock = added_clock a v t (alone left label (locals_of b.thread)) left (suc v.spent) id id
                (Some b.id) tree ups less begun s.clock;
            stands = subst (λ us. Stands (slot_of frames_in) tree (map id_of us) (held id (child_named w left) None ∷ []) at) (sym are)
                (stands_so frames_in (map id_of (ups_of t.ups.items)) x (kind_of b.kind) b.place gs (reverse b.labels.items) o
                (fine_earlier v.left left t.tree (omega (arith, lt)) s.clock.fine)
                (λ u it. let since = (fine_at v.left b.id t.tree u it s.clock.fine).since in omega (arith, since, lt)) s.stands);
            ups = subst (λ us. UpsAre us (up_it ∷ o.ups)) (sym are) (begins_up (record b { number = left }) w sus s.ups);
            still = s.still;
            none = s.none;
          } in
          record {
            scene = record { aside = a; who = child_named w left; world = at };
            same = refl;
            goes = child_goes a w at (locals_of b.thread) less bare standing;
            is = ap (λ k. spending k (state_of a v) (Over ending.Steps (state_of a v))
                (λ s. begins_at a w o gs s (frames_in b.thread).0.locals)) less ∙
                ap (λ ls. begins_at a w o gs (stepped left (state_of a v)) ls) (frame_locals b.thread);
          };
    }
      where
        begins_at : Aside → Who → World → List m.Part → State → List Val → Step
        begins_at a w o gs s ls =
            Next (machine (child_named w s.clock.left)
            (world o.pre o.post (begins (threaded w b.thread) (kind_of b.kind) b.place gs s.clock.left (reverse b.labels.items) ∷ o.ups)
            o.trees) s (life_from s.clock.left) ls [] label [] [])

    pub branch_begun : (scene : Scene) → Going pending scene v t → all_free (frames_with v.frames []) ≡ true → v.left ≡ suc left →
        Begun t.tree tree (Some t.id) id left APart → Branches t.tree tree t.id id left →
        ups_of ups.items ≡ up.Branching t.id v.frames ∷ ups_of t.ups.items →
        GoesOn pending (done (branches label) scene.aside scene.who scene.world v) scene.aside.past
        (next_view (locals_of v.frames)) next_tasks
    branch_begun scene g free less begun stands_so are =
        let o = scene.world in
        let a = scene.aside in
        let w = scene.who in
        let own = own_of pending scene v t g free in
        let s = own.standing in
        let bare = bare_of v g.ready free in
        let sus = suspended_of pending scene v t own g.ready free in
        let up_it = branching (threaded w v.frames) in
        let at = world o.pre o.post (up_it ∷ o.ups) o.trees in
        let lt : suc left ≤ v.left = omega (arith, less) in
        let standing : Standing pending (held id (child_named w left) None ∷ []) a at (next_view (locals_of v.frames)) next_tasks = record {
          clock = added_clock a v t (alone left label (locals_of v.frames)) left (suc v.spent) id id
              (Some t.id) tree ups less begun s.clock;
          stands = subst (λ us. Stands (slot_of frames_in) tree (map id_of us) (held id (child_named w left) None ∷ []) at) (sym are)
              (stands_so frames_in (map id_of (ups_of t.ups.items)) (threaded w v.frames) o
              (fine_earlier v.left left t.tree (omega (arith, lt)) s.clock.fine) s.stands);
          ups = subst (λ us. UpsAre us (up_it ∷ o.ups)) (sym are) (branching_up t.id v.frames w sus s.ups);
          still = s.still;
          none = s.none;
        } in
        record {
          scene = record { aside = a; who = child_named w left; world = at };
          same = refl;
          goes = child_goes a w at (locals_of v.frames) less bare standing;
          is = branch_is a w o bare g.ready.some less;
        }
      where
        branched : (fs : List Framed) → Aside → Who → World → State → Step
        branched fs a w o s =
            Next (machine (child_named w s.clock.left) (world o.pre o.post (branching (threaded w fs) ∷ o.ups) o.trees) s
            (life_from s.clock.left) (locals_of fs) [] label [] [])

        on_some : (fs : List Framed) → fs ≢ [] → (a : Aside) (w : Who) (o : World) (s : State) →
            on_frame (frames_with fs []) s (branches label w o s) ≡ spending s.clock.left s (Over ending.Steps s) (branched fs a w o)
        on_some [] some a w o s = absurd (some refl)
        on_some (f ∷ fs) some a w o s = refl

        branch_is : (a : Aside) (w : Who) (o : World) → Bare v → v.frames ≢ [] → v.left ≡ suc left →
            done (branches label) a w o v ≡ done going a (child_named w left)
            (world o.pre o.post (branching (threaded w v.frames) ∷ o.ups) o.trees) (next_view (locals_of v.frames))
        branch_is a w o bare some less =
            ap (λ fs. on_frame fs (state_of a v) (branches label w o (state_of a v))) (frames_bare a v bare) ∙
            (on_some v.frames some a w o (state_of a v) ∙
            ap (λ k. spending k (state_of a v) (Over ending.Steps (state_of a v)) (branched v.frames a w o)) less)
