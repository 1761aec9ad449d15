-- A spawned task and a group, as they begin.
use Rattle.std.proofs.Common.{◌≡◌, ◌≢◌, ℕ, suc, ◌≤◌, ◌-◌, true, List, [], ◌∷◌, ◌++◌, length, map, reverse, Option, Some, None}
use Rattle.std.proofs.Common.{option_map, refl, sym, ap, subst, ◌∙◌, arith}
use Rattle.std.specs.Global.{Vec}
use Rattle.std.proofs.lemmas.List.{length-map}
use Rattle.verse_base.proofs.Facts.{map_last}
use Rattle.task_tree.specs.Tasks.{Task}
use Rattle.task_tree.specs.Nested.{IsTree}
use Rattle.verse_code.specs.declared.codes.Func.{Func}
use Rattle.verse_value.specs.Val.{Val}
use Rattle.verse_value.specs.declared.runs.Ending.TheVariants as ending
use Rattle.verse_meaning_state.specs.State.{State, spending, stepped, with_entry}
use Rattle.verse_code_machine.specs.Tasks as m
use Rattle.verse_code_machine.specs.Tasks.{Who, World, world, Step, Next, Over, machine, life_from, root_named, spawning, thread}
use Rattle.verse_code_machine.specs.Frames as frames
use Rattle.verse_code_machine.specs.Ends.{next_arm}
use Rattle.sim_clock.specs.declared.waits.Pending.{Pending}
use Rattle.vm_tasks_laws.specs.Slots.{held}
use Rattle.vm_tasks_laws.specs.Standing.{Stands}
use Rattle.vm_tasks_laws.specs.Clocks.{sleeping, Timed}
use Rattle.vm_tasks_laws.proofs.Ticks.{same_timed, entry_timed}
use Rattle.vm_tasks_laws.proofs.Wakings.{added_waits, item_waits}
use Rattle.vm_frames.specs.Framed.{Framed}
use Rattle.vm_frames.specs.Calls.{entered}
use Rattle.vm_frames.specs.Machine.{frames_with, all_free}
use Rattle.vm_frames.proofs.Whole.{units_same}
use Rattle.vm_running.specs.Views.{View, Aside, state_of}
use Rattle.vm_running.specs.Doings.{on_frame, going}
use Rattle.vm_running.specs.Comes.{done}
use Rattle.vm_tasks.specs.declared.slots.Slot.{Slot}
use Rattle.vm_tasks.specs.declared.slots.Root.TheVariants.{Spawned}
use Rattle.vm_tasks.specs.View.{slot_of, kind_of, part_of}
use Rattle.vm_tasks.specs.Begun.{Begun, Grouped, new_slot, role_under}
use Rattle.vm_tasks.specs.Standing as changes
use Rattle.vm_scheduler.specs.declared.tasks.Given as given
use Rattle.vm_scheduler.specs.declared.tasks.Tasks.{Tasks}
use Rattle.vm_scheduler.specs.declared.tasks.Up.{Up}
use Rattle.vm_scheduler.specs.declared.tasks.Up.TheVariants as up
use Rattle.vm_scheduler.specs.Frames.{frames_in, threaded, Suspended}
use Rattle.vm_scheduler.specs.Ups.{ups_of, id_of, UpsAre, spawning_up}
use Rattle.vm_scheduler.specs.Standing.{Tree, AllFine, Untold, given_of, Clocked, Standing, Bare}
use Rattle.vm_scheduler.specs.Going.{Scene, Going}
use Rattle.vm_scheduler.specs.declared.tasks.Begins.{Begins}
use Rattle.vm_scheduler.specs.declared.tasks.Went.{Went}
use Rattle.vm_scheduler.specs.Meets.{GoesOn, MovesOn, Comes}
use Rattle.vm_scheduler.proofs.Free.{bare_of, frames_bare}
use Rattle.vm_scheduler.proofs.Fines.{fine_less, fine_added, fine_at, fine_item, fine_none_later}
use Rattle.vm_scheduler.proofs.Untold.{untold_item, untold_spawned}
use Rattle.vm_scheduler.proofs.Running.{own_of, own_goes, suspended_of, on_meets}
use Rattle.vm_begin.specs.Doings.{spawns_task, begins_group}
use Rattle.vm_begin.specs.Arms.{BeginsArm}
use Rattle.vm_begin.proofs.Arms.{steps_bare}

abbrev with_none : Aside → Aside
with_none a = record a { results = a.results ++ None ∷ [] }

module _ {W : Type 0} (pending : W → List Pending) where
  module _ (v : View) (t : Tasks W) (left id entry : ℕ) (func : Func) (vs : List Val) (tree : Tree) (ups : Vec Up)
      (results : Vec (Option given.Given)) where
    abbrev spawn_view : View
    spawn_view = record v { frames = entered left func vs []; left = left; spent = suc v.spent }

    abbrev spawn_tasks : Tasks W
    spawn_tasks = record t { tree = tree; ups = ups; id = id; results = results }

    spawn_clock : (a : Aside) → v.left ≡ suc left → Begun t.tree tree None id left (Spawned entry) → entry ≡ length t.results.items →
        results.items ≡ t.results.items ++ None ∷ [] → Clocked pending a v t → Clocked pending (with_none a) spawn_view spawn_tasks
    spawn_clock a less b number more c =
        let le : left ≤ v.left = omega (arith, less) in
        let u : Task _ = record { number = id; parent = None; role = role_under None; item = new_slot left (Spawned entry) } in
        record {
          past = c.past;
          next = c.next;
          results = ap (λ w. w ++ None ∷ []) c.results ∙
              (sym (map_last (λ o. option_map given_of o) t.results.items None) ∙ ap (λ w. map (λ o. option_map given_of o) w) (sym more));
          signals = c.signals;
          timed = subst (λ z. Timed z (pending t.gone.waits) (state_of (with_none a) spawn_view))
              (sym (added_waits (slot_of frames_in) t.tree tree u b.added refl))
              (same_timed (sleeping (slot_of frames_in) t.tree) (pending t.gone.waits) (with_entry (state_of a v))
              (state_of (with_none a) spawn_view) refl refl refl
              (entry_timed (sleeping (slot_of frames_in) t.tree) (pending t.gone.waits) (state_of a v) c.timed));
          fine = fine_added left t.tree tree u b.added (record { number = omega arith; since = omega arith; held = tt })
              (fine_less v.left left t.tree le c.fine);
          untold = subst (λ z. Untold z tree) (sym more) (untold_spawned t.results.items t.tree tree u entry b.added refl number c.untold);
        }

    pub spawn_begun : (scene : Scene) → Going pending scene v t → all_free (frames_with v.frames []) ≡ true → v.left ≡ suc left →
        entry ≡ length t.results.items → Begun t.tree tree None id left (Spawned entry) → changes.Spawns t.tree tree id left entry →
        ups_of ups.items ≡ up.Spawning t.id v.frames entry ∷ ups_of t.ups.items → results.items ≡ t.results.items ++ None ∷ [] →
        GoesOn pending (done (spawns_task func vs) scene.aside scene.who scene.world v) scene.aside.past spawn_view spawn_tasks
    spawn_begun scene g free less number begun stands_so are more =
        let a = scene.aside in
        let o = scene.world in
        let w = scene.who in
        let own = own_of pending scene v t g free in
        let s = own.standing in
        let bare = bare_of v g.ready free in
        let sus = suspended_of pending scene v t own g.ready free in
        let up_it = spawning (threaded w v.frames) entry o.pre o.post in
        let at = world [] [] (up_it ∷ o.ups) o.trees in
        let mine = root_named left (Some entry) in
        let standing : Standing pending (held id mine None ∷ []) (with_none a) at spawn_view spawn_tasks = record {
          clock = spawn_clock a less begun number more s.clock;
          stands = subst (λ us. Stands (slot_of frames_in) tree (map id_of us) (held id mine None ∷ []) at) (sym are)
              (stands_so frames_in (map id_of (ups_of t.ups.items)) t.id (threaded w v.frames) o s.stands);
          ups = subst (λ us. UpsAre us (up_it ∷ o.ups)) (sym are) (spawning_up t.id v.frames entry w o.pre o.post sus s.ups);
          still = s.still;
          none = s.none;
        } in
        record {
          scene = record { aside = with_none a; who = mine; world = at };
          same = refl;
          goes = own_goes pending (record { aside = with_none a; who = mine; world = at }) spawn_view spawn_tasks standing
              (steps_bare pending v (entered left func vs []) left less bare) (λ e. absurd (cc)) refl refl;
          is = spawn_is a w o bare g.ready.some less (ap (λ rs. length rs) s.clock.results ∙
              (length-map t.results.items (λ o. option_map given_of o) ∙ sym number));
        }
      where
        spawned : (fs : List Framed) → Aside → Who → World → (n : ℕ) → List Val → State → Step
        spawned fs a w o n ls u =
            Next (machine (root_named u.clock.left (Some n)) (world [] [] (spawning (threaded w fs) n o.pre o.post ∷ o.ups) o.trees)
            (with_entry u) (life_from u.clock.left) ls [] func.entry [] [])

        on_some : (fs : List Framed) → fs ≢ [] → (a : Aside) (w : Who) (o : World) (s : State) →
            on_frame (frames_with fs []) s (spawns_task func vs w o s) ≡
            spending s.clock.left s (Over ending.Steps s) (spawned fs a w o (length s.clock.results) (frames.locals_of func vs))
        on_some [] some a w o s = absurd (some refl)
        on_some (f ∷ fs) some a w o s = refl

        spawn_is : (a : Aside) (w : Who) (o : World) → Bare v → v.frames ≢ [] → v.left ≡ suc left → length a.results ≡ entry →
            done (spawns_task func vs) a w o v ≡ done going (with_none a) (root_named left (Some entry))
            (world [] [] (spawning (threaded w v.frames) entry o.pre o.post ∷ o.ups) o.trees) spawn_view
        spawn_is a w o bare some less number =
            ap (λ fs. on_frame fs (state_of a v) (spawns_task func vs w o (state_of a v))) (frames_bare a v bare) ∙
            (on_some v.frames some a w o (state_of a v) ∙
            (ap (λ k. spending k (state_of a v) (Over ending.Steps (state_of a v))
            (spawned v.frames a w o (length a.results) (frames.locals_of func vs))) less ∙
            (ap (λ n. spawned v.frames a w o n (frames.locals_of func vs) (stepped left (state_of a v))) number ∙
            ap (λ us. spawned v.frames a w o entry (vs ++ us) (stepped left (state_of a v)))
            (sym (units_same (func.locals - func.params))))))

  -- a group

  pub grouped : (a : Aside) (w : Who) (o : World) (v : View) (t : Tasks W) (tree : Tree) → IsTree t.tree → Grouped t.tree tree t.id v.left →
      changes.BeginsGroup t.tree tree t.id v.left → Standing pending (held t.id w None ∷ []) a o v t →
      Standing pending (held t.id w (Some []) ∷ []) a o (record v { frames = [] }) (record t { tree = tree })
  grouped a w o v t tree nested g begins s =
      let iw = item_waits (slot_of frames_in) t.tree t.id g.task nested g.at_it in
      let item : Slot (List Framed) = record g.task.item { since = v.left } in
      let waits : sleeping (slot_of frames_in) tree ≡ sleeping (slot_of frames_in) t.tree =
      ap (λ z. sleeping (slot_of frames_in) z) g.is ∙ (iw.are item ∙ sym iw.were) in
      let fine = fine_at v.left t.id t.tree g.task g.at_it s.clock.fine in
      record {
        clock = record {
          past = s.clock.past;
          next = s.clock.next;
          results = s.clock.results;
          signals = s.clock.signals;
          timed = subst (λ z. Timed z (pending t.gone.waits) (state_of a v)) (sym waits) s.clock.timed;
          fine = subst (λ z. AllFine v.left z) (sym g.is)
              (fine_item v.left t.id t.tree g.task item nested g.at_it
              (record { number = fine.number; since = omega arith; held = fine.held }) s.clock.fine);
          untold = subst (λ z. Untold t.results.items z) (sym g.is)
              (untold_item t.results.items t.id t.tree g.task item nested g.at_it refl s.clock.untold);
        };
        stands = begins frames_in (map id_of (ups_of t.ups.items)) w o (fine_none_later v.left t.tree s.clock.fine) s.stands;
        ups = s.ups;
        still = s.still;
        none = s.none;
      }

  pub first_arm : (v : View) (t : Tasks W) (tree : Tree) (b : Begins) (label : ℕ) (labels : List ℕ) (r : Went) (u : View) (s : Tasks W) →
      IsTree t.tree → all_free (frames_with v.frames []) ≡ true → Grouped t.tree tree t.id v.left →
      changes.BeginsGroup t.tree tree t.id v.left → b.id ≡ t.id → b.thread ≡ v.frames → b.arms.items ≡ [] →
      labels ≡ label ∷ reverse b.labels.items → BeginsArm pending b label r (record v { frames = [] }) (record t { tree = tree }) u s →
      Comes pending (begins_group (kind_of b.kind) b.place labels) r v t u s
  first_arm v t tree b label labels r u s nested free g begins id thread_is arms are arm = record {
    comes = λ scene going.
        let a = scene.aside in
        let w = scene.who in
        let o = scene.world in
        let own = own_of pending scene v t going free in
        let bare = bare_of v going.ready free in
        let sus = suspended_of pending scene v t own going.ready free in
        let up_it = grouped a w o v t tree nested g begins own.standing in
        let entry : held t.id w (Some []) ∷ [] ≡ held b.id w (Some (map part_of b.arms.items)) ∷ [] =
        ap (λ z. held z w (Some []) ∷ []) (sym id) ∙ ap (λ z. held b.id w (Some (map part_of z)) ∷ []) (sym arms) in
        let k = arm.begins a w o (λ y. m.stuck (state_of a v))
        (subst (λ z. Standing pending z a o (record v { frames = [] }) (record t { tree = tree })) entry up_it)
        (record { copies = bare.copies; marks = bare.marks; steps = bare.steps })
        (subst (λ z. Suspended w.number z) (sym thread_is) sus) in
        on_meets pending (done (begins_group (kind_of b.kind) b.place labels) a w o v) a.past r u s
        (subst (λ q. MovesOn pending q a.past r u s) (sym (group_is a w o bare going.ready.some)) k);
  }
    where
      begun : Aside → Who → World → List m.Part → List Framed → List ℕ → Step
      begun a w o gs fs ls = next_arm (kind_of b.kind) b.place gs ls (threaded w fs) o.pre o.post o.ups o.trees (state_of a v)
          (λ y. m.stuck (state_of a v))

      on_some : (fs : List Framed) → fs ≢ [] → (a : Aside) (w : Who) (o : World) →
          on_frame (frames_with fs []) (state_of a v)
          (begins_group (kind_of b.kind) b.place (label ∷ reverse b.labels.items) w o (state_of a v)) ≡
          begun a w o [] fs (label ∷ reverse b.labels.items)
      on_some [] some a w o = absurd (some refl)
      on_some (f ∷ fs) some a w o = refl

      group_is : (a : Aside) (w : Who) (o : World) → Bare v → v.frames ≢ [] → done (begins_group (kind_of b.kind) b.place labels) a w o v ≡
          begun a w o (map part_of b.arms.items) b.thread (label ∷ reverse b.labels.items)
      group_is a w o bare some =
          ap (λ fs. on_frame fs (state_of a v) (begins_group (kind_of b.kind) b.place labels w o (state_of a v))) (frames_bare a v bare) ∙
          (ap (λ ls. on_frame (frames_with v.frames []) (state_of a v) (begins_group (kind_of b.kind) b.place ls w o (state_of a v))) are ∙
          (on_some v.frames some a w o ∙
          (ap (λ fs. begun a w o [] fs (label ∷ reverse b.labels.items)) (sym thread_is) ∙
          ap (λ gs. begun a w o (map part_of gs) b.thread (label ∷ reverse b.labels.items)) (sym arms))))
