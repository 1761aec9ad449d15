-- A task that is over goes from the tree.
use Rattle.std.proofs.Common.{◌≡◌, ℕ, Bool, List, [], ◌∷◌, ◌++◌, map, reverse, Option, Some, None, option_map, refl, sym, ap, subst, ◌∙◌}
use Rattle.std.specs.Global.{Vec}
use Rattle.task_tree.specs.Tasks.{Task, task_at, parent_at, without, IsLive}
use Rattle.task_tree.specs.Nested.{IsTree}
use Rattle.task_tree.proofs.Standing.{inner, never}
use Rattle.verse_code_machine.specs.Tasks as m
use Rattle.verse_code_machine.specs.Tasks.{Role, root, part, Who, Part, Trees, World, world, onto}
use Rattle.verse_code_machine.specs.Tasks.{among}
use Rattle.sim_clock.specs.declared.waits.Pending.{Pending}
use Rattle.vm_tasks_laws.specs.Slots.{held}
use Rattle.vm_tasks_laws.specs.Standing.{Stands}
use Rattle.vm_tasks_laws.specs.Clocks.{sleeping, Timed}
use Rattle.vm_tasks_laws.specs.Together.{Joins}
use Rattle.vm_tasks_laws.proofs.Steps.{running_spot, is_held, at_spot}
use Rattle.vm_tasks_laws.proofs.Wakings.{without_waits}
use Rattle.vm_frames.specs.Framed.{Framed}
use Rattle.vm_running.specs.Views.{View, Aside, state_of}
use Rattle.vm_tasks.specs.declared.slots.Slot.{Slot}
use Rattle.vm_tasks.specs.declared.slots.Root.{Root}
use Rattle.vm_tasks.specs.View.{slot_of, role_of}
use Rattle.vm_tasks.specs.Ending.{Ended}
use Rattle.vm_scheduler.specs.declared.tasks.Up.{Up}
use Rattle.vm_scheduler.specs.declared.tasks.Tasks.{Tasks}
use Rattle.vm_scheduler.specs.Frames.{frames_in}
use Rattle.vm_scheduler.specs.Ups.{ups_of, id_of, UpsAre, no_ups, begins_up, branching_up}
use Rattle.vm_scheduler.specs.Ups.{spawning_up}
use Rattle.vm_scheduler.specs.Standing.{Tree, ids, AllFine, Untold, Clocked, Standing}
use Rattle.vm_scheduler.proofs.Ends.{last_first}
use Rattle.vm_scheduler.proofs.Fines.{fine_without}
use Rattle.vm_scheduler.proofs.Untold.{untold_without}
use Rattle.vm_scheduler.proofs.Seated.{Seat, seat, live_stands}
use Rattle.vm_complete.specs.Overs.{Parent, Lone, Gone, Joining}

pub record Here (tree : Tree) (id : ℕ) (w : Who) : Type 0 where
  pub task : Task (Slot (List Framed))
  pub at_it : task_at id tree ≡ Some task
  pub seated : Seat task w

pub here : (tree : Tree) (ids : List ℕ) (id : ℕ) (w : Who) (arms : Option (List Part)) (o : World) → IsTree tree →
    Stands (slot_of frames_in) tree ids (held id w arms ∷ []) o → Here tree id w
here tree ids id w arms o nested s =
    let p = running_spot (slot_of frames_in) tree ids (held id w arms) o s in
    let h = is_held (slot_of frames_in) p.task.number id (slot_of frames_in p.task.item).held w arms p.good.0.shows in
    let at : task_at id tree ≡ Some p.task = ap (λ k. task_at k tree) h.0 ∙ at_spot (slot_of frames_in) p nested in
    record { task = p.task; at_it = at; seated = seat tree ids id w arms o p.task nested s at }

parent_here : (id : ℕ) (ts : Tree) (u : Task (Slot (List Framed))) → task_at id ts ≡ Some u → parent_at id ts ≡ u.parent
parent_here id ts u at = ap (λ (z : Option (Task (Slot (List Framed)))). elim z [ None ↦ None | Some y ↦ y.parent ]) at

pub none_above : (us : List Up) (ms : List m.Up) → UpsAre us ms → us ≡ [] → ms ≡ []
none_above us ms no_ups e = refl
none_above us ms (begins_up b w s a) e = absurd (cc)
none_above us ms (branching_up id fs w s a) e = absurd (cc)
none_above us ms (spawning_up id fs entry w ps qs s a) e = absurd (cc)

-- the parent, by what the end of a part says of it
parent_so : (old new : Tree) (id p : ℕ) (w : Who) (xs ys : List m.Task) (trees : Trees) →
    (j : Joins (slot_of frames_in) old id w xs ys trees) → new ≡ without id old → j.id ≡ p → Parent new p w xs ys trees
parent_so old new id p w xs ys trees j is same =
    let it : Parent (without id old) j.id w xs ys trees = record {
      task = j.task;
      earlier = j.earlier;
      it = j.parent;
      later = j.later;
      at_it = j.at_it;
      shows = j.shows;
      found = j.found;
      stays = j.stays;
      goes = j.goes;
    } in
    subst (λ z. Parent z p w xs ys trees) (sym is) (subst (λ n. Parent (without id old) n w xs ys trees) same it)

module _ {W : Type 0} (pending : W → List Pending) where
  pub lone_live : (a : Aside) (w : Who) (o : World) (v : View) (t : Tasks W) → IsTree t.tree → Lone pending a w o v t → IsLive t.id t.tree
  lone_live a w o v t nested h = live_stands t.tree (map id_of (ups_of t.ups.items)) t.id w None o nested h.standing.stands

  pub lone_number : (a : Aside) (w : Who) (o : World) (v : View) (t : Tasks W) (number : ℕ) → IsTree t.tree →
      Some number ≡ option_map (λ (z : Task (Slot (List Framed))). z.item.number) (task_at t.id t.tree) → Lone pending a w o v t →
      w.number ≡ number
  lone_number a w o v t number nested e h =
      let k = here t.tree (map id_of (ups_of t.ups.items)) t.id w None o nested h.standing.stands in
      let same : number ≡ k.task.item.number =
      inner (e ∙ ap (λ z. option_map (λ (z : Task (Slot (List Framed))). z.item.number) z) k.at_it) in
      sym (same ∙ k.seated.number)

  pub lone_role : (a : Aside) (w : Who) (o : World) (v : View) (t : Tasks W) (r : Root) → IsTree t.tree →
      Some r ≡ option_map (λ (z : Task (Slot (List Framed))). z.item.root) (task_at t.id t.tree) →
      Standing pending (held t.id w None ∷ []) a o v t → role_of r ≡ w.role
  lone_role a w o v t r nested e s =
      let k = here t.tree (map id_of (ups_of t.ups.items)) t.id w None o nested s.stands in
      let same : r ≡ k.task.item.root = inner (e ∙ ap (λ z. option_map (λ (z : Task (Slot (List Framed))). z.item.root) z) k.at_it) in
      ap (λ z. role_of z) same ∙ k.seated.role

  -- what is told of its item holds of its role
  pub standing_role : (a : Aside) (w : Who) (o : World) (v : View) (t : Tasks W) (f : Role → Bool) (b : Bool) → IsTree t.tree →
      ((z : Task (Slot (List Framed))) → task_at t.id t.tree ≡ Some z → b ≡ f (role_of z.item.root)) →
      Standing pending (held t.id w None ∷ []) a o v t → b ≡ f w.role
  standing_role a w o v t f b nested told s =
      let k = here t.tree (map id_of (ups_of t.ups.items)) t.id w None o nested s.stands in
      told k.task k.at_it ∙ ap (λ z. f z) k.seated.role

  module _ (t : Tasks W) (tree : Tree) (ups : Vec Up) (nested : IsTree t.tree) (ended : Ended t.tree tree t.id)
      (is : tree ≡ without t.id t.tree) where
    abbrev pub left_tasks : Tasks W
    left_tasks = record t { tree = tree; ups = ups }

    pub clock_left : (a : Aside) (w : Who) (o : World) (v : View) → Standing pending (held t.id w None ∷ []) a o v t →
        Clocked pending a v left_tasks
    clock_left a w o v s =
        let k = here t.tree (map id_of (ups_of t.ups.items)) t.id w None o nested s.stands in
        let waits : sleeping (slot_of frames_in) tree ≡ sleeping (slot_of frames_in) t.tree =
        ap (λ z. sleeping (slot_of frames_in) z) is ∙ without_waits (slot_of frames_in) t.tree t.id k.task nested k.at_it k.seated.by in
        record {
          past = s.clock.past;
          next = s.clock.next;
          results = s.clock.results;
          signals = s.clock.signals;
          timed = subst (λ z. Timed z (pending t.gone.waits) (state_of a v)) (sym waits) s.clock.timed;
          fine = subst (λ z. AllFine v.left z) (sym is) (fine_without v.left t.id t.tree s.clock.fine);
          untold = subst (λ z. Untold t.results.items z) (sym is) (untold_without t.results.items t.id t.tree s.clock.untold);
        }

    pub gone_of : (up : Up) (a : Aside) (w : Who) (o : World) (v : View) → t.ups.items ≡ ups.items ++ up ∷ [] → Lone pending a w o v t →
        Gone pending up a w o v left_tasks
    gone_of up a w o v last h =
        let s = h.standing in
        let are : ups_of t.ups.items ≡ up ∷ ups_of ups.items = last_first ups.items t.ups.items up last in
        record {
          tree = t.tree;
          id = t.id;
          ended = ended;
          stands = subst (λ z. Stands (slot_of frames_in) t.tree (map id_of z) (held t.id w None ∷ []) o) are s.stands;
          ups = subst (λ z. UpsAre z o.ups) are s.ups;
          clock = clock_left a w o v s;
          still = s.still;
          none = s.none;
          bare = h.bare;
        }

    pub no_more : (a : Aside) (w : Who) (o : World) (v : View) → t.ups.items ≡ [] → Standing pending (held t.id w None ∷ []) a o v t →
        o.ups ≡ []
    no_more a w o v none s = none_above (ups_of t.ups.items) o.ups s.ups (ap (λ z. reverse z) none)

    pub alone_in : (a : Aside) (w : Who) (o : World) (v : View) → t.ups.items ≡ [] → Standing pending (held t.id w None ∷ []) a o v t →
        Stands (slot_of frames_in) t.tree (map id_of (ups_of t.ups.items)) (held t.id w None ∷ []) (world o.pre o.post [] o.trees)
    alone_in a w o v none s = subst (λ us. Stands (slot_of frames_in) t.tree (map id_of (ups_of t.ups.items)) (held t.id w None ∷ [])
        (world o.pre o.post us o.trees)) (no_more a w o v none s) s.stands

    pub joining_of : (a : Aside) (w : Who) (o : World) (v : View) (p number : ℕ) → Some p ≡ parent_at t.id t.tree →
        Some number ≡ option_map (λ (z : Task (Slot (List Framed))). z.item.number) (task_at t.id t.tree) → t.ups.items ≡ [] →
        ups.items ≡ [] →
        w.role ≡ part → Lone pending a w o v t → Joining pending p number a w o v left_tasks
    joining_of a w o v p number parent has none left role h =
        let s = h.standing in
        let k = here t.tree (map id_of (ups_of t.ups.items)) t.id w None o nested s.stands in
        let j = ended.later frames_in (map id_of (ups_of t.ups.items)) w o.pre o.post o.trees role (alone_in a w o v none s) in
        let above : k.task.parent ≡ Some j.id = j.of_it k.task k.at_it in
        let same : Some p ≡ Some j.id = parent ∙ (parent_here t.id t.tree k.task k.at_it ∙ above) in
        record {
          parent = parent_so t.tree tree t.id p w o.pre o.post o.trees j is (sym (inner same));
          number_is = lone_number a w o v t number nested has h;
          clock = clock_left a w o v s;
          no_ups = left;
          still = s.still;
          none = s.none;
          bare = h.bare;
        }

    pub no_parent : (a : Aside) (w : Who) (o : World) (v : View) → None ≡ parent_at t.id t.tree → t.ups.items ≡ [] → w.role ≡ part →
        Lone pending a w o v t → ⊥
    no_parent a w o v lacks none role h =
        let s = h.standing in
        let k = here t.tree (map id_of (ups_of t.ups.items)) t.id w None o nested s.stands in
        let j = ended.later frames_in (map id_of (ups_of t.ups.items)) w o.pre o.post o.trees role (alone_in a w o v none s) in
        never (lacks ∙ (parent_here t.id t.tree k.task k.at_it ∙ j.of_it k.task k.at_it))
