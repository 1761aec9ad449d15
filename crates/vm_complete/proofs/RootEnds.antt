-- Main or a spawned task is over.
use Rattle.std.proofs.Common.{◌≡◌, ℕ, Result, Ok, Err, IfOk, List, [], ◌∷◌, ◌++◌, map, reverse, Option, Some, None, option_map, refl, sym}
use Rattle.std.proofs.Common.{ap, subst, ◌∙◌}
use Rattle.std.specs.Global.{Vec}
use Rattle.task_tree.specs.Tasks.{Task, task_at, without, IsLive}
use Rattle.task_tree.specs.Nested.{IsTree}
use Rattle.task_tree.proofs.Standing.{inner}
use Rattle.verse_value.specs.Val.{Val}
use Rattle.verse_meaning_state.specs.State.{with_result}
use Rattle.verse_code_machine.specs.Tasks.{Role, root, part, Who, World, world, onto, among}
use Rattle.verse_code_machine.specs.Ends.{root_ends}
use Rattle.sim_clock.specs.declared.waits.Pending.{Pending}
use Rattle.vm_tasks_laws.specs.Slots.{held}
use Rattle.vm_tasks_laws.specs.Standing.{Stands}
use Rattle.vm_frames.specs.Framed.{Framed}
use Rattle.vm_running.specs.Views.{View, Aside, state_of}
use Rattle.vm_tasks.specs.declared.slots.Slot.{Slot}
use Rattle.vm_tasks.specs.declared.slots.Root.{Root}
use Rattle.vm_tasks.specs.declared.slots.Root.TheVariants.{Part as APart, Main, Spawned}
use Rattle.vm_tasks.specs.View.{slot_of, role_of}
use Rattle.vm_tasks.specs.Ending.{Ended}
use Rattle.vm_scheduler.specs.declared.tasks.Up.{Up}
use Rattle.vm_scheduler.specs.declared.tasks.Tasks.{Tasks}
use Rattle.vm_scheduler.specs.declared.tasks.Went.{Went}
use Rattle.vm_scheduler.specs.declared.tasks.Went.TheVariants as went
use Rattle.vm_scheduler.specs.Frames.{frames_in}
use Rattle.vm_scheduler.specs.Ups.{ups_of, id_of, UpsAre}
use Rattle.vm_scheduler.specs.Standing.{Tree, NoneOf, Clocked}
use Rattle.vm_scheduler.specs.Meets.{Meets}
use Rattle.vm_scheduler.proofs.Ends.{last_first}
use Rattle.vm_scheduler.proofs.Untold.{untold_over}
use Rattle.vm_suspend.specs.Results.{result_in, IsOver, Gives}
use Rattle.vm_complete.specs.Overs.{Lone, Off, Gone, IsLoneRoot, IsOffRoot, IsGoneRoot, RootOver, RootLeaves, RootGone}
use Rattle.vm_complete.proofs.Leaving.{here, none_above, lone_live, lone_role, clock_left}

abbrev entry_or : Option ℕ → Role → Option ℕ
entry_or e (root f) = f
entry_or e part = e

part_root : (e : Option ℕ) → part ≡ root e → ⊥
part_root e p = absurd (cc)

module _ {W : Type 0} (pending : W → List Pending) where
  pub root_live : (v : View) (t : Tasks W) → IsTree t.tree → IsLoneRoot pending v t → IsLive t.id t.tree
  root_live v t nested h = lone_live pending h.aside h.who h.world v t nested h.here

  -- it goes from the tree

  module _ (t : Tasks W) (tree : Tree) (nested : IsTree t.tree) (ended : Ended t.tree tree t.id) (is : tree ≡ without t.id t.tree) where
    abbrev off_tasks : Tasks W
    off_tasks = record t { tree = tree }

    off_of : (a : Aside) (w : Who) (o : World) (v : View) → Lone pending a w o v t → Off pending a w o v off_tasks
    off_of a w o v h =
        let s = h.standing in
        record {
          tree = t.tree;
          id = t.id;
          ended = ended;
          stands = s.stands;
          ups = s.ups;
          clock = clock_left pending t tree t.ups nested ended is a w o v s;
          still = s.still;
          none = s.none;
          bare = h.bare;
        }

    pub off_root : (v : View) → IsLoneRoot pending v t → IsOffRoot pending v off_tasks
    off_root v h = record {
      aside = h.aside;
      who = h.who;
      entry = h.entry;
      world = h.world;
      here =
          off_of h.aside h.who h.world v h.here;
      role = h.role;
    }

    -- a spawned one has given nothing yet
    pub over_of : (r : Root) (entry : ℕ) (v : View) →
        Some r ≡ option_map (λ (y : Task (Slot (List Framed))). y.item.root) (task_at t.id t.tree) → r ≡ Spawned entry →
        IsLoneRoot pending v t → IsOver entry off_tasks
    over_of r entry v e spawned h =
        let s = h.here.standing in
        let k = here t.tree (map id_of (ups_of t.ups.items)) t.id h.who None h.world nested s.stands in
        let same : r ≡ k.task.item.root = inner (e ∙ ap (λ z. option_map (λ (y : Task (Slot (List Framed))). y.item.root) z) k.at_it) in
        let over = untold_over t.results.items t.id entry t.tree k.task nested k.at_it (sym same ∙ spawned) s.clock.untold in
        record { unset = over.0; none = subst (λ z. NoneOf entry z) (sym is) over.1 }

  -- it has given its value

  off_given : (entry : ℕ) (x : Val) (a : Aside) (w : Who) (o : World) (v : View) (t s : Tasks W) → Gives pending entry x v t s →
      Off pending a w o v t → Off pending (result_in entry x v.moment a) w o v s
  off_given entry x a w o v t s g h =
      let b = result_in entry x v.moment a in
      let whole : Off pending b w o v (record t { gone = record t.gone { waits = s.gone.waits }; results = s.results }) = record {
        tree = h.tree;
        id = h.id;
        ended = h.ended;
        stands = h.stands;
        ups = h.ups;
        clock = subst (λ z. Clocked pending b v z) g.still (g.clock a h.clock);
        still = h.still;
        none = h.none;
        bare = h.bare;
      } in
      subst (λ z. Off pending b w o v z) (sym g.still) whole

  pub still_off : (entry : ℕ) (x : Val) (v : View) (t s : Tasks W) → Gives pending entry x v t s → IsOffRoot pending v t →
      IsOffRoot pending v s
  still_off entry x v t s g h = record {
    aside = result_in entry x v.moment h.aside;
    who = h.who;
    entry = h.entry;
    world = h.world;
    here = off_given entry x h.aside h.who h.world v t s g h.here;
    role = h.role;
  }

  module _ (t : Tasks W) (tree : Tree) (nested : IsTree t.tree) (ended : Ended t.tree tree t.id) (is : tree ≡ without t.id t.tree) where
    pub gives_leaves : {E : Type 0} (d : Result Went E) (r : Root) (entry : ℕ) (x : Val) (v u : View) (s z : Tasks W) →
        Some r ≡ option_map (λ (y : Task (Slot (List Framed))). y.item.root) (task_at t.id t.tree) → r ≡ Spawned entry →
        Gives pending entry x v (record t { tree = tree }) s →
        IfOk d (λ q. RootLeaves pending q v s u z) → IfOk d (λ q. RootOver pending x q v t u z)
    gives_leaves (Err f) r entry x v u s z e spawned g k = tt
    gives_leaves (Ok q) r entry x v u s z e spawned g k = record {
      meets = λ a w n o h role.
          let same : root (Some entry) ≡ root n =
          sym (ap (λ y. role_of y) spawned) ∙ (lone_role pending a w o v t r nested e h.standing ∙ role) in
          let it : Some entry ≡ n = ap (λ y. entry_or n y) same in
          subst (λ y. Meets pending (root_ends o.pre o.post o.ups o.trees (with_result y x (state_of a v))) a.past q u z) it
          (k.meets (result_in entry x v.moment a) w n o
          (off_given entry x a w o v (record t { tree = tree }) s g (off_of t tree nested ended is a w o v h)) role);
    }

    pub main_leaves : {E : Type 0} (d : Result Went E) (r : Root) (x : Val) (v u : View) (z : Tasks W) →
        Some r ≡ option_map (λ (y : Task (Slot (List Framed))). y.item.root) (task_at t.id t.tree) → ((entry : ℕ) → r ≡ Spawned entry → ⊥) →
        IfOk d (λ q. RootLeaves pending q v (record t { tree = tree }) u z) → IfOk d (λ q. RootOver pending x q v t u z)
    main_leaves (Err f) r x v u z e not k = tt
    main_leaves (Ok q) r x v u z e not k = record {
      meets = λ a w n o h role.
          subst (λ y. Meets pending (root_ends o.pre o.post o.ups o.trees (with_result y x (state_of a v))) a.past q u z)
          (no_entry r n not (lone_role pending a w o v t r nested e h.standing ∙ role))
          (k.meets a w n o (off_of t tree nested ended is a w o v h) role);
    }
      where
        no_entry : (r : Root) (n : Option ℕ) → ((entry : ℕ) → r ≡ Spawned entry → ⊥) → role_of r ≡ root n → None ≡ n
        no_entry APart n not p = absurd (part_root n p)
        no_entry Main n not p = ap (λ y. entry_or n y) p
        no_entry (Spawned entry) n not p = absurd (not entry refl)

  -- the nearest above is taken off

  module _ (t : Tasks W) (ups : Vec Up) where
    abbrev up_tasks : Tasks W
    up_tasks = record t { ups = ups }

    clock_up : (a : Aside) (v : View) → Clocked pending a v t → Clocked pending a v up_tasks
    clock_up a v c = record {
      past = c.past;
      next = c.next;
      results = c.results;
      signals = c.signals;
      timed = c.timed;
      fine =
          c.fine;
      untold = c.untold;
    }

    next_gone : (up : Up) (a : Aside) (w : Who) (o : World) (v : View) → t.ups.items ≡ ups.items ++ up ∷ [] → Off pending a w o v t →
        Gone pending up a w o v up_tasks
    next_gone up a w o v last h =
        let are : ups_of t.ups.items ≡ up ∷ ups_of ups.items = last_first ups.items t.ups.items up last in
        record {
          tree = h.tree;
          id = h.id;
          ended = h.ended;
          stands = subst (λ z. Stands (slot_of frames_in) h.tree (map id_of z) (held h.id w None ∷ []) o) are h.stands;
          ups = subst (λ z. UpsAre z o.ups) are h.ups;
          clock = clock_up a v h.clock;
          still = h.still;
          none = h.none;
          bare = h.bare;
        }

    pub gone_root : (up : Up) (v : View) → t.ups.items ≡ ups.items ++ up ∷ [] → IsOffRoot pending v t → IsGoneRoot pending up v up_tasks
    gone_root up v last h = record {
      aside = h.aside;
      who = h.who;
      entry = h.entry;
      world = h.world;
      here =
          next_gone up h.aside h.who h.world v last h.here;
      role = h.role;
    }

    pub leaves_up : {E : Type 0} (d : Result Went E) (up : Up) (v u : View) (s : Tasks W) → t.ups.items ≡ ups.items ++ up ∷ [] →
        IfOk d (λ r. RootGone pending up r v up_tasks u s) → IfOk d (λ r. RootLeaves pending r v t u s)
    leaves_up (Err f) up v u s last k = tt
    leaves_up (Ok r) up v u s last k = record { meets = λ a w e o h role. k.meets a w e o (next_gone up a w o v last h) role }

    pub leaves_none : (v : View) → t.ups.items ≡ [] → ups.items ≡ [] → RootLeaves pending went.Down v t v up_tasks
    leaves_none v none left = record {
      meets = λ a w e o h role.
          let no_one : o.ups ≡ [] = none_above (ups_of t.ups.items) o.ups h.ups (ap (λ z. reverse z) none) in
          record {
            aside = a;
            trees = among (onto o.pre o.post) o.trees;
            same = refl;
            resting = record {
              clock = clock_up a v h.clock;
              rests = h.ended.alone frames_in (map id_of (ups_of t.ups.items)) w e o.pre o.post o.trees role
                  (subst (λ us. Stands (slot_of frames_in) h.tree (map id_of (ups_of t.ups.items)) (held h.id w None ∷ [])
                  (world o.pre o.post us o.trees)) no_one h.stands);
              bare = h.bare;
              no_ups = left;
              still = h.still;
              none = h.none;
            };
            is = ap (λ z. root_ends o.pre o.post z o.trees (state_of a v)) no_one;
          };
    }

pub role_there : (id : ℕ) (tree : Tree) (t : Task (Slot (List Framed))) (r s : Root) →
    Some r ≡ option_map (λ (y : Task (Slot (List Framed))). y.item.root) (task_at id tree) → task_at id tree ≡ Some t → r ≡ s →
    role_of s ≡ role_of t.item.root
role_there id tree t r s e at is =
    let same : r ≡ t.item.root = inner (e ∙ ap (λ o. option_map (λ (y : Task (Slot (List Framed))). y.item.root) o) at) in
    ap (λ z. role_of z) (sym is ∙ same)

pub main_alone : (r : Root) → r ≡ Main → (entry : ℕ) → r ≡ Spawned entry → ⊥
main_alone r is entry e = let same : Main ≡ Spawned entry = sym is ∙ e in absurd (cc)

pub part_alone : (r : Root) → r ≡ APart → (entry : ℕ) → r ≡ Spawned entry → ⊥
part_alone r is entry e = let same : APart ≡ Spawned entry = sym is ∙ e in absurd (cc)
