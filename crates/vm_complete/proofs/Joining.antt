-- A part that began in an earlier turn is joined with its parent.
use Rattle.std.proofs.Common.{◌≡◌, ℕ, Bool, true, false, cond, Result, Ok, Err, IfOk, List, [], ◌∷◌, ◌++◌, map, reverse, Some, IsSome}
use Rattle.std.proofs.Common.{option_map, refl, sym, ap, subst, ◌∙◌}
use Rattle.task_tree.specs.Tasks.{Task, task_at, with_item, IsLive}
use Rattle.task_tree.specs.Nested.{IsTree, Distinct}
use Rattle.task_tree.proofs.Standing.{inner, found, beside, changed_here, at_place}
use Rattle.verse_value.specs.Val.{Val}
use Rattle.verse_value.specs.View.{val_of}
use Rattle.verse_value.specs.declared.values.Value.{Value}
use Rattle.verse_meaning_state.specs.State.{State}
use Rattle.verse_meaning_state.specs.Waits.{Wait}
use Rattle.verse_code_machine.specs.Tasks as m
use Rattle.verse_code_machine.specs.Tasks.{Who, Part, Rest, asleep, group, Thread, Trees, World, world, Turn, onto, among}
use Rattle.verse_code_machine.specs.Ends.{is_run, with_did, grouped, rested, joined, climbs}
use Rattle.sim_clock.specs.declared.waits.WaitKind.{WaitKind}
use Rattle.sim_clock.specs.declared.waits.Pending.{Pending}
use Rattle.vm_tasks_laws.specs.Slots as table
use Rattle.vm_tasks_laws.specs.Slots.{slept, held, Shows}
use Rattle.vm_tasks_laws.specs.Standing.{Stands}
use Rattle.vm_tasks_laws.specs.Clocks.{with_held, Timed}
use Rattle.vm_tasks_laws.specs.Together.{passed}
use Rattle.vm_frames.specs.Framed.{Framed}
use Rattle.vm_running.specs.Views.{View, Aside, state_of}
use Rattle.vm_tasks.specs.declared.slots.Slot.{Slot}
use Rattle.vm_tasks.specs.declared.slots.Group.{Group}
use Rattle.vm_tasks.specs.declared.slots.Held.{Held}
use Rattle.vm_tasks.specs.declared.slots.Held.TheVariants.{ByMachine, Asleep, AtGroup}
use Rattle.vm_tasks.specs.View.{held_of, slot_of, kind_of, part_of}
use Rattle.vm_tasks.specs.Begun.{Reheld}
use Rattle.vm_scheduler.specs.declared.tasks.Begins.{Begins}
use Rattle.vm_scheduler.specs.declared.tasks.Tasks.{Tasks}
use Rattle.vm_scheduler.specs.declared.tasks.Went.{Went}
use Rattle.vm_scheduler.specs.declared.tasks.Went.TheVariants as went
use Rattle.vm_scheduler.specs.Frames.{frames_in, threaded, Suspended}
use Rattle.vm_scheduler.specs.Ups.{ups_of, UpsAre, no_ups}
use Rattle.vm_scheduler.specs.Standing.{Tree, HeldFine, Standing, Bare}
use Rattle.vm_scheduler.specs.Meets.{Meets}
use Rattle.vm_scheduler.proofs.Fines.{fine_at}
use Rattle.vm_scheduler.proofs.Seated.{seat, same_waits, fine_reheld}
use Rattle.vm_scheduler.proofs.Untold.{untold_reheld}
use Rattle.vm_group.specs.Groups.{on_rest, Hand}
use Rattle.vm_complete.specs.Arms.{has_run}
use Rattle.vm_complete.specs.Groups.{SettlesOn}
use Rattle.vm_complete.specs.Overs.{Joining, IsJoining, Joined}

-- what the parent waits for

waits_on : (n : ℕ) (x : Val) (id : ℕ) (h : Held (List Framed)) (it : m.Task) (xs ys : List m.Task) (trees : Trees) (s : State) →
    Shows id (held_of frames_in h) (slept it) → has_run n h ≡ false →
    joined n x it.rest it xs ys trees s ≡ Turn s (among (onto xs (it ∷ ys)) trees)
waits_on n x id ByMachine it xs ys trees s k e = absurd k
waits_on n x id (Asleep fs i kind) it xs ys trees s k e = ap (λ r. joined n x r it xs ys trees s) k.2
waits_on n x id (AtGroup fs g) it xs ys trees s k e =
    ap (λ r. joined n x r it xs ys trees s) k.2 ∙
    ap (λ b. cond b (grouped (kind_of g.kind) g.place (with_did n x (map part_of g.arms.items)) it.thread (world xs ys [] trees) s
    (λ y. rested (y ∷ xs) ys [] trees s)) (Turn s (among (onto xs (it ∷ ys)) trees))) e

pub never_machine : (n : ℕ) → has_run n ByMachine ≡ true → ⊥
never_machine n e = absurd (cc)

pub never_asleep : (n : ℕ) (h : Held (List Framed)) (fs : List Framed) (k : ℕ) (kind : WaitKind) → h ≡ Asleep fs k kind →
    has_run n h ≡ true → ⊥
never_asleep n h fs k kind is e = let same : false ≡ true = sym (ap (λ z. has_run n z) is) ∙ e in absurd (cc)

record AtIts (fs : List Framed) (g : Group) (it : m.Task) : Type 0 where
  thread : it.thread ≡ threaded it.thread.who fs
  rest : it.rest ≡ group (kind_of g.kind) g.place (map part_of g.arms.items)

at_its : (id : ℕ) (h : Held (List Framed)) (fs : List Framed) (g : Group) (it : m.Task) → Shows id (held_of frames_in h) (slept it) →
    h ≡ AtGroup fs g → AtIts fs g it
at_its id h fs g it k e =
    let s : Shows id (held_of frames_in (AtGroup fs g)) (slept it) = subst (λ z. Shows id (held_of frames_in z) (slept it)) e k in
    record {
      thread = ap (λ f. m.thread it.thread.who f it.thread.below) s.0 ∙ ap (λ b. m.thread it.thread.who (frames_in fs).0 b) s.1;
      rest = s.2;
    }

goes_with : (n : ℕ) (x : Val) (fs : List Framed) (g : Group) (it : m.Task) (xs ys : List m.Task) (trees : Trees) (s : State) →
    AtIts fs g it → is_run n (map part_of g.arms.items) ≡ true →
    joined n x it.rest it xs ys trees s ≡ grouped (kind_of g.kind) g.place (with_did n x (map part_of g.arms.items))
    (threaded it.thread.who fs) (world xs ys [] trees) s (λ y. rested (y ∷ xs) ys [] trees s)
goes_with n x fs g it xs ys trees s k e =
    ap (λ r. joined n x r it xs ys trees s) k.rest ∙
    (ap (λ b. cond b (grouped (kind_of g.kind) g.place (with_did n x (map part_of g.arms.items)) it.thread (world xs ys [] trees) s
    (λ y. rested (y ∷ xs) ys [] trees s)) (Turn s (among (onto xs (it ∷ ys)) trees))) e ∙
    ap (λ z. grouped (kind_of g.kind) g.place (with_did n x (map part_of g.arms.items)) z (world xs ys [] trees) s
    (λ y. rested (y ∷ xs) ys [] trees s)) k.thread)

pub held_here : (id : ℕ) (tree : Tree) (t : Task (Slot (List Framed))) (h : Held (List Framed)) → task_at id tree ≡ Some t →
    option_map (λ (z : Task (Slot (List Framed))). z.item.held) (task_at id tree) ≡ Some h → t.item.held ≡ h
held_here id tree t h at e = inner (sym (ap (λ o. option_map (λ (z : Task (Slot (List Framed))). z.item.held) o) at) ∙ e)

item_at : (tree new : Tree) (id : ℕ) (t : Task (Slot (List Framed))) (item : Slot (List Framed)) → IsTree tree → IsTree new →
    task_at id tree ≡ Some t → new ≡ with_item id tree item → task_at id new ≡ Some (record t { item = item })
item_at tree new id t item nested again at is =
    let p = found id tree t at in
    let alone = beside p.front p.back t (subst (λ z. Distinct z) p.was nested.distinct) in
    let list : new ≡ p.front ++ record t { item = item } ∷ p.back =
    is ∙ (ap (λ n. with_item n tree item) (sym p.number) ∙
    (ap (λ z. with_item t.number z item) p.was ∙ changed_here p.front p.back t (λ u. record u { item = item }) alone.0)) in
    ap (λ z. task_at id z) list ∙ (ap (λ n. task_at n (p.front ++ record t { item = item } ∷ p.back)) (sym p.number) ∙
    at_place p.front p.back (record t { item = item }) (subst (λ z. Distinct z) list again.distinct))

group_waits : (id : ℕ) (h : Held (List Framed)) (fs : List Framed) (g : Group) (xs : List (ℕ × Wait)) → h ≡ AtGroup fs g →
    with_held id (held_of frames_in h) xs ≡ xs
group_waits id h fs g xs e = ap (λ z. with_held id (held_of frames_in z) xs) e

module _ {W : Type 0} (pending : W → List Pending) where
  pub parent_live : (id number : ℕ) (v : View) (t : Tasks W) → IsJoining pending id number v t → IsLive id t.tree
  parent_live id number v t h = subst (λ o. IsSome o) (sym h.here.parent.at_it) refl

  -- it waits on
  pub waits_still : (id number : ℕ) (x : Val) (v : View) (t : Tasks W) (awaits : Bool) →
      ((z : Task (Slot (List Framed))) → task_at id t.tree ≡ Some z → awaits ≡ has_run number z.item.held) → awaits ≡ false →
      Joined pending id number x went.Down v t v t
  waits_still id number x v t awaits told not = record {
    meets = λ a w o h.
        let p = h.parent in
        let lacks : has_run w.number p.task.item.held ≡ false =
        ap (λ n. has_run n p.task.item.held) h.number_is ∙ (sym (told p.task p.at_it) ∙ not) in
        record {
          aside = a;
          trees = among (onto (passed p.earlier o.pre) (p.it ∷ p.later)) o.trees;
          same = refl;
          resting = record { clock = h.clock; rests = p.stays; bare = h.bare; no_ups = h.no_ups; still = h.still; none = h.none };
          is = p.found x (state_of a v) ∙ waits_on w.number x id p.task.item.held p.it (passed p.earlier o.pre) p.later o.trees
              (state_of a v) p.shows lacks;
        };
  }

  pub not_awaited : (id number : ℕ) (v : View) (t : Tasks W) (awaits : Bool) (h : Held (List Framed)) → IsJoining pending id number v t →
      ((z : Task (Slot (List Framed))) → task_at id t.tree ≡ Some z → awaits ≡ has_run number z.item.held) →
      option_map (λ (z : Task (Slot (List Framed))). z.item.held) (task_at id t.tree) ≡ Some h → awaits ≡ true → has_run number h ≡ true
  not_awaited id number v t awaits h j told value so =
      let p = j.here.parent in sym (ap (λ z. has_run number z) (held_here id t.tree p.task h p.at_it value)) ∙
      (sym (told p.task p.at_it) ∙ so)

  module _ (id number : ℕ) (fs : List Framed) (g : Group) (x : Value) (b : Begins) (v : View) (t : Tasks W) (tree : Tree)
      (nested : IsTree t.tree) (again : IsTree tree) (r : Reheld t.tree tree id ByMachine)
      (value : option_map (λ (z : Task (Slot (List Framed))). z.item.held) (task_at id t.tree) ≡ Some (AtGroup fs g))
      (gives : map part_of b.arms.items ≡ with_did number (val_of x) (map part_of g.arms.items)) where
    record InHand (a : Aside) (w : Who) (o : World) : Type 0 where
      who : Who
      other : World
      standing : Standing pending (held id who (Some (map part_of b.arms.items)) ∷ []) a other v (record t { tree = tree })
      bare : Bare v
      suspended : Suspended who.number fs
      is : is_run number (map part_of g.arms.items) ≡ true → climbs w.up w.number (val_of x) o.pre o.post o.trees (state_of a v) ≡
          grouped (kind_of g.kind) g.place (map part_of b.arms.items) (threaded who fs) other (state_of a v) (on_rest other (state_of a v))

    in_hand : (a : Aside) (w : Who) (o : World) → Joining pending id number a w o v t → InHand a w o
    in_hand a w o h =
        let p = h.parent in
        let s = state_of a v in
        let xs = passed p.earlier o.pre in
        let gs = map part_of g.arms.items in
        let same : p.task ≡ r.task = inner (sym p.at_it ∙ r.at_it) in
        let here : p.task.item.held ≡ AtGroup fs g = held_here id t.tree p.task (AtGroup fs g) p.at_it value in
        let here2 : r.task.item.held ≡ AtGroup fs g = held_here id t.tree r.task (AtGroup fs g) r.at_it value in
        let k = at_its id p.task.item.held fs g p.it p.shows here in
        let item : Slot (List Framed) = record p.task.item { held = ByMachine } in
        let is : tree ≡ with_item id t.tree item =
        r.is ∙ ap (λ (z : Task (Slot (List Framed))). with_item id t.tree (record z.item { held = ByMachine })) (sym same) in
        let who = p.it.thread.who in
        let other : World = world xs p.later [] o.trees in
        let one : Stands (slot_of frames_in) tree [] (held id who (Some (with_did w.number (val_of x) gs)) ∷ []) other =
        subst (λ z. Stands (slot_of frames_in) z [] (held id who (Some (with_did w.number (val_of x) gs)) ∷ []) other) (sym is)
        (p.goes item (val_of x) gs refl (ap (λ z. table.arms_at z) k.rest)) in
        let arms : with_did w.number (val_of x) gs ≡ map part_of b.arms.items =
        ap (λ n. with_did n (val_of x) gs) h.number_is ∙ sym gives in
        let two : Stands (slot_of frames_in) tree [] (held id who (Some (map part_of b.arms.items)) ∷ []) other =
        subst (λ z. Stands (slot_of frames_in) tree [] (held id who (Some z) ∷ []) other) arms one in
        let sat = seat tree [] id who (Some (map part_of b.arms.items)) other (record p.task { item = item }) again two
        (item_at t.tree tree id p.task item nested again p.at_it is) in
        let fine = fine_at v.left id t.tree p.task p.at_it h.clock.fine in
        let sus : Suspended p.task.item.number fs = subst (λ z. HeldFine p.task.item.number z) here fine.held in
        let none : ups_of t.ups.items ≡ [] = ap (λ z. reverse z) h.no_ups in
        record {
          who = who;
          other = other;
          standing = record {
            clock = record {
              past = h.clock.past;
              next = h.clock.next;
              results = h.clock.results;
              signals = h.clock.signals;
              timed = subst (λ z. Timed z (pending t.gone.waits) s)
                  (sym (same_waits t.tree tree id ByMachine nested r (λ ys. group_waits id r.task.item.held fs g ys here2) (λ ys. refl)))
                  h.clock.timed;
              fine = fine_reheld v.left t.tree tree id ByMachine nested r tt h.clock.fine;
              untold = untold_reheld t.results.items t.tree tree id ByMachine nested r h.clock.untold;
            };
            stands = record { others = two.others; planted = two.planted; chain = two.chain; others_are = two.others_are };
            ups = subst (λ z. UpsAre z []) (sym none) no_ups;
            still = h.still;
            none = h.none;
          };
          bare = h.bare;
          suspended = subst (λ n. Suspended n fs) sat.number sus;
          is = λ so. p.found (val_of x) s ∙ (goes_with w.number (val_of x) fs g p.it xs p.later o.trees s k
              (ap (λ n. is_run n gs) h.number_is ∙ so) ∙
              ap (λ z. grouped (kind_of g.kind) g.place z (threaded who fs) other s (on_rest other s)) arms);
        }

    pub joined_hand : b.id ≡ id → b.thread ≡ fs → IsJoining pending id number v t → Hand pending b v (record t { tree = tree })
    joined_hand here frames j =
        let k = in_hand j.aside j.who j.world j.here in
        record {
          aside = j.aside;
          who = k.who;
          world = k.other;
          standing = subst (λ n. Standing pending (held n k.who (Some (map part_of b.arms.items)) ∷ []) j.aside k.other v
              (record t { tree = tree })) (sym here) k.standing;
          bare = k.bare;
          suspended = subst (λ z. Suspended k.who.number z) (sym frames) k.suspended;
        }

    pub joined_goes : {E : Type 0} (d : Result Went E) (u : View) (s : Tasks W) → b.id ≡ id → b.thread ≡ fs → b.kind ≡ g.kind →
        b.place ≡ g.place → is_run number (map part_of g.arms.items) ≡ true →
        IfOk d (λ r. SettlesOn pending b r v (record t { tree = tree }) u s) →
        IfOk d (λ r. Joined pending id number (val_of x) r v t u s)
    joined_goes (Err e) u s here frames kind place so k = tt
    joined_goes (Ok q) u s here frames kind place so k = record {
      meets = λ a w o h.
          let l = in_hand a w o h in
          let st = state_of a v in
          let gs = map part_of b.arms.items in
          let to : Meets pending (grouped (kind_of b.kind) b.place gs (threaded l.who b.thread) l.other st (on_rest l.other st)) a.past q u
          s =
          k.meets a l.who l.other (subst (λ n. Standing pending (held n l.who (Some gs) ∷ []) a l.other v (record t { tree = tree }))
          (sym here) l.standing) l.bare (subst (λ z. Suspended l.who.number z) (sym frames) l.suspended) in
          let is : climbs w.up w.number (val_of x) o.pre o.post o.trees st ≡
          grouped (kind_of b.kind) b.place gs (threaded l.who b.thread) l.other st (on_rest l.other st) =
          l.is so ∙ (ap (λ z. grouped (kind_of z) g.place gs (threaded l.who fs) l.other st (on_rest l.other st)) (sym kind) ∙
          (ap (λ z. grouped (kind_of b.kind) z gs (threaded l.who fs) l.other st (on_rest l.other st)) (sym place) ∙
          ap (λ z. grouped (kind_of b.kind) b.place gs (threaded l.who z) l.other st (on_rest l.other st)) (sym frames))) in
          subst (λ z. Meets pending z a.past q u s) (sym is) to;
    }
