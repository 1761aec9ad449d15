-- A task that stands at its group.
use Rattle.std.proofs.Common.{ℕ, List, [], ◌∷◌, map, Some, refl, sym, subst}
use Rattle.task_tree.specs.Nested.{IsTree}
use Rattle.verse_code_machine.specs.Tasks as m
use Rattle.verse_code_machine.specs.Tasks.{Who, Part, Trees, World, world, Step, onto, among, planted, begins, branching, spawning}
use Rattle.sim_clock.specs.declared.waits.Pending.{Pending}
use Rattle.vm_tasks_laws.specs.Slots.{held}
use Rattle.vm_tasks_laws.specs.Clocks.{Timed}
use Rattle.vm_frames.specs.Framed.{Framed}
use Rattle.vm_running.specs.Views.{View, Aside, state_of}
use Rattle.vm_tasks.specs.declared.slots.Held.TheVariants.{AtGroup}
use Rattle.vm_tasks.specs.declared.slots.Group.{Group}
use Rattle.vm_tasks.specs.View.{kind_of, part_of}
use Rattle.vm_tasks.specs.Begun.{Reheld}
use Rattle.vm_tasks.specs.Standing.{SetsDown}
use Rattle.vm_scheduler.specs.declared.tasks.Begins.{Begins}
use Rattle.vm_scheduler.specs.declared.tasks.Tasks.{Tasks}
use Rattle.vm_scheduler.specs.Frames.{frames_in, threaded, Suspended}
use Rattle.vm_scheduler.specs.Ups.{ups_of, id_of}
use Rattle.vm_scheduler.specs.Standing.{Tree, Standing, Bare}
use Rattle.vm_scheduler.specs.Meets.{Lies}
use Rattle.vm_scheduler.proofs.Seated.{seat, same_waits, machine_waits, fine_reheld}
use Rattle.vm_scheduler.proofs.Untold.{untold_reheld}
use Rattle.vm_scheduler.specs.declared.tasks.Went.TheVariants as went
use Rattle.vm_group.specs.Groups.{on_rest, StandsThere}

module _ {W : Type 0} (pending : W → List Pending) where
  -- a task stands at its group
  pub stands_there : (a : Aside) (w : Who) (o : World) (v : View) (t : Tasks W) (tree : Tree) (id : ℕ) (fs : List Framed) (g : Group) →
      IsTree t.tree → Reheld t.tree tree id (AtGroup fs g) → SetsDown t.tree tree id (AtGroup fs g) →
      Standing pending (held id w (Some (map part_of g.arms.items)) ∷ []) a o v t → Bare v → Suspended w.number fs →
      Lies pending (on_rest o (state_of a v) (record
      { thread = threaded w fs; rest = m.group (kind_of g.kind) g.place (map part_of g.arms.items) })) a.past v
      (record t { tree = tree })
  stands_there a w o v t tree id fs g nested r down s bare sus =
      let here = seat t.tree (map id_of (ups_of t.ups.items)) id w (Some (map part_of g.arms.items)) o r.task nested s.stands r.at_it in
      let gs = map part_of g.arms.items in
      record {
        aside = a;
        world = world (record { thread = threaded w fs; rest = m.group (kind_of g.kind) g.place gs } ∷ o.pre) o.post o.ups o.trees;
        same = refl;
        standing = record {
          clock = record {
            past = s.clock.past;
            next = s.clock.next;
            results = s.clock.results;
            signals = s.clock.signals;
            timed = subst (λ z. Timed z (pending t.gone.waits) (state_of a v))
                (sym (same_waits t.tree tree id (AtGroup fs g) nested r (λ xs. machine_waits id _ xs here.by) (λ xs. refl))) s.clock.timed;
            fine = fine_reheld v.left t.tree tree id (AtGroup fs g) nested r (subst (λ n. Suspended n fs) (sym here.number) sus)
                s.clock.fine;
            untold = untold_reheld t.results.items t.tree tree id (AtGroup fs g) nested r s.clock.untold;
          };
          stands = down frames_in (map id_of (ups_of t.ups.items)) w (Some gs) o (frames_in fs).0 (frames_in fs).1
              (m.group (kind_of g.kind) g.place gs) refl (λ n b k. k) s.stands;
          ups = s.ups;
          still = s.still;
          none = s.none;
        };
        bare = bare;
        is = refl;
      }

  pub stands_so : (b : Begins) (v : View) (t : Tasks W) (tree : Tree) → IsTree t.tree →
      Reheld t.tree tree b.id (AtGroup b.thread (record { kind = b.kind; place = b.place; arms = b.arms })) →
      SetsDown t.tree tree b.id (AtGroup b.thread (record { kind = b.kind; place = b.place; arms = b.arms })) →
      StandsThere pending b went.Down v t (record t { tree = tree })
  stands_so b v t tree nested r down = record {
    stands = λ a w o st bare sus. stands_there a w o v t tree b.id b.thread (record { kind = b.kind; place = b.place; arms = b.arms })
        nested r down st bare sus;
  }
