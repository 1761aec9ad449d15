-- An arm or a task behind is over.
use Rattle.std.proofs.Common.{◌≡◌, ℕ, Result, Ok, Err, IfOk, List, [], ◌∷◌, ◌++◌, Some, None, option_map, sym, ap, subst}
use Rattle.std.specs.Global.{Vec}
use Rattle.task_tree.specs.Tasks.{Task, task_at, parent_at, without, IsLive}
use Rattle.task_tree.specs.Nested.{IsTree}
use Rattle.verse_value.specs.Val.{Val}
use Rattle.verse_code_machine.specs.Ends.{part_ends}
use Rattle.sim_clock.specs.declared.waits.Pending.{Pending}
use Rattle.vm_frames.specs.Framed.{Framed}
use Rattle.vm_running.specs.Views.{View, state_of}
use Rattle.vm_tasks.specs.declared.slots.Slot.{Slot}
use Rattle.vm_tasks.specs.Ending.{Ended}
use Rattle.vm_scheduler.specs.declared.tasks.Up.{Up}
use Rattle.vm_scheduler.specs.declared.tasks.Tasks.{Tasks}
use Rattle.vm_scheduler.specs.declared.tasks.Went.{Went}
use Rattle.vm_scheduler.specs.Standing.{Tree}
use Rattle.vm_scheduler.specs.Meets.{Meets}
use Rattle.vm_complete.specs.Overs.{IsLonePart, IsGone, IsJoining, PartOver, PartGone, Joined}
use Rattle.vm_complete.proofs.Leaving.{lone_live, left_tasks, no_more, gone_of, joining_of}
use Rattle.vm_complete.proofs.Leaving.{no_parent}

module _ {W : Type 0} (pending : W → List Pending) where
  pub part_live : (v : View) (t : Tasks W) → IsTree t.tree → IsLonePart pending v t → IsLive t.id t.tree
  part_live v t nested h = lone_live pending h.aside h.who h.world v t nested h.here

  module _ (t : Tasks W) (tree : Tree) (ups : Vec Up) (nested : IsTree t.tree) (ended : Ended t.tree tree t.id)
      (is : tree ≡ without t.id t.tree) where
    abbrev gone_tasks : Tasks W
    gone_tasks = left_tasks pending t tree ups nested ended is

    pub gone_part : (up : Up) (v : View) → t.ups.items ≡ ups.items ++ up ∷ [] → IsLonePart pending v t → IsGone pending up v gone_tasks
    gone_part up v last h = record {
      aside = h.aside;
      who = h.who;
      world = h.world;
      here =
          gone_of pending t tree ups nested ended is up h.aside h.who h.world v last h.here;
    }

    pub part_up : {E : Type 0} (d : Result Went E) (up : Up) (x : Val) (v u : View) (s : Tasks W) → t.ups.items ≡ ups.items ++ up ∷ [] →
        IfOk d (λ r. PartGone pending up x r v gone_tasks u s) → IfOk d (λ r. PartOver pending x r v t u s)
    part_up (Err f) up x v u s last k = tt
    part_up (Ok r) up x v u s last k = record {
      meets =
          λ a w o h role. k.meets a w o (gone_of pending t tree ups nested ended is up a w o v last h);
    }

    module _ (p number : ℕ) (parent : Some p ≡ parent_at t.id t.tree)
        (has : Some number ≡ option_map (λ (z : Task (Slot (List Framed))). z.item.number) (task_at t.id t.tree)) (none : t.ups.items ≡ [])
        (left : ups.items ≡ []) where
      pub joining_part : (v : View) → IsLonePart pending v t → IsJoining pending p number v gone_tasks
      joining_part v h = record {
        aside = h.aside;
        who = h.who;
        world = h.world;
        here =
            joining_of pending t tree ups nested ended is h.aside h.who h.world v p number parent has none left h.role h.here;
      }

      pub part_joins : {E : Type 0} (d : Result Went E) (x : Val) (v u : View) (s : Tasks W) →
          IfOk d (λ r. Joined pending p number x r v gone_tasks u s) → IfOk d (λ r. PartOver pending x r v t u s)
      part_joins (Err f) x v u s k = tt
      part_joins (Ok r) x v u s k = record {
        meets = λ a w o h role.
            subst (λ z. Meets pending z a.past r u s)
            (sym (ap (λ z. part_ends w.up w.number x o.pre o.post z o.trees (state_of a v))
            (no_more pending t tree ups nested ended is a w o v none h.standing)))
            (k.meets a w o (joining_of pending t tree ups nested ended is a w o v p number parent has none left role h));
      }

    -- a part has a parent
    pub has_parent : (v : View) → None ≡ parent_at t.id t.tree → t.ups.items ≡ [] → IsLonePart pending v t → ⊥
    has_parent v lacks none h = no_parent pending t tree ups nested ended is h.aside h.who h.world v lacks none h.role h.here
