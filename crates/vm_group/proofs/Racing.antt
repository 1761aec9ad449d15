-- The arms of a group are cancelled, and its task goes on.
use Rattle.std.proofs.Common.{◌≡◌, ℕ, Result, Ok, Err, IfOk, List, [], ◌∷◌, map, Option, Some, None, IsSome, option_map, refl, sym, ap}
use Rattle.std.proofs.Common.{subst, ◌∙◌}
use Rattle.std.proofs.lemmas.Option.{same_Some}
use Rattle.task_tree.specs.Tasks.{Task, task_at, IsLive}
use Rattle.task_tree.specs.Nested.{IsTree}
use Rattle.verse_value.specs.View.{val_of}
use Rattle.verse_value.specs.declared.values.Value.{Value}
use Rattle.verse_code_machine.specs.Tasks.{Who, Part, World, resuming, beneath_arms}
use Rattle.verse_code_machine.specs.Cancelling.{world_without, cancelled, cancels}
use Rattle.verse_code_machine.specs.Ends.{resumes}
use Rattle.sim_clock.specs.declared.waits.Pending.{Pending}
use Rattle.vm_tasks_laws.specs.Slots.{held}
use Rattle.vm_tasks_laws.proofs.Steps.{group_over}
use Rattle.vm_frames.specs.Framed.{Framed}
use Rattle.vm_running.specs.Views.{View, Aside, state_of}
use Rattle.vm_tasks.specs.declared.slots.Slot.{Slot}
use Rattle.vm_tasks.specs.View.{slot_of}
use Rattle.vm_scheduler.specs.declared.tasks.After.{After}
use Rattle.vm_scheduler.specs.declared.tasks.After.TheVariants.{Resuming, Closing, Finishing}
use Rattle.vm_scheduler.specs.declared.tasks.Tasks.{Tasks}
use Rattle.vm_scheduler.specs.declared.tasks.Went.{Went}
use Rattle.vm_scheduler.specs.declared.tasks.Went.TheVariants as went
use Rattle.vm_scheduler.specs.Frames.{frames_in, threaded, Suspended, AllUnguarded}
use Rattle.vm_scheduler.specs.Ups.{ups_of, id_of, resuming_after}
use Rattle.vm_scheduler.specs.Standing.{Standing, Bare}
use Rattle.vm_scheduler.specs.Meets.{MovesOn}
use Rattle.vm_scheduler.specs.Moving.{Resumes}
use Rattle.vm_scheduler.proofs.Seated.{live_stands}
use Rattle.vm_cancel.specs.Cancels.{Cancels, BlocksTo, RunsBlocks}
use Rattle.vm_group.specs.Groups.{InGroup, CancelsArms}

module _ {W : Type 0} (pending : W → List Pending) where
  abbrev pub Began : ℕ → ℕ → Tasks W → Type 0
  Began id bound t = (u : Task (Slot (List Framed))) → task_at id t.tree ≡ Some u → u.item.since ≡ bound

  pub group_live : (id : ℕ) (fs : List Framed) (v : View) (t : Tasks W) → IsTree t.tree → InGroup pending id fs v t → IsLive id t.tree
  group_live id fs v t nested h = live_stands t.tree (map id_of (ups_of t.ups.items)) id h.who
      (Some h.arms) h.world nested h.standing.stands

  pub arms_unguarded : (id bound : ℕ) (fs : List Framed) (v : View) (t s : Tasks W) → Began id bound t → InGroup pending id fs v t →
      Cancels pending id bound t s → AllUnguarded s.gone.frames.items
  arms_unguarded id bound fs v t s since h c = (c.arms h.aside h.who h.arms h.world v since h.standing).unguarded

  module _ (id bound : ℕ) (fs : List Framed) (x : Value) (v : View) (t s : Tasks W) (since : Began id bound t) (nested : IsTree s.tree)
      (c : Cancels pending id bound t s) where
    to_blocks : (r : Went) (u : View) (z : Tasks W) → RunsBlocks pending id (Resuming fs x) r v s u z →
        (a : Aside) (w : Who) (gs : List Part) (o : World) → Standing pending (held id w (Some gs) ∷ []) a o v t → Bare v →
        Suspended w.number fs →
        BlocksTo pending id (Resuming fs x) (cancels (λ o s. resumes (threaded w fs) (val_of x) o s) (resuming (threaded w fs) (val_of x))
        (beneath_arms w.path gs) o (state_of a v)) (resuming (threaded w fs) (val_of x)) r a
        (world_without (beneath_arms w.path gs) o) v s u z
    to_blocks r u z b a w gs o st bare sus =
        let k = c.arms a w gs o v since st in
        let f = beneath_arms w.path gs in
        b.runs (resuming (threaded w fs) (val_of x)) (cancelled f o) a (world_without f o) bare k.clock
        (group_over (slot_of frames_in) s.tree (map id_of (ups_of s.ups.items)) id w (Some gs) (world_without f o) k.stands nested)
        k.ups k.todo_is k.unguarded k.nothing_under
        (resuming_after fs x w sus)

    pub race_runs : (r : Went) (u : View) (z : Tasks W) → (r ≡ went.Down → ⊥) → RunsBlocks pending id (Resuming fs x) r v s u z →
        CancelsArms pending id fs (val_of x) r v t u z
    race_runs went.On u z d b = record { cancels = λ a w gs o st bare sus. to_blocks went.On u z b a w gs o st bare sus }
    race_runs (went.Over e) u z d b = record { cancels = λ a w gs o st bare sus. to_blocks (went.Over e) u z b a w gs o st bare sus }
    race_runs went.Down u z d b = absurd (d refl)

    pub race_resumes : {E : Type 0} (d : Result Went E) (r : Went) (u u2 : View) (z y z2 : Tasks W) → r ≡ went.Down →
        RunsBlocks pending id (Resuming fs x) r v s u z → y ≡ record z { after = None } →
        IfOk d (λ r. Resumes pending id fs (val_of x) r u y u2 z2) →
        IfOk d (λ r. CancelsArms pending id fs (val_of x) r v t u2 z2)
    race_resumes (Err e) r u u2 z y z2 down b is h = tt
    race_resumes (Ok d) r u u2 z y z2 down b is h = record {
      cancels = λ a w gs o st bare sus.
          let k = to_blocks went.Down u z (subst (λ q. RunsBlocks pending id (Resuming fs x) q v s u z) down b) a w gs o st bare sus in
          let g : Resumes pending id fs (val_of x) d u (record z { after = None }) u2 z2 =
          subst (λ q. Resumes pending id fs (val_of x) d u q u2 z2) is h in
          subst (λ q. MovesOn pending q a.past d u2 z2) (sym k.is)
          (g.resumes a w (world_without (beneath_arms w.path gs) o) k.standing k.bare sus);
    }

abbrev or_this : {A : Type 0} → A → Option A → A
or_this x None = x
or_this x (Some y) = y

pub live_none : (id : ℕ) (tree : List (Task (Slot (List Framed)))) → IsLive id tree →
    None ≡ option_map (λ (t : Task (Slot (List Framed))). t.item) (task_at id tree) → ⊥
live_none id tree live e = go (task_at id tree) live e
  where
    go : (o : Option (Task (Slot (List Framed)))) → IsSome o → None ≡ option_map (λ (t : Task (Slot (List Framed))). t.item) o → ⊥
    go None l e = absurd (cc)
    go (Some t) l e = absurd (cc)

module _ {W : Type 0} (pending : W → List Pending) where
  pub began_of : (id : ℕ) (s : Slot (List Framed)) (t : Tasks W) →
      Some s ≡ option_map (λ (u : Task (Slot (List Framed))). u.item) (task_at id t.tree) → Began pending id s.since t
  began_of id s t e u at = ap (λ (z : Slot (List Framed)). z.since)
      (sym (same_Some s u.item (e ∙ ap (λ o. option_map (λ (u : Task (Slot (List Framed))). u.item) o) at)))

abbrev frames_of_it : After → List Framed
frames_of_it (Resuming fs x) = fs
frames_of_it (Closing x) = []
frames_of_it (Finishing x) = []

abbrev value_of_it : Value → After → Value
value_of_it v (Resuming fs x) = x
value_of_it v (Closing x) = x
value_of_it v (Finishing x) = x

pub same_frames : (fs gs : List Framed) (x y : Value) → Some (Resuming fs x) ≡ Some (Resuming gs y) → fs ≡ gs
same_frames fs gs x y e = ap frames_of_it (same_Some (Resuming fs x) (Resuming gs y) e)

pub same_value : (fs gs : List Framed) (x y : Value) → Some (Resuming fs x) ≡ Some (Resuming gs y) → x ≡ y
same_value fs gs x y e = ap (λ a. value_of_it x a) (same_Some (Resuming fs x) (Resuming gs y) e)

module _ {W : Type 0} (pending : W → List Pending) where
  pub resumes_as : {E : Type 0} (d : Result Went E) (id : ℕ) (fs gs : List Framed) (x y : Value) (u u2 : View) (t s : Tasks W) →
      Some (Resuming gs y) ≡ Some (Resuming fs x) → IfOk d (λ r. Resumes pending id gs (val_of y) r u t u2 s) →
      IfOk d (λ r. Resumes pending id fs (val_of x) r u t u2 s)
  resumes_as d id fs gs x y u u2 t s e h =
      subst (λ z. IfOk d (λ r. Resumes pending id z (val_of x) r u t u2 s)) (same_frames gs fs y x e)
      (subst (λ z. IfOk d (λ r. Resumes pending id gs (val_of z) r u t u2 s)) (same_value gs fs y x e) h)
