-- A part or a root has ended; a deferred block of a cancelled task is over.
use Rattle.std.proofs.Common.{◌≡◌, ◌≢◌, ◌≤◌, ◌+◌, inr, ℕ, Bool, true, false, Result, Ok, Err, IfOk, List, [], ◌∷◌, map, Option, Some, None}
use Rattle.std.proofs.Common.{refl, sym, ap, subst, ◌∙◌}
use Rattle.task_tree.specs.Tasks.{Task, task_at, IsLive}
use Rattle.task_tree.specs.Nested.{IsTree}
use Rattle.task_tree.proofs.Standing.{inner}
use Rattle.verse_value.specs.View.{val_of}
use Rattle.verse_value.specs.declared.values.Value.{Value}
use Rattle.verse_value.specs.declared.runs.Ending.TheVariants as ending
use Rattle.verse_meaning_state.specs.State.{State}
use Rattle.verse_code_machine.specs.Tasks as machine
use Rattle.verse_code_machine.specs.Tasks.{Role, root, part, Who, World, world, clearing, closing, finishing, since}
use Rattle.verse_code_machine.specs.Cancelling.{world_without, cancelled, clears, clears_frames}
use Rattle.verse_code_machine.specs.Ends.{role_ends, returns_role, ends_role, cleared}
use Rattle.sim_clock.specs.declared.waits.Pending.{Pending}
use Rattle.vm_tasks_laws.specs.Standing.{Stands}
use Rattle.vm_tasks_laws.specs.Clocks.{sleeping}
use Rattle.vm_tasks_laws.proofs.Ticks.{same_timed}
use Rattle.vm_frames.specs.Framed.{Framed}
use Rattle.vm_frames.specs.Machine.{frames_with}
use Rattle.vm_running.specs.Views.{View, Aside, state_of}
use Rattle.vm_running.specs.Doings.{on_frame}
use Rattle.vm_running.specs.Comes.{done}
use Rattle.vm_exec_tasks.specs.Asking.{clearing_of}
use Rattle.vm_tasks.specs.declared.slots.Slot.{Slot}
use Rattle.vm_tasks.specs.View.{slot_of, role_of}
use Rattle.vm_scheduler.specs.declared.tasks.After.{After}
use Rattle.vm_scheduler.specs.declared.tasks.After.TheVariants.{Closing, Finishing}
use Rattle.vm_scheduler.specs.declared.tasks.Tasks.{Tasks}
use Rattle.vm_scheduler.specs.declared.tasks.Went.{Went}
use Rattle.vm_scheduler.specs.declared.tasks.Went.TheVariants as went
use Rattle.vm_scheduler.specs.Frames.{frames_in, Unguarded}
use Rattle.vm_scheduler.specs.Ups.{ups_of, id_of, IsAfter, closing_after, finishing_after}
use Rattle.vm_scheduler.specs.Standing.{Clocked, Bare}
use Rattle.vm_scheduler.specs.Going.{Scene}
use Rattle.vm_scheduler.specs.Meets.{Meets}
use Rattle.vm_scheduler.proofs.Fines.{fine_less}
use Rattle.vm_scheduler.proofs.Free.{bare_of, frames_bare}
use Rattle.vm_scheduler.proofs.Seated.{live_stands}
use Rattle.vm_cancel.specs.Clears.{Runs, ClearsFrames}
use Rattle.vm_cancel.specs.Cancels.{Cancels}
use Rattle.vm_complete.specs.Overs.{is_part}
use Rattle.vm_complete.proofs.Leaving.{standing_role}
use Rattle.vm_return.specs.Follows.{Cleared, IsCleared, Unwinds}
use Rattle.vm_return.specs.Ends.{Ending, Unwinding, IsEnding, IsUnwinding, Finished, Closed}
use Rattle.vm_return.specs.Ends.{Unwound}

part_is : (r : Role) → is_part r ≡ true → r ≡ part
part_is (root e) p = absurd (cc)
part_is part p = refl

root_is : (r : Role) → is_part r ≡ false → (e : Option ℕ) × (r ≡ root e)
root_is (root e) p = (e, refl)
root_is part p = absurd (cc)

module _ {W : Type 0} (pending : W → List Pending) where
  pub ending_live : (born : ℕ) (v : View) (t : Tasks W) → IsTree t.tree → IsEnding pending born v t → IsLive t.id t.tree
  ending_live born v t nested h = live_stands t.tree (map id_of (ups_of t.ups.items)) t.id h.scene.who None h.scene.world nested
      h.here.standing.stands

  module _ (born : ℕ) (x : Value) (v : View) (t : Tasks W) (so : Bool) (nested : IsTree t.tree) (told : (z : Task (Slot (List Framed))) →
      task_at t.id t.tree ≡ Some z → so ≡ is_part (role_of z.item.root)) where
    role_told : (m : Scene) → Ending pending born m v t → so ≡ is_part m.who.role
    role_told m h = standing_role pending m.aside m.who m.world v t is_part so nested told h.standing

    -- the run is over

    pub part_returns : (s : Tasks W) → so ≡ true → Finished pending born (val_of x) (went.Over ending.Stuck) v t v s
    part_returns s is = record {
      meets = λ m h. record {
        aside = m.aside;
        same = refl;
        is =
            ap (λ r. returns_role r m.who m.world born (val_of x) (state_of m.aside v)) (part_is m.who.role (sym (role_told m h) ∙ is));
      };
    }

    pub root_ends_so : (s : Tasks W) → so ≡ false → Closed pending born (val_of x) (went.Over ending.Stuck) v t v s
    root_ends_so s is = record {
      meets = λ m h. record {
        aside = m.aside;
        same = refl;
        is =
            ap (λ r. ends_role r m.who m.world born (val_of x) (state_of m.aside v)) (root_is m.who.role (sym (role_told m h) ∙ is)).1;
      };
    }

    -- what it has begun is cancelled

    module _ (s : Tasks W) (c : Cancels pending t.id born t s) where
      bare_here : (m : Scene) → Ending pending born m v t → Bare v
      bare_here m h = record { copies = h.over.copies; marks = h.over.marks; steps = h.over.clock }

      root_clears : (m : Scene) (e : Option ℕ) → m.who.role ≡ root e → Ending pending born m v t →
          Cleared pending t.id (Finishing x) (finishing m.who e (val_of x)) (cancelled (since m.who.path born) m.world) m.aside
          (world_without (since m.who.path born) m.world) v s
      root_clears m e role h =
          let k = c.scope m.aside m.who None m.world v h.standing in
          record {
            bare = bare_here m h;
            clock = k.clock;
            stands = k.stands;
            ups = k.ups;
            todo_is = k.todo_is;
            unguarded = k.unguarded;
            nothing_under = k.nothing_under;
            follows_is = finishing_after x m.who e role (c.childless m.aside m.who None m.world v h.young h.standing);
          }

      part_clears : (m : Scene) → m.who.role ≡ part → Ending pending born m v t →
          Cleared pending t.id (Closing x) (closing m.who (val_of x)) (cancelled (since m.who.path born) m.world) m.aside
          (world_without (since m.who.path born) m.world) v s
      part_clears m role h =
          let k = c.scope m.aside m.who None m.world v h.standing in
          record {
            bare = bare_here m h;
            clock = k.clock;
            stands = k.stands;
            ups = k.ups;
            todo_is = k.todo_is;
            unguarded = k.unguarded;
            nothing_under = k.nothing_under;
            follows_is = closing_after x m.who role (c.childless m.aside m.who None m.world v h.young h.standing);
          }

      pub root_cleared : so ≡ false → IsEnding pending born v t → IsCleared pending t.id (Finishing x) v s
      root_cleared is h =
          let m = h.scene in
          let r = root_is m.who.role (sym (role_told m h.here) ∙ is) in
          record {
            follows = finishing m.who r.0 (val_of x);
            todo = cancelled (since m.who.path born) m.world;
            aside = m.aside;
            world =
                world_without (since m.who.path born) m.world;
            here = root_clears m r.0 r.1 h.here;
          }

      pub part_cleared : so ≡ true → IsEnding pending born v t → IsCleared pending t.id (Closing x) v s
      part_cleared is h =
          let m = h.scene in
          let r = part_is m.who.role (sym (role_told m h.here) ∙ is) in
          record {
            follows = closing m.who (val_of x);
            todo = cancelled (since m.who.path born) m.world;
            aside = m.aside;
            world =
                world_without (since m.who.path born) m.world;
            here = part_clears m r h.here;
          }

      pub root_unwinds : {E : Type 0} (d : Result Went E) (u : View) (z : Tasks W) → so ≡ false →
          IfOk d (λ r. Unwinds pending t.id (Finishing x) r v s u z) → IfOk d (λ r. Finished pending born (val_of x) r v t u z)
      root_unwinds (Err e) u z is k = tt
      root_unwinds (Ok q) u z is k = record {
        meets = λ m h.
            let r = root_is m.who.role (sym (role_told m h) ∙ is) in
            subst (λ y. Meets pending (returns_role y m.who m.world born (val_of x) (state_of m.aside v)) m.aside.past q u z) (sym r.1)
            (k.meets (finishing m.who r.0 (val_of x)) (cancelled (since m.who.path born) m.world) m.aside
            (world_without (since m.who.path born) m.world) (root_clears m r.0 r.1 h));
      }

      pub part_unwinds : {E : Type 0} (d : Result Went E) (u : View) (z : Tasks W) → so ≡ true →
          IfOk d (λ r. Unwinds pending t.id (Closing x) r v s u z) → IfOk d (λ r. Closed pending born (val_of x) r v t u z)
      part_unwinds (Err e) u z is k = tt
      part_unwinds (Ok q) u z is k = record {
        meets = λ m h.
            let r = part_is m.who.role (sym (role_told m h) ∙ is) in
            let f = since m.who.path born in
            let todo = cancelled f m.world in
            let o = world_without f m.world in
            let s = state_of m.aside v in
            let to : Meets pending (clears (λ o s. role_ends m.who.role m.who (val_of x) o s) (closing m.who (val_of x)) todo o s)
            m.aside.past q u z = k.meets (closing m.who (val_of x)) todo m.aside o (part_clears m r h) in
            subst (λ y. Meets pending (ends_role y m.who m.world born (val_of x) s) m.aside.past q u z) (sym r)
            (subst (λ y. Meets pending (clears (λ o s. role_ends y m.who (val_of x) o s) (closing m.who (val_of x)) todo o s) m.aside.past q
            u z) r to);
      }

  -- a deferred block is over

  pub unwinding_steps : (v : View) (t : Tasks W) → IsUnwinding pending v t → v.left + v.spent ≤ 18446744073709551615
  unwinding_steps v t h = h.here.ready.clock

  pub unwinding_frames : (fs : List Framed) (v : View) (t : Tasks W) → fs ≡ v.frames → IsUnwinding pending v t → Unguarded fs
  unwinding_frames fs v t is h = subst (λ z. Unguarded z) (sym is) h.here.frames

  pub never_done : (v : View) (t : Tasks W) → IsUnwinding pending v t → t.after ≡ None → ⊥
  never_done v t h e = let some : None ≡ Some h.here.after = sym e ∙ h.here.after_is in absurd (cc)

  clears_is : (w : Who) (o : World) (s : State) (fs : List Framed) → fs ≢ [] →
      on_frame (frames_with fs []) s (clearing_of w o s) ≡ clears_frames (λ s. cleared o.ups o.pre o.post o.trees s) w o s
      (frames_with fs [])
  clears_is w o s [] some = absurd (some refl)
  clears_is w o s (f ∷ fs) some = refl

  module _ (v : View) (t : Tasks W) (fs gs : List Framed) (same : fs ≡ v.frames) where
    abbrev empty_view : View
    empty_view = record v { frames = gs }

    bare_view : (m : Scene) → Unwinding pending m v t → Bare empty_view
    bare_view m h = let b = bare_of v h.ready h.frames.free in record { copies = b.copies; marks = b.marks; steps = b.steps }

    here_is : (m : Scene) → Unwinding pending m v t →
        done clearing_of m.aside m.who m.world v ≡
        clears_frames (λ s. cleared m.world.ups m.world.pre m.world.post m.world.trees s) m.who m.world (state_of m.aside v)
        (frames_with fs [])
    here_is m h =
        let b = bare_of v h.ready h.frames.free in
        let s = state_of m.aside v in
        ap (λ z. on_frame z s (clearing_of m.who m.world s)) (frames_bare m.aside v b) ∙
        (clears_is m.who m.world s v.frames h.frames.some ∙
        ap (λ z. clears_frames (λ s. cleared m.world.ups m.world.pre m.world.post m.world.trees s) m.who m.world s (frames_with z []))
        (sym same))

    next_clock : (a : Aside) (u : View) → Runs a empty_view u → Clocked pending a v t → Clocked pending a u t
    next_clock a u r c =
        let again : Clocked pending a (record empty_view { frames = u.frames; left = u.left; spent = u.spent }) t = record {
          past = c.past;
          next = c.next;
          results = c.results;
          signals = c.signals;
          timed = same_timed (sleeping (slot_of frames_in) t.tree) (pending t.gone.waits) (state_of a v)
              (state_of a (record empty_view { frames = u.frames; left = u.left; spent = u.spent })) refl refl refl c.timed;
          fine = fine_less v.left u.left t.tree r.fewer c.fine;
          untold = c.untold;
        } in
        subst (λ z. Clocked pending a z t) (sym r.still) again

    block_runs : (u : View) → ClearsFrames fs went.On empty_view u → Unwound pending went.On v t u t
    block_runs u k = record {
      meets = λ m h.
          let o = m.world in
          let c = k.clears (λ s. cleared o.ups o.pre o.post o.trees s) m.aside m.who o (bare_view m h) in
          record {
            scene = m;
            same = refl;
            goes = record {
              ready = c.1.ready;
              runs = inr (record {
                clock = next_clock m.aside u c.1 h.clock;
                after = h.after;
                follows = h.follows;
                todo = h.todo;
                ups = h.ups;
                after_is = h.after_is;
                ups_are = h.ups_are;
                follows_is = h.follows_is;
                waiting = h.waiting;
                stands = h.stands;
                todo_is = h.todo_is;
                unguarded = h.unguarded;
                nothing_under = h.nothing_under;
                before = h.before;
                behind = h.behind;
                closing = c.1.closing;
              });
            };
            is = here_is m h ∙ c.0;
          };
    }

    pub not_down : (r : Went) (u : View) → (r ≡ went.Down → ⊥) → ClearsFrames fs r empty_view u → Unwound pending r v t u t
    not_down went.On u not k = block_runs u k
    not_down (went.Over e) u not k = record {
      meets = λ m h.
          let o = m.world in record {
            aside = m.aside;
            same = refl;
            is = here_is m h ∙ (k.clears (λ s. cleared o.ups o.pre o.post o.trees s) m.aside m.who o (bare_view m h) ∙
                ap (λ (z : View). machine.Over e (state_of m.aside z)) (sym k.still));
          };
    }
    not_down went.Down u not k = absurd (not refl)

    rest_clears : (m : Scene) (after : After) (y : Tasks W) (h : Unwinding pending m v t) → t.after ≡ Some after →
        y ≡ record t { after = None } →
        Cleared pending t.id after h.follows h.todo m.aside (world m.world.pre m.world.post h.ups m.world.trees) empty_view y
    rest_clears m after y h was is = subst (λ z.
        Cleared pending t.id after h.follows h.todo m.aside (world m.world.pre m.world.post h.ups m.world.trees) empty_view z)
        (sym is) whole
      where
        st : Stands (slot_of frames_in) t.tree (t.id ∷ map id_of (ups_of t.ups.items)) []
            (world m.world.pre m.world.post (clearing h.follows h.todo ∷ h.ups) m.world.trees)
        st = subst (λ z. Stands (slot_of frames_in) t.tree (t.id ∷ map id_of (ups_of t.ups.items)) []
            (world m.world.pre m.world.post z m.world.trees)) h.ups_are h.stands

        whole : Cleared pending t.id after h.follows h.todo m.aside (world m.world.pre m.world.post h.ups m.world.trees) empty_view
            (record t { after = None })
        whole = record {
          bare = bare_view m h;
          clock = record {
            past = h.clock.past;
            next = h.clock.next;
            results = h.clock.results;
            signals = h.clock.signals;
            timed =
                h.clock.timed;
            fine = h.clock.fine;
            untold = h.clock.untold;
          };
          stands = record { others = st.others; planted = st.planted; chain = st.chain; others_are = st.others_are };
          ups = h.waiting;
          todo_is = h.todo_is;
          unguarded = h.unguarded;
          nothing_under = h.nothing_under;
          follows_is = subst (λ z. IsAfter t.tree t.id z h.follows) (inner (sym h.after_is ∙ was)) h.follows_is;
        }

    pub next_cleared : (r : Went) (u : View) (after : After) (y : Tasks W) → r ≡ went.Down → ClearsFrames fs r empty_view u →
        t.after ≡ Some after → y ≡ record t { after = None } → IsUnwinding pending v t → IsCleared pending t.id after u y
    next_cleared r u after y down k was is h =
        let d : ClearsFrames fs went.Down empty_view u = subst (λ z. ClearsFrames fs z empty_view u) down k in
        let m = h.scene in
        subst (λ z. IsCleared pending t.id after z y) (sym d.still)
        (record {
          follows = h.here.follows;
          todo = h.here.todo;
          aside = m.aside;
          world =
              world m.world.pre m.world.post h.here.ups m.world.trees;
          here = rest_clears m after y h.here was is;
        })

    pub next_unwinds : {E : Type 0} (e : Result Went E) (r : Went) (u u2 : View) (after : After) (y z : Tasks W) → r ≡ went.Down →
        ClearsFrames fs r empty_view u → t.after ≡ Some after → y ≡ record t { after = None } →
        IfOk e (λ q. Unwinds pending t.id after q u y u2 z) → IfOk e (λ q. Unwound pending q v t u2 z)
    next_unwinds (Err e) r u u2 after y z down k was is next = tt
    next_unwinds (Ok q) r u u2 after y z down k was is next = record {
      meets = λ m h.
          let d : ClearsFrames fs went.Down empty_view u = subst (λ z. ClearsFrames fs z empty_view u) down k in
          let o = m.world in
          let s = state_of m.aside v in
          let here : Unwinds pending t.id after q empty_view y u2 z = subst (λ g. Unwinds pending t.id after q g y u2 z) d.still next in
          let to = here.meets h.follows h.todo m.aside (world o.pre o.post h.ups o.trees) (rest_clears m after y h was is) in
          let first = here_is m h ∙ d.clears (λ s. cleared o.ups o.pre o.post o.trees s) m.aside m.who o (bare_view m h) in
          subst (λ g. Meets pending g m.aside.past q u2 z) (sym (first ∙ ap (λ g. cleared g o.pre o.post o.trees s) h.ups_are)) to;
    }
