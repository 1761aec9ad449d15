-- What the calls come to.
use Rattle.std.proofs.Common.{◌≡◌, ◌≢◌, ℕ, suc, ◌+◌, true, Result, Ok, Err, IfOk, List, [], ◌∷◌, ◌++◌, length, map, reverse, Option, Some}
use Rattle.std.proofs.Common.{None, refl, sym, ap, subst, ◌∙◌, arith}
use Rattle.std.specs.Global.{Vec}
use Rattle.std.proofs.lemmas.List.{reverse-reverse, reverse-append}
use Rattle.task_tree.specs.Tasks.{IsLive}
use Rattle.task_tree.specs.Nested.{IsTree}
use Rattle.verse_code.specs.declared.codes.Func.{Func}
use Rattle.verse_value.specs.Val.{Val}
use Rattle.verse_value.specs.declared.runs.Ending.TheVariants as ending
use Rattle.verse_base.specs.declared.places.Place.{Place}
use Rattle.verse_meaning_state.specs.Turns.{Kind}
use Rattle.verse_meaning_state.specs.State.{State, spending, with_entry}
use Rattle.verse_code_machine.specs.Tasks.{Who, World, world, Step, Next, Over, machine, life_from, root_named, child_named, begins}
use Rattle.verse_code_machine.specs.Tasks.{spawning}
use Rattle.verse_code_machine.specs.Frames as frames
use Rattle.sim_clock.specs.declared.waits.Pending.{Pending}
use Rattle.vm_frames.specs.Framed.{Framed, locals_of}
use Rattle.vm_frames.specs.Calls.{alone, entered}
use Rattle.vm_frames.specs.Machine.{frame_with, frames_with, beyond, all_free}
use Rattle.vm_running.specs.Views.{View, Aside, state_of}
use Rattle.vm_running.specs.Doings.{on_frame}
use Rattle.vm_tasks.specs.declared.slots.Root.TheVariants.{Part as APart, Spawned}
use Rattle.vm_tasks.specs.Begun.{Begun, Grouped}
use Rattle.vm_tasks.specs.Standing.{Branches}
use Rattle.vm_tasks.specs.Standing as changes
use Rattle.vm_scheduler.specs.declared.tasks.Given as given
use Rattle.vm_scheduler.specs.declared.tasks.Begins.{Begins}
use Rattle.vm_scheduler.specs.declared.tasks.Tasks.{Tasks}
use Rattle.vm_scheduler.specs.declared.tasks.Up.{Up}
use Rattle.vm_scheduler.specs.declared.tasks.Up.TheVariants as up
use Rattle.vm_scheduler.specs.declared.tasks.Went.{Went}
use Rattle.vm_scheduler.specs.declared.tasks.Went.TheVariants as went
use Rattle.vm_scheduler.specs.Frames.{threaded}
use Rattle.vm_scheduler.specs.Ups.{ups_of, id_of}
use Rattle.vm_tasks.specs.View.{kind_of, part_of}
use Rattle.vm_scheduler.specs.Standing.{Tree}
use Rattle.vm_scheduler.specs.Going.{Scene, Goes}
use Rattle.vm_scheduler.specs.Meets.{Comes}
use Rattle.vm_scheduler.proofs.Free.{bare_of, frames_bare}
use Rattle.vm_begin.specs.Doings.{branches_at, branches, spawns_task, begins_group}
use Rattle.vm_begin.specs.Arms.{BeginsArm}
use Rattle.vm_begin.proofs.Arms.{arm_begun, branch_begun}
use Rattle.vm_begin.proofs.Tasks.{spawn_begun, grouped, first_arm}
use Rattle.vm_scheduler.proofs.Running.{own_of}
use Rattle.vm_scheduler.proofs.Seated.{live_stands}

-- the labels in turn

pub next_label : (labels turned rest : List ℕ) (label : ℕ) → turned ≡ reverse labels → turned ≡ rest ++ label ∷ [] →
    labels ≡ label ∷ reverse rest
next_label labels turned rest label e is =
    sym (reverse-reverse labels) ∙ (ap (λ z. reverse z) (sym e ∙ is) ∙ reverse-append rest (label ∷ []))

module _ {W : Type 0} (pending : W → List Pending) where
  -- where no step is left

  branch_out_at : (fs : List Framed) (at : ℕ) (scene : Scene) (s : State) → fs ≢ [] → s.clock.left ≡ 0 →
      on_frame (frames_with fs []) s (branches at scene.who scene.world s) ≡ Over ending.Steps s
  branch_out_at [] at scene s some none = absurd (some refl)
  branch_out_at (f ∷ fs) at scene s some none = ap (λ k. spending k s (Over ending.Steps s) (λ u. next u)) none
    where
      next : State → Step
      next u = branches_at at scene.who scene.world u (frame_with f []) (frames_with fs (beyond f.frame.handlers []))

  pub branch_out : (v : View) (t : Tasks W) (at : ℕ) → all_free (frames_with v.frames []) ≡ true → v.left ≡ 0 →
      Comes pending (branches at) (went.Over ending.Steps) v t v t
  branch_out v t at free none = record {
    comes = λ scene g. record {
      aside = scene.aside;
      same = refl;
      is = ap (λ fs. on_frame fs (state_of scene.aside v) (branches at scene.who scene.world (state_of scene.aside v)))
          (frames_bare scene.aside v (bare_of v g.ready free)) ∙
          branch_out_at v.frames at scene (state_of scene.aside v) g.ready.some none;
    };
  }

  spawn_out_at : (fs : List Framed) (func : Func) (vs : List Val) (scene : Scene) (s : State) → fs ≢ [] → s.clock.left ≡ 0 →
      on_frame (frames_with fs []) s (spawns_task func vs scene.who scene.world s) ≡ Over ending.Steps s
  spawn_out_at [] func vs scene s some none = absurd (some refl)
  spawn_out_at (f ∷ fs) func vs scene s some none = ap (λ k. spending k s (Over ending.Steps s) (λ u. next u)) none
    where
      next : State → Step
      next u =
          Next (machine (root_named u.clock.left (Some (length s.clock.results)))
          (world [] [] (spawning (threaded scene.who (f ∷ fs))
          (length s.clock.results) scene.world.pre scene.world.post ∷ scene.world.ups) scene.world.trees) (with_entry u)
          (life_from u.clock.left)
          (frames.locals_of func vs) [] func.entry [] [])

  pub spawn_out : (v : View) (t : Tasks W) (func : Func) (vs : List Val) → all_free (frames_with v.frames []) ≡ true → v.left ≡ 0 →
      Comes pending (spawns_task func vs) (went.Over ending.Steps) v t v t
  spawn_out v t func vs free none = record {
    comes = λ scene g. record {
      aside = scene.aside;
      same = refl;
      is = ap (λ fs. on_frame fs (state_of scene.aside v) (spawns_task func vs scene.who scene.world (state_of scene.aside v)))
          (frames_bare scene.aside v (bare_of v g.ready free)) ∙
          spawn_out_at v.frames func vs scene (state_of scene.aside v) g.ready.some none;
    };
  }

  pub arm_out : (b : Begins) (label : ℕ) (v : View) (t : Tasks W) → v.left ≡ 0 → BeginsArm pending b label (went.Over ending.Steps) v t v t
  arm_out b label v t none = record {
    begins = λ a w o stands s bare sus. record {
      aside = a;
      same = refl;
      is = ap (λ k. spending k (state_of a v) (Over ending.Steps (state_of a v)) (λ u. next a w o u)) none;
    };
  }
    where
      next : Aside → Who → World → State → Step
      next a w o u =
          Next (machine (child_named w u.clock.left)
          (world o.pre o.post (begins (threaded w b.thread) (kind_of b.kind) b.place (map part_of b.arms.items) u.clock.left
          (reverse b.labels.items) ∷ o.ups) o.trees) u (life_from u.clock.left) (threaded w b.thread).frame.locals []
          label [] [])

  -- where there is one

  pub branch_on : (v : View) (t : Tasks W) (at left spent id : ℕ) (own parent : List Framed) (tree : Tree) (ups : Vec Up) →
      all_free (frames_with v.frames []) ≡ true → v.left ≡ suc left → spent ≡ v.spent + 1 → own ≡ alone left at (locals_of v.frames) →
      Begun t.tree tree (Some t.id) id left APart → Branches t.tree tree t.id id left → parent ≡ v.frames →
      ups_of ups.items ≡ up.Branching t.id parent ∷ ups_of t.ups.items →
      Comes pending (branches at) went.On v t (record v { frames = own; left = left; spent = spent })
      (record t { tree = tree; ups = ups; id = id })
  branch_on v t at left spent id own parent tree ups free less more is begun stands was are =
      let n : spent ≡ suc v.spent = omega (arith, more) in
      rw (is, n) (record {
        comes = λ scene g. branch_begun pending v t at left id tree ups scene g free less begun stands
            (subst (λ z. ups_of ups.items ≡ up.Branching t.id z ∷ ups_of t.ups.items) was are);
      })

  pub spawn_on : (v : View) (t : Tasks W) (left spent id entry : ℕ) (func : Func) (vs : List Val) (own parent : List Framed) (tree : Tree)
      (ups : Vec Up) (results : Vec (Option given.Given)) → all_free (frames_with v.frames []) ≡ true → v.left ≡ suc left →
      spent ≡ v.spent + 1 →
      own ≡ entered left func vs [] → entry ≡ length t.results.items → Begun t.tree tree None id left (Spawned entry) →
      changes.Spawns t.tree tree id left entry → parent ≡ v.frames →
      ups_of ups.items ≡ up.Spawning t.id parent entry ∷ ups_of t.ups.items →
      results.items ≡ t.results.items ++ None ∷ [] →
      Comes pending (spawns_task func vs) went.On v t (record v { frames = own; left = left; spent = spent })
      (record t { tree = tree; ups = ups; id = id; results = results })
  spawn_on v t left spent id entry func vs own parent tree ups results free less more is number begun stands was are given_is =
      let n : spent ≡ suc v.spent = omega (arith, more) in
      rw (is, n) (record {
        comes = λ scene g. spawn_begun pending v t left id entry func vs tree ups results scene g free less number begun
            stands (subst (λ z. ups_of ups.items ≡ up.Spawning t.id z entry ∷ ups_of t.ups.items) was are) given_is;
      })

  pub arm_on : (b : Begins) (label : ℕ) (v : View) (t : Tasks W) (left spent id : ℕ) (own : List Framed) (tree : Tree) (ups : Vec Up) →
      v.left ≡ suc left → spent ≡ v.spent + 1 → own ≡ alone left label (locals_of b.thread) → Begun t.tree tree (Some b.id) id left APart →
      changes.BeginsArm t.tree tree b.id id left → ups_of ups.items ≡ up.Begins (record b { number = left }) ∷ ups_of t.ups.items →
      BeginsArm pending b label went.On v t (record v { frames = own; left = left; spent = spent })
      (record t { tree = tree; ups = ups; id = id })
  arm_on b label v t left spent id own tree ups less more is begun stands are =
      let n : spent ≡ suc v.spent = omega (arith, more) in
      rw (is, n) (arm_begun pending v t label left id tree ups b less begun stands are)

  -- a group

  no_arms_at : (fs : List Framed) (k : Kind) (p : Place) (scene : Scene) (s : State) → fs ≢ [] →
      on_frame (frames_with fs []) s (begins_group k p [] scene.who scene.world s) ≡ Over ending.Stuck s
  no_arms_at [] k p scene s some = absurd (some refl)
  no_arms_at (f ∷ fs) k p scene s some = refl

  pub no_arms : (v : View) (t : Tasks W) (k : Kind) (p : Place) (labels turned : List ℕ) → all_free (frames_with v.frames []) ≡ true →
      turned ≡ reverse labels → turned ≡ [] → Comes pending (begins_group k p labels) (went.Over ending.Stuck) v t v t
  no_arms v t k p labels turned free e none = record {
    comes = λ scene g.
        let empty : labels ≡ [] = sym (reverse-reverse labels) ∙ ap (λ z. reverse z) (sym e ∙ none) in
        record {
          aside = scene.aside;
          same = refl;
          is = ap (λ fs. on_frame fs (state_of scene.aside v) (begins_group k p labels scene.who scene.world (state_of scene.aside v)))
              (frames_bare scene.aside v (bare_of v g.ready free)) ∙
              (ap (λ ls. on_frame (frames_with v.frames []) (state_of scene.aside v)
              (begins_group k p ls scene.who scene.world (state_of scene.aside v))) empty ∙
              no_arms_at v.frames k p scene (state_of scene.aside v) g.ready.some);
        };
  }

  pub group_live : (v : View) (t : Tasks W) (tree : Tree) → IsTree t.tree → IsTree tree → Goes pending v t →
      all_free (frames_with v.frames []) ≡ true → Grouped t.tree tree t.id v.left → changes.BeginsGroup t.tree tree t.id v.left →
      IsLive t.id tree
  group_live v t tree nested now g free marked so =
      let scene = g.scene in
      let own = own_of pending scene v t g.going free in
      let s = grouped pending scene.aside scene.who scene.world v t tree nested marked so own.standing in
      live_stands tree (map id_of (ups_of t.ups.items)) t.id scene.who (Some []) scene.world now s.stands

  pub arm_ok : {E : Type 0} (r : Result Went E) (v : View) (t : Tasks W) (tree : Tree) (b : Begins) (label : ℕ) (labels turned : List ℕ)
      (fs : List Framed) (u : View) (s : Tasks W) → IsTree t.tree → all_free (frames_with v.frames []) ≡ true →
      Grouped t.tree tree t.id v.left →
      changes.BeginsGroup t.tree tree t.id v.left → b.id ≡ t.id → b.thread ≡ v.frames → b.arms.items ≡ [] → turned ≡ reverse labels →
      turned ≡ b.labels.items ++ label ∷ [] → fs ≡ [] →
      IfOk r (λ d. BeginsArm pending b label d (record v { frames = fs }) (record t { tree = tree }) u s) →
      IfOk r (λ d. Comes pending (begins_group (kind_of b.kind) b.place labels) d v t u s)
  arm_ok (Err e) v t tree b label labels turned fs u s nested free marked so id thread_is arms back are none k = tt
  arm_ok (Ok d) v t tree b label labels turned fs u s nested free marked so id thread_is arms back are none k =
      first_arm pending v t tree b label labels d u s nested free marked so id thread_is arms
      (next_label labels turned b.labels.items label back are)
      (subst (λ z. BeginsArm pending b label d (record v { frames = z }) (record t { tree = tree }) u s) none k)
