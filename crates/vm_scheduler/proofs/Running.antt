-- A task runs in frames that have no handlers.
use Rattle.std.proofs.Common.{◌≡◌, ◌≢◌, inl, inr, ℕ, true, List, [], ◌∷◌, None, length, refl, sym, ap, subst, ◌∙◌}
use Rattle.verse_value.specs.Val.{Val}
use Rattle.verse_meaning_state.specs.State.{Memory}
use Rattle.verse_code_machine.specs.Tasks.{Who, World, since}
use Rattle.verse_code_machine.specs.Ends.{resumes}
use Rattle.verse_code_machine.specs.Cancelling.{cancelled}
use Rattle.verse_code_machine.specs.Tasks as m
use Rattle.sim_clock.specs.declared.waits.Pending.{Pending}
use Rattle.vm_tasks_laws.specs.Slots.{held}
use Rattle.vm_frames.specs.Framed.{Framed}
use Rattle.vm_frames.specs.Calls.{pushed}
use Rattle.vm_frames.specs.Machine.{frames_with, all_free}
use Rattle.vm_running.specs.Views.{View, Aside, Ready, state_of, frames_of, memories}
use Rattle.vm_running.specs.Doings.{on_frame, going}
use Rattle.vm_running.specs.Comes.{done}
use Rattle.vm_scheduler.specs.declared.tasks.Tasks.{Tasks}
use Rattle.vm_scheduler.specs.Frames.{threaded, birth, birth_of, Suspended, NoneGone, AllAbove}
use Rattle.vm_scheduler.specs.Standing.{Clocked, Standing, Bare}
use Rattle.vm_scheduler.specs.Going.{Scene, Own, Going}
use Rattle.verse_value.specs.Runs.{Line}
use Rattle.vm_scheduler.specs.declared.tasks.Went.{Went}
use Rattle.vm_scheduler.specs.Meets.{GoesOn, MovesOn, Moves, Meets}
use Rattle.vm_scheduler.specs.Moving.{Resumes}
use Rattle.vm_scheduler.specs.declared.tasks.Went.TheVariants as went
use Rattle.vm_scheduler.proofs.Free.{no_handlers, closing_guarded, free_stays, free_calm, birth_with, pushed_free, pushed_birth, bare_of}
use Rattle.vm_scheduler.proofs.Free.{frames_bare}

pushed_some : (v : Val) (fs : List Framed) → fs ≢ [] → pushed v fs ≢ []
pushed_some v [] some = some
pushed_some v (f ∷ fs) some = λ e. absurd (cc)

module _ {W : Type 0} (pending : W → List Pending) where
  -- nothing is being cancelled where the running task may be suspended
  pub own_of : (scene : Scene) (v : View) (t : Tasks W) → Going pending scene v t → all_free (frames_with v.frames []) ≡ true →
      Own pending scene v t
  own_of scene v t g free =
      let b = bare_of v g.ready free in
      elim g.runs [
        | inl o ↦ o
        | inr c ↦ absurd (closing_guarded (frames_of scene.aside v) c.closing (ap (λ fs. all_free fs) (frames_bare scene.aside v b) ∙ free))
      ]

  -- it may be suspended
  pub suspended_of : (scene : Scene) (v : View) (t : Tasks W) → Own pending scene v t → Ready v →
      all_free (frames_with v.frames []) ≡ true → Suspended scene.who.number v.frames
  suspended_of scene v t o r free = record {
    unguarded = record { some = r.some; free = free };
    began = sym (birth_with v.frames []) ∙ (ap (λ fs. birth_of fs) (sym (frames_bare scene.aside v (bare_of v r free))) ∙ o.began);
  }

  -- a task of the tree that has no handlers runs
  pub own_goes : (scene : Scene) (v : View) (t : Tasks W) → Standing pending (held t.id scene.who None ∷ []) scene.aside scene.world v t →
      Bare v → v.frames ≢ [] → all_free (frames_with v.frames []) ≡ true → birth v.frames ≡ scene.who.number →
      Going pending scene v t
  own_goes scene v t s b some free began =
      let none = no_handlers v.frames [] free in
      let is = frames_bare scene.aside v b in
      record {
        ready = record {
          some = some;
          copies = ap (λ c. length c) b.copies ∙ sym none;
          marks =
              ap (λ c. length c) b.marks ∙ sym none;
          clock = b.steps;
        };
        runs = inl (record {
          standing = s;
          began = ap (λ fs. birth_of fs) is ∙ (birth_with v.frames [] ∙ began);
          not_gone = subst (λ fs. NoneGone fs) (sym is) (free_stays (frames_with v.frames []) free);
          calm = subst (λ fs. AllAbove (λ n. cancelled (since scene.who.path n) scene.world ≡ []) fs) (sym is)
              (free_calm (λ n. cancelled (since scene.who.path n) scene.world ≡ []) (frames_with v.frames []) free);
        });
      }

  -- the frames of the task that runs, and its number, are no matter of the clock
  pub reclocked : (a : Aside) (v : View) (t : Tasks W) (fs : List Framed) (id : ℕ) → Clocked pending a v t →
      Clocked pending a (record v { frames = fs }) (record t { id = id })
  reclocked a v t fs id c = record {
    past = c.past;
    next = c.next;
    results = c.results;
    signals = c.signals;
    timed = c.timed;
    fine =
        c.fine;
    untold = c.untold;
  }

  done_pushed : (a : Aside) (w : Who) (o : World) (v : View) (x : Val) (fs : List Framed) → Bare v → fs ≢ [] →
      resumes (threaded w fs) x o (state_of a v) ≡ done going a w o (record v { frames = pushed x fs })
  done_pushed a w o v x [] b some = absurd (some refl)
  done_pushed a w o v x (f ∷ fs) b some = ap (λ ms. done_at ms) (sym (ap (λ c. memories a.past c v.trace.marks) b.copies))
    where
      done_at : List Memory → m.Step
      done_at ms = on_frame (frames_with (pushed x (f ∷ fs)) ms) (state_of a v) (going w o (state_of a v))

  -- a task goes on with a value
  pub resumed : (a : Aside) (w : Who) (o : World) (v : View) (t : Tasks W) (fs : List Framed) (x : Val) (id : ℕ) →
      Standing pending (held id w None ∷ []) a o v t → Bare v → Suspended w.number fs →
      GoesOn pending (resumes (threaded w fs) x o (state_of a v)) a.past (record v { frames = pushed x fs }) (record t { id = id })
  resumed a w o v t fs x id s b sus = record {
    scene = record { aside = a; who = w; world = o };
    same = refl;
    goes = own_goes (record { aside = a; who = w; world = o }) (record v { frames = pushed x fs }) (record t { id = id })
        (record { clock = reclocked a v t (pushed x fs) id s.clock; stands = s.stands; ups = s.ups; still = s.still; none = s.none })
        (record { copies = b.copies; marks = b.marks; steps = b.steps }) (pushed_some x fs sus.unguarded.some)
        (pushed_free x fs [] ∙ sus.unguarded.free) (pushed_birth x fs ∙ sus.began);
    is = done_pushed a w o v x fs b sus.unguarded.some;
  }

  pub resumed_by : (v : View) (t : Tasks W) (id : ℕ) (fs gs : List Framed) (x : Val) → gs ≡ pushed x fs →
      Resumes pending id fs x went.On v t (record v { frames = gs }) (record t { id = id })
  resumed_by v t id fs gs x e = record {
    resumes = λ a w o s b sus. subst (λ z. GoesOn pending (resumes (threaded w fs) x o (state_of a v)) a.past (record v { frames = z })
        (record t { id = id })) (sym e) (resumed a w o v t fs x id s b sus);
  }

  pub on_moves : (q : m.Step) (past : List Line) (r : Went) (v : View) (t : Tasks W) → MovesOn pending q past r v t →
      Moves pending q past r v t
  on_moves q past went.On v t h = h
  on_moves q past (went.Over e) v t h = h
  on_moves q past went.Down v t h = absurd h

  pub on_meets : (q : m.Step) (past : List Line) (r : Went) (v : View) (t : Tasks W) → MovesOn pending q past r v t →
      Meets pending q past r v t
  on_meets q past went.On v t h = h
  on_meets q past (went.Over e) v t h = h
  on_meets q past went.Down v t h = absurd h
