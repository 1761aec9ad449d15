-- The top frame has returned.
use Rattle.std.proofs.Common.{◌≡◌, ◌≢◌, ◌⊎◌, inl, inr, ℕ, Bool, true, false, Result, Ok, Err, IfOk, List, [], ◌∷◌, map, reverse, Option}
use Rattle.std.proofs.Common.{Some, None, is_some, refl, sym, ap, subst, ◌∙◌}
use Rattle.std.proofs.lemmas.List.{append-nil}
use Rattle.verse_value.specs.Val.{Val}
use Rattle.verse_value.specs.View.{val_of}
use Rattle.verse_value.specs.declared.values.Value.{Value}
use Rattle.verse_meaning_state.specs.State.{Memory, State}
use Rattle.verse_code_machine.specs.Tasks.{Frame, Task, Who, World, thread, resuming, since}
use Rattle.verse_code_machine.specs.Cancelling.{world_without, cancelled, clears, cancels}
use Rattle.verse_code_machine.specs.Ends.{resumes}
use Rattle.sim_clock.specs.declared.waits.Pending.{Pending}
use Rattle.vm_tasks_laws.specs.Slots.{held}
use Rattle.vm_tasks_laws.specs.Standing.{Stands}
use Rattle.vm_frames.specs.Framed.{Framed}
use Rattle.vm_frames.specs.Calls.{pushed}
use Rattle.vm_frames.specs.Machine.{frames_with, handlers_in, all_free}
use Rattle.vm_running.specs.Views.{View, Aside, Ready, state_of, frames_of, memories}
use Rattle.vm_running.specs.Doings.{on_frame, going}
use Rattle.vm_running.specs.Comes.{done}
use Rattle.vm_exec_tasks.specs.Asking.{returning_of}
use Rattle.vm_tasks.specs.View.{slot_of}
use Rattle.vm_scheduler.specs.declared.tasks.After.TheVariants.{Resuming}
use Rattle.vm_scheduler.specs.declared.tasks.Tasks.{Tasks}
use Rattle.vm_scheduler.specs.declared.tasks.Went.{Went}
use Rattle.vm_scheduler.specs.declared.tasks.Went.TheVariants as went
use Rattle.vm_scheduler.specs.Frames.{frames_in, threaded, birth_of, NoneGone, Closing, AllAbove}
use Rattle.vm_scheduler.specs.Ups.{ups_of, id_of, resuming_after}
use Rattle.vm_scheduler.specs.Standing.{Clocked}
use Rattle.vm_scheduler.specs.Going.{Scene, Own, Clearing}
use Rattle.vm_scheduler.specs.Meets.{GoesOn, Meets}
use Rattle.vm_scheduler.proofs.Free.{bound_guarded, free_any, bare_of, frames_bare}
use Rattle.vm_scheduler.proofs.Running.{own_of, suspended_of, reclocked}
use Rattle.vm_cancel.specs.Cancels.{Cancels}
use Rattle.vm_return.specs.Follows.{Cleared, IsCleared, Unwinds}
use Rattle.vm_return.specs.Ends.{Returning, IsReturning, Returned}
use Rattle.vm_cancel.proofs.All.{AllStill, all_still, no_more}
use Rattle.vm_return.proofs.Names.{world_stays, none_cancelled, none_less, none_to_clear}

-- one operand more

pushed_some : (x : Val) (fs : List Framed) → fs ≢ [] → pushed x fs ≢ []
pushed_some x [] some = some
pushed_some x (f ∷ fs) some = λ e. absurd (cc)

pushed_handlers : (x : Val) (fs : List Framed) → handlers_in (pushed x fs) ≡ handlers_in fs
pushed_handlers x [] = refl
pushed_handlers x (f ∷ fs) = refl

pushed_birth : (x : Val) (fs : List Framed) (ms : List Memory) → birth_of (frames_with (pushed x fs) ms) ≡ birth_of (frames_with fs ms)
pushed_birth x [] ms = refl
pushed_birth x (f ∷ []) ms = refl
pushed_birth x (f ∷ g ∷ fs) ms = refl

pushed_gone : (x : Val) (fs : List Framed) (ms : List Memory) → NoneGone (frames_with fs ms) → NoneGone (frames_with (pushed x fs) ms)
pushed_gone x [] ms h = h
pushed_gone x (f ∷ fs) ms h = h

pushed_above : (P : ℕ → Type 0) (x : Val) (fs : List Framed) (ms : List Memory) → AllAbove P (frames_with fs ms) →
    AllAbove P (frames_with (pushed x fs) ms)
pushed_above P x [] ms h = h
pushed_above P x (f ∷ fs) ms h = h

pushed_closing : (x : Val) (fs : List Framed) (ms : List Memory) → Closing (frames_with fs ms) → Closing (frames_with (pushed x fs) ms)
pushed_closing x [] ms h = h
pushed_closing x (f ∷ fs) ms h = h

pushed_ready : (x : Val) (v : View) → Ready v → Ready (record v { frames = pushed x v.frames })
pushed_ready x v r = record {
  some = pushed_some x v.frames r.some;
  copies = r.copies ∙ sym (pushed_handlers x v.frames);
  marks =
      r.marks ∙ sym (pushed_handlers x v.frames);
  clock = r.clock;
}

-- where nothing is cancelled the frame goes on
returns_on : (born : ℕ) (x : Val) (w : Who) (o : World) (s : State) (fs : List Framed) (ms : List Memory) → fs ≢ [] →
    cancelled (since w.path born) o ≡ [] →
    on_frame (frames_with fs ms) s (returning_of born x w o s) ≡ on_frame (frames_with (pushed x fs) ms) s (going w o s)
returns_on born x w o s [] ms some none = absurd (some refl)
returns_on born x w o s (f ∷ fs) ms some none =
    let top = frames_with (f ∷ fs) ms in
    let last = λ (z : World) (y : State). on_frame top y (λ g gs. resumes (thread w g gs) x z y) in
    ap (λ ts. on_frame top s (λ g gs. clears (λ z y. resumes (thread w g gs) x z y) (resuming (thread w g gs) x) ts
    (world_without (since w.path born) o) s)) none ∙ ap (λ z. last z s) (world_stays (since w.path born) o none)

-- and so where no cancelled task has a deferred block
still_on : (w : Who) (x : Val) (g : Frame) (gs : List Frame) (ts : List Task) (o : World) (s : State) → AllStill ts →
    clears (λ z y. resumes (thread w g gs) x z y) (resuming (thread w g gs) x) ts o s ≡ resumes (thread w g gs) x o s
still_on w x g gs ts o s still =
    ap (λ y. clears (λ z y. resumes (thread w g gs) x z y) (resuming (thread w g gs) x) y o s) (sym (append-nil ts)) ∙
    all_still (λ z y. resumes (thread w g gs) x z y) (resuming (thread w g gs) x) ts [] o s still

returns_still : (born : ℕ) (x : Val) (w : Who) (o : World) (s : State) (fs : List Framed) (ms : List Memory) → fs ≢ [] →
    AllStill (cancelled (since w.path born) o) → on_frame (frames_with fs ms) s (returning_of born x w o s) ≡
    on_frame (frames_with (pushed x fs) ms) s (going w (world_without (since w.path born) o) s)
returns_still born x w o s [] ms some still = absurd (some refl)
returns_still born x w o s (f ∷ fs) ms some still =
    still_on w x _ _ (cancelled (since w.path born) o) (world_without (since w.path born) o) s still

-- and otherwise the task goes on when all is cancelled
returns_then : (born : ℕ) (x : Val) (w : Who) (o : World) (s : State) (fs : List Framed) → fs ≢ [] →
    on_frame (frames_with fs []) s (returning_of born x w o s) ≡ cancels (λ o s. resumes (threaded w fs) x o s) (resuming (threaded w fs) x)
    (since w.path born) o s
returns_then born x w o s [] some = absurd (some refl)
returns_then born x w o s (f ∷ fs) some = refl

some_none : {A : Type 0} (o : Option A) → is_some o ≡ true → o ≡ None → ⊥
some_none None e n = absurd (cc)
some_none (Some x) e n = absurd (cc)

none_some : {A : Type 0} (o : Option A) (x : A) → is_some o ≡ false → o ≡ Some x → ⊥
none_some None x e n = absurd (cc)
none_some (Some y) x e n = absurd (cc)

module _ {W : Type 0} (pending : W → List Pending) where
  pub returning_some : (born : ℕ) (v : View) (t : Tasks W) → IsReturning pending born v t → v.frames ≢ []
  returning_some born v t h = h.here.going.ready.some

  reframed : (a : Aside) (v : View) (t : Tasks W) (fs : List Framed) → Clocked pending a v t →
      Clocked pending a (record v { frames = fs }) t
  reframed a v t fs c = reclocked pending a v t fs t.id c

  own_pushed : (x : Val) (m : Scene) (v : View) (t : Tasks W) → Own pending m v t →
      Own pending m (record v { frames = pushed x v.frames }) t
  own_pushed x m v t o =
      let ms = memories m.aside.past v.heap.copies v.trace.marks in
      let s = o.standing in
      record {
        standing = record {
          clock = reframed m.aside v t (pushed x v.frames) s.clock;
          stands = s.stands;
          ups = s.ups;
          still =
              s.still;
          none = s.none;
        };
        began = pushed_birth x v.frames ms ∙ o.began;
        not_gone = pushed_gone x v.frames ms o.not_gone;
        calm = pushed_above (λ n. cancelled (since m.who.path n) m.world ≡ []) x v.frames ms o.calm;
      }

  clearing_pushed : (x : Val) (m : Scene) (v : View) (t : Tasks W) → Clearing pending m v t →
      Clearing pending m (record v { frames = pushed x v.frames }) t
  clearing_pushed x m v t c = record {
    clock = reframed m.aside v t (pushed x v.frames) c.clock;
    after = c.after;
    follows = c.follows;
    todo = c.todo;
    ups = c.ups;
    after_is = c.after_is;
    ups_are = c.ups_are;
    follows_is = c.follows_is;
    waiting = c.waiting;
    stands = c.stands;
    todo_is = c.todo_is;
    unguarded = c.unguarded;
    nothing_under = c.nothing_under;
    before = c.before;
    behind = c.behind;
    closing = pushed_closing x v.frames (memories m.aside.past v.heap.copies v.trace.marks) c.closing;
  }

  goes_back : (born : ℕ) (x : Val) (m : Scene) (v : View) (t s : Tasks W) (gs : List Framed) → gs ≡ pushed x v.frames → Ready v →
      cancelled (since m.who.path born) m.world ≡ [] →
      (Own pending m (record v { frames = pushed x v.frames }) s ⊎ Clearing pending m (record v { frames = pushed x v.frames }) s) →
      Meets pending (done (returning_of born x) m.aside m.who m.world v) m.aside.past went.On (record v { frames = gs }) s
  goes_back born x m v t s gs is r none runs =
      subst (λ z. GoesOn pending (done (returning_of born x) m.aside m.who m.world v) m.aside.past (record v { frames = z }) s) (sym is)
      (record {
        scene = m;
        same = refl;
        goes = record { ready = pushed_ready x v r; runs = runs };
        is = returns_on born x m.who m.world (state_of m.aside v) v.frames (memories m.aside.past v.heap.copies v.trace.marks) r.some none;
      })

  goes_still : (born : ℕ) (x : Val) (m : Scene) (v : View) (t s : Tasks W) (gs : List Framed) → gs ≡ pushed x v.frames → Ready v →
      AllStill (cancelled (since m.who.path born) m.world) →
      Own pending (record m { world = world_without (since m.who.path born) m.world }) (record v { frames = pushed x v.frames }) s →
      Meets pending (done (returning_of born x) m.aside m.who m.world v) m.aside.past went.On (record v { frames = gs }) s
  goes_still born x m v t s gs is r still own =
      subst (λ z. GoesOn pending (done (returning_of born x) m.aside m.who m.world v) m.aside.past (record v { frames = z }) s) (sym is)
      (record {
        scene = record m { world = world_without (since m.who.path born) m.world };
        same = refl;
        goes = record { ready = pushed_ready x v r; runs = inl own };
        is = returns_still born x m.who m.world (state_of m.aside v) v.frames (memories m.aside.past v.heap.copies v.trace.marks) r.some
            still;
      })

  -- while tasks are cancelled there is nothing beneath the one that runs
  pub returned_clearing : (born : ℕ) (x : Val) (v : View) (t : Tasks W) (gs : List Framed) → is_some t.after ≡ true →
      gs ≡ pushed x v.frames → Returned pending born x went.On v t (record v { frames = gs }) t
  returned_clearing born x v t gs clears is = record {
    meets = λ m h.
        elim h.going.runs [
          | inl o ↦ absurd (some_none t.after clears o.standing.still)
          | inr c ↦ goes_back born x m v t t gs is h.going.ready (none_cancelled m.who.path born m.world c.before c.behind)
              (inr (clearing_pushed x m v t c))
        ];
  }

  own_here : (born : ℕ) (m : Scene) (v : View) (t : Tasks W) → is_some t.after ≡ false → Returning pending born m v t → Own pending m v t
  own_here born m v t not h =
      elim h.going.runs [
        | inl o ↦ o
        | inr c ↦ absurd (none_some t.after c.after not c.after_is)
      ]

  -- no deferred block is to run

  above_so : (P Q : ℕ → Type 0) → ((n : ℕ) → P n → Q n) → (fs : List Frame) → AllAbove P fs → AllAbove Q fs
  above_so P Q so [] a = tt
  above_so P Q so (f ∷ fs) a = (λ g. so f.life.born (a.0 g), above_so P Q so fs a.1)

  after_none : (born : ℕ) (x : Val) (m : Scene) (v : View) (t s : Tasks W) → Own pending m v t → Cancels pending t.id born t s →
      s.gone.frames.items ≡ [] → AllStill (cancelled (since m.who.path born) m.world) ×
      Own pending (record m { world = world_without (since m.who.path born) m.world }) (record v { frames = pushed x v.frames })
      (record s { id = t.id })
  after_none born x m v t s own c empty =
      let a = m.aside in
      let w = m.who in
      let o = m.world in
      let f = since w.path born in
      let k = c.scope a w None o v own.standing in
      let ms = memories a.past v.heap.copies v.trace.marks in (
        no_more (cancelled f o) (ap (λ z. map frames_in (reverse z)) (sym empty) ∙ k.todo_is),
        record {
          standing = record {
            clock = reclocked pending a v s (pushed x v.frames) t.id k.clock;
            stands = k.stands;
            ups = k.ups;
            still = k.still;
            none = empty;
          };
          began = pushed_birth x v.frames ms ∙ own.began;
          not_gone = pushed_gone x v.frames ms own.not_gone;
          calm = above_so (λ n. cancelled (since w.path n) o ≡ []) (λ n. cancelled (since w.path n) (world_without f o) ≡ [])
              (λ n e. none_less f (since w.path n) o e) (frames_with (pushed x v.frames) ms)
              (pushed_above (λ n. cancelled (since w.path n) o ≡ []) x v.frames ms own.calm);
        },
      )

  pub returned_none : (born : ℕ) (x : Val) (v : View) (t s : Tasks W) (gs : List Framed) → is_some t.after ≡ false →
      Cancels pending t.id born t s → s.gone.frames.items ≡ [] → gs ≡ pushed x v.frames →
      Returned pending born x went.On v t (record v { frames = gs }) (record s { id = t.id })
  returned_none born x v t s gs not c empty is = record {
    meets = λ m h.
        let k = after_none born x m v t s (own_here born m v t not h) c empty in
        goes_still born x m v t (record s { id = t.id }) gs is h.going.ready k.0 k.1;
  }

  -- deferred blocks are to run

  -- a frame above one with a handler or a noted place had begun nothing
  not_bound : (born : ℕ) (m : Scene) (v : View) (t s : Tasks W) (b : Bool) → all_free (frames_of m.aside v) ≡ b → is_some t.after ≡ false →
      Cancels pending t.id born t s → s.gone.frames.items ≢ [] → Returning pending born m v t → b ≡ true
  not_bound born m v t s true is not c some h = refl
  not_bound born m v t s false is not c some h =
      let own = own_here born m v t not h in
      let k = c.scope m.aside m.who None m.world v own.standing in
      absurd (some (none_to_clear (cancelled (since m.who.path born) m.world) s.gone.frames.items k.todo_is
      (h.calm (bound_guarded (frames_of m.aside v) is))))

  module _ (born : ℕ) (x : Value) (v : View) (t s : Tasks W) (c : Cancels pending t.id born t s) (not : is_some t.after ≡ false)
      (some : s.gone.frames.items ≢ []) (gs : List Framed) where
    free_here : (m : Scene) → Returning pending born m v t → all_free (frames_with v.frames []) ≡ true
    free_here m h = free_any v.frames [] (memories m.aside.past v.heap.copies v.trace.marks) ∙
        not_bound born m v t s (all_free (frames_of m.aside v)) refl not c some h

    to_clear : (m : Scene) → Returning pending born m v t →
        Cleared pending t.id (Resuming v.frames x) (resuming (threaded m.who v.frames) (val_of x))
        (cancelled (since m.who.path born) m.world) m.aside (world_without (since m.who.path born) m.world) (record v { frames = gs }) s
    to_clear m h =
        let free = free_here m h in
        let own = own_of pending m v t h.going free in
        let k = c.scope m.aside m.who None m.world v own.standing in
        let b = bare_of v h.going.ready free in
        record {
          bare = record { copies = b.copies; marks = b.marks; steps = b.steps };
          clock = reframed m.aside v s gs k.clock;
          stands = k.stands;
          ups = k.ups;
          todo_is = k.todo_is;
          unguarded = k.unguarded;
          nothing_under = k.nothing_under;
          follows_is = resuming_after v.frames x m.who (suspended_of pending m v t own h.going.ready free);
        }

    pub is_cleared : (fs : List Framed) → fs ≡ v.frames → IsReturning pending born v t →
        IsCleared pending t.id (Resuming fs x) (record v { frames = gs }) s
    is_cleared fs same h =
        subst (λ z. IsCleared pending t.id (Resuming z x) (record v { frames = gs }) s) (sym same)
        (record {
          follows = resuming (threaded h.scene.who v.frames) (val_of x);
          todo = cancelled (since h.scene.who.path born) h.scene.world;
          aside = h.scene.aside;
          world = world_without (since h.scene.who.path born) h.scene.world;
          here = to_clear h.scene h.here;
        })

    pub returned_unwinds : {E : Type 0} (d : Result Went E) (fs : List Framed) (u : View) (z : Tasks W) → fs ≡ v.frames →
        IfOk d (λ r. Unwinds pending t.id (Resuming fs x) r (record v { frames = gs }) s u z) →
        IfOk d (λ r. Returned pending born (val_of x) r v t u z)
    returned_unwinds (Err e) fs u z same k = tt
    returned_unwinds (Ok r) fs u z same k = record {
      meets = λ m h.
          let free = free_here m h in
          let l : Unwinds pending t.id (Resuming v.frames x) r (record v { frames = gs }) s u z =
          subst (λ y. Unwinds pending t.id (Resuming y x) r (record v { frames = gs }) s u z) same k in
          let b = bare_of v h.going.ready free in
          let w = m.who in
          let o = m.world in
          let is : done (returning_of born (val_of x)) m.aside w o v ≡ cancels (λ o s. resumes (threaded w v.frames) (val_of x) o s)
          (resuming (threaded w v.frames) (val_of x)) (since w.path born) o (state_of m.aside v) =
          ap (λ fs. on_frame fs (state_of m.aside v) (returning_of born (val_of x) w o (state_of m.aside v))) (frames_bare m.aside v b) ∙
          returns_then born (val_of x) w o (state_of m.aside v) v.frames h.going.ready.some in
          subst (λ q. Meets pending q m.aside.past r u z) (sym is)
          (l.meets (resuming (threaded w v.frames) (val_of x)) (cancelled (since w.path born) o) m.aside
          (world_without (since w.path born) o) (to_clear m h));
    }
