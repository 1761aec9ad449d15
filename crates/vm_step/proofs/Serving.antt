-- What is asked is served, and a step is served so.
use Rattle.std.proofs.Common.{◌≡◌, ◌≢◌, ℕ, ◌<◌, Result, Ok, Err, IfOk, Option, Some, None, List, [], ◌∷◌, slice_get, refl, sym, ap, subst}
use Rattle.std.proofs.Common.{◌∙◌, arith}
use Rattle.std.proofs.lemmas.Option.{slice_get_within}
use Rattle.std.proofs.lemmas.Bool.Decides.{nat_tests}
use Rattle.task_tree.specs.Nested.{IsTree}
use Rattle.verse_code.specs.declared.codes.Code.{Code}
use Rattle.verse_code.specs.declared.operations.Op.{Op}
use Rattle.verse_code.specs.declared.operations.Op.TheVariants as o
use Rattle.verse_code.specs.Validity.{Valid}
use Rattle.verse_value.specs.declared.runs.Ending.TheVariants as ending
use Rattle.verse_code_machine.specs.Tasks.{Who, World, Step}
use Rattle.verse_code_machine.specs.Frames.{on_there}
use Rattle.verse_code_machine.specs.Acts.{kind_of}
use Rattle.verse_meaning_state.specs.Turns.{Kind}
use Rattle.sim_clock.specs.declared.waits.Pending.{Pending}
use Rattle.vm_frames.specs.Framed.{Framed, place_of}
use Rattle.vm_frames.specs.Machine.{frames_with}
use Rattle.vm_running.specs.Views.{View, Aside, state_of, memories}
use Rattle.vm_running.specs.Doings.{Doing, on_frame, acts}
use Rattle.vm_running.specs.Comes.{done}
use Rattle.vm_exec_tasks.specs.declared.asked.Asked.{Asked}
use Rattle.vm_exec_tasks.specs.declared.asked.Asked.TheVariants as asked
use Rattle.vm_exec_tasks.specs.declared.asked.Arms.{Arms}
use Rattle.vm_exec_tasks.specs.Asking.{AsksFor, Asks}
use Rattle.vm_exec_tasks.specs.Leaving.{Leaves}
use Rattle.vm_exec.specs.Sorting.{FitsChar}
use Rattle.vm_scheduler.specs.declared.tasks.Tasks.{Tasks}
use Rattle.vm_scheduler.specs.declared.tasks.Went.{Went}
use Rattle.vm_scheduler.specs.declared.tasks.Went.TheVariants as went
use Rattle.vm_scheduler.specs.Going.{Scene, Going, Goes}
use Rattle.vm_scheduler.specs.Meets.{Meets, Comes}
use Rattle.vm_begin.specs.Doings.{begins_group}
use Rattle.vm_step.specs.Steps.{steps, StartsAt, IsAsked, Serves}
use Rattle.vm_step.proofs.Starting.{past_of, asked_starts}

-- in an outcome
pub ok_map : {E : Type 0} {A B : Went → Type 0} (r : Result Went E) → ((w : Went) → A w → B w) → IfOk r A → IfOk r B
ok_map (Ok w) f h = f w h
ok_map (Err e) f h = tt

-- the operation of a code at a place

pub inner_place : (code : Code) (at : ℕ) (op : Op) → Valid code → slice_get code.ops at ≡ Some op → at < 4294967295
inner_place code at op valid there =
    let within = slice_get_within code.ops at op there in
    let most = valid.counts.ops.1 in
    omega (arith, within, most)

pub char_fits : (code : Code) (at : ℕ) (op : Op) → Valid code → slice_get code.ops at ≡ Some op → FitsChar op
char_fits code at op valid there n is =
    let suits = valid.operations at (o.Char n) (there ∙ ap Some is) in
    grind (arith, nat_tests, suits)

module _ (code : Code) (a : Aside) (w : Who) (x : World) where
  steps_at : (v : View) (fs : List Framed) (o : Option Op) → fs ≢ [] → slice_get code.ops (place_of fs) ≡ o →
      on_frame (frames_with fs (memories a.past v.heap.copies v.trace.marks)) (state_of a v) (steps code w x (state_of a v)) ≡
      on_there o (state_of a v) (λ op. on_frame (frames_with fs (memories a.past v.heap.copies v.trace.marks)) (state_of a v)
      (acts code op w x (state_of a v)))
  steps_at v [] o some is = absurd (some refl)
  steps_at v (f ∷ fs) o some is =
      ap (λ o. on_there o (state_of a v) (λ op. on_frame (frames_with (f ∷ fs) (memories a.past v.heap.copies v.trace.marks)) (state_of a v)
      (acts code op w x (state_of a v)))) is

module _ {W : Type 0} (pending : W → List Pending) where
  -- at the end of the code
  pub step_none : (code : Code) (v : View) (t : Tasks W) → slice_get code.ops (place_of v.frames) ≡ None →
      Comes pending (steps code) (went.Over ending.Stuck) v t v t
  step_none code v t none = record {
    comes = λ m g. record { aside = m.aside; same = refl; is = steps_at code m.aside m.who m.world v v.frames None g.ready.some none };
  }

  pub asked_here : (code : Code) (op : Op) (k : Asked) (v u : View) (t : Tasks W) → IsTree t.tree → Goes pending v t →
      Asks (acts code op) k v u → Leaves k v u → IsAsked pending k u t
  asked_here code op k v u t nested g asks leaves =
      record { scene = g.scene; starts = asked_starts pending code op k g.scene v u t nested g.going asks leaves }

  step_some : (code : Code) (op : Op) (k : Asked) (r : Went) (v u z : View) (t s : Tasks W) → IsTree t.tree →
      slice_get code.ops (place_of v.frames) ≡ Some op → Asks (acts code op) k v u → Leaves k v u → Serves pending k r u t z s →
      Comes pending (steps code) r v t z s
  step_some code op k r v u z t s nested there asks leaves served = record {
    comes = λ m g.
        subst (λ q. Meets pending q m.aside.past r z s) (sym (steps_at code m.aside m.who m.world v v.frames (Some op) g.ready.some there))
        (served.serves m (done (acts code op) m.aside m.who m.world v) (asked_starts pending code op k m v u t nested g asks leaves)
        (asks.asks m.aside m.who m.world (past_of pending m v t g)));
  }

  pub step_ok : {E : Type 0} (code : Code) (op : Op) (k : Asked) (r : Result Went E) (v u z : View) (t s : Tasks W) → IsTree t.tree →
      slice_get code.ops (place_of v.frames) ≡ Some op → Asks (acts code op) k v u → Leaves k v u →
      IfOk r (λ w. Serves pending k w u t z s) →
      IfOk r (λ w. Comes pending (steps code) w v t z s)
  step_ok code op k r v u z t s nested there asks leaves served =
      ok_map r (λ w h. step_some code op k w v u z t s nested there asks leaves h) served

  -- a call serves what is asked
  pub serves_by : {E : Type 0} (k : Asked) (d : Doing) (r : Result Went E) (v u : View) (t s : Tasks W) →
      ((m : Scene) → StartsAt pending k m v t → Going pending m v t) →
      ((m : Scene) (q : Step) → AsksFor q k m.aside m.who m.world v → q ≡ done d m.aside m.who m.world v) →
      IfOk r (λ w. Comes pending d w v t u s) → IfOk r (λ w. Serves pending k w v t u s)
  serves_by k d r v u t s going is h =
      ok_map r (λ w c. record {
        serves = λ m q starts asks. subst (λ q. Meets pending q m.aside.past w u s) (sym (is m q asks))
            (c.comes m (going m starts));
      }) h

  -- the arms of a group
  pub group_serves : {E : Type 0} (r : Result Went E) (k : Kind) (g : Arms) (v u : View) (t s : Tasks W) → k ≡ kind_of g.kind →
      IfOk r (λ w. Comes pending (begins_group k g.place g.labels.items) w v t u s) → IfOk r (λ w. Serves pending (asked.Arms g) w v t u s)
  group_serves r k g v u t s is h =
      serves_by (asked.Arms g) (begins_group (kind_of g.kind) g.place g.labels.items) r v u t s (λ m f. f.going) (λ m q e. e)
      (subst (λ k. IfOk r (λ w. Comes pending (begins_group k g.place g.labels.items) w v t u s)) is h)
