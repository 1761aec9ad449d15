-- The result of a spawned task, and a task that awaits it.
use Rattle.std.proofs.Common.{◌≡◌, ◌≢◌, inl, inr, ℕ, zero, suc, true, Result, Ok, Err, IfOk, List, [], ◌∷◌, map, Option, Some, None}
use Rattle.std.proofs.Common.{option_map, refl, sym, ap, subst, ◌∙◌}
use Rattle.std.specs.Global.{Vec}
use Rattle.verse_value.specs.Val.{Val}
use Rattle.verse_value.specs.View.{val_of}
use Rattle.verse_value.specs.declared.values.Value.{Value}
use Rattle.verse_value.specs.declared.runs.Ending.TheVariants as ending
use Rattle.verse_meaning_state.specs.State.{State, set_at, with_result}
use Rattle.verse_meaning_state.specs.State as state
use Rattle.verse_meaning_state.specs.Waits.{nth}
use Rattle.verse_code_machine.specs.Tasks as m
use Rattle.verse_code_machine.specs.Tasks.{Frame, Who, World, Step, thread}
use Rattle.verse_code_machine.specs.Ends.{resumes}
use Rattle.verse_code_machine.specs.Acts.{awaits}
use Rattle.sim_clock.specs.declared.waits.WaitKind.TheVariants.{Task as OnTask}
use Rattle.sim_clock.specs.declared.waits.Pending.{Pending}
use Rattle.sim_clock.specs.Pending.{woken}
use Rattle.vm_tasks_laws.specs.Clocks.{cause_of, sleeping, Timed}
use Rattle.vm_tasks_laws.proofs.Ticks.{result_timed}
use Rattle.vm_frames.specs.Framed.{Framed}
use Rattle.vm_frames.specs.Machine.{frames_with, all_free}
use Rattle.vm_running.specs.Views.{View, Aside, state_of, frames_of}
use Rattle.vm_running.specs.Doings.{on_frame}
use Rattle.vm_running.specs.Comes.{done}
use Rattle.vm_tasks.specs.View.{slot_of}
use Rattle.vm_scheduler.specs.declared.tasks.Given.{Given}
use Rattle.vm_scheduler.specs.declared.tasks.Tasks.{Tasks}
use Rattle.vm_scheduler.specs.declared.tasks.Went.{Went}
use Rattle.vm_scheduler.specs.declared.tasks.Went.TheVariants as went
use Rattle.vm_scheduler.specs.Frames.{frames_in, threaded}
use Rattle.vm_scheduler.specs.Standing.{Untold, given_of}
use Rattle.vm_scheduler.specs.Going.{Goes}
use Rattle.vm_scheduler.specs.Meets.{MovesOn, Meets, Comes}
use Rattle.vm_scheduler.specs.Moving.{Resumes}
use Rattle.vm_scheduler.proofs.Free.{bare_of, frames_bare}
use Rattle.vm_scheduler.proofs.Untold.{untold_told}
use Rattle.vm_scheduler.proofs.Running.{own_of, suspended_of, reclocked, on_meets}
use Rattle.vm_suspend.specs.Asleep.{suspending, awaiting}
use Rattle.vm_suspend.specs.Results.{shown, values_in, IsOver, Gives}
use Rattle.vm_suspend.proofs.Sleeping.{result_at}

map_set : {A B : Type 0} (f : A → B) (xs : List A) (n : ℕ) (y : A) → map f (set_at xs n y) ≡ set_at (map f xs) n (f y)
map_set f [] n y = refl
map_set f (x ∷ xs) zero y = refl
map_set f (x ∷ xs) (suc n) y = ap (λ z. f x ∷ z) (map_set f xs n y)

-- what is known of a result

abbrev tag : Option (Option Val) → ℕ
tag None = 0
tag (Some None) = 1
tag (Some (Some x)) = 2

abbrev value_or : Val → Option (Option Val) → Val
value_or x None = x
value_or x (Some None) = x
value_or x (Some (Some y)) = y

known_none : (o : Option (Option Given)) → None ≡ values_in o → o ≡ None
known_none None e = refl
known_none (Some None) e = let no : 0 ≡ 1 = ap tag e in absurd (cc)
known_none (Some (Some g)) e = let no : 0 ≡ 2 = ap tag e in absurd (cc)

known_unset : (o : Option (Option Given)) → Some None ≡ values_in o → o ≡ Some None
known_unset None e = let no : 1 ≡ 0 = ap tag e in absurd (cc)
known_unset (Some None) e = refl
known_unset (Some (Some g)) e = let no : 1 ≡ 2 = ap tag e in absurd (cc)

known_gave : (x : Val) (o : Option (Option Given)) → Some (Some x) ≡ values_in o → (g : Given) × (o ≡ Some (Some g)) × (val_of g.value ≡ x)
known_gave x None e = let no : 2 ≡ 0 = ap tag e in absurd (cc)
known_gave x (Some None) e = let no : 2 ≡ 1 = ap tag e in absurd (cc)
known_gave x (Some (Some g)) e = (g, refl, sym (ap (λ o. value_or x o) e))

pub none_of : (k : Option (Option Value)) (o : Option (Option Given)) → k ≡ None → shown k ≡ values_in o → o ≡ None
none_of k o is e = known_none o (sym (ap (λ z. shown z) is) ∙ e)

pub unset_of : (k : Option (Option Value)) (o : Option (Option Given)) → k ≡ Some None → shown k ≡ values_in o → o ≡ Some None
unset_of k o is e = known_unset o (sym (ap (λ z. shown z) is) ∙ e)

gave_of : (k : Option (Option Value)) (v : Value) (o : Option (Option Given)) → k ≡ Some (Some v) → shown k ≡ values_in o →
    (g : Given) × (o ≡ Some (Some g)) × (val_of g.value ≡ val_of v)
gave_of k v o is e = known_gave (val_of v) o (sym (ap (λ z. shown z) is) ∙ e)

module _ {W : Type 0} (pending : W → List Pending) where
  pub gives_so : (v : View) (t : Tasks W) (entry : ℕ) (g : Given) (results : Vec (Option Given)) (waits : W) → g.moment ≡ v.moment →
      IsOver entry t → results.items ≡ set_at t.results.items entry (Some g) →
      pending waits ≡ woken (OnTask entry) (record { at = v.moment; cause = 0 }) (pending t.gone.waits) →
      Gives pending entry (val_of g.value) v t (record t { gone = record t.gone { waits = waits }; results = results })
  gives_so v t entry g results waits now over put woke = record {
    clock = λ a c.
        let known : nth a.results entry ≡ Some None = result_at a.results t.results.items entry c.results ∙
        ap (λ o. option_map (λ o. option_map given_of o) o) over.unset in
        let told : given_of g ≡ record { value = val_of g.value; moment = v.moment } =
        ap (λ n. record { value = val_of g.value; moment = n }) now in
        record {
          past = c.past;
          next = c.next;
          results = ap (λ z. set_at z entry (Some (record { value = val_of g.value; moment = v.moment }))) c.results ∙
              (ap (λ z. set_at (map (λ o. option_map given_of o) t.results.items) entry (Some z)) (sym told) ∙
              (sym (map_set (λ o. option_map given_of o) t.results.items entry (Some g)) ∙
              ap (λ z. map (λ o. option_map given_of o) z) (sym put)));
          signals = c.signals;
          timed = subst (λ ps. Timed (sleeping (slot_of frames_in) t.tree) ps (with_result (Some entry) (val_of g.value) (state_of a v)))
              (sym woke) (result_timed (sleeping (slot_of frames_in) t.tree) (pending t.gone.waits) (state_of a v) entry
              (val_of g.value) known c.timed);
          fine = c.fine;
          untold = subst (λ z. Untold z t.tree) (sym put) (untold_told t.results.items t.tree entry (Some g) over.none c.untold);
        };
    still = refl;
  }

  -- a task that awaits

  no_task : (entry : ℕ) (w : Who) (o : World) (s : State) (known : Option (Option state.Given)) (fs : List Frame) → known ≡ None →
      on_frame fs s (λ f fs. awaits known entry (thread w f fs) o s) ≡ m.stuck s
  no_task entry w o s known [] e = refl
  no_task entry w o s known (f ∷ fs) e = ap (λ z. awaits z entry (thread w f fs) o s) e

  pub await_sticks : (entry : ℕ) (v : View) (t : Tasks W) → nth t.results.items entry ≡ None →
      Comes pending (awaiting entry) (went.Over ending.Stuck) v t v t
  await_sticks entry v t none = record {
    comes = λ scene going.
        let a = scene.aside in
        record {
          aside = a;
          same = refl;
          is = none_is a scene.who scene.world (elim going.runs [ inl o ↦ o.standing.clock.results | inr c ↦ c.clock.results ]);
        };
  }
    where
      none_is : (a : Aside) (w : Who) (o : World) → a.results ≡ map (λ o. option_map given_of o) t.results.items →
          done (awaiting entry) a w o v ≡ m.stuck (state_of a v)
      none_is a w o e = no_task entry w o (state_of a v) (nth a.results entry) (frames_of a v)
          (result_at a.results t.results.items entry e ∙ ap (λ o. option_map (λ o. option_map given_of o) o) none)

  as_suspending : (entry : ℕ) (w : Who) (o : World) (s : State) (known : Option (Option state.Given)) (fs : List Frame) →
      known ≡ Some None →
      on_frame fs s (λ f fs. awaits known entry (thread w f fs) o s) ≡ on_frame fs s (suspending (cause_of (OnTask entry)) w o s)
  as_suspending entry w o s known [] e = refl
  as_suspending entry w o s known (f ∷ fs) e = ap (λ z. awaits z entry (thread w f fs) o s) e

  pub await_suspends : {E : Type 0} (d : Result Went E) (entry : ℕ) (v u : View) (t s : Tasks W) → nth t.results.items entry ≡ Some None →
      IfOk d (λ r. Comes pending (suspending (cause_of (OnTask entry))) r v t u s) → IfOk d (λ r. Comes pending (awaiting entry) r v t u s)
  await_suspends (Err e) entry v u t s unset h = tt
  await_suspends (Ok r) entry v u t s unset h = record {
    comes = λ scene going.
        let a = scene.aside in
        subst (λ q. Meets pending q a.past r u s)
        (sym (open_is a scene.who scene.world (elim going.runs [ inl o ↦ o.standing.clock.results | inr c ↦ c.clock.results ])))
        (h.comes scene going);
  }
    where
      open_is : (a : Aside) (w : Who) (o : World) → a.results ≡ map (λ o. option_map given_of o) t.results.items →
          done (awaiting entry) a w o v ≡ done (suspending (cause_of (OnTask entry))) a w o v
      open_is a w o e = as_suspending entry w o (state_of a v) (nth a.results entry) (frames_of a v)
          (result_at a.results t.results.items entry e ∙ ap (λ o. option_map (λ o. option_map given_of o) o) unset)

  given_at : (entry : ℕ) (w : Who) (o : World) (s : State) (known : Option (Option state.Given)) (g : state.Given) (fs : List Framed) →
      known ≡ Some (Some g) → fs ≢ [] →
      on_frame (frames_with fs []) s (λ f fs. awaits known entry (thread w f fs) o s) ≡ resumes (threaded w fs) g.value o s
  given_at entry w o s known g [] e some = absurd (some refl)
  given_at entry w o s known g (f ∷ fs) e some = ap (λ z. awaits z entry (threaded w (f ∷ fs)) o s) e

  pub await_goes : {E : Type 0} (d : Result Went E) (entry : ℕ) (g : Given) (x : Val) (v u : View) (t s : Tasks W) →
      nth t.results.items entry ≡ Some (Some g) → val_of g.value ≡ x → all_free (frames_with v.frames []) ≡ true →
      IfOk d (λ r. Resumes pending t.id v.frames x r (record v { frames = [] }) t u s) →
      IfOk d (λ r. Comes pending (awaiting entry) r v t u s)
  await_goes (Err e) entry g x v u t s is value free h = tt
  await_goes (Ok r) entry g x v u t s is value free h = record {
    comes = λ scene going.
        let a = scene.aside in
        let w = scene.who in
        let o = scene.world in
        let own = own_of pending scene v t going free in
        let st = own.standing in
        let b = bare_of v going.ready free in
        let known : nth a.results entry ≡ Some (Some (given_of g)) = result_at a.results t.results.items entry st.clock.results ∙
        ap (λ o. option_map (λ o. option_map given_of o) o) is in
        let goes : done (awaiting entry) a w o v ≡ resumes (threaded w v.frames) x o (state_of a v) =
        ap (λ fs. on_frame fs (state_of a v) (awaiting entry w o (state_of a v))) (frames_bare a v b) ∙
        (given_at entry w o (state_of a v) (nth a.results entry) (given_of g) v.frames known going.ready.some ∙
        ap (λ z. resumes (threaded w v.frames) z o (state_of a v)) value) in
        on_meets pending (done (awaiting entry) a w o v) a.past r u s
        (subst (λ q. MovesOn pending q a.past r u s) (sym goes)
        (h.resumes a w o (record {
          clock = reclocked pending a v t [] t.id st.clock;
          stands = st.stands;
          ups = st.ups;
          still =
              st.still;
          none = st.none;
        }) (record { copies = b.copies; marks = b.marks; steps = b.steps })
        (suspended_of pending scene v t own going.ready free)));
  }

  -- by what the calls tell

  pub gone_on : {E : Type 0} (d : Result Went E) (entry : ℕ) (k : Option (Option Value)) (x : Value) (v u : View) (t s : Tasks W)
      (fs gs : List Framed) → k ≡ Some (Some x) → shown k ≡ values_in (nth t.results.items entry) →
      all_free (frames_with v.frames []) ≡ true → fs ≡ v.frames → gs ≡ [] →
      IfOk d (λ r. Resumes pending t.id fs (val_of x) r (record v { frames = gs }) t u s) →
      IfOk d (λ r. Comes pending (awaiting entry) r v t u s)
  gone_on d entry k x v u t s fs gs is known free same none h =
      let g = gave_of k x (nth t.results.items entry) is known in
      await_goes d entry g.0 (val_of x) v u t s g.1 g.2 free
      (subst (λ z. IfOk d (λ r. Resumes pending t.id z (val_of x) r (record v { frames = [] }) t u s)) same
      (subst (λ z. IfOk d (λ r. Resumes pending t.id fs (val_of x) r (record v { frames = z }) t u s)) none h))

  pub frames_some : (v : View) (t : Tasks W) (fs : List Framed) → Goes pending v t → fs ≡ v.frames → fs ≢ []
  frames_some v t fs g same = subst (λ z. z ≢ []) (sym same) g.going.ready.some
