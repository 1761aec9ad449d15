-- A task that is suspended, and one that signals.
use Rattle.std.proofs.Common.{◌≡◌, ◌≢◌, ℕ, suc, ◌+◌, Some, None, List, [], ◌∷◌, refl, sym, ap, subst, ◌∙◌, arith}
use Rattle.verse_value.specs.Val.{Val, unit}
use Rattle.verse_value.specs.View.{val_of}
use Rattle.verse_value.specs.declared.values.Value.{Value}
use Rattle.verse_value.specs.declared.runs.Ending.TheVariants as ending
use Rattle.verse_meaning_state.specs.State.{State, signalled}
use Rattle.verse_meaning_state.specs.Waits.{till, never, heard, nth}
use Rattle.verse_meaning_state.specs.Effects.{event_of, signal_sent}
use Rattle.verse_code_machine.specs.Tasks.{Who, World, Next, thread}
use Rattle.verse_code_machine.specs.Frames as m
use Rattle.verse_code_machine.specs.Frames.{on_there, answered}
use Rattle.verse_code_machine.specs.Ends.{suspends}
use Rattle.verse_code_machine.specs.Acts.{awaits}
use Rattle.tx_heap.specs.State.{State as Kept}
use Rattle.trace_buf.specs.Trace.{Trace}
use Rattle.vm_frames.specs.Framed.{Framed, place_of}
use Rattle.vm_frames.specs.Calls.{moved, pushed}
use Rattle.vm_frames.specs.Machine.{frame_with, frames_with, handlers_in, beyond}
use Rattle.vm_running.specs.declared.runners.Did.TheVariants as did
use Rattle.vm_running.specs.Views.{Aside, Ready, state_of, memories}
use Rattle.vm_running.specs.Doings.{Doing}
use Rattle.vm_running.specs.Comes.{done, Leads}
use Rattle.vm_running.proofs.Steps.{at, stays, sticks, fits_in}
use Rattle.vm_exec_tasks.specs.declared.asked.Asked.TheVariants as asked
use Rattle.vm_exec_tasks.specs.Asking.{Asks, Settled}
use Rattle.vm_exec_tasks.proofs.Asking.{asks_nothing, bare_permits}

abbrev pub sleeping : ℕ → Doing
sleeping n w x s f fs = suspends (till (s.clock.now + n)) (thread w f fs) x s

abbrev pub resting : Doing
resting w x s f fs = suspends never (thread w f fs) x s

abbrev pub awaiting : ℕ → Doing
awaiting entry w x s f fs = awaits (nth s.clock.results entry) entry (thread w f fs) x s

abbrev pub hearing : ℕ → Doing
hearing event w x s f fs = suspends (heard event) (thread w f fs) x s

-- with the event that a value names
abbrev pub with_event : Val → (ℕ → Doing) → Doing
with_event v go w x s f fs = on_there (event_of v s) s (λ e. go e w x s f fs)

-- the event that a value names is signalled
abbrev pub signals : Val → Val → Doing
signals e v w x s f fs = answered None (signal_sent (event_of e s) v s) w x s f.life f.locals f.stack f.place f.handlers fs

module _ (h : Kept) (tr : Trace) (l s n : ℕ) where
  -- the frames are bare, so nothing forbids the next place
  signals_at : (e : Val) (v : Val) (k : ℕ) (f : Framed) (fs gs : List Framed) → handlers_in (f ∷ fs) ≡ 0 →
      ((t : State) → t.memory.store ≡ h.cells → Some k ≡ event_of e t) →
      gs ≡ moved (place_of (pushed unit (f ∷ fs)) + 1) (pushed unit (f ∷ fs)) → (a : Aside) (w : Who) (x : World) →
      done (signals e v) a w x (at h tr l s n (f ∷ fs)) ≡
      done (λ w x s f fs. Next (record { who = w; world = x; state = signalled k v s; frame = f; below = fs })) a w x (at h tr l s n gs)
  signals_at e v k f fs gs bare is to a w x =
      let one : f.frame.place + 1 ≡ suc f.frame.place = omega arith in
      let st = state_of a (at h tr l s n (f ∷ fs)) in
      let g = frame_with f (memories a.past h.copies tr.marks) in
      let bl = frames_with fs (beyond f.frame.handlers (memories a.past h.copies tr.marks)) in
      let there : moved (suc f.frame.place) (pushed unit (f ∷ fs)) ≡ gs = ap (λ q. moved q (pushed unit (f ∷ fs))) (sym one) ∙ sym to in
      ap (λ o. answered None (signal_sent o v st) w x st g.life f.frame.locals f.frame.stack f.frame.place g.handlers bl)
      (sym (is st refl)) ∙ (ap (λ b. m.only_where b st
      (done (λ w x s f fs. Next (record { who = w; world = x; state = signalled k v s; frame = f; below = fs })) a w x
      (at h tr l s n (moved (suc f.frame.place) (pushed unit (f ∷ fs))))))
      (fits_in f.born f.frame.handlers (memories a.past h.copies tr.marks) (suc f.frame.place) ∙
      bare_permits (suc f.frame.place) (f ∷ fs) bare) ∙
      ap (λ gs. done (λ w x s f fs. Next (record { who = w; world = x; state = signalled k v s; frame = f; below = fs })) a w x
      (at h tr l s n gs)) there)

module _ {h : Kept} {tr : Trace} {l s n : ℕ} where
  pub sleeping_asks : (d m : ℕ) (fs : List Framed) → Settled (at h tr l s n fs) → m ≡ n + d →
      Asks (sleeping d) (asked.SleepUntil m) (at h tr l s n fs) (at h tr l s n fs)
  sleeping_asks d m fs r e = rw e (record { asks = λ a w x past. refl; ready = r })

  pub resting_asks : (fs : List Framed) → Settled (at h tr l s n fs) → Asks resting asked.SleepForever (at h tr l s n fs) (at h tr l s n fs)
  resting_asks fs r = record { asks = λ a w x past. refl; ready = r }

  pub awaiting_asks : (entry : ℕ) (fs : List Framed) → Settled (at h tr l s n fs) →
      Asks (awaiting entry) (asked.AwaitTask entry) (at h tr l s n fs) (at h tr l s n fs)
  awaiting_asks entry fs r = record { asks = λ a w x past. refl; ready = r }

  pub hearing_asks : (event : ℕ) (fs : List Framed) → Settled (at h tr l s n fs) →
      Asks (hearing event) (asked.AwaitEvent event) (at h tr l s n fs) (at h tr l s n fs)
  hearing_asks event fs r = record { asks = λ a w x past. refl; ready = r }

  pub event_leads : (v : Val) (go : ℕ → Doing) (e : ℕ) (fs : List Framed) → Ready (at h tr l s n fs) →
      ((t : State) → t.memory.store ≡ h.cells → Some e ≡ event_of v t) →
      Leads (with_event v go) (at h tr l s n fs) (go e) (at h tr l s n fs)
  event_leads v go e [] r is = absurd (r.some refl)
  event_leads v go e (f ∷ fs) r is =
      stays r (λ a w x. ap (λ o. on_there o (state_of a (at h tr l s n (f ∷ fs))) (λ e. done (go e) a w x (at h tr l s n (f ∷ fs))))
      (sym (is (state_of a (at h tr l s n (f ∷ fs))) refl)))

  pub event_none : (v : Val) (go : ℕ → Doing) (fs gs : List Framed) → ((t : State) → t.memory.store ≡ h.cells → None ≡ event_of v t) →
      Asks (with_event v go) (asked.Nothing (did.Over ending.Stuck)) (at h tr l s n fs) (at h tr l s n gs)
  event_none v go [] gs is = asks_nothing _ (sticks (with_event v go) [] gs (λ a w x. refl))
  event_none v go (f ∷ fs) gs is =
      asks_nothing _ (sticks (with_event v go) (f ∷ fs) gs
      (λ a w x. ap (λ o. on_there o (state_of a (at h tr l s n (f ∷ fs))) (λ e. done (go e) a w x (at h tr l s n (f ∷ fs))))
      (sym (is (state_of a (at h tr l s n (f ∷ fs))) refl))))

  pub signals_none : (e v : Val) (fs gs : List Framed) → ((t : State) → t.memory.store ≡ h.cells → None ≡ event_of e t) →
      Asks (signals e v) (asked.Nothing (did.Over ending.Stuck)) (at h tr l s n fs) (at h tr l s n gs)
  signals_none e v [] gs is = asks_nothing _ (sticks (signals e v) [] gs (λ a w x. refl))
  signals_none e v (f ∷ fs) gs is =
      asks_nothing _ (sticks (signals e v) (f ∷ fs) gs
      (λ a w x. ap (λ o. answered None (signal_sent o v (state_of a (at h tr l s n (f ∷ fs)))) w x (state_of a (at h tr l s n (f ∷ fs)))
      (frame_with f (memories a.past h.copies tr.marks)).life f.frame.locals f.frame.stack f.frame.place
      (frame_with f (memories a.past h.copies tr.marks)).handlers
      (frames_with fs (beyond f.frame.handlers (memories a.past h.copies tr.marks))))
      (sym (is (state_of a (at h tr l s n (f ∷ fs))) refl))))

  pub signal_asks : (e : Val) (v : Value) (k : ℕ) (fs gs : List Framed) → fs ≢ [] → handlers_in fs ≡ 0 →
      ((t : State) → t.memory.store ≡ h.cells → Some k ≡ event_of e t) → gs ≡ moved (place_of (pushed unit fs) + 1) (pushed unit fs) →
      Settled (at h tr l s n gs) → Asks (signals e (val_of v)) (asked.Signal k v) (at h tr l s n fs) (at h tr l s n gs)
  signal_asks e v k [] gs some bare is to r = absurd (some refl)
  signal_asks e v k (f ∷ fs) gs some bare is to r =
      record { asks = λ a w x past. signals_at h tr l s n e (val_of v) k f fs gs bare is to a w x; ready = r }

  -- where the code has left the store as it was

  pub event_stuck : {i : Kept} (v : Val) (go : ℕ → Doing) (fs gs : List Framed) → Ready (at h tr l s n fs) → i ≡ h →
      ((t : State) → t.memory.store ≡ h.cells → None ≡ event_of v t) →
      Asks (with_event v go) (asked.Nothing (did.Over ending.Stuck)) (at h tr l s n fs) (at i tr l s n gs)
  event_stuck v go fs gs r same is = subst (λ i. Asks (with_event v go) (asked.Nothing (did.Over ending.Stuck)) (at h tr l s n fs)
      (at i tr l s n gs)) (sym same) (event_none v go fs gs is)

  pub signals_stuck : {i : Kept} (e v : Val) (fs gs : List Framed) → Ready (at h tr l s n fs) → i ≡ h →
      ((t : State) → t.memory.store ≡ h.cells → None ≡ event_of e t) →
      Asks (signals e v) (asked.Nothing (did.Over ending.Stuck)) (at h tr l s n fs) (at i tr l s n gs)
  signals_stuck e v fs gs r same is = subst (λ i. Asks (signals e v) (asked.Nothing (did.Over ending.Stuck)) (at h tr l s n fs)
      (at i tr l s n gs)) (sym same) (signals_none e v fs gs is)
