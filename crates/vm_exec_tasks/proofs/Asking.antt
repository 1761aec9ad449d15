-- One after the other, up to what is asked; and a task that no failure context and no deferred block holds.
use Rattle.std.proofs.Common.{◌≡◌, ◌≢◌, ℕ, zero, suc, ◌+◌, true, false, IfSome, IfNone, Option, Some, None, List, [], ◌∷◌, length, map}
use Rattle.std.proofs.Common.{refl, sym, ap, subst, ◌∙◌, arith}
use Rattle.verse_value.specs.Val.{Val}
use Rattle.verse_value.specs.declared.runs.Ending.TheVariants as ending
use Rattle.verse_meaning_state.specs.State.{Memory}
use Rattle.verse_code_machine.specs.Frames as m
use Rattle.verse_code_machine.specs.Frames.{free}
use Rattle.tx_heap.specs.State.{State as Kept}
use Rattle.trace_buf.specs.Trace.{Trace}
use Rattle.fiber.specs.Frames.{Handler, fits}
use Rattle.vm_frames.specs.Framed.{Framed, place_of}
use Rattle.vm_frames.specs.Calls.{permits, moved, pushed, with_stack, popped_from, popped, many_of, with_many, popped_many}
use Rattle.vm_running.specs.Operands.{two_from, popped_two}
use Rattle.vm_frames.specs.Machine.{note_of, frames_with, handlers_with, handlers_in, all_free, beyond}
use Rattle.vm_frames.proofs.Whole.{free_below}
use Rattle.vm_running.specs.declared.runners.Did.{Did}
use Rattle.vm_running.specs.declared.runners.Did.TheVariants as did
use Rattle.vm_running.specs.Views.{View, Ready, state_of, memories}
use Rattle.vm_running.specs.Doings.{Doing}
use Rattle.vm_running.specs.Comes.{done, Comes, Leads}
use Rattle.vm_running.proofs.Steps.{at, stays, sticks, ready_as, ready_moved}
use Rattle.vm_exec_tasks.specs.declared.asked.Asked.{Asked}
use Rattle.vm_exec_tasks.specs.declared.asked.Asked.TheVariants as asked
use Rattle.vm_exec_tasks.specs.Asking.{AsksFor, Asks, Settled, IsFree}

pub asks_by : {d e : Doing} {r : Asked} {v u z : View} → Leads d v e u → Asks e r u z → Asks d r v z
asks_by {r = r} {z = z} lead more = record {
  asks = λ a w x past. subst (λ q. AsksFor q r a w x z) (sym (lead.same a w x past)) (more.asks a w x (lead.past a past));
  ready = more.ready;
}

-- nothing is asked
pub asks_nothing : {d : Doing} {v u : View} (r : Did) → Comes d r v u → Asks d (asked.Nothing r) v u
asks_nothing r comes = record { asks = λ a w x past. comes.ends a w x past; ready = comes.ready }

-- where no failure context and no deferred block holds the task
abbrev pub when_free : Doing → Doing
when_free go w x s f fs = m.only_where (free f.handlers f.life.noted fs) s (go w x s f fs)

-- at the next place
abbrev pub after_next : Doing → Doing
after_next go w x s f fs = go w x s (record f { place = suc f.place }) fs

bare_from : (hs : List Handler) (ns : List ℕ) (f : Framed) (fs : List Framed) (ms : List Memory) →
    free (handlers_with f.born hs ms) (map note_of ns) (frames_with fs (beyond hs ms)) ≡ true →
    (length hs ≡ 0) × (all_free (frames_with fs (beyond hs ms)) ≡ true)
bare_from [] [] f fs ms e = (refl, sym (free_below (frames_with fs ms)) ∙ e)
bare_from [] (n ∷ ns) f fs ms e = absurd (cc)
bare_from (h ∷ hs) ns f fs ms e = absurd (cc)

pub free_bare : (fs : List Framed) (ms : List Memory) → all_free (frames_with fs ms) ≡ true → handlers_in fs ≡ 0
free_bare [] ms e = refl
free_bare (f ∷ fs) ms e =
    let top = bare_from f.frame.handlers f.frame.noted f fs ms e in
    let rest = free_bare fs (beyond f.frame.handlers ms) top.1 in
    omega (arith, top.0, rest)

no_handlers : (hs : List Handler) → length hs ≡ 0 → hs ≡ []
no_handlers [] e = refl
no_handlers (h ∷ hs) e = absurd (omega (arith, e))

fits_none : (hs : List Handler) (q : ℕ) → length hs ≡ 0 → fits hs q ≡ true
fits_none [] q e = refl
fits_none (h ∷ hs) q e = absurd (omega (arith, e))

pub bare_permits : (q : ℕ) (fs : List Framed) → handlers_in fs ≡ 0 → permits q fs ≡ true
bare_permits q [] e = refl
bare_permits q (f ∷ fs) e = fits_none f.frame.handlers q (omega (arith, e))

pub free_permits : (q : ℕ) (fs : List Framed) → IsFree fs → permits q fs ≡ true
free_permits q fs e = bare_permits q fs (free_bare fs [] e)

module _ {h : Kept} {tr : Trace} {l s n : ℕ} where
  pub held_none : (go : Doing) (fs gs : List Framed) → ((ms : List Memory) → false ≡ all_free (frames_with fs ms)) →
      Asks (when_free go) (asked.Nothing (did.Over ending.Stuck)) (at h tr l s n fs) (at h tr l s n gs)
  held_none go [] gs e = asks_nothing _ (sticks (when_free go) [] gs (λ a w x. refl))
  held_none go (f ∷ fs) gs e =
      asks_nothing _ (sticks (when_free go) (f ∷ fs) gs
      (λ a w x. ap (λ b. m.only_where b (state_of a (at h tr l s n (f ∷ fs))) (done go a w x (at h tr l s n (f ∷ fs))))
      (sym (e (memories a.past h.copies tr.marks)))))

  pub free_leads : (go : Doing) (fs : List Framed) → Ready (at h tr l s n fs) → ((ms : List Memory) → true ≡ all_free (frames_with fs ms)) →
      Leads (when_free go) (at h tr l s n fs) go (at h tr l s n fs)
  free_leads go [] r e = absurd (r.some refl)
  free_leads go (f ∷ fs) r e =
      stays r (λ a w x. ap (λ b. m.only_where b (state_of a (at h tr l s n (f ∷ fs))) (done go a w x (at h tr l s n (f ∷ fs))))
      (sym (e (memories a.past h.copies tr.marks))))

  pub asks_next : (go : Doing) (k : Asked) (z : View) (fs gs : List Framed) → fs ≢ [] → gs ≡ moved (place_of fs + 1) fs →
      Asks go k (at h tr l s n gs) z → Asks (after_next go) k (at h tr l s n fs) z
  asks_next go k z [] gs some e more = absurd (some refl)
  asks_next go k z (f ∷ fs) gs some e more =
      let one : f.frame.place + 1 ≡ suc f.frame.place = omega arith in
      let is : moved (suc f.frame.place) (f ∷ fs) ≡ gs = ap (λ q. moved q (f ∷ fs)) (sym one) ∙ sym e in
      record {
        asks = λ a w x past. subst (λ q. AsksFor q k a w x z) (ap (λ gs. done go a w x (at h tr l s n gs)) (sym is)) (more.asks a w x past);
        ready = more.ready;
      }

  pub settled_pushed : (v : Val) (fs gs : List Framed) → Ready (at h tr l s n fs) → handlers_in fs ≡ 0 →
      gs ≡ moved (place_of (pushed v fs) + 1) (pushed v fs) → Settled (at h tr l s n gs)
  settled_pushed v [] gs r bare e = absurd (r.some refl)
  settled_pushed v (f ∷ fs) gs r bare e =
      rw e (record {
        ready = ready_as (moved (place_of (pushed v (f ∷ fs)) + 1) (pushed v (f ∷ fs))) r refl
            (λ none. absurd (omega (arith, ap length none)));
        bare = bare;
      })

  -- where the code has left the store as it was

  pub asks_same : {i : Kept} {d : Doing} {k : Asked} {z : View} {fs : List Framed} → i ≡ h → Asks d k (at i tr l s n fs) z →
      Asks d k (at h tr l s n fs) z
  asks_same {d = d} {k = k} {z = z} {fs = fs} same more = subst (λ i. Asks d k (at i tr l s n fs) z) same more

  pub ready_same : {i : Kept} {fs : List Framed} → Ready (at h tr l s n fs) → i ≡ h → Ready (at i tr l s n fs)
  ready_same {fs = fs} r same = subst (λ i. Ready (at i tr l s n fs)) (sym same) r

  pub settled_moved : (q : ℕ) (fs gs : List Framed) → Ready (at h tr l s n fs) → handlers_in fs ≡ 0 → gs ≡ moved q fs →
      Settled (at h tr l s n gs)
  settled_moved q [] gs r bare e = absurd (r.some refl)
  settled_moved q (f ∷ fs) gs r bare e = record { ready = ready_moved q (f ∷ fs) gs r e; bare = rw e bare }

-- operands that are taken off leave the task as free as it was

abbrev rest_in : {A : Type 0} → Option (A × List Framed) → List Framed
rest_in None = []
rest_in (Some x) = x.1

free_from : (st : List Val) (f : Framed) (fs gs : List Framed) → with_stack st f fs ≡ gs → IsFree (f ∷ fs) → IsFree gs
free_from st f fs gs e free = subst IsFree e free

one_from : (st : List Val) (v : Val) (f : Framed) (fs gs : List Framed) → popped_from st f fs ≡ Some (v, gs) → IsFree (f ∷ fs) → IsFree gs
one_from [] v f fs gs e free = absurd (cc)
one_from (u ∷ st) v f fs gs e free = free_from st f fs gs (ap rest_in e) free

pub popped_free : (v : Val) (fs gs : List Framed) → popped fs ≡ Some (v, gs) → IsFree fs → IsFree gs
popped_free v [] gs e free = absurd (cc)
popped_free v (f ∷ fs) gs e free = one_from f.frame.stack v f fs gs e free

both_from : (st : List Val) (u v : Val) (f : Framed) (fs gs : List Framed) → two_from st f fs ≡ Some ((u, v), gs) → IsFree (f ∷ fs) →
    IsFree gs
both_from [] u v f fs gs e free = absurd (cc)
both_from (b ∷ []) u v f fs gs e free = absurd (cc)
both_from (b ∷ a ∷ st) u v f fs gs e free = free_from st f fs gs (ap rest_in e) free

pub two_free : (u v : Val) (fs gs : List Framed) → popped_two fs ≡ Some ((u, v), gs) → IsFree fs → IsFree gs
two_free u v [] gs e free = absurd (cc)
two_free u v (f ∷ fs) gs e free = both_from f.frame.stack u v f fs gs e free

many_from : (k : ℕ) (st us vs : List Val) (f : Framed) (fs gs : List Framed) → with_many (many_of k st us) f fs ≡ Some (vs, gs) →
    IsFree (f ∷ fs) → IsFree gs
many_from zero st us vs f fs gs e free = free_from st f fs gs (ap rest_in e) free
many_from (suc k) [] us vs f fs gs e free = absurd (cc)
many_from (suc k) (u ∷ st) us vs f fs gs e free = many_from k st (u ∷ us) vs f fs gs e free

pub many_free : (k : ℕ) (vs : List Val) (fs gs : List Framed) → popped_many k [] fs ≡ Some (vs, gs) → IsFree fs → IsFree gs
many_free k vs [] gs e free = absurd (cc)
many_free k vs (f ∷ fs) gs e free = many_from k f.frame.stack [] vs f fs gs e free

pub pushed_free : (v : Val) (fs gs : List Framed) → gs ≡ pushed v fs → IsFree fs → IsFree gs
pushed_free v [] gs e free = subst IsFree (sym e) free
pushed_free v (f ∷ fs) gs e free = subst IsFree (sym e) free
