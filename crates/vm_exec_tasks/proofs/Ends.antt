-- Frames that end.
use Rattle.std.proofs.Common.{◌≡◌, ◌≢◌, ℕ, zero, suc, Bool, true, false, cond, nat_lt, Option, Some, None, List, [], ◌∷◌, length}
use Rattle.std.proofs.Common.{map, refl, sym, ap, subst, ◌∙◌, arith}
use Rattle.std.proofs.lemmas.Bool.Decides.{nat_tests}
use Rattle.verse_base.proofs.Facts.{no_items, nat_eq_not}
use Rattle.verse_code.specs.declared.codes.Code.{Code}
use Rattle.verse_code.specs.declared.operations.Op.TheVariants as op
use Rattle.verse_value.specs.Val.{Val}
use Rattle.verse_value.specs.View.{val_of}
use Rattle.verse_value.specs.declared.values.Value.{Value}
use Rattle.verse_value.specs.declared.runs.Ending.TheVariants as ending
use Rattle.verse_meaning_state.specs.State.{Memory}
use Rattle.verse_meaning_state.specs.Waits.{ltn}
use Rattle.verse_code_machine.specs.Tasks.{to, gone, Who, World}
use Rattle.verse_code_machine.specs.Frames as m
use Rattle.verse_code_machine.specs.Frames.{nothing, clean}
use Rattle.verse_code_machine.specs.Ends.{returns, ends, cleared}
use Rattle.verse_code_machine.specs.Cancelling.{clears_frames}
use Rattle.verse_code_machine.specs.Acts.{on_noted, on_note}
use Rattle.tx_heap.specs.State.{State as Kept}
use Rattle.trace_buf.specs.Trace.{Trace}
use Rattle.fiber.specs.Frames.{Handler, kept_noted}
use Rattle.vm_frames.specs.Framed.{Framed, born_of, place_of, defers_of, noted_of}
use Rattle.vm_frames.specs.Calls.{left_from, left, ended_from, ended}
use Rattle.vm_frames.specs.Machine.{note_of, life_of, frame_with, frames_with, handlers_with, beyond}
use Rattle.vm_running.specs.declared.runners.Did.TheVariants as did
use Rattle.vm_running.specs.Views.{Aside, Ready, state_of, memories}
use Rattle.vm_running.specs.Doings.{Doing, acts, goes_to}
use Rattle.vm_running.specs.Comes.{done, Comes, Leads}
use Rattle.vm_running.proofs.Steps.{at, stays, sticks, ready_as}
use Rattle.vm_exec_tasks.specs.declared.asked.Asked.TheVariants as asked
use Rattle.vm_exec_tasks.specs.declared.asked.Ended.{Ended}
use Rattle.vm_exec_tasks.specs.Asking.{Asks, Over, clearing_of}
use Rattle.vm_exec_tasks.proofs.Asking.{asks_nothing}

-- the frame returns, or its part ends, with a value
abbrev pub returning : Val → Doing
returning v w x s f fs = clean f.life s (returns w x f.life.born v s f.handlers fs)

abbrev pub closing : Val → Doing
closing v w x s f fs = clean f.life s (ends w x f.life.born v s f.handlers fs)

abbrev clean_at : Framed → Bool
clean_at f = nothing f.frame.defers (map note_of f.frame.noted)

abbrev clean_of : List Framed → Bool
clean_of fs = nothing (life_of 0 (defers_of fs) (noted_of fs)).defers (life_of 0 (defers_of fs) (noted_of fs)).noted

abbrev pub ended_with : ℕ → Value → Ended
ended_with born v = record { born = born; value = v }

abbrev last_in : Option (Bool × List Framed) → Bool
last_in None = true
last_in (Some x) = x.0

abbrev rest_of : Option (Bool × List Framed) → List Framed
rest_of None = []
rest_of (Some x) = x.1

module _ (h : Kept) (tr : Trace) (l s n : ℕ) where
  -- where it is clean, the handlers decide

  return_at : (v : Val) (hs : List Handler) (f : Framed) (fs : List Framed) (a : Aside) (w : Who) (x : World) → true ≡ clean_of (f ∷ fs) →
      hs ≡ f.frame.handlers → done (returning v) a w x (at h tr l s n (f ∷ fs)) ≡
      returns w x f.born v (state_of a (at h tr l s n [])) (handlers_with f.born hs (memories a.past h.copies tr.marks))
      (frames_with fs (beyond hs (memories a.past h.copies tr.marks)))
  return_at v hs f fs a w x e is =
      ap (λ b. m.only_where b (state_of a (at h tr l s n []))
      (returns w x f.born v (state_of a (at h tr l s n [])) (frame_with f (memories a.past h.copies tr.marks)).handlers
      (frames_with fs (beyond f.frame.handlers (memories a.past h.copies tr.marks))))) (sym e) ∙
      ap (λ hs. returns w x f.born v (state_of a (at h tr l s n [])) (handlers_with f.born hs (memories a.past h.copies tr.marks))
      (frames_with fs (beyond hs (memories a.past h.copies tr.marks)))) (sym is)

  close_at : (v : Val) (hs : List Handler) (f : Framed) (fs : List Framed) (a : Aside) (w : Who) (x : World) → true ≡ clean_of (f ∷ fs) →
      hs ≡ f.frame.handlers → done (closing v) a w x (at h tr l s n (f ∷ fs)) ≡
      ends w x f.born v (state_of a (at h tr l s n [])) (handlers_with f.born hs (memories a.past h.copies tr.marks))
      (frames_with fs (beyond hs (memories a.past h.copies tr.marks)))
  close_at v hs f fs a w x e is =
      ap (λ b. m.only_where b (state_of a (at h tr l s n []))
      (ends w x f.born v (state_of a (at h tr l s n [])) (frame_with f (memories a.past h.copies tr.marks)).handlers
      (frames_with fs (beyond f.frame.handlers (memories a.past h.copies tr.marks))))) (sym e) ∙
      ap (λ hs. ends w x f.born v (state_of a (at h tr l s n [])) (handlers_with f.born hs (memories a.past h.copies tr.marks))
      (frames_with fs (beyond hs (memories a.past h.copies tr.marks)))) (sym is)

module _ {h : Kept} {tr : Trace} {l s n : ℕ} where
  pub unclean_returns : (v : Val) (fs gs : List Framed) → false ≡ clean_of fs →
      Asks (returning v) (asked.Nothing (did.Over ending.Stuck)) (at h tr l s n fs) (at h tr l s n gs)
  unclean_returns v [] gs e = asks_nothing _ (sticks (returning v) [] gs (λ a w x. refl))
  unclean_returns v (f ∷ fs) gs e =
      asks_nothing _ (sticks (returning v) (f ∷ fs) gs
      (λ a w x. ap (λ b. m.only_where b (state_of a (at h tr l s n (f ∷ fs)))
      (returns w x f.born v (state_of a (at h tr l s n (f ∷ fs))) (frame_with f (memories a.past h.copies tr.marks)).handlers
      (frames_with fs (beyond f.frame.handlers (memories a.past h.copies tr.marks))))) (sym e)))

  pub unclean_closes : (v : Val) (fs gs : List Framed) → false ≡ clean_of fs →
      Asks (closing v) (asked.Nothing (did.Over ending.Stuck)) (at h tr l s n fs) (at h tr l s n gs)
  unclean_closes v [] gs e = asks_nothing _ (sticks (closing v) [] gs (λ a w x. refl))
  unclean_closes v (f ∷ fs) gs e =
      asks_nothing _ (sticks (closing v) (f ∷ fs) gs
      (λ a w x. ap (λ b. m.only_where b (state_of a (at h tr l s n (f ∷ fs)))
      (ends w x f.born v (state_of a (at h tr l s n (f ∷ fs))) (frame_with f (memories a.past h.copies tr.marks)).handlers
      (frames_with fs (beyond f.frame.handlers (memories a.past h.copies tr.marks))))) (sym e)))

  -- a handler keeps the frame

  held_returns : (v : Val) (hs : List Handler) (f : Framed) (fs gs : List Framed) → true ≡ clean_of (f ∷ fs) → hs ≡ f.frame.handlers →
      left_from hs fs ≡ None → Asks (returning v) (asked.Nothing (did.Over ending.Stuck)) (at h tr l s n (f ∷ fs)) (at h tr l s n gs)
  held_returns v [] f [] gs clean is e = absurd (cc)
  held_returns v [] f (g ∷ fs) gs clean is e = absurd (cc)
  held_returns v (k ∷ ks) f fs gs clean is e =
      asks_nothing _ (sticks (returning v) (f ∷ fs) gs (λ a w x. return_at h tr l s n v (k ∷ ks) f fs a w x clean is))

  pub return_held : (v : Val) (fs gs : List Framed) → fs ≢ [] → true ≡ clean_of fs → left fs ≡ None →
      Asks (returning v) (asked.Nothing (did.Over ending.Stuck)) (at h tr l s n fs) (at h tr l s n gs)
  return_held v [] gs some clean e = absurd (some refl)
  return_held v (f ∷ fs) gs some clean e = held_returns v f.frame.handlers f fs gs clean refl e

  held_closes : (v : Val) (hs : List Handler) (f : Framed) (fs gs : List Framed) → true ≡ clean_of (f ∷ fs) → hs ≡ f.frame.handlers →
      left_from hs fs ≡ None → Asks (closing v) (asked.Nothing (did.Over ending.Stuck)) (at h tr l s n (f ∷ fs)) (at h tr l s n gs)
  held_closes v [] f [] gs clean is e = absurd (cc)
  held_closes v [] f (g ∷ fs) gs clean is e = absurd (cc)
  held_closes v (k ∷ ks) f fs gs clean is e =
      asks_nothing _ (sticks (closing v) (f ∷ fs) gs (λ a w x. close_at h tr l s n v (k ∷ ks) f fs a w x clean is))

  pub close_held : (v : Val) (fs gs : List Framed) → fs ≢ [] → true ≡ clean_of fs → left fs ≡ None →
      Asks (closing v) (asked.Nothing (did.Over ending.Stuck)) (at h tr l s n fs) (at h tr l s n gs)
  close_held v [] gs some clean e = absurd (some refl)
  close_held v (f ∷ fs) gs some clean e = held_closes v f.frame.handlers f fs gs clean refl e

  -- the last frame has gone

  over_from : (f : Framed) (gs : List Framed) → Ready (at h tr l s n (f ∷ [])) → f.frame.handlers ≡ [] → gs ≡ [] → Over (at h tr l s n gs)
  over_from f gs r bare none =
      let count = ap length bare in
      let copies = r.copies in
      let marks = r.marks in
      record {
        none = none;
        copies = no_items h.copies (omega (arith, copies, count));
        marks =
            no_items tr.marks (omega (arith, marks, count));
        clock = r.clock;
      }

  last_returns : (v : Value) (hs : List Handler) (f : Framed) (fs gs : List Framed) (e : Ended) → Ready (at h tr l s n (f ∷ fs)) →
      true ≡ clean_of (f ∷ fs) → hs ≡ f.frame.handlers → left_from hs fs ≡ Some (true, gs) → e ≡ record { born = f.born; value = v } →
      Asks (returning (val_of v)) (asked.Finish e) (at h tr l s n (f ∷ fs)) (at h tr l s n gs)
  last_returns v (k ∷ ks) f fs gs e r clean is last same = absurd (cc)
  last_returns v [] f (g ∷ fs) gs e r clean is last same = let not : false ≡ true = ap last_in last in absurd (cc)
  last_returns v [] f [] gs e r clean is last same =
      rw same (record {
        asks = λ a w x past. return_at h tr l s n (val_of v) [] f [] a w x clean is;
        ready =
            over_from f gs r (sym is) (sym (ap rest_of last));
      })

  pub return_last : (v : Value) (fs gs : List Framed) (e : Ended) → Ready (at h tr l s n fs) → true ≡ clean_of fs →
      left fs ≡ Some (true, gs) → e ≡ record { born = born_of fs; value = v } →
      Asks (returning (val_of v)) (asked.Finish e) (at h tr l s n fs) (at h tr l s n gs)
  return_last v [] gs e r clean last same = absurd (r.some refl)
  return_last v (f ∷ fs) gs e r clean last same = last_returns v f.frame.handlers f fs gs e r clean refl last same

  last_closes : (v : Value) (hs : List Handler) (f : Framed) (fs gs : List Framed) (e : Ended) → Ready (at h tr l s n (f ∷ fs)) →
      true ≡ clean_of (f ∷ fs) → hs ≡ f.frame.handlers → left_from hs fs ≡ Some (true, gs) → e ≡ record { born = f.born; value = v } →
      Asks (closing (val_of v)) (asked.Close e) (at h tr l s n (f ∷ fs)) (at h tr l s n gs)
  last_closes v (k ∷ ks) f fs gs e r clean is last same = absurd (cc)
  last_closes v [] f (g ∷ fs) gs e r clean is last same = let not : false ≡ true = ap last_in last in absurd (cc)
  last_closes v [] f [] gs e r clean is last same =
      rw same (record {
        asks = λ a w x past. close_at h tr l s n (val_of v) [] f [] a w x clean is;
        ready =
            over_from f gs r (sym is) (sym (ap rest_of last));
      })

  pub close_last : (v : Value) (fs gs : List Framed) (e : Ended) → Ready (at h tr l s n fs) → true ≡ clean_of fs →
      left fs ≡ Some (true, gs) → e ≡ record { born = born_of fs; value = v } →
      Asks (closing (val_of v)) (asked.Close e) (at h tr l s n fs) (at h tr l s n gs)
  close_last v [] gs e r clean last same = absurd (r.some refl)
  close_last v (f ∷ fs) gs e r clean last same = last_closes v f.frame.handlers f fs gs e r clean refl last same

  -- there is a frame below

  next_returns : (v : Value) (hs : List Handler) (f : Framed) (fs gs : List Framed) (e : Ended) → Ready (at h tr l s n (f ∷ fs)) →
      true ≡ clean_of (f ∷ fs) → hs ≡ f.frame.handlers → left_from hs fs ≡ Some (false, gs) → e ≡ record { born = f.born; value = v } →
      Asks (returning (val_of v)) (asked.Return e) (at h tr l s n (f ∷ fs)) (at h tr l s n gs)
  next_returns v (k ∷ ks) f fs gs e r clean is last same = absurd (cc)
  next_returns v [] f [] gs e r clean is last same = let not : true ≡ false = ap last_in last in absurd (cc)
  next_returns v [] f (g ∷ fs) gs e r clean is last same =
      let rest : g ∷ fs ≡ gs = ap rest_of last in
      let count = ap length is in
      let copies = r.copies in
      let marks = r.marks in
      rw (same, ← rest) (record {
        asks = λ a w x past. return_at h tr l s n (val_of v) [] f (g ∷ fs) a w x clean is;
        ready = record {
          some = λ none. absurd (omega (arith, ap length none));
          copies = omega (arith, copies, count);
          marks =
              omega (arith, marks, count);
          clock = r.clock;
        };
      })

  pub return_next : (v : Value) (fs gs : List Framed) (e : Ended) → Ready (at h tr l s n fs) → true ≡ clean_of fs →
      left fs ≡ Some (false, gs) → e ≡ record { born = born_of fs; value = v } →
      Asks (returning (val_of v)) (asked.Return e) (at h tr l s n fs) (at h tr l s n gs)
  return_next v [] gs e r clean last same = absurd (r.some refl)
  return_next v (f ∷ fs) gs e r clean last same = next_returns v f.frame.handlers f fs gs e r clean refl last same

  more_closes : (v : Val) (hs : List Handler) (f : Framed) (fs gs zs : List Framed) → true ≡ clean_of (f ∷ fs) → hs ≡ f.frame.handlers →
      left_from hs fs ≡ Some (false, gs) → Asks (closing v) (asked.Nothing (did.Over ending.Stuck)) (at h tr l s n (f ∷ fs))
      (at h tr l s n zs)
  more_closes v (k ∷ ks) f fs gs zs clean is last = absurd (cc)
  more_closes v [] f [] gs zs clean is last = let not : true ≡ false = ap last_in last in absurd (cc)
  more_closes v [] f (g ∷ fs) gs zs clean is last =
      asks_nothing _ (sticks (closing v) (f ∷ g ∷ fs) zs (λ a w x. close_at h tr l s n v [] f (g ∷ fs) a w x clean is))

  pub close_more : (v : Val) (fs gs zs : List Framed) → fs ≢ [] → true ≡ clean_of fs → left fs ≡ Some (false, gs) →
      Asks (closing v) (asked.Nothing (did.Over ending.Stuck)) (at h tr l s n fs) (at h tr l s n zs)
  close_more v [] gs zs some clean last = absurd (some refl)
  close_more v (f ∷ fs) gs zs some clean last = more_closes v f.frame.handlers f fs gs zs clean refl last

-- the end of a deferred block

ltn_same : (n k : ℕ) → ltn n k ≡ nat_lt n k
ltn_same n zero = grind (arith, nat_tests)
ltn_same zero (suc k) = grind (arith, nat_tests)
ltn_same (suc n) (suc k) = let same : nat_lt n k ≡ nat_lt (suc n) (suc k) = grind (arith, nat_tests) in ltn_same n k ∙ same

noted_length : (ns : List ℕ) → length (map note_of ns) ≡ length ns
noted_length [] = refl
noted_length (n ∷ ns) = ap suc (noted_length ns)

kept_is : (born : ℕ) (hs : List Handler) (ms : List Memory) → m.kept_noted (handlers_with born hs ms) ≡ kept_noted hs
kept_is born [] ms = refl
kept_is born (h ∷ hs) ms = noted_length h.noted

abbrev place_in : Option (ℕ × List Framed) → ℕ
place_in None = 0
place_in (Some x) = x.0

abbrev frames_in : Option (ℕ × List Framed) → List Framed
frames_in None = []
frames_in (Some x) = x.1

-- what follows where the note has been taken off
abbrev pub back : ℕ → Doing
back q w x s f fs = on_note (note_of q) (λ q. m.goes w x s s f.life f.locals f.stack q f.handlers fs)
    (clears_frames (λ s. cleared x.ups x.pre x.post x.trees s) w x s (f ∷ fs))

module _ (h : Kept) (tr : Trace) (l s n : ℕ) where
  -- the test, and then the notes
  end_at : (c : Code) (f : Framed) (fs : List Framed) (b : Bool) → nat_lt (kept_noted f.frame.handlers) (length f.frame.noted) ≡ b →
      (a : Aside) (w : Who) (x : World) → done (acts c op.DeferEnd) a w x (at h tr l s n (f ∷ fs)) ≡
      m.only_where b (state_of a (at h tr l s n []))
      (on_noted (map note_of f.frame.noted) (state_of a (at h tr l s n []))
      (λ y ns. on_note y (λ q. m.goes w x (state_of a (at h tr l s n [])) (state_of a (at h tr l s n []))
      (record { born = f.born; defers = f.frame.defers; noted = ns }) f.frame.locals f.frame.stack q
      (frame_with f (memories a.past h.copies tr.marks)).handlers
      (frames_with fs (beyond f.frame.handlers (memories a.past h.copies tr.marks))))
      (clears_frames (λ s. cleared x.ups x.pre x.post x.trees s) w x (state_of a (at h tr l s n []))
      (record (frame_with f (memories a.past h.copies tr.marks))
      { life = record { born = f.born; defers = f.frame.defers; noted = ns } } ∷ frames_with fs
      (beyond f.frame.handlers (memories a.past h.copies tr.marks))))))
  end_at c f fs b e a w x =
      let st = state_of a (at h tr l s n []) in
      let test : ltn (m.kept_noted (handlers_with f.born f.frame.handlers (memories a.past h.copies tr.marks)))
      (length (map note_of f.frame.noted)) ≡ b =
      ltn_same _ _ ∙ (ap (λ k. nat_lt k (length (map note_of f.frame.noted)))
      (kept_is f.born f.frame.handlers (memories a.past h.copies tr.marks)) ∙
      (ap (λ k. nat_lt (kept_noted f.frame.handlers) k) (noted_length f.frame.noted) ∙ e)) in
      ap (λ b. m.only_where b st (on_noted (map note_of f.frame.noted) st
      (λ y ns. on_note y (λ q. m.goes w x st st (record { born = f.born; defers = f.frame.defers; noted = ns }) f.frame.locals
      f.frame.stack q (frame_with f (memories a.past h.copies tr.marks)).handlers
      (frames_with fs (beyond f.frame.handlers (memories a.past h.copies tr.marks))))
      (clears_frames (λ s. cleared x.ups x.pre x.post x.trees s) w x st
      (record (frame_with f (memories a.past h.copies tr.marks))
      { life = record { born = f.born; defers = f.frame.defers; noted = ns } } ∷ frames_with fs
      (beyond f.frame.handlers (memories a.past h.copies tr.marks))))))) test

module _ {h : Kept} {tr : Trace} {l s n : ℕ} where
  none_from : (c : Code) (b : Bool) (ns : List ℕ) (f : Framed) (fs gs : List Framed) →
      nat_lt (kept_noted f.frame.handlers) (length f.frame.noted) ≡ b → ns ≡ f.frame.noted → cond b (ended_from ns f fs) None ≡ None →
      Comes (acts c op.DeferEnd) (did.Over ending.Stuck) (at h tr l s n (f ∷ fs)) (at h tr l s n gs)
  none_from c false ns f fs gs test is e = sticks (acts c op.DeferEnd) (f ∷ fs) gs (λ a w x. end_at h tr l s n c f fs false test a w x)
  none_from c true (y ∷ ns) f fs gs test is e = absurd (cc)
  none_from c true [] f fs gs test is e =
      sticks (acts c op.DeferEnd) (f ∷ fs) gs (λ a w x. end_at h tr l s n c f fs true test a w x ∙
      ap (λ ns. on_noted (map note_of ns) (state_of a (at h tr l s n []))
      (λ y ns. on_note y (λ q. m.goes w x (state_of a (at h tr l s n [])) (state_of a (at h tr l s n []))
      (record { born = f.born; defers = f.frame.defers; noted = ns }) f.frame.locals f.frame.stack q
      (frame_with f (memories a.past h.copies tr.marks)).handlers
      (frames_with fs (beyond f.frame.handlers (memories a.past h.copies tr.marks))))
      (clears_frames (λ s. cleared x.ups x.pre x.post x.trees s) w x (state_of a (at h tr l s n []))
      (record (frame_with f (memories a.past h.copies tr.marks))
      { life = record { born = f.born; defers = f.frame.defers; noted = ns } } ∷ frames_with fs
      (beyond f.frame.handlers (memories a.past h.copies tr.marks)))))) (sym is))

  pub end_none : (c : Code) (fs gs : List Framed) → ended fs ≡ None →
      Comes (acts c op.DeferEnd) (did.Over ending.Stuck) (at h tr l s n fs) (at h tr l s n gs)
  end_none c [] gs e = sticks (acts c op.DeferEnd) [] gs (λ a w x. refl)
  end_none c (f ∷ fs) gs e = none_from c (nat_lt (kept_noted f.frame.handlers) (length f.frame.noted)) f.frame.noted f fs gs refl refl e

  back_from : (c : Code) (b : Bool) (ns : List ℕ) (f : Framed) (fs gs : List Framed) (q : ℕ) → Ready (at h tr l s n (f ∷ fs)) →
      nat_lt (kept_noted f.frame.handlers) (length f.frame.noted) ≡ b → ns ≡ f.frame.noted →
      cond b (ended_from ns f fs) None ≡ Some (q, gs) → Leads (acts c op.DeferEnd) (at h tr l s n (f ∷ fs)) (back q) (at h tr l s n gs)
  back_from c false ns f fs gs q r test is e = absurd (cc)
  back_from c true [] f fs gs q r test is e = absurd (cc)
  back_from c true (y ∷ ns) f fs gs q r test is e =
      record {
        same = λ a w x past. end_at h tr l s n c f fs true test a w x ∙
            (ap (λ ns. on_noted (map note_of ns) (state_of a (at h tr l s n []))
            (λ y ns. on_note y (λ q. m.goes w x (state_of a (at h tr l s n [])) (state_of a (at h tr l s n []))
            (record { born = f.born; defers = f.frame.defers; noted = ns }) f.frame.locals f.frame.stack q
            (frame_with f (memories a.past h.copies tr.marks)).handlers
            (frames_with fs (beyond f.frame.handlers (memories a.past h.copies tr.marks))))
            (clears_frames (λ s. cleared x.ups x.pre x.post x.trees s) w x (state_of a (at h tr l s n []))
            (record (frame_with f (memories a.past h.copies tr.marks))
            { life = record { born = f.born; defers = f.frame.defers; noted = ns } } ∷ frames_with fs
            (beyond f.frame.handlers (memories a.past h.copies tr.marks)))))) (sym is) ∙
            ap (λ o. done (back (place_in o)) a w x (at h tr l s n (frames_in o))) e);
        past = λ a past. past;
        ready = subst (λ gs. Ready (at h tr l s n gs)) (ap frames_in e)
            (ready_as (frames_in (ended_from (y ∷ ns) f fs)) r refl (λ none. absurd (omega (arith, ap length none))));
        inner = λ lt. let same : f.frame.place ≡ place_of gs = ap (λ o. place_of (frames_in o)) e in omega (arith, lt, same);
      }

  pub end_leads : (c : Code) (fs gs : List Framed) (q : ℕ) → Ready (at h tr l s n fs) → ended fs ≡ Some (q, gs) →
      Leads (acts c op.DeferEnd) (at h tr l s n fs) (back q) (at h tr l s n gs)
  end_leads c [] gs q r e = absurd (r.some refl)
  end_leads c (f ∷ fs) gs q r e = back_from c (nat_lt (kept_noted f.frame.handlers) (length f.frame.noted)) f.frame.noted f fs gs q r refl
      refl e

  pub back_to : (q : ℕ) (fs : List Framed) → Ready (at h tr l s n fs) → (q ≡ 4294967295 → ⊥) →
      Leads (back q) (at h tr l s n fs) (goes_to q) (at h tr l s n fs)
  back_to q [] r other = absurd (r.some refl)
  back_to q (f ∷ fs) r other =
      let note : note_of q ≡ to q = ap (λ b. cond b gone (to q)) (nat_eq_not q 4294967295 other) in
      stays r (λ a w x. ap (λ y. on_note y (λ q. done (goes_to q) a w x (at h tr l s n (f ∷ fs)))
      (done clearing_of a w x (at h tr l s n (f ∷ fs)))) note)

  pub back_clears : (q : ℕ) (fs : List Framed) → Ready (at h tr l s n fs) → q ≡ 4294967295 →
      Asks (back q) asked.Clear (at h tr l s n fs) (at h tr l s n fs)
  back_clears q [] r same = absurd (r.some refl)
  back_clears q (f ∷ fs) r same =
      let note : note_of q ≡ gone = ap note_of same in
      record {
        asks = λ a w x past. ap (λ y. on_note y (λ q. done (goes_to q) a w x (at h tr l s n (f ∷ fs)))
            (done clearing_of a w x (at h tr l s n (f ∷ fs)))) note;
        ready = r;
      }
