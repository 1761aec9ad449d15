-- Deferred blocks.
use Rattle.std.proofs.Common.{◌≡◌, ◌≢◌, ℕ, suc, ◌+◌, ◌<◌, ◌≤◌, Bool, true, false, not, cond, Option, Some, None, List, []}
use Rattle.std.proofs.Common.{◌∷◌, length, map, refl, sym, ap, subst, ◌∙◌, arith}
use Rattle.verse_base.proofs.Facts.{nat_eq_not}
use Rattle.verse_code.specs.declared.codes.Code.{Code}
use Rattle.verse_code.specs.declared.operations.Op.TheVariants as op
use Rattle.verse_value.specs.declared.runs.Ending.TheVariants as ending
use Rattle.verse_meaning_state.specs.State.{Memory, spending}
use Rattle.verse_meaning_state.specs.Waits.{ltn}
use Rattle.verse_meaning_state.proofs.Numbers.{ltn_yes, ltn_no}
use Rattle.verse_code_machine.specs.Tasks.{Note, to, gone, Who, World, Step, Next, Over, machine}
use Rattle.verse_code_machine.specs.Frames as m
use Rattle.verse_code_machine.specs.Acts.{leaves}
use Rattle.tx_heap.specs.State.{State as Kept}
use Rattle.trace_buf.specs.Trace.{Trace}
use Rattle.fiber.specs.Frames.{Handler, kept_defers}
use Rattle.vm_frames.specs.Framed.{Framed, place_of, defers_of, handlers_of}
use Rattle.vm_frames.specs.Calls.{permits, moved, deferred, taken_from, taken}
use Rattle.vm_frames.specs.Machine.{note_of, life_of, frame_with, frames_with, handlers_with, beyond}
use Rattle.vm_running.specs.declared.runners.Did.{Did}
use Rattle.vm_running.specs.declared.runners.Did.TheVariants as did
use Rattle.vm_running.specs.Views.{View, Aside, Ready, state_of, memories}
use Rattle.vm_running.specs.Doings.{Doing, going, acts, goes_to, goes_on, where_fits, spends}
use Rattle.vm_running.specs.Comes.{done, Ends, Comes, Leads}
use Rattle.vm_running.proofs.Steps.{at, stays, sticks, fits_in, ready_as, comes_by, moves, nowhere}

kept_is : (born : ℕ) (hs : List Handler) (ms : List Memory) → m.kept_defers (handlers_with born hs ms) ≡ kept_defers hs
kept_is born [] ms = refl
kept_is born (h ∷ hs) ms = refl

pub noted_place : (n : ℕ) → n < 4294967295 → note_of n ≡ to n
noted_place n lt = ap (λ b. cond b gone (to n)) (nat_eq_not n 4294967295 (λ e. absurd (omega (arith, lt, e))))

abbrev block_in : Option (ℕ × List Framed) → ℕ
block_in None = 0
block_in (Some x) = x.0

abbrev rest_in : Option (ℕ × List Framed) → List Framed
rest_in None = []
rest_in (Some x) = x.1

taken_inner : (ds : List ℕ) (f : Framed) (fs gs : List Framed) (q : ℕ) → taken_from f.frame.place ds f fs ≡ Some (q, gs) →
    f.frame.place < 4294967295 → place_of gs < 4294967295
taken_inner [] f fs gs q e lt = absurd (cc)
taken_inner (d ∷ ds) f fs gs q e lt = let same : f.frame.place ≡ place_of gs = ap (λ o. place_of (rest_in o)) e in omega (arith, lt, same)

module _ (h : Kept) (tr : Trace) (l s n : ℕ) where
  leave_at : (c : Code) (k : ℕ) (f : Framed) (fs : List Framed) (a : Aside) (w : Who) (x : World) (few kept more : Bool) →
      ltn (length f.frame.defers) k ≡ few → ltn k (kept_defers f.frame.handlers) ≡ kept → ltn k (length f.frame.defers) ≡ more →
      done (acts c (op.Leave k)) a w x (at h tr l s n (f ∷ fs)) ≡ m.only_where (not few) (state_of a (at h tr l s n (f ∷ fs)))
      (m.only_where (not kept) (state_of a (at h tr l s n (f ∷ fs)))
      (leaves more w x (state_of a (at h tr l s n (f ∷ fs))) (frame_with f (memories a.past h.copies tr.marks)).life f.frame.locals
      f.frame.stack f.frame.place (frame_with f (memories a.past h.copies tr.marks)).handlers
      (frames_with fs (beyond f.frame.handlers (memories a.past h.copies tr.marks)))))
  leave_at c k f fs a w x few kept more e1 e2 e3 =
      let st = state_of a (at h tr l s n (f ∷ fs)) in
      let g = frame_with f (memories a.past h.copies tr.marks) in
      let bl = frames_with fs (beyond f.frame.handlers (memories a.past h.copies tr.marks)) in
      let two : ltn k (m.kept_defers g.handlers) ≡ kept = ap (ltn k) (kept_is f.born f.frame.handlers (memories a.past h.copies tr.marks)) ∙
      e2 in
      ap (λ b. m.only_where (not b) st (m.only_where (not (ltn k (m.kept_defers g.handlers))) st
      (leaves (ltn k (length f.frame.defers)) w x st g.life f.frame.locals f.frame.stack f.frame.place g.handlers bl))) e1 ∙
      (ap (λ b. m.only_where (not few) st (m.only_where (not b) st
      (leaves (ltn k (length f.frame.defers)) w x st g.life f.frame.locals f.frame.stack f.frame.place g.handlers bl))) two ∙
      ap (λ b. m.only_where (not few) st (m.only_where (not kept) st
      (leaves b w x st g.life f.frame.locals f.frame.stack f.frame.place g.handlers bl))) e3)

module _ (h : Kept) (tr : Trace) (l s n : ℕ) where
  taken_at : (c : Code) (k : ℕ) (ds : List ℕ) (f : Framed) (fs gs : List Framed) (q : ℕ) → Ready (at h tr l s n (f ∷ fs)) →
      f.frame.place < 4294967295 → taken_from f.frame.place ds f fs ≡ Some (q, gs) → (done_as : (a : Aside) (w : Who) (x : World) → Step) →
      ((a : Aside) (w : Who) (x : World) → done_as a w x ≡ leaves true w x (state_of a (at h tr l s n (f ∷ fs)))
      (life_of f.born ds f.frame.noted) f.frame.locals f.frame.stack f.frame.place
      (frame_with f (memories a.past h.copies tr.marks)).handlers
      (frames_with fs (beyond f.frame.handlers (memories a.past h.copies tr.marks)))) → (a : Aside) (w : Who) (x : World) →
      done_as a w x ≡ done (where_fits q (spends (moves q))) a w x (at h tr l s n gs)
  taken_at c k [] f fs gs q r inner e done_as is a w x = absurd (cc)
  taken_at c k (d ∷ ds) f fs gs q r inner e done_as is a w x =
      let st = state_of a (at h tr l s n (f ∷ fs)) in
      let g = frame_with f (memories a.past h.copies tr.marks) in
      let bl = frames_with fs (beyond f.frame.handlers (memories a.past h.copies tr.marks)) in
      is a w x ∙ (ap (λ note. m.only_where (m.fits g.handlers d) st
      (spending l st (Over ending.Steps st) (λ u.
      Next (machine w x u (record { born = f.born; defers = ds; noted = note ∷ map note_of f.frame.noted }) f.frame.locals f.frame.stack
      d g.handlers bl)))) (sym (noted_place f.frame.place inner)) ∙
      ap (λ o. done (where_fits (block_in o) (spends (moves (block_in o)))) a w x (at h tr l s n (rest_in o))) e)

module _ {h : Kept} {tr : Trace} {l s n : ℕ} where
  pub ready_deferred : (q : ℕ) (fs gs : List Framed) → Ready (at h tr l s n fs) → gs ≡ deferred q fs → Ready (at h tr l s n gs)
  ready_deferred q [] gs r e = absurd (r.some refl)
  ready_deferred q (f ∷ fs) gs r e = rw e (ready_as (deferred q (f ∷ fs)) r refl (λ none. absurd (omega (arith, ap length none))))

  pub defer_leads : (c : Code) (label q : ℕ) (fs gs : List Framed) → Ready (at h tr l s n fs) → q ≡ place_of fs + 1 → gs ≡ deferred q fs →
      Leads (acts c (op.Defer label)) (at h tr l s n fs) (goes_to label) (at h tr l s n gs)
  defer_leads c label q [] gs r next e = absurd (r.some refl)
  defer_leads c label q (f ∷ fs) gs r next e =
      let one : q ≡ suc f.frame.place = omega (arith, next) in
      rw (e, one) (record {
        same = λ a w x past. refl;
        past = λ a past. past;
        ready = ready_as (deferred (suc f.frame.place) (f ∷ fs)) r refl (λ none. absurd (omega (arith, ap length none)));
        inner = λ lt. lt;
      })

  -- the tests of Leave, one after the other
  pub leave_few : (c : Code) (k : ℕ) (fs gs : List Framed) → length (defers_of fs) < k →
      Comes (acts c (op.Leave k)) (did.Over ending.Stuck) (at h tr l s n fs) (at h tr l s n gs)
  leave_few c k [] gs lt = sticks (acts c (op.Leave k)) [] gs (λ a w x. refl)
  leave_few c k (f ∷ fs) gs lt =
      sticks (acts c (op.Leave k)) (f ∷ fs) gs
      (λ a w x. leave_at h tr l s n c k f fs a w x true _ _ (ltn_yes (length f.frame.defers) k lt) refl refl)

  pub leave_kept : (c : Code) (k : ℕ) (fs gs : List Framed) → k < kept_defers (handlers_of fs) →
      Comes (acts c (op.Leave k)) (did.Over ending.Stuck) (at h tr l s n fs) (at h tr l s n gs)
  leave_kept c k [] gs lt = sticks (acts c (op.Leave k)) [] gs (λ a w x. refl)
  leave_kept c k (f ∷ fs) gs lt =
      sticks (acts c (op.Leave k)) (f ∷ fs) gs
      (λ a w x. leave_at h tr l s n c k f fs a w x (ltn (length f.frame.defers) k) true (ltn k (length f.frame.defers)) refl
      (ltn_yes k (kept_defers f.frame.handlers) lt) refl ∙
      nowhere (not (ltn (length f.frame.defers) k)) (state_of a (at h tr l s n (f ∷ fs))))

  pub leave_done : (c : Code) (k : ℕ) (fs : List Framed) → Ready (at h tr l s n fs) → length (defers_of fs) ≡ k →
      kept_defers (handlers_of fs) ≤ k → Leads (acts c (op.Leave k)) (at h tr l s n fs) goes_on (at h tr l s n fs)
  leave_done c k [] r e le = absurd (r.some refl)
  leave_done c k (f ∷ fs) r e le =
      stays r (λ a w x. leave_at h tr l s n c k f fs a w x false false false (ltn_no (length f.frame.defers) k (omega (arith, e)))
      (ltn_no k (kept_defers f.frame.handlers) le) (ltn_no k (length f.frame.defers) (omega (arith, e))))

  taken_ready : (ds : List ℕ) (f : Framed) (fs gs : List Framed) (q : ℕ) → Ready (at h tr l s n (f ∷ fs)) →
      taken_from f.frame.place ds f fs ≡ Some (q, gs) → Ready (at h tr l s n gs)
  taken_ready [] f fs gs q r e = absurd (cc)
  taken_ready (d ∷ ds) f fs gs q r e =
      let is : rest_in (taken_from f.frame.place (d ∷ ds) f fs) ≡ gs = ap rest_in e in
      rw (← is) (ready_as (rest_in (taken_from f.frame.place (d ∷ ds) f fs)) r refl (λ none. absurd (omega (arith, ap length none))))

  pub ready_taken : (q : ℕ) (fs gs : List Framed) → Ready (at h tr l s n fs) → taken (place_of fs) fs ≡ Some (q, gs) →
      Ready (at h tr l s n gs)
  ready_taken q [] gs r e = absurd (r.some refl)
  ready_taken q (f ∷ fs) gs r e = taken_ready f.frame.defers f fs gs q r e

  pub leave_more : (c : Code) (k q : ℕ) (fs gs : List Framed) → Ready (at h tr l s n fs) → place_of fs < 4294967295 →
      k < length (defers_of fs) → kept_defers (handlers_of fs) ≤ k → taken (place_of fs) fs ≡ Some (q, gs) →
      Leads (acts c (op.Leave k)) (at h tr l s n fs) (where_fits q (spends (moves q))) (at h tr l s n gs)
  leave_more c k q [] gs r inner lt le e = absurd (r.some refl)
  leave_more c k q (f ∷ fs) gs r inner lt le e =
      record {
        same = λ a w x past. taken_at h tr l s n c k f.frame.defers f fs gs q r inner e
            (λ a w x. done (acts c (op.Leave k)) a w x (at h tr l s n (f ∷ fs)))
            (λ a w x. leave_at h tr l s n c k f fs a w x false false true (ltn_no (length f.frame.defers) k (omega (arith, lt)))
            (ltn_no k (kept_defers f.frame.handlers) le) (ltn_yes k (length f.frame.defers) lt)) a w x;
        past = λ a past. past;
        ready = taken_ready f.frame.defers f fs gs q r e;
        inner = λ lt. taken_inner f.frame.defers f fs gs q e lt;
      }
