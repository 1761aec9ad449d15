-- Jumps, and locals that a loop begins with.
use Rattle.std.proofs.Common.{◌≡◌, ◌≢◌, ℕ, suc, ◌+◌, ◌<◌, ◌≤◌, Bool, true, false, cond, pos, List, [], ◌∷◌, length, refl, sym, ap, subst}
use Rattle.std.proofs.Common.{◌∙◌, arith}
use Rattle.verse_value.specs.Val.{Val, int}
use Rattle.verse_value.specs.Val as val
use Rattle.verse_value.specs.Equality.{val_eq}
use Rattle.verse_value.specs.declared.runs.Ending.TheVariants as ending
use Rattle.verse_meaning_state.specs.State.{State}
use Rattle.verse_code_machine.specs.Tasks.{Who, World, Step, Next, Over, Frame}
use Rattle.verse_code_machine.specs.Frames as m
use Rattle.verse_code_machine.specs.Frames.{on_there}
use Rattle.verse_code_machine.specs.Acts.{on_domain, on_int}
use Rattle.vm_ops.proofs.Equal.{other_is, same_is}
use Rattle.tx_heap.specs.State.{State as Kept}
use Rattle.trace_buf.specs.Trace.{Trace}
use Rattle.vm_frames.specs.Framed.{Framed}
use Rattle.vm_frames.specs.Calls.{permits, moved, with_local}
use Rattle.vm_frames.specs.Machine.{frame_with, frames_with, beyond}
use Rattle.vm_running.specs.declared.runners.Did.{Did}
use Rattle.vm_running.specs.declared.runners.Did.TheVariants as did
use Rattle.vm_running.specs.Views.{View, Aside, Ready, state_of, memories}
use Rattle.vm_running.specs.Doings.{Doing, going, goes_to, goes_on, where_fits, spends, putting}
use Rattle.vm_running.specs.Comes.{done, Ends, Comes, Leads}
use Rattle.vm_running.proofs.Steps.{at, stays, sticks, fits_in, fits_none, ready_as, comes_by, moves, nowhere}
use Rattle.vm_exec_loops.specs.Domains.{is_domain, is_int}

-- to the label where the two differ
abbrev pub compares : ℕ → Val → Val → Doing
compares label a b w x s f fs = m.goes w x s s f.life f.locals f.stack (cond (val_eq a b) (suc f.place) label) f.handlers fs

-- into the local and the next, where the value is of some kind
abbrev pub each_of : ℕ → Val → Doing
each_of l v w x s f fs = on_domain v s (putting l v (putting (suc l) (int (pos 0)) goes_on) w x s f fs)

abbrev pub range_of : ℕ → Val → Val → Doing
range_of l a b w x s f fs = on_int a s (on_int b s (putting l a (putting (suc l) b goes_on) w x s f fs))

on_domain_at : (v : Val) (s : State) (q : Step) → on_domain v s q ≡ m.only_where (is_domain v) s q
on_domain_at val.unit s q = refl
on_domain_at val.falsity s q = refl
on_domain_at val.truth s q = refl
on_domain_at (val.int n) s q = refl
on_domain_at (val.char c) s q = refl
on_domain_at (val.enum a b) s q = refl
on_domain_at (val.object c) s q = refl
on_domain_at (val.event c) s q = refl
on_domain_at (val.task c) s q = refl
on_domain_at (val.some v) s q = refl
on_domain_at (val.array vs) s q = refl
on_domain_at (val.mapping ps) s q = refl
on_domain_at (val.tuple vs) s q = refl

on_int_at : (v : Val) (s : State) (q : Step) → on_int v s q ≡ m.only_where (is_int v) s q
on_int_at val.unit s q = refl
on_int_at val.falsity s q = refl
on_int_at val.truth s q = refl
on_int_at (val.int n) s q = refl
on_int_at (val.char c) s q = refl
on_int_at (val.enum a b) s q = refl
on_int_at (val.object c) s q = refl
on_int_at (val.event c) s q = refl
on_int_at (val.task c) s q = refl
on_int_at (val.some v) s q = refl
on_int_at (val.array vs) s q = refl
on_int_at (val.mapping ps) s q = refl
on_int_at (val.tuple vs) s q = refl

module _ (h : Kept) (tr : Trace) (l s n : ℕ) where
  range_at : (i : ℕ) (u v : Val) (f : Framed) (fs : List Framed) (a : Aside) (w : Who) (x : World) →
      done (range_of i u v) a w x (at h tr l s n (f ∷ fs)) ≡ m.only_where (is_int u) (state_of a (at h tr l s n (f ∷ fs)))
      (m.only_where (is_int v) (state_of a (at h tr l s n (f ∷ fs)))
      (done (putting i u (putting (suc i) v goes_on)) a w x (at h tr l s n (f ∷ fs))))
  range_at i u v f fs a w x =
      let st = state_of a (at h tr l s n (f ∷ fs)) in
      let go = done (putting i u (putting (suc i) v goes_on)) a w x (at h tr l s n (f ∷ fs)) in
      on_int_at u st (on_int v st go) ∙ ap (λ q. m.only_where (is_int u) st q) (on_int_at v st go)

module _ {h : Kept} {tr : Trace} {l s n : ℕ} where
  pub equal_leads : (label : ℕ) (a b : Val) (fs : List Framed) → Ready (at h tr l s n fs) → a ≡ b →
      Leads (compares label a b) (at h tr l s n fs) goes_on (at h tr l s n fs)
  equal_leads label a b [] r e = absurd (r.some refl)
  equal_leads label a b (f ∷ fs) r e =
      stays r (λ y w x. ap (λ t. m.goes w x (state_of y (at h tr l s n (f ∷ fs))) (state_of y (at h tr l s n (f ∷ fs)))
      (frame_with f (memories y.past h.copies tr.marks)).life f.frame.locals f.frame.stack (cond t (suc f.frame.place) label)
      (frame_with f (memories y.past h.copies tr.marks)).handlers
      (frames_with fs (beyond f.frame.handlers (memories y.past h.copies tr.marks)))) (same_is a b e))

  pub unequal_leads : (label : ℕ) (a b : Val) (fs : List Framed) → Ready (at h tr l s n fs) → (a ≡ b → ⊥) →
      Leads (compares label a b) (at h tr l s n fs) (goes_to label) (at h tr l s n fs)
  unequal_leads label a b [] r e = absurd (r.some refl)
  unequal_leads label a b (f ∷ fs) r e =
      stays r (λ y w x. ap (λ t. m.goes w x (state_of y (at h tr l s n (f ∷ fs))) (state_of y (at h tr l s n (f ∷ fs)))
      (frame_with f (memories y.past h.copies tr.marks)).life f.frame.locals f.frame.stack (cond t (suc f.frame.place) label)
      (frame_with f (memories y.past h.copies tr.marks)).handlers
      (frames_with fs (beyond f.frame.handlers (memories y.past h.copies tr.marks)))) (other_is a b e))

  -- the frame moves, and then the step is spent

  pub spends_barred : (q : ℕ) (fs gs : List Framed) → permits q fs ≡ false →
      Comes (where_fits q (spends (moves q))) (did.Over ending.Stuck) (at h tr l s n fs) (at h tr l s n gs)
  spends_barred q fs gs e = fits_none (spends (moves q)) q fs gs e

  pub each_leads : (i : ℕ) (v : Val) (fs : List Framed) → Ready (at h tr l s n fs) → is_domain v ≡ true →
      Leads (each_of i v) (at h tr l s n fs) (putting i v (putting (suc i) (int (pos 0)) goes_on)) (at h tr l s n fs)
  each_leads i v [] r e = absurd (r.some refl)
  each_leads i v (f ∷ fs) r e =
      stays r (λ a w x. on_domain_at v (state_of a (at h tr l s n (f ∷ fs)))
      (done (putting i v (putting (suc i) (int (pos 0)) goes_on)) a w x (at h tr l s n (f ∷ fs))) ∙
      ap (λ b. m.only_where b (state_of a (at h tr l s n (f ∷ fs)))
      (done (putting i v (putting (suc i) (int (pos 0)) goes_on)) a w x (at h tr l s n (f ∷ fs)))) e)

  pub each_none : (i : ℕ) (v : Val) (fs gs : List Framed) → is_domain v ≡ false →
      Comes (each_of i v) (did.Over ending.Stuck) (at h tr l s n fs) (at h tr l s n gs)
  each_none i v [] gs e = sticks (each_of i v) [] gs (λ a w x. refl)
  each_none i v (f ∷ fs) gs e =
      sticks (each_of i v) (f ∷ fs) gs (λ a w x.
      on_domain_at v (state_of a (at h tr l s n (f ∷ fs)))
      (done (putting i v (putting (suc i) (int (pos 0)) goes_on)) a w x (at h tr l s n (f ∷ fs))) ∙
      ap (λ b. m.only_where b (state_of a (at h tr l s n (f ∷ fs)))
      (done (putting i v (putting (suc i) (int (pos 0)) goes_on)) a w x (at h tr l s n (f ∷ fs)))) e)

  pub range_leads : (i : ℕ) (u v : Val) (fs : List Framed) → Ready (at h tr l s n fs) → is_int u ≡ true → is_int v ≡ true →
      Leads (range_of i u v) (at h tr l s n fs) (putting i u (putting (suc i) v goes_on)) (at h tr l s n fs)
  range_leads i u v [] r e d = absurd (r.some refl)
  range_leads i u v (f ∷ fs) r e d =
      stays r (λ a w x. range_at h tr l s n i u v f fs a w x ∙
      (ap (λ b. m.only_where b (state_of a (at h tr l s n (f ∷ fs)))
      (m.only_where (is_int v) (state_of a (at h tr l s n (f ∷ fs)))
      (done (putting i u (putting (suc i) v goes_on)) a w x (at h tr l s n (f ∷ fs))))) e ∙
      ap (λ b. m.only_where b (state_of a (at h tr l s n (f ∷ fs)))
      (done (putting i u (putting (suc i) v goes_on)) a w x (at h tr l s n (f ∷ fs)))) d))

  pub range_first : (i : ℕ) (u v : Val) (fs gs : List Framed) → is_int u ≡ false →
      Comes (range_of i u v) (did.Over ending.Stuck) (at h tr l s n fs) (at h tr l s n gs)
  range_first i u v [] gs e = sticks (range_of i u v) [] gs (λ a w x. refl)
  range_first i u v (f ∷ fs) gs e =
      sticks (range_of i u v) (f ∷ fs) gs (λ a w x. range_at h tr l s n i u v f fs a w x ∙
      ap (λ b. m.only_where b (state_of a (at h tr l s n (f ∷ fs)))
      (m.only_where (is_int v) (state_of a (at h tr l s n (f ∷ fs)))
      (done (putting i u (putting (suc i) v goes_on)) a w x (at h tr l s n (f ∷ fs))))) e)

  pub range_second : (i : ℕ) (u v : Val) (fs gs : List Framed) → is_int v ≡ false →
      Comes (range_of i u v) (did.Over ending.Stuck) (at h tr l s n fs) (at h tr l s n gs)
  range_second i u v [] gs e = sticks (range_of i u v) [] gs (λ a w x. refl)
  range_second i u v (f ∷ fs) gs e =
      sticks (range_of i u v) (f ∷ fs) gs (λ a w x. range_at h tr l s n i u v f fs a w x ∙
      (ap (λ b. m.only_where (is_int u) (state_of a (at h tr l s n (f ∷ fs)))
      (m.only_where b (state_of a (at h tr l s n (f ∷ fs)))
      (done (putting i u (putting (suc i) v goes_on)) a w x (at h tr l s n (f ∷ fs))))) e ∙
      nowhere (is_int u) (state_of a (at h tr l s n (f ∷ fs)))))

pub false_apart : (b : Bool) (u v : Val) → b ≡ false → (u ≡ v → b ≡ true) → u ≡ v → ⊥
false_apart true u v e same is = absurd (cc)
false_apart false u v e same is = absurd (let so = same is in cc)

-- the next local

pub past_next : (k i : ℕ) → k ≤ i + 1 → k ≤ suc i
past_next k i le = omega (arith, le)

pub within_next : (k i : ℕ) → i + 1 < k → suc i < k
within_next k i lt = omega (arith, lt)

pub put_next : (i : ℕ) (v : Val) (fs gs : List Framed) → gs ≡ with_local (i + 1) v fs → gs ≡ with_local (suc i) v fs
put_next i v fs gs e = let next : i + 1 ≡ suc i = omega arith in e ∙ ap (λ k. with_local k v fs) next
