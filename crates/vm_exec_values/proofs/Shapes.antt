-- What an operation on values comes to, by its shape.
use Rattle.std.proofs.Common.{◌≡◌, ◌≢◌, ℕ, zero, suc, ◌<◌, Bool, true, false, Result, Ok, Err, IfOk, IfSome, IfNone, Option, Some, None}
use Rattle.std.proofs.Common.{List, [], ◌∷◌, length, set, slice_get, if◌then◌else◌, refl, sym, ap, subst, ◌∙◌, arith, length-set}
use Rattle.verse_base.specs.declared.places.Place.{Place}
use Rattle.verse_base.specs.declared.refusals.Kind.{Kind}
use Rattle.verse_value.specs.Val.{Val}
use Rattle.verse_value.specs.Val as val
use Rattle.verse_value.specs.Operations.{append_of, sized}
use Rattle.verse_value.specs.Parts.{joined}
use Rattle.verse_value.specs.Sizes.{fits}
use Rattle.verse_base.specs.declared.refusals.Kind.TheVariants as kind
use Rattle.verse_value.specs.Answer.{Answer, gives, fails, error, stuck}
use Rattle.verse_value.specs.declared.values.Value.{Value}
use Rattle.verse_value.specs.declared.runs.Ending.TheVariants as ending
use Rattle.tx_heap.specs.State.{State as Kept}
use Rattle.trace_buf.specs.Trace.{Trace}
use Rattle.vm_ops.specs.Answers.{IsAnswer, IsAnswerOrMemory}
use Rattle.vm_ops.specs.declared.faults.OpFault.{OpFault}
use Rattle.vm_ops.specs.declared.faults.OpFault.TheVariants as fault
use Rattle.vm_frames.specs.Framed.{Framed, place_of, locals_of}
use Rattle.vm_frames.specs.Calls.{popped, popped_many, with_local}
use Rattle.vm_running.specs.declared.runners.Did.{Did}
use Rattle.vm_running.specs.declared.runners.Did.TheVariants as did
use Rattle.vm_running.specs.Views.{View, Ready}
use Rattle.vm_running.specs.Doings.{Doing, answers, answers_to, raises, popping, popping_two, popping_many, pushes, goes_on, putting}
use Rattle.vm_running.specs.Doings as doing
use Rattle.vm_running.specs.Operands.{popped_two}
use Rattle.vm_running.specs.Comes.{Comes, Leads}
use Rattle.vm_running.proofs.Steps.{at, sticks, ok_by, pop_leads, pop_none, two_leads, two_none, many_leads, many_none, put_leads}
use Rattle.vm_running.proofs.Steps.{local_leads, ready_as}

-- a call that takes no memory answers as one that does

pub widened : (a : Answer Val) (r : Result Value OpFault) → IsAnswer a r → IsAnswerOrMemory a r
widened a (Ok v) is = is
widened a (Err fault.Fail) is = is
widened a (Err (fault.Fault k)) is = is
widened a (Err fault.Stuck) is = is
widened a (Err fault.Memory) is = tt

abbrev pub on_one : (Val → Answer Val) → Option Place → Doing
on_one f p = popping (λ a. answers p (f a))

abbrev pub on_two : (Val → Val → Answer Val) → Option Place → Doing
on_two f p = popping_two (λ a b. answers p (f a b))

abbrev pub on_many : ℕ → (List Val → Answer Val) → Option Place → Doing
on_many n f p = popping_many n (λ vs. answers p (f vs))

module _ {h : Kept} {tr : Trace} {l s n : ℕ} where
  pub one_stuck : (f : Val → Answer Val) (p : Option Place) (fs gs : List Framed) → popped fs ≡ None →
      Comes (on_one f p) (did.Over ending.Stuck) (at h tr l s n fs) (at h tr l s n gs)
  one_stuck f p fs gs e = pop_none (λ a. answers p (f a)) fs gs e

  pub one_ready : (v : Val) (fs gs : List Framed) → Ready (at h tr l s n fs) → popped fs ≡ Some (v, gs) → Ready (at h tr l s n gs)
  one_ready v fs gs r e = (pop_leads (λ a. goes_on) fs gs v r e).ready

  pub one_inner : (v : Val) (fs gs : List Framed) → Ready (at h tr l s n fs) → popped fs ≡ Some (v, gs) → place_of fs < 4294967295 →
      place_of gs < 4294967295
  one_inner v fs gs r e = (pop_leads (λ a. goes_on) fs gs v r e).inner

  pub one_comes : {E : Type 0} (f : Val → Answer Val) (p : Option Place) (r : Result Did E) (z : View) (v : Val) (fs gs : List Framed) →
      Ready (at h tr l s n fs) → popped fs ≡ Some (v, gs) → IfOk r (λ d. Comes (answers p (f v)) d (at h tr l s n gs) z) →
      IfOk r (λ d. Comes (on_one f p) d (at h tr l s n fs) z)
  one_comes f p r z v fs gs ready e comes = ok_by r z (pop_leads (λ a. answers p (f a)) fs gs v ready e) comes

  pub two_stuck : (f : Val → Val → Answer Val) (p : Option Place) (fs gs : List Framed) → popped_two fs ≡ None →
      Comes (on_two f p) (did.Over ending.Stuck) (at h tr l s n fs) (at h tr l s n gs)
  two_stuck f p fs gs e = two_none (λ a b. answers p (f a b)) fs gs e

  pub two_ready : (u v : Val) (fs gs : List Framed) → Ready (at h tr l s n fs) → popped_two fs ≡ Some ((u, v), gs) →
      Ready (at h tr l s n gs)
  two_ready u v fs gs r e = (two_leads (λ a b. goes_on) fs gs u v r e).ready

  pub two_inner : (u v : Val) (fs gs : List Framed) → Ready (at h tr l s n fs) → popped_two fs ≡ Some ((u, v), gs) →
      place_of fs < 4294967295 → place_of gs < 4294967295
  two_inner u v fs gs r e = (two_leads (λ a b. goes_on) fs gs u v r e).inner

  pub two_comes : {E : Type 0} (f : Val → Val → Answer Val) (p : Option Place) (r : Result Did E) (z : View) (u v : Val)
      (fs gs : List Framed) → Ready (at h tr l s n fs) → popped_two fs ≡ Some ((u, v), gs) →
      IfOk r (λ d. Comes (answers p (f u v)) d (at h tr l s n gs) z) → IfOk r (λ d. Comes (on_two f p) d (at h tr l s n fs) z)
  two_comes f p r z u v fs gs ready e comes = ok_by r z (two_leads (λ a b. answers p (f a b)) fs gs u v ready e) comes

  pub many_stuck : (k : ℕ) (f : List Val → Answer Val) (p : Option Place) (fs gs : List Framed) → popped_many k [] fs ≡ None →
      Comes (on_many k f p) (did.Over ending.Stuck) (at h tr l s n fs) (at h tr l s n gs)
  many_stuck k f p fs gs e = many_none (λ vs. answers p (f vs)) k k fs gs refl e

  pub many_ready : (k : ℕ) (vs : List Val) (fs gs : List Framed) → Ready (at h tr l s n fs) → popped_many k [] fs ≡ Some (vs, gs) →
      Ready (at h tr l s n gs)
  many_ready k vs fs gs r e = (many_leads (λ vs. goes_on) k fs gs vs r e).ready

  pub many_inner : (k : ℕ) (vs : List Val) (fs gs : List Framed) → Ready (at h tr l s n fs) → popped_many k [] fs ≡ Some (vs, gs) →
      place_of fs < 4294967295 → place_of gs < 4294967295
  many_inner k vs fs gs r e = (many_leads (λ vs. goes_on) k fs gs vs r e).inner

  pub many_comes : {E : Type 0} (k : ℕ) (f : List Val → Answer Val) (p : Option Place) (r : Result Did E) (z : View) (vs : List Val)
      (fs gs : List Framed) → Ready (at h tr l s n fs) → popped_many k [] fs ≡ Some (vs, gs) →
      IfOk r (λ d. Comes (answers p (f vs)) d (at h tr l s n gs) z) → IfOk r (λ d. Comes (on_many k f p) d (at h tr l s n fs) z)
  many_comes k f p r z vs fs gs ready e comes = ok_by r z (many_leads (λ vs. answers p (f vs)) k fs gs vs ready e) comes

-- an array that grows

sized_not_fails : (v : Val) → sized v ≢ fails
sized_not_fails v = go (fits v) where
  go : (b : Bool) → (if b then gives v else error kind.Size) ≢ fails
  go true e = absurd (cc)
  go false e = absurd (cc)

pub append_not_fails : (a v : Val) → append_of a v ≢ fails
append_not_fails val.unit v e = absurd (cc)
append_not_fails val.falsity v e = absurd (cc)
append_not_fails val.truth v e = absurd (cc)
append_not_fails (val.int n) v e = absurd (cc)
append_not_fails (val.char k) v e = absurd (cc)
append_not_fails (val.enum a b) v e = absurd (cc)
append_not_fails (val.object d) v e = absurd (cc)
append_not_fails (val.event d) v e = absurd (cc)
append_not_fails (val.task d) v e = absurd (cc)
append_not_fails (val.some w) v e = absurd (cc)
append_not_fails (val.array vs) v e = sized_not_fails (val.array (joined vs (val.more_vals v val.no_vals))) e
append_not_fails (val.mapping ps) v e = absurd (cc)
append_not_fails (val.tuple vs) v e = absurd (cc)

set_twice : (vs : List Val) (i : ℕ) (u w : Val) → set (set vs i u) i w ≡ set vs i w
set_twice [] i u w = refl
set_twice (v ∷ vs) zero u w = refl
set_twice (v ∷ vs) (suc i) u w = ap (λ ws. v ∷ ws) (set_twice vs i u w)

set_back : (vs : List Val) (i : ℕ) (u w : Val) → slice_get vs i ≡ Some w → set (set vs i u) i w ≡ vs
set_back [] i u w e = refl
set_back (v ∷ vs) zero u w e = cc
set_back (v ∷ vs) (suc i) u w e = ap (λ ws. v ∷ ws) (set_back vs i u w e)

pub local_back : (i : ℕ) (u w : Val) (fs gs : List Framed) → slice_get (locals_of fs) i ≡ Some w → gs ≡ with_local i u fs →
    with_local i w gs ≡ fs
local_back i u w [] gs there e = rw e refl
local_back i u w (f ∷ fs) gs there e = rw e
    (ap (λ ls. record f { frame = record f.frame { locals = ls } } ∷ fs) (set_back f.frame.locals i u w there))

local_twice : (i : ℕ) (u w : Val) (fs : List Framed) → with_local i w (with_local i u fs) ≡ with_local i w fs
local_twice i u w [] = refl
local_twice i u w (f ∷ fs) = ap (λ ls. record f { frame = record f.frame { locals = ls } } ∷ fs) (set_twice f.frame.locals i u w)

local_length : (i : ℕ) (u : Val) (fs : List Framed) → length (locals_of (with_local i u fs)) ≡ length (locals_of fs)
local_length i u [] = refl
local_length i u (f ∷ fs) = length-set f.frame.locals i u

module _ {h : Kept} {tr : Trace} {l s n : ℕ} where
  pub ready_holding : (i : ℕ) (w : Val) (fs : List Framed) → Ready (at h tr l s n fs) → Ready (at h tr l s n (with_local i w fs))
  ready_holding i w [] r = absurd (r.some refl)
  ready_holding i w (f ∷ fs) r = ready_as (with_local i w (f ∷ fs)) r refl (λ none. absurd (omega (arith, ap length none)))

  pub settles_gives : (p : Option Place) (i : ℕ) (a : Answer Val) (v w : Val) (fs gs : List Framed) → Ready (at h tr l s n fs) →
      a ≡ gives v → i < length (locals_of fs) → gs ≡ with_local i v fs →
      Leads (answers_to p i a) (at h tr l s n (with_local i w fs)) goes_on (at h tr l s n gs)
  settles_gives p i a v w [] gs r is there e = absurd (r.some refl)
  settles_gives p i a v w (f ∷ fs) gs r is there e =
      rw is (put_leads goes_on i v (with_local i w (f ∷ fs)) gs (ready_holding i w (f ∷ fs) r)
      (subst (λ k. i < k) (sym (local_length i w (f ∷ fs))) there) (e ∙ sym (local_twice i w v (f ∷ fs))))

  pub settles_error : (p : Option Place) (i : ℕ) (a : Answer Val) (k : Kind) (w : Val) (d : Did) (fs : List Framed) (z : View) →
      a ≡ error k → Comes (raises p k) d (at h tr l s n fs) z → Comes (answers_to p i a) d (at h tr l s n (with_local i w fs)) z
  settles_error p i a k w d [] z is comes = rw is (record { ends = comes.ends; ready = comes.ready })
  settles_error p i a k w d (f ∷ fs) z is comes = rw is (record { ends = comes.ends; ready = comes.ready })

  pub settles_stuck : (p : Option Place) (i : ℕ) (a : Answer Val) (w : Val) (fs gs : List Framed) → a ≡ stuck →
      Comes (answers_to p i a) (did.Over ending.Stuck) (at h tr l s n (with_local i w fs)) (at h tr l s n gs)
  settles_stuck p i a w [] gs is = rw is (sticks (answers_to p i stuck) [] gs (λ a w x. refl))
  settles_stuck p i a w (f ∷ fs) gs is = rw is (sticks (answers_to p i stuck) (with_local i w (f ∷ fs)) gs (λ a w x. refl))

pub pushed_as : {E : Type 0} (r : Result Did E) (u v : Val) (y z : View) → u ≡ v → IfOk r (λ d. Comes (pushes u) d y z) →
    IfOk r (λ d. Comes (pushes v) d y z)
pushed_as r u v y z e comes = rw (← e) comes

-- what is known of what a call handed out

module _ {h : Kept} {tr : Trace} {l s n : ℕ} where
  pub append_ok : {E : Type 0} (p : Option Place) (i : ℕ) (v w : Val) (r : Result Did E) (z : View) (fs gs hs : List Framed) →
      Ready (at h tr l s n fs) → popped fs ≡ Some (v, gs) → slice_get (locals_of gs) i ≡ Some w → hs ≡ with_local i val.unit gs →
      IfOk r (λ d. Comes (answers_to p i (append_of w v)) d (at h tr l s n (with_local i w hs)) z) →
      IfOk r (λ d. Comes (popping (λ v. doing.with_local i (λ a. answers_to p i (append_of a v)))) d (at h tr l s n fs) z)
  append_ok p i v w r z fs gs hs ready taken there emptied comes =
      let lead = pop_leads (λ v. doing.with_local i (λ a. answers_to p i (append_of a v))) fs gs v ready taken in
      ok_by r z lead (ok_by r z (local_leads (λ a. answers_to p i (append_of a v)) i w gs lead.ready there)
      (subst (λ gs. IfOk r (λ d. Comes (answers_to p i (append_of w v)) d (at h tr l s n gs) z))
      (local_back i val.unit w gs hs there emptied) comes))
