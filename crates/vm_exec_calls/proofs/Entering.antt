-- A call, step by step.
use Rattle.std.proofs.Common.{◌≡◌, ◌≢◌, ℕ, zero, suc, ◌+◌, ◌-◌, true, false, Result, IfOk, Some, None, List, [], ◌∷◌, ◌++◌, length, refl}
use Rattle.std.proofs.Common.{sym, ap, subst, ◌∙◌, arith}
use Rattle.verse_code.specs.declared.codes.Func.{Func}
use Rattle.verse_code.specs.declared.codes.Code.{Code}
use Rattle.verse_code.specs.declared.operations.Op.TheVariants as op
use Rattle.verse_value.specs.Val.{Val, unit}
use Rattle.verse_value.specs.declared.runs.Ending.TheVariants as ending
use Rattle.verse_meaning_state.specs.State.{State}
use Rattle.verse_code_machine.specs.Tasks.{Who, World, Step, Next, machine, life_from}
use Rattle.verse_code_machine.specs.Frames as m
use Rattle.verse_code_machine.specs.Frames.{on_top, on_many, on_there}
use Rattle.tx_heap.specs.State.{State as Kept}
use Rattle.trace_buf.specs.Trace.{Trace}
use Rattle.fiber.specs.Frames.{fits}
use Rattle.fiber.specs.Calls as fiber
use Rattle.vm_frames.specs.Framed.{Framed, place_of}
use Rattle.vm_frames.specs.Calls.{permits, moved, entered}
use Rattle.vm_frames.specs.Machine.{frame_with, frames_with, beyond}
use Rattle.vm_running.specs.declared.runners.Did.{Did}
use Rattle.vm_running.specs.declared.runners.Did.TheVariants as did
use Rattle.vm_running.specs.Views.{View, Aside, Ready, state_of, memories}
use Rattle.vm_running.specs.Doings.{Doing, acts, spends, popping_many}
use Rattle.vm_running.specs.Comes.{done, Ends, Comes, Leads}
use Rattle.vm_running.proofs.Steps.{at, stays, sticks, fits_in, ready_as, ok_by, many_more}
use Rattle.vm_exec_calls.specs.Calling.{calls, calls_method, chosen_of}

-- a frame begins on the others
abbrev pub opens : Func → List Val → Doing
opens g vs w x s f fs = Next (machine w x s (life_from s.clock.left) (m.locals_of g vs) [] g.entry [] (f ∷ fs))

units_same : (n : ℕ) → m.units n ≡ fiber.units n
units_same zero = refl
units_same (suc n) = ap (λ us. unit ∷ us) (units_same n)

module _ (h : Kept) (tr : Trace) (l s n : ℕ) where
  calls_same : (g : Func) (vs : List Val) (q : ℕ) (f : Framed) (fs gs : List Framed) → q ≡ suc f.frame.place →
      fits f.frame.handlers q ≡ true → gs ≡ moved q (f ∷ fs) → (a : Aside) (w : Who) (x : World) →
      done (calls g vs) a w x (at h tr l s n (f ∷ fs)) ≡ done (spends (opens g vs)) a w x (at h tr l s n gs)
  calls_same g vs q f fs gs one sure e a w x =
      let is : moved (suc f.frame.place) (f ∷ fs) ≡ gs = ap (λ q. moved q (f ∷ fs)) (sym one) ∙ sym e in
      ap (λ b. m.only_where b (state_of a (at h tr l s n (f ∷ fs)))
      (done (spends (opens g vs)) a w x (at h tr l s n (moved (suc f.frame.place) (f ∷ fs)))))
      (fits_in f.born f.frame.handlers (memories a.past h.copies tr.marks) (suc f.frame.place) ∙
      (ap (fits f.frame.handlers) (sym one) ∙ sure)) ∙ ap (λ gs. done (spends (opens g vs)) a w x (at h tr l s n gs)) is

module _ {h : Kept} {tr : Trace} {l s n : ℕ} where
  pub calls_barred : (g : Func) (vs : List Val) (q : ℕ) (fs gs : List Framed) → q ≡ place_of fs + 1 → permits q fs ≡ false →
      Comes (calls g vs) (did.Over ending.Stuck) (at h tr l s n fs) (at h tr l s n gs)
  calls_barred g vs q [] gs next barred = sticks (calls g vs) [] gs (λ a w x. refl)
  calls_barred g vs q (f ∷ fs) gs next barred =
      let one : q ≡ suc f.frame.place = omega (arith, next) in
      sticks (calls g vs) (f ∷ fs) gs (λ a w x.
      ap (λ b. m.only_where b (state_of a (at h tr l s n (f ∷ fs)))
      (done (spends (opens g vs)) a w x (at h tr l s n (moved (suc f.frame.place) (f ∷ fs)))))
      (fits_in f.born f.frame.handlers (memories a.past h.copies tr.marks) (suc f.frame.place) ∙
      (ap (fits f.frame.handlers) (sym one) ∙ barred)))

  pub calls_moved : (g : Func) (vs : List Val) (q : ℕ) (fs gs : List Framed) (r : Did) (z : View) → fs ≢ [] → q ≡ place_of fs + 1 →
      permits q fs ≡ true → gs ≡ moved q fs → Comes (spends (opens g vs)) r (at h tr l s n gs) z → Comes (calls g vs) r (at h tr l s n fs) z
  calls_moved g vs q [] gs r z some next sure e comes = absurd (some refl)
  calls_moved g vs q (f ∷ fs) gs r z some next sure e comes =
      let one : q ≡ suc f.frame.place = omega (arith, next) in
      record {
        ends = λ a w x past. subst (λ q. Ends q r a w x z) (sym (calls_same h tr l s n g vs q f fs gs one sure e a w x))
            (comes.ends a w x past);
        ready = comes.ready;
      }

  pub opens_comes : (g : Func) (vs : List Val) (fs gs : List Framed) → Ready (at h tr l s n fs) → gs ≡ entered l g vs fs →
      Comes (opens g vs) did.On (at h tr l s n fs) (at h tr l s n gs)
  opens_comes g vs [] gs r e = absurd (r.some refl)
  opens_comes g vs (f ∷ fs) gs r e =
      rw e (record {
        ends = λ a w x past. (
          ap (λ us. Next (machine w x (state_of a (at h tr l s n (f ∷ fs))) (life_from l) (vs ++ us) [] g.entry []
              (frames_with (f ∷ fs) (memories a.past h.copies tr.marks)))) (units_same (g.locals - g.params)),
          past,
        );
        ready = ready_as (entered l g vs (f ∷ fs)) r (omega arith) (λ none. absurd (omega (arith, ap length none)));
      })

  pub method_leads : (c : Code) (i k : ℕ) (fs : List Framed) → Ready (at h tr l s n fs) →
      Leads (acts c (op.Method i k)) (at h tr l s n fs) (popping_many (suc k) (calls_method c i k)) (at h tr l s n fs)
  method_leads c i k [] r = absurd (r.some refl)
  method_leads c i k (f ∷ fs) r =
      stays r (λ a w x. many_more k f.frame.stack [] (state_of a (at h tr l s n (f ∷ fs)))
      (λ vs st. calls_method c i k vs w x (state_of a (at h tr l s n (f ∷ fs)))
      (record (frame_with f (memories a.past h.copies tr.marks)) { stack = st })
      (frames_with fs (beyond f.frame.handlers (memories a.past h.copies tr.marks)))))

  pub chosen_leads : (c : Code) (i k : ℕ) (vs : List Val) (g : Func) (fs : List Framed) → Ready (at h tr l s n fs) →
      ((t : State) → t.memory.store ≡ h.cells → Some g ≡ chosen_of c i k vs t) →
      Leads (calls_method c i k vs) (at h tr l s n fs) (calls g vs) (at h tr l s n fs)
  chosen_leads c i k vs g [] r is = absurd (r.some refl)
  chosen_leads c i k vs g (f ∷ fs) r is =
      stays r (λ a w x. ap (λ o. on_there o (state_of a (at h tr l s n (f ∷ fs))) (λ g. done (calls g vs) a w x (at h tr l s n (f ∷ fs))))
      (sym (is (state_of a (at h tr l s n (f ∷ fs))) refl)))

  pub chosen_none : (c : Code) (i k : ℕ) (vs : List Val) (fs gs : List Framed) →
      ((t : State) → t.memory.store ≡ h.cells → None ≡ chosen_of c i k vs t) →
      Comes (calls_method c i k vs) (did.Over ending.Stuck) (at h tr l s n fs) (at h tr l s n gs)
  chosen_none c i k vs [] gs is = sticks (calls_method c i k vs) [] gs (λ a w x. refl)
  chosen_none c i k vs (f ∷ fs) gs is =
      sticks (calls_method c i k vs) (f ∷ fs) gs
      (λ a w x. ap (λ o. on_there o (state_of a (at h tr l s n (f ∷ fs))) (λ g. done (calls g vs) a w x (at h tr l s n (f ∷ fs))))
      (sym (is (state_of a (at h tr l s n (f ∷ fs))) refl)))

  -- where the code has left the store as it was

  pub chosen_ok : {E : Type 0} {i : Kept} (c : Code) (j k : ℕ) (vs : List Val) (g : Func) (r : Result Did E) (z : View) (fs : List Framed) →
      Ready (at h tr l s n fs) → i ≡ h → ((t : State) → t.memory.store ≡ h.cells → Some g ≡ chosen_of c j k vs t) →
      IfOk r (λ d. Comes (calls g vs) d (at i tr l s n fs) z) → IfOk r (λ d. Comes (calls_method c j k vs) d (at h tr l s n fs) z)
  chosen_ok c j k vs g r z fs ready same is comes =
      ok_by r z (chosen_leads c j k vs g fs ready is) (subst (λ i. IfOk r (λ d. Comes (calls g vs) d (at i tr l s n fs) z)) same comes)

  pub chosen_stuck : {i : Kept} (c : Code) (j k : ℕ) (vs : List Val) (fs gs : List Framed) → i ≡ h →
      ((t : State) → t.memory.store ≡ h.cells → None ≡ chosen_of c j k vs t) →
      Comes (calls_method c j k vs) (did.Over ending.Stuck) (at h tr l s n fs) (at i tr l s n gs)
  chosen_stuck c j k vs fs gs same is = subst (λ i. Comes (calls_method c j k vs) (did.Over ending.Stuck) (at h tr l s n fs)
      (at i tr l s n gs)) (sym same) (chosen_none c j k vs fs gs is)
