-- How an operation leaves a task from which something is asked.
use Rattle.std.proofs.Common.{◌≡◌, ◌≢◌, ℕ, zero, suc, Bool, true, Option, Some, None, List, [], ◌∷◌, length, map, refl, sym, ap, subst, ◌∙◌}
use Rattle.std.proofs.Common.{arith}
use Rattle.verse_value.specs.Val.{Val}
use Rattle.verse_code_machine.specs.Frames.{nothing}
use Rattle.fiber.specs.Frames.{Handler}
use Rattle.vm_frames.specs.Framed.{Framed, born_of, defers_of, noted_of}
use Rattle.vm_frames.specs.Machine.{note_of, life_of}
use Rattle.vm_frames.specs.Calls.{pushed, with_stack, popped_from, popped, many_of, with_many, popped_many, left_from, left, moved}
use Rattle.vm_running.specs.Operands.{two_from, popped_two}
use Rattle.tx_heap.specs.State.{State as Kept}
use Rattle.trace_buf.specs.Trace.{Trace}
use Rattle.vm_running.specs.Views.{View}
use Rattle.vm_running.proofs.Steps.{at}
use Rattle.vm_exec_tasks.specs.declared.asked.Ended.{Ended}
use Rattle.vm_exec_tasks.specs.Asking.{IsFree}
use Rattle.vm_exec_tasks.specs.Leaving.{Like, Still, Settles, Returns}

abbrev clean_of : List Framed → Bool
clean_of fs = nothing (life_of 0 (defers_of fs) (noted_of fs)).defers (life_of 0 (defers_of fs) (noted_of fs)).noted

abbrev rest_in : {A : Type 0} → Option (A × List Framed) → List Framed
rest_in None = []
rest_in (Some x) = x.1

filled : (f : Framed) (fs : List Framed) → f ∷ fs ≢ []
filled f fs none = absurd (omega (arith, ap length none))

alike : (fs : List Framed) → Like fs fs
alike fs = record { births = refl; some = λ some. some; free = λ free. free }

pub like_by : {fs gs zs : List Framed} → Like fs gs → Like gs zs → Like fs zs
like_by a b = record { births = b.births ∙ a.births; some = λ some. b.some (a.some some); free = λ free. b.free (a.free free) }

like_with : (st : List Val) (f : Framed) (fs gs : List Framed) → with_stack st f fs ≡ gs → Like (f ∷ fs) gs
like_with st f fs gs e = subst (λ z. Like (f ∷ fs) z) e (record { births = refl; some = λ some. filled _ fs; free = λ free. free })

like_one : (st : List Val) (v : Val) (f : Framed) (fs gs : List Framed) → popped_from st f fs ≡ Some (v, gs) → Like (f ∷ fs) gs
like_one [] v f fs gs e = absurd (cc)
like_one (u ∷ st) v f fs gs e = like_with st f fs gs (ap rest_in e)

pub like_popped : (v : Val) (fs gs : List Framed) → popped fs ≡ Some (v, gs) → Like fs gs
like_popped v [] gs e = absurd (cc)
like_popped v (f ∷ fs) gs e = like_one f.frame.stack v f fs gs e

like_both : (st : List Val) (u v : Val) (f : Framed) (fs gs : List Framed) → two_from st f fs ≡ Some ((u, v), gs) → Like (f ∷ fs) gs
like_both [] u v f fs gs e = absurd (cc)
like_both (b ∷ []) u v f fs gs e = absurd (cc)
like_both (b ∷ a ∷ st) u v f fs gs e = like_with st f fs gs (ap rest_in e)

pub like_two : (u v : Val) (fs gs : List Framed) → popped_two fs ≡ Some ((u, v), gs) → Like fs gs
like_two u v [] gs e = absurd (cc)
like_two u v (f ∷ fs) gs e = like_both f.frame.stack u v f fs gs e

like_from : (k : ℕ) (st us vs : List Val) (f : Framed) (fs gs : List Framed) → with_many (many_of k st us) f fs ≡ Some (vs, gs) →
    Like (f ∷ fs) gs
like_from zero st us vs f fs gs e = like_with st f fs gs (ap rest_in e)
like_from (suc k) [] us vs f fs gs e = absurd (cc)
like_from (suc k) (u ∷ st) us vs f fs gs e = like_from k st (u ∷ us) vs f fs gs e

pub like_many : (k : ℕ) (vs : List Val) (fs gs : List Framed) → popped_many k [] fs ≡ Some (vs, gs) → Like fs gs
like_many k vs [] gs e = absurd (cc)
like_many k vs (f ∷ fs) gs e = like_from k f.frame.stack [] vs f fs gs e

pub like_pushed : (v : Val) (fs gs : List Framed) → gs ≡ pushed v fs → Like fs gs
like_pushed v [] gs e = subst (λ z. Like [] z) (sym e) (alike [])
like_pushed v (f ∷ fs) gs e = subst (λ z. Like (f ∷ fs) z) (sym e)
    (record { births = refl; some = λ some. filled _ fs; free = λ free. free })

pub like_moved : (q : ℕ) (fs gs : List Framed) → gs ≡ moved q fs → Like fs gs
like_moved q [] gs e = subst (λ z. Like [] z) (sym e) (alike [])
like_moved q (f ∷ fs) gs e = subst (λ z. Like (f ∷ fs) z) (sym e)
    (record { births = refl; some = λ some. filled _ fs; free = λ free. free })

pub settles : (v u : View) → Still v u → Like v.frames u.frames → IsFree v.frames → Settles v u
settles v u still like free = record { still = still; was = free; free = like.free free; births = like.births }

-- where the store is as it was
pub still_by : {h i : Kept} {lines : Trace} {l s n : ℕ} {gs : List Framed} → i ≡ h → at i lines l s n gs ≡ at h lines l s n gs
still_by {lines = lines} {l = l} {s = s} {n = n} {gs = gs} e = ap (λ h. at h lines l s n gs) e

-- the top frame goes

none_noted : (ds ns : List ℕ) → true ≡ nothing ds (map note_of ns) → ns ≡ []
none_noted [] [] e = refl
none_noted [] (n ∷ ns) e = absurd (cc)
none_noted (d ∷ ds) ns e = absurd (cc)

no_handlers : (hs : List Handler) (fs gs : List Framed) (b : Bool) → left_from hs fs ≡ Some (b, gs) → (hs ≡ []) × (fs ≡ gs)
no_handlers (h ∷ hs) fs gs b e = absurd (cc)
no_handlers [] [] gs b e = (refl, ap rest_in e)
no_handlers [] (f ∷ fs) gs b e = (refl, ap rest_in e)

abbrev top_clean : Framed → Bool
top_clean f = nothing f.frame.defers (map note_of f.frame.noted)

returns_top : (v u : View) (e : Ended) (b : Bool) (f : Framed) (fs : List Framed) → Still v u → v.frames ≡ f ∷ fs → true ≡ top_clean f →
    left_from f.frame.handlers fs ≡ Some (b, u.frames) → f.born ≡ e.born → Returns e v u
returns_top v u e b f fs still is clean gone born =
    let none = no_handlers f.frame.handlers fs u.frames b gone in
    record {
      still = still;
      top = f;
      is = is ∙ ap (λ z. f ∷ z) none.1;
      born = born;
      bare = none.0;
      clean = none_noted f.frame.defers f.frame.noted clean;
    }

returns_from : (v u : View) (e : Ended) (x : Val) (b : Bool) (st : List Val) (f : Framed) (fs gs : List Framed) → Still v u →
    v.frames ≡ f ∷ fs → popped_from st f fs ≡ Some (x, gs) → true ≡ clean_of gs → left gs ≡ Some (b, u.frames) → e.born ≡ born_of gs →
    Returns e v u
returns_from v u e x b [] f fs gs still is popped clean gone born = absurd (cc)
returns_from v u e x b (y ∷ st) f fs gs still is popped clean gone born =
    let to : with_stack st f fs ≡ gs = ap rest_in popped in
    returns_top v u e b f fs still is (subst (λ z. true ≡ clean_of z) (sym to) clean)
    (subst (λ z. left z ≡ Some (b, u.frames)) (sym to) gone) (subst (λ z. born_of z ≡ e.born) (sym to) (sym born))

returns_of : (v u : View) (e : Ended) (x : Val) (b : Bool) (zs gs : List Framed) → Still v u → v.frames ≡ zs → popped zs ≡ Some (x, gs) →
    true ≡ clean_of gs → left gs ≡ Some (b, u.frames) → e.born ≡ born_of gs → Returns e v u
returns_of v u e x b [] gs still is popped clean gone born = absurd (cc)
returns_of v u e x b (f ∷ fs) gs still is popped clean gone born =
    returns_from v u e x b f.frame.stack f fs gs still is popped clean gone born

pub returns : (v u : View) (e : Ended) (x : Val) (b : Bool) (gs : List Framed) → Still v u → popped v.frames ≡ Some (x, gs) →
    true ≡ clean_of gs → left gs ≡ Some (b, u.frames) → e.born ≡ born_of gs → Returns e v u
returns v u e x b gs still popped clean gone born = returns_of v u e x b v.frames gs still refl popped clean gone born
