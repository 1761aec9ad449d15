-- Many operands that are taken off one after another.
use Rattle.std.proofs.Common.{◌≡◌, ◌≢◌, ℕ, zero, suc, ◌+◌, ◌-◌, ◌<◌, ◌≤◌, Option, Some, None, List, [], ◌∷◌, ◌++◌, length, map, reverse}
use Rattle.std.proofs.Common.{refl, sym, ap, ◌∙◌, arith}
use Rattle.std.proofs.lemmas.List.{reverse-append}
use Rattle.verse_value.specs.Val.{Val}
use Rattle.verse_value.specs.View.{val_of, vals_of}
use Rattle.verse_value.specs.declared.values.Value.{Value}
use Rattle.vm_frames.specs.Framed.{Framed}
use Rattle.vm_frames.specs.Calls.{with_stack, popped_from, popped, many_of, with_many, popped_many}

abbrev val_in : Val → Option (Val × List Framed) → Val
val_in v None = v
val_in v (Some x) = x.0

abbrev rest_in : Option (Val × List Framed) → List Framed
rest_in None = []
rest_in (Some x) = x.1

same_many : (t : Option (List Val × List Val)) (st : List Val) (f : Framed) (fs : List Framed) →
    with_many t f fs ≡ with_many t (record f { frame = record f.frame { stack = st } }) fs
same_many None st f fs = refl
same_many (Some t) st f fs = refl

more_from : (st : List Val) (n : ℕ) (vs : List Val) (f : Framed) (fs gs : List Framed) (v : Val) → popped_from st f fs ≡ Some (v, gs) →
    with_many (many_of (suc n) st vs) f fs ≡ popped_many n (v ∷ vs) gs
more_from [] n vs f fs gs v e = absurd (cc)
more_from (w ∷ st) n vs f fs gs v e = same_many (many_of n st (w ∷ vs)) st f fs ∙ ap (λ o. popped_many n (val_in w o ∷ vs) (rest_in o)) e

more_popped : (n : ℕ) (vs : List Val) (fs gs : List Framed) (v : Val) → popped fs ≡ Some (v, gs) →
    popped_many (suc n) vs fs ≡ popped_many n (v ∷ vs) gs
more_popped n vs [] gs v e = absurd (cc)
more_popped n vs (f ∷ fs) gs v e = more_from f.frame.stack n vs f fs gs v e

none_from : (st : List Val) (n : ℕ) (vs : List Val) (f : Framed) (fs : List Framed) → popped_from st f fs ≡ None →
    with_many (many_of (suc n) st vs) f fs ≡ None
none_from [] n vs f fs e = refl
none_from (w ∷ st) n vs f fs e = absurd (cc)

none_popped : (n : ℕ) (vs : List Val) (fs : List Framed) → popped fs ≡ None → popped_many (suc n) vs fs ≡ None
none_popped n vs [] e = refl
none_popped n vs (f ∷ fs) e = none_from f.frame.stack n vs f fs e

some_from : (st : List Val) (f : Framed) (fs gs : List Framed) (v : Val) → popped_from st f fs ≡ Some (v, gs) → gs ≢ []
some_from [] f fs gs v e = absurd (cc)
some_from (w ∷ st) f fs gs v e = λ none. absurd (omega (arith, ap length none, ap (λ o. length (rest_in o)) e))

pub still_some : (fs gs : List Framed) (v : Val) → popped fs ≡ Some (v, gs) → gs ≢ []
still_some [] gs v e = absurd (cc)
still_some (f ∷ fs) gs v e = some_from f.frame.stack f fs gs v e

-- so many operands are to be taken off, of which these are taken already, the last one last
pub one_more : (count i : ℕ) (xs : List Value) (x : Value) (fs gs : List Framed) (r : Option (List Val × List Framed)) → i < count →
    popped fs ≡ Some (val_of x, gs) → popped_many (count - i) (vals_of (reverse xs)) fs ≡ r →
    popped_many (count - (i + 1)) (vals_of (reverse (xs ++ x ∷ []))) gs ≡ r
one_more count i xs x fs gs r lt e so_far =
    let next : count - i ≡ suc (count - (i + 1)) = omega arith in
    let more : popped_many (suc (count - (i + 1))) (vals_of (reverse xs)) fs ≡ r = rw next at so_far in
    rw (reverse-append xs (x ∷ [])) (sym (more_popped (count - (i + 1)) (vals_of (reverse xs)) fs gs (val_of x) e) ∙ more)

pub too_few : (count i : ℕ) (vs : List Val) (fs : List Framed) (r : Option (List Val × List Framed)) → i < count → popped fs ≡ None →
    popped_many (count - i) vs fs ≡ r → r ≡ None
too_few count i vs fs r lt e so_far =
    let next : count - i ≡ suc (count - (i + 1)) = omega arith in
    let more : popped_many (suc (count - (i + 1))) vs fs ≡ r = rw next at so_far in
    sym more ∙ none_popped (count - (i + 1)) vs fs e
