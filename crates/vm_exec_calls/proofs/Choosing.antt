-- Which function is called, and that its frame has room for its arguments.
use Rattle.std.proofs.Common.{◌≡◌, ℕ, zero, suc, ◌+◌, ◌≤◌, cond, Option, Some, None, List, [], ◌∷◌, length, slice_get, refl}
use Rattle.std.proofs.Common.{sym, ap, subst, ◌∙◌, arith}
use Rattle.std.proofs.lemmas.Option.{slice_get_within, get_or_from_slice_get}
use Rattle.std.proofs.lemmas.List.Elements.{All-get_or}
use Rattle.verse_code.specs.declared.codes.Func.{Func}
use Rattle.verse_code.specs.declared.codes.Code.{Code}
use Rattle.verse_code.specs.Validity.{Valid, IsFunction}
use Rattle.verse_value.specs.View.{val_of, vals_of}
use Rattle.verse_value.specs.declared.values.Value.{Value}
use Rattle.verse_value.specs.Val.{Val}
use Rattle.verse_meaning_state.specs.State.{State}
use Rattle.verse_meaning_state.specs.Waits.{eqn}
use Rattle.verse_meaning_state.specs.Effects.{class_of}
use Rattle.verse_meaning_state.proofs.Numbers.{eqn_same, eqn_not}
use Rattle.verse_code_machine.specs.Frames.{taking, classed}
use Rattle.vm_frames.specs.Framed.{Framed}
use Rattle.vm_frames.specs.Calls.{many_of, with_many, popped_many}
use Rattle.vm_exec_calls.specs.Calling.{chosen_of}

-- a function of a valid code has room for its arguments
pub room_for : (c : Code) (i : ℕ) (f : Func) → Valid c → slice_get c.functions i ≡ Some f → f.params ≤ f.locals
room_for c i f valid there =
    (subst (IsFunction (length c.ops)) (get_or_from_slice_get c.functions i f f there)
    (All-get_or (IsFunction (length c.ops)) c.functions i f (slice_get_within c.functions i f there) valid.functions)).params

pub takes_yes : (m : ℕ) (f : Func) (o : Option Func) → o ≡ Some f → f.params ≡ m → taking m o ≡ Some f
takes_yes m f o e same = rw e (ap (λ b. cond b (Some f) None) (ap (λ k. eqn k m) same ∙ eqn_same m))

pub takes_no : (m : ℕ) (f : Func) (o : Option Func) → o ≡ Some f → (f.params ≡ m → ⊥) → taking m o ≡ None
takes_no m f o e other = rw e (ap (λ b. cond b (Some f) None) (eqn_not f.params m other))

-- how many were taken off

abbrev vals_in : List Val → Option (List Val × List Framed) → List Val
vals_in vs None = vs
vals_in vs (Some x) = x.0

many_length : (k : ℕ) (st us : List Val) (f : Framed) (fs gs : List Framed) (vs : List Val) →
    with_many (many_of k st us) f fs ≡ Some (vs, gs) → length vs ≡ k + length us
many_length zero st us f fs gs vs e = let same : length us ≡ length vs = ap (λ o. length (vals_in us o)) e in omega (arith, same)
many_length (suc k) [] us f fs gs vs e = absurd (cc)
many_length (suc k) (v ∷ st) us f fs gs vs e = let more = many_length k st (v ∷ us) f fs gs vs e in omega (arith, more)

pub popped_length : (k : ℕ) (fs gs : List Framed) (vs : List Val) → popped_many k [] fs ≡ Some (vs, gs) → length vs ≡ k
popped_length k [] gs vs e = absurd (cc)
popped_length k (f ∷ fs) gs vs e = let more = many_length k f.frame.stack [] f fs gs vs e in omega (arith, more)

vals_length : (xs : List Value) → length (vals_of xs) ≡ length xs
vals_length [] = refl
vals_length (x ∷ xs) = ap suc (vals_length xs)

pub args_length : (k : ℕ) (xs : List Value) (fs gs : List Framed) → popped_many k [] fs ≡ Some (vals_of xs, gs) → length xs ≡ k
args_length k xs fs gs e = sym (vals_length xs) ∙ popped_length k fs gs (vals_of xs) e

-- the method of the first value

pub chosen_yes : (c : Code) (n m : ℕ) (xs : List Value) (x : Value) (class : ℕ) (f : Func) (s : State) → Some x ≡ slice_get xs 0 →
    Some class ≡ class_of (val_of x) s → Some f ≡ classed c n (Some class) → f.params ≡ m + 1 → Some f ≡ chosen_of c n m (vals_of xs) s
chosen_yes c n m [] x class f s e h k p = absurd (cc)
chosen_yes c n m (y ∷ xs) x class f s e h k p =
    let same : x ≡ y = cc in
    sym (takes_yes (suc m) f (classed c n (class_of (val_of y) s)) (ap (λ y. classed c n (class_of (val_of y) s)) (sym same) ∙
    (ap (classed c n) (sym h) ∙ sym k)) (omega (arith, p)))

pub chosen_no : (c : Code) (n m : ℕ) (xs : List Value) (x : Value) (class : ℕ) (f : Func) (s : State) → Some x ≡ slice_get xs 0 →
    Some class ≡ class_of (val_of x) s → Some f ≡ classed c n (Some class) → (f.params ≡ m + 1 → ⊥) → None ≡ chosen_of c n m (vals_of xs) s
chosen_no c n m [] x class f s e h k p = absurd (cc)
chosen_no c n m (y ∷ xs) x class f s e h k p =
    let same : x ≡ y = cc in
    let next : suc m ≡ m + 1 = omega arith in
    sym (takes_no (suc m) f (classed c n (class_of (val_of y) s)) (ap (λ y. classed c n (class_of (val_of y) s)) (sym same) ∙
    (ap (classed c n) (sym h) ∙ sym k)) (λ q. p (q ∙ next)))
