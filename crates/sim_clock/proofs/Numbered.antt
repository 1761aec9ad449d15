-- Waits kept under their numbers, as a list and by look-ups.
use Rattle.std.proofs.Common.{◌≡◌, ℕ, eqb, ◌<◌, inl, inr, Bool, true, false, cond, if◌then◌else◌, List, [], ◌∷◌, ◌++◌, Some, None}
use Rattle.std.proofs.Common.{refl, sym, ap, subst, ◌∙◌, arith}
use mathlib.Core.Bool.{false≢true}
use Rattle.std.specs.Cmp.{nat_cmp_is}
use Rattle.std.specs.Ordering.{nat_cmp, is_eq}
use Rattle.std.specs.declared.cmp.Ordering.TheVariants.{Greater}
use Rattle.std.specs.BTreeMap.{is_at, insert_entry}
use Rattle.std.specs.Map.{lookup, remove_entry, values_of}
use Rattle.std.proofs.lemmas.Option.{none-some, same_Some}
use Rattle.std.proofs.lemmas.Bool.{cases_Bool}
use Rattle.sim_clock.specs.declared.waits.WaitKind.{WaitKind}
use Rattle.sim_clock.specs.declared.waits.WaitKind.TheVariants.{At, Never, Task, Event}
use Rattle.sim_clock.specs.declared.waits.Pending.{Pending}
use Rattle.sim_clock.specs.Pending.{IsAboveAll, removed, given}
use Rattle.sim_clock.specs.Indexed.{AllKept, IsGiven}
use Rattle.sim_clock.proofs.Pair.{number_tied}

number_above : (n k : ℕ) → k < n → nat_cmp n k ≡ Greater
number_above n k h = sym (nat_cmp_is n k Greater h)

-- the greatest number comes last
pub entries_pushed : (es : List (ℕ × Pending)) (n : ℕ) (p : Pending) → AllKept es → IsAboveAll n (values_of es) →
    insert_entry nat_cmp es n p ≡ es ++ (n, p) ∷ []
entries_pushed [] n p kept above = refl
entries_pushed (e ∷ es) n p kept above =
    let below : e.0 < n = omega (arith, kept.0, above.0) in
    rw (number_above n e.0 below) (ap (λ xs. e ∷ xs) (entries_pushed es n p kept.2 above.1))

-- a number above all is not there
pub absent_above : (es : List (ℕ × Pending)) (n : ℕ) → AllKept es → IsAboveAll n (values_of es) → lookup (is_at (nat_cmp n)) es ≡ None
absent_above [] n kept above = refl
absent_above (e ∷ es) n kept above =
    let below : e.0 < n = omega (arith, kept.0, above.0) in
    rw (number_above n e.0 below) (absent_above es n kept.2 above.1)

pub kept_pushed : (es : List (ℕ × Pending)) (n : ℕ) (p : Pending) → AllKept es → p.wait.number ≡ n → IsGiven p.wait.kind p.wake →
    AllKept (es ++ (n, p) ∷ [])
kept_pushed [] n p kept number given = (number, given, tt)
kept_pushed (e ∷ es) n p kept number given = (kept.0, kept.1, kept_pushed es n p kept.2 number given)

pub values_pushed : (es : List (ℕ × Pending)) (n : ℕ) (p : Pending) → values_of (es ++ (n, p) ∷ []) ≡ values_of es ++ p ∷ []
values_pushed [] n p = refl
values_pushed (e ∷ es) n p = ap (λ ps. e.1 ∷ ps) (values_pushed es n p)

pub values_removed : (es : List (ℕ × Pending)) (n : ℕ) → AllKept es →
    values_of (remove_entry (is_at (nat_cmp n)) es) ≡ removed n (values_of es)
values_removed [] n kept = refl
values_removed (e ∷ es) n kept =
    either (is_eq (nat_cmp n e.0)) (eqb e.1.wait.number n) (number_tied n e.0 ∙ ap (λ k. eqb k n) (sym kept.0)) (values_removed es n kept.2)
  where
    either : (b c : Bool) → b ≡ c → values_of (remove_entry (is_at (nat_cmp n)) es) ≡ removed n (values_of es) →
        values_of (cond b es (e ∷ remove_entry (is_at (nat_cmp n)) es)) ≡ (if c then values_of es else e.1 ∷ removed n (values_of es))
    either true true same rest = refl
    either false false same rest = ap (λ ps. e.1 ∷ ps) rest
    either true false same rest = absurd (false≢true (sym same))
    either false true same rest = absurd (false≢true same)

pub kept_removed : (es : List (ℕ × Pending)) (test : ℕ → Bool) → AllKept es → AllKept (remove_entry test es)
kept_removed [] test kept = tt
kept_removed (e ∷ es) test kept = either (test e.0) (kept_removed es test kept.2)
  where
    either : (b : Bool) → AllKept (remove_entry test es) → AllKept (cond b es (e ∷ remove_entry test es))
    either true rest = kept.2
    either false rest = (kept.0, kept.1, rest)

-- a wait that is found is kept
pub kept_found : (es : List (ℕ × Pending)) (test : ℕ → Bool) (p : Pending) → AllKept es → lookup test es ≡ Some p →
    (test p.wait.number ≡ true) × IsGiven p.wait.kind p.wake
kept_found [] test p kept found = absurd (none-some p found)
kept_found (e ∷ es) test p kept found = elim (cases_Bool (test e.0)) [
  | inl here ↦
      let same : e.1 ≡ p = same_Some _ _ (rw here at found) in
      let number : e.0 ≡ p.wait.number = sym kept.0 ∙ ap (λ (q : Pending). q.wait.number) same in
      (ap test (sym number) ∙ here, subst (λ (q : Pending). IsGiven q.wait.kind q.wake) same kept.1)
  | inr there ↦ kept_found es test p kept.2 (rw there at found)
]

pub given_is : (kind : WaitKind) → IsGiven kind (given kind)
given_is (At moment) = refl
given_is Never = refl
given_is (Task task) = tt
given_is (Event cell) = tt
