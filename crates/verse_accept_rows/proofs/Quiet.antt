-- A table of rules of which none is broken, and a pass that breaks none.
use Rattle.std.proofs.Common.{◌≡◌, ℕ, zero, suc, Bool, true, false, cond, List, [], ◌∷◌, Option, refl, sym, subst}
use Rattle.std.specs.Prelude.{Some, None, slice_get}
use Rattle.verse_rules_least.specs.Least.{first_true, Holds, this, other, Broken, here, later}
use Rattle.verse_accept_scopes.specs.Lists.{Each}

none_step : (r : ℕ × Bool) (rs : List (ℕ × Bool)) (q : Bool) → r.1 ≡ q → ((c : ℕ) → Holds (r ∷ rs) c → ⊥) → first_true rs ≡ None →
    first_true (r ∷ rs) ≡ None
none_step r rs true e f h = absurd (f r.0 (subst (λ z. Holds ((r.0, z) ∷ rs) r.0) (sym e) this))
none_step r rs false e f h = rw e h

pub none_true : (rs : List (ℕ × Bool)) → ((c : ℕ) → Holds rs c → ⊥) → first_true rs ≡ None
none_true [] f = refl
none_true (r ∷ rs) f = none_step r rs r.1 refl f (none_true rs (λ c h. f c (other h)))

not_broken : (q : Bool) (c : ℕ) (o : Option ℕ) → cond q (Some c) o ≡ None → (q ≡ false) × (o ≡ None)
not_broken true c o h = cc
not_broken false c o h = (refl, h)

-- so the rule at each place of the table is kept
pub no_rule : (rs : List (ℕ × Bool)) → first_true rs ≡ None → (i : ℕ) (r : ℕ × Bool) → slice_get rs i ≡ Some r → r.1 ≡ false
no_rule [] h i r e = cc
no_rule (x ∷ rs) h zero r e = subst (λ (z : ℕ × Bool). z.1 ≡ false) (same x r e) (not_broken x.1 x.0 (first_true rs) h).0
  where
    same : (x r : ℕ × Bool) → Some x ≡ Some r → x ≡ r
    same x r e = cc
no_rule (x ∷ rs) h (suc i) r e = no_rule rs (not_broken x.1 x.0 (first_true rs) h).1 i r e

pub first_kept : (c : ℕ) (b : Bool) (rs : List (ℕ × Bool)) → first_true ((c, b) ∷ rs) ≡ None → b ≡ false
first_kept c b rs h = (not_broken b c (first_true rs) h).0

pub rest_kept : (c : ℕ) (b : Bool) (rs : List (ℕ × Bool)) → first_true ((c, b) ∷ rs) ≡ None → first_true rs ≡ None
rest_kept c b rs h = (not_broken b c (first_true rs) h).1

-- a pass whose rules ask nothing of its state
pub each_quiet : {N S : Type 0} (number : N → ℕ) (step : N → S → S) (Breaks : N → S → ℕ → Type 0) (vs : List N) (s : S) →
    ((n c : ℕ) → Broken number step Breaks vs s n c → ⊥) → (Q : N → Type 0) →
    ((v : N) (s : S) → ((c : ℕ) → Breaks v s c → ⊥) → Q v) → Each Q vs
each_quiet number step Breaks [] s h Q f = tt
each_quiet number step Breaks (v ∷ vs) s h Q f = (
  f v s (λ c b. h (number v) c (here b)),
  each_quiet number step Breaks vs (step v s) (λ n c b. h n c (later b)) Q f,
)
