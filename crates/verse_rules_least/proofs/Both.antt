-- The less of two least faults is the least of both.
use Rattle.std.proofs.Common.{◌≡◌, ℕ, ◌<◌, ◌≤◌, ◌⊎◌, List, Bool, true, false, cond, ◌&&◌, Option, refl, ◌∙◌, arith, nat_eq}
use Rattle.std.specs.Prelude.{Some, None, nat_lt, nat_le}
use Rattle.std.proofs.lemmas.Bool.Decides.{nat_tests}
use mathlib.Core.Logic.{inl, inr}
use Rattle.verse_rules_least.specs.declared.faults.Fault.{Fault}
use Rattle.verse_rules_least.specs.Least.{Reaches, Told, Broken}
use Rattle.verse_rules_least.specs.Both.{is_before, less_of, Leads}

-- what a fault reaches, and what that one reaches in its turn
onward : (f g : Fault) (n c : ℕ) → Reaches f g.node g.rule.0 → Reaches g n c → Reaches f n c
onward f g n c (inl a) (inl b) = inl (omega arith)
onward f g n c (inl a) (inr b) = let h = b.0 in inl (omega arith)
onward f g n c (inr a) (inl b) = let h = a.0 in inl (omega arith)
onward f g n c (inr a) (inr b) = inr (a.0 ∙ b.0, omega (arith, a.1, b.1))

parts_before : (a b c d : ℕ) → cond (nat_lt a b) true (nat_eq a b && nat_le c d) ≡ true → (a < b) ⊎ ((a ≡ b) × (c ≤ d))
parts_before a b c d e = grind (arith, nat_tests)

parts_after : (a b c d : ℕ) → cond (nat_lt a b) true (nat_eq a b && nat_le c d) ≡ false → (b < a) ⊎ ((b ≡ a) × (d ≤ c))
parts_after a b c d e = grind (arith, nat_tests)

module _ (P Q : ℕ → ℕ → Type 0) where
  -- of two least faults the less is the least of what either is the least of, and none means none
  pub lead_both : (o p : Option Fault) → Leads P o → Leads Q p → Leads (λ n c. P n c ⊎ Q n c) (less_of o p)
  lead_both None None h k = none
    where
      none : (n c : ℕ) → P n c ⊎ Q n c → ⊥
      none n c (inl a) = h n c a
      none n c (inr b) = k n c b
  lead_both None (Some g) h k = (inr k.0, least)
    where
      least : (n c : ℕ) → P n c ⊎ Q n c → Reaches g n c
      least n c (inl a) = absurd (h n c a)
      least n c (inr b) = k.1 n c b
  lead_both (Some f) None h k = (inl h.0, least)
    where
      least : (n c : ℕ) → P n c ⊎ Q n c → Reaches f n c
      least n c (inl a) = h.1 n c a
      least n c (inr b) = absurd (k n c b)
  lead_both (Some f) (Some g) h k = by (is_before f g) refl
    where
      by : (b : Bool) → is_before f g ≡ b → Leads (λ n c. P n c ⊎ Q n c) (Some (cond b f g))
      by true e = (inl h.0, least)
        where
          least : (n c : ℕ) → P n c ⊎ Q n c → Reaches f n c
          least n c (inl a) = h.1 n c a
          least n c (inr b) = onward f g n c (parts_before f.node g.node f.rule.0 g.rule.0 e) (k.1 n c b)
      by false e = (inr k.0, least)
        where
          least : (n c : ℕ) → P n c ⊎ Q n c → Reaches g n c
          least n c (inl a) = onward g f n c (parts_after f.node g.node f.rule.0 g.rule.0 e) (h.1 n c a)
          least n c (inr b) = k.1 n c b

-- the fault that a pass tells leads what is broken in it
pub leads : {N S : Type 0} (number : N → ℕ) (step : N → S → S) (Breaks : N → S → ℕ → Type 0) (vs : List N) (s : S) (o : Option Fault) →
    Told number step Breaks vs s o → Leads (Broken number step Breaks vs s) o
leads number step Breaks vs s None h = h
leads number step Breaks vs s (Some f) h = (h.broken, h.least)
