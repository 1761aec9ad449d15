-- Which codes the rules of a pass have.
use Rattle.std.proofs.Common.{ℕ, Bool, true, List, [], ◌∷◌}
use Rattle.verse_rules_least.specs.Least.{Broken, here, later, Holds, this, other}

-- each rule of a table has a code of this kind
abbrev pub AllCodes : (ℕ → Type 0) → List (ℕ × Bool) → Type 0
AllCodes P [] = Unit {0}
AllCodes P (r ∷ rs) = P r.0 × AllCodes P rs

module _ (P : ℕ → Type 0) where
  pub held_code : (rs : List (ℕ × Bool)) (c : ℕ) → AllCodes P rs → Holds rs c → P c
  held_code [] c a h = elim h [ ]
  held_code (r ∷ rs) c a this = a.0
  held_code (r ∷ rs) c a (other h) = held_code rs c a.1 h

  module _ {N S : Type 0} (number : N → ℕ) (step : N → S → S) (Breaks : N → S → ℕ → Type 0) (each : (v : N) (s : S) (c : ℕ) → Breaks v s c →
      P c) where
    pub broken_code : (vs : List N) (s : S) (n c : ℕ) → Broken number step Breaks vs s n c → P c
    broken_code [] s n c b = elim b [ ]
    broken_code (v ∷ vs) s n c (here b) = each v s c b
    broken_code (v ∷ vs) s n c (later b) = broken_code vs (step v s) n c b
