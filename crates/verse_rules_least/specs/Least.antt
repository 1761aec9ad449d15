-- What is broken at the nodes of a list, and which of it is the least, for any kind of node and any
-- state of a pass.
use Rattle.std.specs.Prelude.{◌≡◌, ℕ, ◌<◌, ◌≤◌, ◌⊎◌, List, [], ◌∷◌, Option, Some, None, Bool, true}
use Rattle.std.specs.Prelude.{cond, ◌&&◌, nat_le}
use Rattle.verse_base.specs.declared.places.Place.{Place}
use Rattle.verse_base.specs.declared.refusals.Refusal.{Refusal}
use Rattle.verse_rules_least.specs.declared.faults.Fault.{Fault}

-- a step at each node of a list in turn
abbrev pub each : {N S : Type 0} → (N → S → S) → List N → S → S
each step [] s = s
each step (v ∷ vs) s = each step vs (step v s)

-- the fault at a node that breaks the rule with this code, where it breaks one
abbrev pub fault_at : ℕ → Place → Option ℕ → Option Fault
fault_at n p None = None
fault_at n p (Some c) = Some (record { node = n; rule = record { 0 = c }; place = p })

-- the first of two faults
abbrev pub first : Option Fault → Option Fault → Option Fault
first (Some f) o = Some f
first None o = o

-- how a fault is reported
abbrev pub refusal_of : Fault → Refusal
refusal_of f = record { rule = f.rule; place = f.place }

module _ {N : Type 0} (number : N → ℕ) where
  -- the numbers of the nodes behind a node are above n
  abbrev pub Above : ℕ → List N → Type 0
  Above n [] = Unit {0}
  Above n (v ∷ vs) = (n < number v) × Above n vs

  -- each node's number is below those of the nodes behind it, as in post-order
  abbrev pub InOrder : List N → Type 0
  InOrder [] = Unit {0}
  InOrder (v ∷ vs) = Above (number v) vs × InOrder vs

module _ {N : Type 0} (number : N → ℕ) (place : N → Place) where
  -- a fault has the number and the place of one of the nodes
  abbrev pub StandsAt : List N → Fault → Type 0
  StandsAt [] f = ⊥
  StandsAt (v ∷ vs) f = ((number v ≡ f.node) × (place v ≡ f.place)) ⊎ StandsAt vs f

  -- no fault, or one that stands at one of the nodes
  abbrev pub Placed : List N → Option Fault → Type 0
  Placed vs None = Unit {0}
  Placed vs (Some f) = StandsAt vs f

-- the node n with the rule c is not before the fault
abbrev pub Reaches : Fault → ℕ → ℕ → Type 0
Reaches f n c = (f.node < n) ⊎ ((f.node ≡ n) × (f.rule.0 ≤ c))

-- a pass over nodes: each node makes of what is known before it what is known behind it, and breaks
-- rules by what is known before it
module _ {N S : Type 0} (number : N → ℕ) (step : N → S → S) (Breaks : N → S → ℕ → Type 0) where
  -- one of the nodes has the number n and breaks the rule c, by what is known of the nodes before
  -- it
  pub data Broken : List N → S → ℕ → ℕ → Type 0 where
    here : {v : N} {vs : List N} {s : S} {c : ℕ} → Breaks v s c → Broken (v ∷ vs) s (number v) c
    later : {v : N} {vs : List N} {s : S} {n c : ℕ} → Broken vs (step v s) n c →
        Broken (v ∷ vs) s n c

  -- the rule is broken at the node of a fault, and no other one at a lesser node, or at this one
  -- with a lesser code
  pub record IsLeast (vs : List N) (s : S) (f : Fault) : Type 0 where
    pub broken : Broken vs s f.node f.rule.0
    pub least : (n c : ℕ) → Broken vs s n c → Reaches f n c

  -- no fault, or the least one
  abbrev pub Told : List N → S → Option Fault → Type 0
  Told vs s None = (n c : ℕ) → Broken vs s n c → ⊥
  Told vs s (Some f) = IsLeast vs s f

-- the rules at a node are a table: each with its code, and whether it is broken

-- the code of the first rule that is broken
abbrev pub first_true : List (ℕ × Bool) → Option ℕ
first_true [] = None
first_true (r ∷ rs) = cond r.1 (Some r.0) (first_true rs)

-- a rule with the code c is broken
pub data Holds : List (ℕ × Bool) → ℕ → Type 0 where
  this : {c : ℕ} {rs : List (ℕ × Bool)} → Holds ((c, true) ∷ rs) c
  other : {c : ℕ} {r : ℕ × Bool} {rs : List (ℕ × Bool)} → Holds rs c → Holds (r ∷ rs) c

-- the codes of a table do not fall, and none is below n
abbrev pub ascends_from : ℕ → List (ℕ × Bool) → Bool
ascends_from n [] = true
ascends_from n (r ∷ rs) = nat_le n r.0 && ascends_from r.0 rs

abbrev pub ascends : List (ℕ × Bool) → Bool
ascends = ascends_from 0

-- what a test says of a node: the least code that it breaks, or that it breaks none
abbrev pub Finds : (ℕ → Type 0) → Option ℕ → Type 0
Finds P None = (d : ℕ) → P d → ⊥
Finds P (Some c) = P c × ((d : ℕ) → P d → c ≤ d)
