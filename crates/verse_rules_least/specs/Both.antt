-- The less of two faults, by (node, code), and what it is the least of.
use Rattle.std.specs.Prelude.{ℕ, Bool, true, cond, ◌&&◌, nat_lt, nat_le, nat_eq, Option, Some, None}
use Rattle.std.specs.Prelude.{Result, Ok, Err}
use Rattle.verse_base.specs.declared.refusals.Front.{Front}
use Rattle.verse_base.specs.declared.refusals.Front.TheVariants as front
use Rattle.verse_rules_least.specs.declared.faults.Fault.{Fault}
use Rattle.verse_rules_least.specs.Least.{Reaches, refusal_of}

-- a fault is at a lesser node than another one, or at the same one with a code not above
abbrev pub is_before : Fault → Fault → Bool
is_before f g = cond (nat_lt f.node g.node) true (nat_eq f.node g.node && nat_le f.rule.0 g.rule.0)

abbrev pub less : Fault → Fault → Fault
less f g = cond (is_before f g) f g

abbrev pub less_of : Option Fault → Option Fault → Option Fault
less_of None o = o
less_of (Some f) None = Some f
less_of (Some f) (Some g) = Some (less f g)

-- of what is broken, by node and code, the fault is the least, or there is none
abbrev pub Leads : (ℕ → ℕ → Type 0) → Option Fault → Type 0
Leads P None = (n c : ℕ) → P n c → ⊥
Leads P (Some f) = P f.node f.rule.0 × ((n c : ℕ) → P n c → Reaches f n c)

-- what is answered for a fault
abbrev pub outcome : Option Fault → Result (Unit {0}) Front
outcome None = Ok tt
outcome (Some f) = Err (front.Refused (refusal_of f))
