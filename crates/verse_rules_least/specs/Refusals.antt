-- A program is refused for the least of what is broken, at the place of its node.
use Rattle.std.specs.Prelude.{◌≡◌, ℕ, List, map, Option, Some, slice_get}
use Rattle.verse_base.specs.declared.places.Place.{Place}
use Rattle.verse_base.specs.declared.refusals.Refusal.{Refusal}
use Rattle.verse_rules_least.specs.declared.faults.Fault.{Fault}
use Rattle.verse_rules_least.specs.Least.{refusal_of}
use Rattle.verse_rules_least.specs.Both.{Leads}

-- the place of the node with a number, of nodes that are numbered from 0
abbrev pub place_at : {N : Type 0} → (N → Place) → List N → ℕ → Option Place
place_at place vs n = slice_get (map place vs) n

-- of what is broken, by node and code, the refusal tells the least, at the place of its node
pub record IsRefusedFor (P : ℕ → ℕ → Type 0) (at : ℕ → Option Place) (r : Refusal) : Type 0 where
  pub fault : Fault
  pub leads : Leads P (Some fault)
  pub placed : at fault.node ≡ Some fault.place
  pub is : r ≡ refusal_of fault

-- in one program there is at most one such refusal
abbrev pub RefusedOnce : Type 1
RefusedOnce = (P : ℕ → ℕ → Type 0) (at : ℕ → Option Place) (r q : Refusal) → IsRefusedFor P at r →
    IsRefusedFor P at q → r ≡ q
