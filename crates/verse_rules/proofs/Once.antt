-- A program has at most one refusal, and none where it breaks no rule.
use Rattle.std.proofs.Common.{◌≡◌, ℕ, List, inl, inr}
use Rattle.verse_base.specs.declared.refusals.Refusal.{Refusal}
use Rattle.verse_tree.specs.ItemTree.{ItemTree}
use Rattle.verse_rules_least.proofs.Refusals.{refused_once}
use Rattle.verse_names_items.specs.Nodes.{places_in}
use Rattle.verse_rules.specs.Breaking.{NamesBreak, IsMisnamed}
use Rattle.verse_rules.specs.Sound.{BodiesBreak, IsMistyped, IsSound, IsUnsound, SoundOnce}

-- a refusal tells what is broken
pub misnamed_breaks : (is : List ItemTree) (r : Refusal) → IsMisnamed is r → ((n c : ℕ) → NamesBreak is n c → ⊥) → ⊥
misnamed_breaks is r h fine = fine h.fault.node h.fault.rule.0 h.leads.0

pub mistyped_breaks : (is : List ItemTree) (r : Refusal) → IsMistyped is r → ((n c : ℕ) → BodiesBreak is n c → ⊥) → ⊥
mistyped_breaks is r h fine = fine h.fault.node h.fault.rule.0 h.leads.0

pub mistyped_once : (is : List ItemTree) (r q : Refusal) → IsMistyped is r → IsMistyped is q → r ≡ q
mistyped_once is r q x y = refused_once (BodiesBreak is) (places_in is) r q x y

one : (is : List ItemTree) (r q : Refusal) → IsUnsound is r → IsUnsound is q → r ≡ q
one is r q (inl x) (inl y) = refused_once (NamesBreak is) (places_in is) r q x y
one is r q (inl x) (inr y) = absurd (misnamed_breaks is r x y.0)
one is r q (inr x) (inl y) = absurd (misnamed_breaks is q y x.0)
one is r q (inr x) (inr y) = mistyped_once is r q x.1 y.1

none : (is : List ItemTree) (r : Refusal) → IsSound is → IsUnsound is r → ⊥
none is r h (inl x) = misnamed_breaks is r x h.named
none is r h (inr x) = mistyped_breaks is r x.1 h.typed

pub once : SoundOnce
once = record { refusal = one; apart = none }
