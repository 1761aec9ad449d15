-- A program has at most one least refusal; and a fault that stands at one of its nodes has that node's place.
use Rattle.std.proofs.Common.{◌≡◌, ℕ, zero, suc, ◌+◌, ◌<◌, ◌≤◌, ◌⊎◌, List, [], ◌∷◌, length, map, Option, slice_get, refl, ap, sym, ◌∙◌}
use Rattle.std.proofs.Common.{arith, subst}
use Rattle.std.specs.Prelude.{Some}
use Rattle.std.specs.List.{range_with_len}
use mathlib.Core.Logic.{inl, inr}
use Rattle.verse_base.specs.declared.places.Place.{Place}
use Rattle.verse_base.specs.declared.refusals.Refusal.{Refusal}
use Rattle.verse_base.specs.declared.refusals.Rule.{Rule}
use Rattle.verse_rules_least.specs.declared.faults.Fault.{Fault}
use Rattle.verse_rules_least.specs.Least.{Reaches, StandsAt, refusal_of}
use Rattle.verse_rules_least.specs.Both.{Leads}
use Rattle.verse_rules_least.specs.Refusals.{place_at, IsRefusedFor, RefusedOnce}
use Rattle.std.proofs.lemmas.Option.{same_Some}

-- two faults that reach one another are at one node, and of one rule
one_node : (f g : Fault) → Reaches f g.node g.rule.0 → Reaches g f.node f.rule.0 → f.node ≡ g.node
one_node f g (inl a) (inl b) = omega (arith, a, b)
one_node f g (inl a) (inr b) = omega (arith, a, b.0)
one_node f g (inr a) h = a.0

one_rule : (f g : Fault) → Reaches f g.node g.rule.0 → Reaches g f.node f.rule.0 → f.rule.0 ≡ g.rule.0
one_rule f g (inl a) (inl b) = omega (arith, a, b)
one_rule f g (inl a) (inr b) = omega (arith, a, b.0)
one_rule f g (inr a) (inl b) = omega (arith, a.0, b)
one_rule f g (inr a) (inr b) = omega (arith, a.1, b.1)

same : (f g : Fault) → f.place ≡ g.place → f.rule.0 ≡ g.rule.0 → refusal_of f ≡ refusal_of g
same f g e d = ap (λ (p : Place). record { rule = f.rule; place = p }) e ∙
    ap (λ (n : ℕ). record { rule = record { 0 = n }; place = g.place }) d

pub refused_once : RefusedOnce
refused_once P at r q h k =
    let node : h.fault.node ≡ k.fault.node =
    one_node h.fault k.fault (h.leads.1 k.fault.node k.fault.rule.0 k.leads.0) (k.leads.1 h.fault.node h.fault.rule.0 h.leads.0) in
    let rule : h.fault.rule.0 ≡ k.fault.rule.0 =
    one_rule h.fault k.fault (h.leads.1 k.fault.node k.fault.rule.0 k.leads.0) (k.leads.1 h.fault.node h.fault.rule.0 h.leads.0) in
    let place : h.fault.place ≡ k.fault.place = same_Some h.fault.place k.fault.place (sym h.placed ∙ ap at node ∙ k.placed) in
    h.is ∙ same h.fault k.fault place rule ∙ sym k.is

module _ {N : Type 0} (number : N → ℕ) (place : N → Place) where
  below : (n : ℕ) (vs : List N) (f : Fault) → map number vs ≡ range_with_len n (length vs) → StandsAt number place vs f → f.node < n → ⊥
  below n [] f r h l = h
  below n (v ∷ vs) f r (inl h) l =
      let own : number v ≡ n = cc in
      let its = h.0 in
      omega (arith, own, its, l)
  below n (v ∷ vs) f r (inr h) l = below (n + 1) vs f (cc) h (omega (arith, l))

  at_number : (n : ℕ) (vs : List N) (f : Fault) (i : ℕ) → f.node ≡ n + i → map number vs ≡ range_with_len n (length vs) →
      StandsAt number place vs f → slice_get (map place vs) i ≡ Some f.place
  at_number n [] f i e r h = absurd h
  at_number n (v ∷ vs) f zero e r (inl h) = ap Some h.1
  at_number n (v ∷ vs) f (suc i) e r (inl h) =
      let own : number v ≡ n = cc in
      let its = h.0 in
      absurd (omega (arith, own, its, e))
  at_number n (v ∷ vs) f zero e r (inr h) = absurd (below (n + 1) vs f (cc) h (omega (arith, e)))
  at_number n (v ∷ vs) f (suc i) e r (inr h) = at_number (n + 1) vs f i (omega (arith, e)) (cc) h

  -- a fault that stands at one of the nodes, which are numbered from 0, has the place of the node with its number
  pub stands_there : (vs : List N) (f : Fault) → map number vs ≡ range_with_len 0 (length vs) → StandsAt number place vs f →
      place_at place vs f.node ≡ Some f.place
  stands_there vs f r h = at_number 0 vs f f.node (omega arith) r h
