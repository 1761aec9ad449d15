-- The least of what the passes of types and of effects find is what a program is refused for.
use Rattle.std.proofs.Common.{◌≡◌, ℕ, List, [], ◌∷◌, ◌++◌, map, Bool, true, false, cond, Option, refl, ap, sym, ◌∙◌, subst}
use Rattle.std.specs.Prelude.{Some, None, Err, slice_get, length}
use Rattle.std.specs.Result.{IsErrOf}
use Rattle.std.proofs.lemmas.List.{map-append}
use Rattle.verse_base.specs.declared.places.Place.{Place}
use Rattle.verse_base.specs.declared.refusals.Front.TheVariants as front
use Rattle.verse_base.specs.declared.refusals.Refusal.{Refusal}
use Rattle.verse_base.proofs.Facts.{get_first}
use Rattle.verse_tree.specs.ItemTree.{ItemTree}
use Rattle.verse_tree.specs.PostOrder.{items_order, node_at, program, program_place, program_order}
use Rattle.verse_tree.specs.PostOrder as plain
use Rattle.verse_tree.specs.declared.tables.Names.{Names}
use Rattle.verse_tree.specs.declared.tables.Ref.{Ref}
use Rattle.verse_rules_types.specs.Types.{Ty}
use Rattle.verse_rules_least.specs.declared.faults.Fault.{Fault}
use Rattle.verse_rules_least.specs.Least.{StandsAt, Placed, refusal_of}
use Rattle.verse_rules_least.specs.Both.{is_before, less_of, Leads}
use Rattle.verse_rules_least.proofs.Both.{lead_both, leads}
use Rattle.verse_rules_least.proofs.Refusals.{stands_there}
use Rattle.verse_names_items.specs.Nodes.{IsNumbered, IsPlaced, places_in}
use Rattle.verse_rules_walk.specs.Nodes.{Node, number_of, place_of, alone, items_nodes}
use Rattle.verse_rules_walk.proofs.Order.{items_alone, numbers_in_row}
use Rattle.verse_check_typing.specs.Facts.{world_of}
use Rattle.verse_check_typing.specs.Steps as rows
use Rattle.verse_check.specs.Checking as types
use Rattle.verse_effects.specs.Rules as effects
use Rattle.verse_rules.specs.Naming.{named}
use Rattle.verse_rules.specs.Sound.{completed, types_of, TypesBreak, EffectsBreak, BodiesBreak, IsMistyped}

abbrev with_refs : Names → List (Option Ref) → Names
with_refs k refs = record k { refs = refs }

-- ---- the places of faults

abbrev its_place : plain.Node → Place
its_place v = v.place

places_alone : (vs : List Node) → map place_of vs ≡ map its_place (map alone vs)
places_alone [] = refl
places_alone (v ∷ vs) = ap (λ (ps : List Place). v.place ∷ ps) (places_alone vs)

stands_in : (is : List ItemTree) (n : ℕ) (f : Fault) → IsNumbered is n → StandsAt number_of place_of (items_nodes is) f →
    places_in is f.node ≡ Some f.place
stands_in is n f h s =
    let own : slice_get (map place_of (items_nodes is)) f.node ≡ Some f.place =
    stands_there number_of place_of (items_nodes is) f (numbers_in_row is (h.0, h.1)) s in
    let same : map place_of (items_nodes is) ≡ map its_place (items_order is) =
    places_alone (items_nodes is) ∙ ap (map its_place) (items_alone is) in
    let last = plain.node_at (length (items_order is)) program_place (program is) in
    let whole : map its_place (program_order is) ≡ map its_place (items_order is) ++ map its_place last =
    map-append its_place (items_order is) last in
    let there : slice_get (map its_place (items_order is)) f.node ≡ Some f.place =
    subst (λ (ps : List Place). slice_get ps f.node ≡ Some f.place) same own in
    subst (λ (ps : List Place). slice_get ps f.node ≡ Some f.place) (sym whole)
    (get_first (map its_place (items_order is)) (map its_place last) f.node f.place there)

placed : (is : List ItemTree) (n : ℕ) (o : Option Fault) → IsNumbered is n → Placed number_of place_of (items_nodes is) o → IsPlaced is o
placed is n None h p = tt
placed is n (Some f) h p = stands_in is n f h p

placed_both : (is : List ItemTree) (o p : Option Fault) → IsPlaced is o → IsPlaced is p → IsPlaced is (less_of o p)
placed_both is None p h k = k
placed_both is (Some f) None h k = h
placed_both is (Some f) (Some g) h k = by (is_before f g)
  where
    by : (b : Bool) → IsPlaced is (Some (cond b f g))
    by true = h
    by false = k

-- ---- both passes

types_lead : (is : List ItemTree) (o : Option Fault) → types.TellsTypes (named is) is o → Leads (TypesBreak is) o
types_lead is o h = leads number_of (rows.step (world_of (named is) is)) (rows.Breaks (world_of (named is) is))
    (items_nodes is) rows.begun o h.0

effects_lead : (is : List ItemTree) (o : Option Fault) → effects.Answers (completed is) (items_nodes is) o → Leads (EffectsBreak is) o
effects_lead is o h = leads number_of (effects.step (completed is)) (effects.Breaks (completed is)) (items_nodes is) effects.begun o h.0

bodies_lead : (is : List ItemTree) (o p : Option Fault) → types.TellsTypes (named is) is o →
    effects.Answers (completed is) (items_nodes is) p → Leads (BodiesBreak is) (less_of o p)
bodies_lead is o p h k = lead_both (TypesBreak is) (EffectsBreak is) o p (types_lead is o h) (effects_lead is p k)

pub mistyped : {T : Type 0} (is : List ItemTree) (f : Fault) (q r : Refusal) → Leads (BodiesBreak is) (Some f) → IsPlaced is (Some f) →
    q ≡ refusal_of f →
    IsErrOf {T = T} (Err (front.Refused q)) (front.Refused r) → IsMistyped is r
mistyped is f q r h k told answered = record { fault = f; leads = h; placed = k; is = (let same : r ≡ q = cc in same) ∙ told }

-- ---- the tables and types

pub completed_is : (is : List ItemTree) (k : Names) (refs : List (Option Ref)) → k ≡ named is → refs ≡ (types.all_seen k is).refs →
    with_refs k refs ≡ completed is
completed_is is k refs e f =
    ap (λ (x : Names). with_refs x refs) e ∙ ap (λ (rs : List (Option Ref)). with_refs (named is) rs)
    (f ∙ ap (λ (x : Names). (types.all_seen x is).refs) e)

pub types_are : (is : List ItemTree) (k : Names) (ts : List Ty) → k ≡ named is → ts ≡ (types.all_seen k is).types → ts ≡ types_of is
types_are is k ts e f = f ∙ ap (λ (x : Names). (types.all_seen x is).types) e

pub both_lead : (is : List ItemTree) (k l : Names) (o p q : Option Fault) → k ≡ named is → l ≡ completed is → types.TellsTypes k is o →
    effects.Answers l (items_nodes is) p → q ≡ less_of o p → Leads (BodiesBreak is) q
both_lead is k l o p q e f h g told =
    subst (Leads (BodiesBreak is)) (sym told)
    (bodies_lead is o p (subst (λ (x : Names). types.TellsTypes x is o) e h)
    (subst (λ (x : Names). effects.Answers x (items_nodes is) p) f g))

pub both_placed : (is : List ItemTree) (n : ℕ) (k l : Names) (o p q : Option Fault) → IsNumbered is n → types.TellsTypes k is o →
    effects.Answers l (items_nodes is) p → q ≡ less_of o p → IsPlaced is q
both_placed is n k l o p q numbered h g told =
    subst (IsPlaced is) (sym told) (placed_both is o p (placed is n o numbered h.1) (placed is n p numbered g.1))
