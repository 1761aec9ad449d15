-- What naming a program finds is what its nodes refer to, and the least rule of names that one of them breaks.
use Rattle.std.proofs.Common.{◌≡◌, ℕ, suc, ◌+◌, List, [], ◌∷◌, map, length, Option, refl, ap, sym, ◌∙◌, subst}
use Rattle.std.specs.Prelude.{Some, None, slice_get}
use Rattle.std.specs.List.{range_with_len}
use Rattle.std.proofs.lemmas.List.FromFn.{length-range_with_len}
use Rattle.verse_base.specs.declared.places.Place.{Place}
use Rattle.verse_base.proofs.Facts.{one_more}
use Rattle.verse_tree.specs.ItemTree.{ItemTree}
use Rattle.verse_tree.specs.Numbers.{numbers}
use Rattle.verse_tree.specs.Numbering.{program_nodes}
use Rattle.verse_tree.specs.PostOrder.{Node, items_order, program_order, program_place}
use Rattle.verse_tree.proofs.Order.{program_in_order, numbers_length}
use Rattle.verse_rules_least.specs.Least.{each, InOrder, Told, Placed, Finds, first_true}
use Rattle.verse_rules_least.specs.Both.{Leads}
use Rattle.verse_rules_least.specs.declared.faults.Fault.{Fault}
use Rattle.verse_rules_least.proofs.Least.{first_finds, least_kept, placed_kept}
use Rattle.verse_rules_least.proofs.Ordered.{in_order}
use Rattle.verse_rules_least.proofs.Both.{leads}
use Rattle.verse_rules_least.proofs.Refusals.{stands_there}
use Rattle.verse_names_declarations.specs.Known.{Known, known}
use Rattle.verse_names_scopes.specs.Visible.{outside}
use Rattle.verse_names_scopes.specs.Subjects.{quiet}
use Rattle.verse_names_scopes.specs.Scopes.{through_items, through_program}
use Rattle.verse_names_scopes.specs.Visits.{Visit, number_of, place_of, ref_of, rules_of, program_visits, nothing_seen, keep_fault, Breaks}
use Rattle.verse_names_scopes.specs.Visits.{NamesBreak, IsNumbered, IsPlaced}
use Rattle.verse_names_scopes.specs.Naming.{Naming, noted, cut_back, nothing_named}
use Rattle.verse_names_scopes.proofs.Agreeing.{visit_stands, node_stands, program_agrees}

module _ {C : Type 0} (part : ℕ × Place → C) where
  parts_visited : (vs : List Visit) → map (λ v. part (visit_stands v)) vs ≡ map part (map visit_stands vs)
  parts_visited [] = refl
  parts_visited (v ∷ vs) = ap (λ l. part (visit_stands v) ∷ l) (parts_visited vs)

  parts_written : (ns : List Node) → map (λ n. part (node_stands n)) ns ≡ map part (map node_stands ns)
  parts_written [] = refl
  parts_written (n ∷ ns) = ap (λ l. part (node_stands n) ∷ l) (parts_written ns)

  parts_agree : (vs : List Visit) (ns : List Node) → map visit_stands vs ≡ map node_stands ns →
      map (λ v. part (visit_stands v)) vs ≡ map (λ n. part (node_stands n)) ns
  parts_agree vs ns e = parts_visited vs ∙ ap (map part) e ∙ sym (parts_written ns)

visits_length : (vs : List Visit) → length (map number_of vs) ≡ length vs
visits_length [] = refl
visits_length (v ∷ vs) = ap suc (visits_length vs)

in_row : (vs : List Visit) (n : ℕ) → map number_of vs ≡ range_with_len 0 n → map number_of vs ≡ range_with_len 0 (length vs)
in_row vs n e = e ∙ ap (range_with_len 0) (sym (sym (visits_length vs) ∙ ap length e ∙ length-range_with_len 0 n))

finds : (v : Visit) (o : Option Fault) → Finds (Breaks v o) (first_true (rules_of v))
finds v o = first_finds (rules_of v) refl

told : (vs : List Visit) → InOrder number_of vs → Told number_of keep_fault Breaks vs None (each keep_fault vs None)
unfolding keep_fault
told vs o =
    least_kept number_of place_of keep_fault Breaks (λ v s. first_true (rules_of v)) finds (λ s. s) (λ v s. refl) vs None o refl

placed : (vs : List Visit) → Placed number_of place_of vs (each keep_fault vs None)
unfolding keep_fault
placed vs =
    placed_kept number_of place_of keep_fault Breaks (λ v s. first_true (rules_of v)) finds (λ s. s) (λ v s. refl) vs None refl

placed_there : (is : List ItemTree) (vs : List Visit) (o : Option Fault) →
    map place_of vs ≡ map (λ (n : Node). n.place) (program_order is) →
    map number_of vs ≡ range_with_len 0 (length vs) → Placed number_of place_of vs o → IsPlaced is o
placed_there is vs None e r p = tt
placed_there is vs (Some f) e r p = ap (λ l. slice_get l f.node) (sym e) ∙ stands_there number_of place_of vs f r p

-- the number of the program's own node
pub last_number : (is : List ItemTree) (n : ℕ) → IsNumbered is n → length (items_order is) + 1 ≡ n
last_number is n h =
    sym (one_more (items_order is) _)
    ∙ sym (numbers_length (program_order is))
    ∙ ap (λ l. length (numbers (program_order l))) h.1
    ∙ ap length (program_in_order h.0)
    ∙ length-range_with_len 0 (program_nodes h.0)
    ∙ sym h.2

-- what the code names, by what it knows and the number of the program's own node
abbrev named : Known → ℕ → Naming
named k last = noted (outside k) last program_place quiet (through_items noted cut_back k k.items nothing_named)

pub found : (k : Known) (last : ℕ) (is : List ItemTree) (x : Naming) → x ≡ named k last → k ≡ known is → last ≡ length (items_order is) →
    x ≡ through_program noted cut_back is nothing_named
found k last is x e knows number = e ∙ ap (λ m. named m last) knows ∙ ap (named (known is)) number

module _ (is : List ItemTree) where
  shown : map visit_stands (program_visits is) ≡ map node_stands (program_order is)
  shown = (program_agrees is nothing_seen).shown

  row : (n : ℕ) → IsNumbered is n → map number_of (program_visits is) ≡ range_with_len 0 (length (program_visits is))
  row n h =
      let own = parts_agree (λ x. x.0) (program_visits is) (program_order is) shown in
      in_row (program_visits is) (program_nodes h.0) (own ∙ ap (λ l. numbers (program_order l)) h.1 ∙ program_in_order h.0)

  -- of what is named
  pub refs_are : (x : Naming) → x ≡ through_program noted cut_back is nothing_named → x.refs ≡ map ref_of (program_visits is)
  refs_are x e = ap (λ (y : Naming). y.refs) (e ∙ (program_agrees is nothing_seen).same)

  fault_is : (x : Naming) → x ≡ through_program noted cut_back is nothing_named → x.fault ≡ each keep_fault (program_visits is) None
  fault_is x e = ap (λ (y : Naming). y.fault) (e ∙ (program_agrees is nothing_seen).same)

  pub fault_leads : (n : ℕ) → IsNumbered is n → (x : Naming) → x ≡ through_program noted cut_back is nothing_named →
      Leads (NamesBreak is) x.fault
  fault_leads n h x e =
      let rise = in_order number_of 0 (program_visits is) (row n h) in
      let kept = each keep_fault (program_visits is) None in
      let least = leads number_of keep_fault Breaks (program_visits is) None kept (told (program_visits is) rise) in
      subst (Leads (NamesBreak is)) (sym (fault_is x e)) least

  pub fault_placed : (n : ℕ) → IsNumbered is n → (x : Naming) → x ≡ through_program noted cut_back is nothing_named →
      IsPlaced is x.fault
  fault_placed n h x e =
      let own = parts_agree (λ x. x.1) (program_visits is) (program_order is) shown in
      subst (IsPlaced is) (sym (fault_is x e)) (placed_there is (program_visits is) _ own (row n h) (placed (program_visits is)))
