-- The nodes with what the rules ask are those of the program, at their places, and so their numbers rise.
use Rattle.std.proofs.Common.{◌≡◌, ℕ, suc, ◌+◌, List, [], ◌∷◌, ◌++◌, map, length, refl, ap, sym, ◌∙◌, subst}
use Rattle.std.specs.Prelude.{Option, Some, None, slice_get}
use Rattle.std.specs.List.{range_with_len}
use Rattle.std.proofs.lemmas.List.{map-append}
use Rattle.std.proofs.lemmas.List.FromFn.{length-range_with_len}
use Rattle.verse_base.specs.declared.places.Place.{Place}
use Rattle.verse_base.proofs.Facts.{one_more}
use Rattle.verse_tree.specs.Tree.{Written, Writtens, no_writtens, more_writtens}
use Rattle.verse_tree.specs.Tree as t
use Rattle.verse_tree.specs.ItemTree.{ParamTree, FunTree, FieldTree, MemberTree, ItemTree}
use Rattle.verse_tree.specs.ItemTree as i
use Rattle.verse_tree.specs.Numbers.{numbers}
use Rattle.verse_tree.specs.Numbering.{items_numbered, program_nodes}
use Rattle.verse_tree.specs.PostOrder.{Node, written_order, writtens_order, post_order, default_order, param_order, params_order, fun_parts}
use Rattle.verse_tree.specs.PostOrder.{field_parts, member_order, members_order, item_order, items_order, program_order}
use Rattle.verse_tree.proofs.Order.{program_in_order, numbers_length}
use Rattle.verse_rules_least.specs.Least.{InOrder, Placed}
use Rattle.verse_rules_least.specs.declared.faults.Fault.{Fault}
use Rattle.verse_rules_least.proofs.Ordered.{in_order}
use Rattle.verse_rules_least.proofs.Refusals.{stands_there}
use Rattle.verse_names_tables.specs.Counting.{counted, counts_after, fun_after, no_counts}
use Rattle.verse_names_tables.specs.declared.counting.Counts.{Counts}
use Rattle.verse_names_declarations.specs.Known.{Known, known}
use Rattle.verse_names_declarations.specs.Lines.{Home, home}
use Rattle.verse_names_items.specs.Nodes.{Declared, number_of, place_of, quiet_node, written_declared, writtens_declared, param_declared}
use Rattle.verse_names_items.specs.Nodes.{params_declared, fun_declared, field_declared, member_declared, members_declared, item_declared}
use Rattle.verse_names_items.specs.Nodes.{items_declared, program_declared, IsNumbered, IsPlaced}

abbrev declared_at : Declared → ℕ × Place
declared_at v = (v.number, v.place)

abbrev stands_at : Node → ℕ × Place
stands_at n = (n.number, n.place)

-- the same numbers and places in the same order
abbrev Agree : List Declared → List Node → Type 0
Agree vs ns = map declared_at vs ≡ map stands_at ns

both : (vs ws : List Declared) (ms ns : List Node) → Agree vs ms → Agree ws ns → Agree (vs ++ ws) (ms ++ ns)
both vs ws ms ns e f =
    map-append declared_at vs ws ∙ ap (λ l. l ++ map declared_at ws) e ∙ ap (λ l. map stands_at ms ++ l) f ∙
    sym (map-append stands_at ms ns)

quiet_agree : (ns : List Node) → Agree (map quiet_node ns) ns
quiet_agree [] = refl
quiet_agree (n ∷ ns) = ap (λ l. stands_at n ∷ l) (quiet_agree ns)

mutual
  written_agree : (w : Written) → Agree (written_declared w) (written_order w)
  written_agree t.Written.int = refl
  written_agree t.Written.logic = refl
  written_agree t.Written.char = refl
  written_agree t.Written.string = refl
  written_agree t.Written.void = refl
  written_agree (t.Written.named n p x) = refl
  written_agree (t.Written.option w) = written_agree w
  written_agree (t.Written.array w) = written_agree w
  written_agree (t.Written.task w) = written_agree w
  written_agree (t.Written.map v w) = both (written_declared v) (written_declared w) (written_order v) (written_order w) (written_agree v)
      (written_agree w)
  written_agree (t.Written.tuple ws) = writtens_agree ws
  written_agree (t.Written.event w) = written_agree w
  written_agree t.Written.bare_event = refl

  writtens_agree : (ws : Writtens) → Agree (writtens_declared ws) (writtens_order ws)
  writtens_agree no_writtens = refl
  writtens_agree (more_writtens w ws) = both (written_declared w) (writtens_declared ws) (written_order w) (writtens_order ws)
      (written_agree w) (writtens_agree ws)

param_agree : (p : ParamTree) → Agree (param_declared p) (param_order p)
param_agree p = both (written_declared p.written) _ (written_order p.written) _ (written_agree p.written) refl

params_agree : (ps : List ParamTree) → Agree (params_declared ps) (params_order ps)
params_agree [] = refl
params_agree (p ∷ ps) = both (param_declared p) (params_declared ps) (param_order p) (params_order ps) (param_agree p) (params_agree ps)

fun_agree : (f : FunTree) → Agree (fun_declared f) (fun_parts f)
fun_agree f = both _ _ _ _ (both (params_declared f.params) (written_declared f.written) (params_order f.params) (written_order f.written)
    (params_agree f.params) (written_agree f.written)) (quiet_agree (post_order f.body))

field_agree : (d : FieldTree) → Agree (field_declared d) (field_parts d)
field_agree d = both (written_declared d.written) _ (written_order d.written) _ (written_agree d.written)
    (quiet_agree (default_order d.default))

member_agree : (h : Home) (n : ℕ) (m : MemberTree) → Agree (member_declared h n m) (member_order m)
member_agree h n (i.MemberTree.field d) = both (field_declared d) _ (field_parts d) _ (field_agree d) refl
member_agree h n (i.MemberTree.method f) = both (fun_declared f) _ (fun_parts f) _ (fun_agree f) refl

members_agree : (h : Home) (n : ℕ) (ms : List MemberTree) → Agree (members_declared h n ms) (members_order ms)
members_agree h n [] = refl
members_agree h n (m ∷ ms) = both (member_declared h n m) (members_declared h (fun_after m n) ms) (member_order m) (members_order ms)
    (member_agree h n m) (members_agree h (fun_after m n) ms)

item_agree : (k : Known) (it : ItemTree) (n : Counts) → Agree (item_declared k it n) (item_order it)
item_agree k (i.ItemTree.using u) n = refl
item_agree k (i.ItemTree.enumeration e) n = refl
item_agree k (i.ItemTree.class c) n = both (members_declared (home k n.classes c.members) n.funs c.members) _ (members_order c.members) _
    (members_agree (home k n.classes c.members) n.funs c.members) refl
item_agree k (i.ItemTree.function f) n = both (fun_declared f) _ (fun_parts f) _ (fun_agree f) refl

items_agree : (k : Known) (n : Counts) (is : List ItemTree) → Agree (items_declared k (counted n is)) (items_order is)
items_agree k n [] = refl
items_agree k n (it ∷ is) = both (item_declared k it n) (items_declared k (counted (counts_after it n) is)) (item_order it) (items_order is)
    (item_agree k it n) (items_agree k (counts_after it n) is)

program_agree : (is : List ItemTree) → Agree (program_declared (known is) is) (program_order is)
program_agree is = both (items_declared (known is) (counted no_counts is)) _ (items_order is) _ (items_agree (known is) no_counts is) refl

-- so in particular the same numbers, and the same places
module _ {C : Type 0} (part : ℕ × Place → C) where
  parts_declared : (vs : List Declared) → map (λ v. part (declared_at v)) vs ≡ map part (map declared_at vs)
  parts_declared [] = refl
  parts_declared (v ∷ vs) = ap (λ l. part (declared_at v) ∷ l) (parts_declared vs)

  parts_nodes : (ns : List Node) → map (λ n. part (stands_at n)) ns ≡ map part (map stands_at ns)
  parts_nodes [] = refl
  parts_nodes (n ∷ ns) = ap (λ l. part (stands_at n) ∷ l) (parts_nodes ns)

  parts_agree : (vs : List Declared) (ns : List Node) → Agree vs ns → map (λ v. part (declared_at v)) vs ≡ map (λ n. part (stands_at n)) ns
  parts_agree vs ns e = parts_declared vs ∙ ap (map part) e ∙ sym (parts_nodes ns)

program_numbers : (is : List ItemTree) → map number_of (program_declared (known is) is) ≡ numbers (program_order is)
program_numbers is = parts_agree (λ x. x.0) (program_declared (known is) is) (program_order is) (program_agree is)

program_places : (is : List ItemTree) → map place_of (program_declared (known is) is) ≡ map (λ (n : Node). n.place) (program_order is)
program_places is = parts_agree (λ x. x.1) (program_declared (known is) is) (program_order is) (program_agree is)

declared_length : (vs : List Declared) → length (map number_of vs) ≡ length vs
declared_length [] = refl
declared_length (v ∷ vs) = ap suc (declared_length vs)

module _ (written : List ItemTree) where
  in_row : numbers (program_order (items_numbered written 0)) ≡ range_with_len 0 (program_nodes written)
  in_row = program_in_order written

  -- the number of the program's own node
  last_is : length (items_order (items_numbered written 0)) + 1 ≡ program_nodes written
  last_is =
      let is = items_numbered written 0 in
      let whole : length (program_order is) ≡ program_nodes written = sym (numbers_length (program_order is)) ∙ ap length in_row ∙
      length-range_with_len 0 (program_nodes written) in
      let more = one_more (items_order is) _ in
      sym more ∙ whole

  row : map number_of (program_declared (known (items_numbered written 0)) (items_numbered written 0)) ≡
      range_with_len 0 (length (program_declared (known (items_numbered written 0)) (items_numbered written 0)))
  row =
      let is = items_numbered written 0 in
      let vs = program_declared (known is) is in
      let row : map number_of vs ≡ range_with_len 0 (program_nodes written) = program_numbers is ∙ in_row in
      let count : length vs ≡ program_nodes written = sym (declared_length vs) ∙ ap length row ∙
      length-range_with_len 0 (program_nodes written) in
      row ∙ ap (range_with_len 0) (sym count)

pub last_number : (is : List ItemTree) (n : ℕ) → IsNumbered is n → length (items_order is) + 1 ≡ n
last_number is n h = ap (λ l. length (items_order l) + 1) h.1 ∙ last_is h.0 ∙ sym h.2

pub numbers_in_row : (is : List ItemTree) (n : ℕ) → IsNumbered is n →
    map number_of (program_declared (known is) is) ≡ range_with_len 0 (length (program_declared (known is) is))
numbers_in_row is n h = subst (λ l. map number_of (program_declared (known l) l) ≡ range_with_len 0 (length (program_declared (known l) l)))
    (sym h.1) (row h.0)

pub numbers_rise : (is : List ItemTree) (n : ℕ) → IsNumbered is n → InOrder number_of (program_declared (known is) is)
numbers_rise is n h = in_order number_of 0 (program_declared (known is) is) (numbers_in_row is n h)

-- a fault at one of the nodes has the place of the program's node with its number
pub placed_there : (is : List ItemTree) (n : ℕ) (o : Option Fault) → IsNumbered is n →
    Placed number_of place_of (program_declared (known is) is) o → IsPlaced is o
placed_there is n None h p = tt
placed_there is n (Some f) h p = ap (λ l. slice_get l f.node) (sym (program_places is)) ∙
    stands_there number_of place_of (program_declared (known is) is) f (numbers_in_row is n h) p
