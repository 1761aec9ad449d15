-- A class has no more methods than a program has nodes.
use Rattle.std.proofs.Common.{ℕ, zero, suc, ◌+◌, ◌≤◌, List, [], ◌∷◌, map, length, Bool, true, false, cond, bytes_eq, arith}
use Rattle.std.proofs.lemmas.List.{length-append}
use Rattle.std.specs.Prelude.{slice_get}
use Rattle.verse_tree.specs.Tree.{Bytes}
use Rattle.verse_tree.specs.ItemTree.{MemberTree, field, method, ItemTree, using, enumeration, class, function}
use Rattle.verse_tree.specs.Numbering.{list_nodes, member_nodes, items_nodes}
use Rattle.verse_tree.specs.declared.tables.ClassInfo.{ClassInfo}
use Rattle.verse_tree.specs.declared.tables.Ref.{Ref}
use Rattle.verse_tree.specs.declared.tables.Ref.TheVariants as ref
use Rattle.verse_rules_types.specs.Types.{Class}
use Rattle.verse_names_tables.specs.Names.{Table, put, meanings}
use Rattle.verse_names_tables.specs.Counting.{counted, counts_after, no_counts}
use Rattle.verse_names_tables.specs.declared.counting.Counts.{Counts}
use Rattle.verse_names_tables.specs.Notes.{Note, notes}
use Rattle.verse_names_declarations.specs.Known.{Known, known}
use Rattle.verse_names_declarations.specs.Lines.{Members, with_member, with_members, with_note, with_notes, no_members, all_members}
use Rattle.verse_names_declarations.specs.Lines.{line_of}
use Rattle.verse_names_items.specs.Tables.{fun_number, fun_numbers, class_tables_from, class_tables}
use Rattle.verse_rules.specs.Naming.{made_class}
use Rattle.lower_bounds.proofs.Lists.{Each}
use Rattle.lower_simulation_runs.specs.Programs.{methods_defined, defined_in}
use Rattle.verse_accept_classes.proofs.Sums.{total, weight, taken, within}
use Rattle.verse_accept_classes.proofs.Lines.{NoCircle, line_distinct}

one_more : (x : Bytes) (r : Ref) (t : Table) → length (put x r t) ≤ suc (length t)
one_more x r [] = omega arith
one_more x r (e ∷ t) = by (bytes_eq x e.0) (one_more x r t)
  where
    by : (b : Bool) → length (put x r t) ≤ suc (length t) → length (cond b ((e.0, r) ∷ t) (e ∷ put x r t)) ≤ suc (length (e ∷ t))
    by true h = omega arith
    by false h = omega (arith, h)

members_more : (c n : ℕ) (ds : List MemberTree) (m : Members) →
    length (with_members c n ds m).methods ≤ length m.methods + length (methods_defined ds)
members_more c n [] m = omega arith
members_more c n (field d ∷ ds) m = members_more c n ds (with_member c n (field d) m)
members_more c n (method f ∷ ds) m =
    omega (arith, members_more c (n + 1) ds (with_member c n (method f) m), one_more f.name (ref.Fun n) m.methods)

-- how many methods a class has itself
abbrev own : Note → ℕ
own n = length (methods_defined n.item.members)

note_more : (c : ℕ) (ns : List Note) (d : ℕ) (m : Members) →
    length (with_note c (slice_get ns d) m).methods ≤ length m.methods + weight (map own ns) d
note_more c [] d m = omega arith
note_more c (n ∷ ns) zero m = members_more c n.first n.item.members m
note_more c (n ∷ ns) (suc d) m = note_more c ns d m

notes_more : (c : ℕ) (ns : List Note) (ds : List ℕ) → length (with_notes ns c ds no_members).methods ≤ taken (map own ns) ds
notes_more c ns [] = omega arith
notes_more c ns (d ∷ ds) = omega (arith, note_more c ns d (with_notes ns c ds no_members), notes_more c ns ds)

numbers_few : (t : Table) → length (fun_numbers (meanings t)) ≤ length t
numbers_few [] = omega arith
numbers_few (e ∷ t) = omega (arith, length-append (fun_number e.1) (fun_numbers (meanings t)), one e.1, numbers_few t)
  where
    one : (r : Ref) → length (fun_number r) ≤ 1
    one (ref.Fun n) = omega arith
    one (ref.Local n) = omega arith
    one (ref.Key n) = omega arith
    one (ref.Field c i) = omega arith
    one (ref.Method c m) = omega arith
    one (ref.Class c) = omega arith
    one (ref.Enum x) = omega arith
    one (ref.Builtin b) = omega arith

-- all methods of all classes are defined
all_own : (is : List ItemTree) (n : Counts) → total (map own (notes (counted n is))) ≤ length (defined_in is)
all_own [] n = omega arith
all_own (using u ∷ is) n = all_own is (counts_after (using u) n)
all_own (enumeration e ∷ is) n = all_own is (counts_after (enumeration e) n)
all_own (class c ∷ is) n = omega (arith, length-append (methods_defined c.members) (defined_in is), all_own is (counts_after (class c) n))
all_own (function f ∷ is) n = omega (arith, all_own is (counts_after (function f) n))

-- each of them has a node
methods_few : (ms : List MemberTree) → length (methods_defined ms) ≤ list_nodes member_nodes ms
methods_few [] = omega arith
methods_few (field f ∷ ms) = omega (arith, methods_few ms)
methods_few (method f ∷ ms) = omega (arith, methods_few ms)

pub defined_few : (is : List ItemTree) → length (defined_in is) ≤ items_nodes is
defined_few [] = omega arith
defined_few (using u ∷ is) = omega (arith, defined_few is)
defined_few (enumeration e ∷ is) = omega (arith, defined_few is)
defined_few (class c ∷ is) =
    omega (arith, length-append (methods_defined c.members) (defined_in is), methods_few c.members, defined_few is)
defined_few (function f ∷ is) = omega (arith, defined_few is)

module _ (is : List ItemTree) where
  abbrev k : Known
  k = known is

  abbrev pub HasFew : ClassInfo → Type 0
  HasFew c = length c.methods ≤ length (defined_in is)

  class_few : NoCircle k.outline → (c : ℕ) → length (fun_numbers (meanings (all_members k c).methods)) ≤ length (defined_in is)
  class_few h c = omega (
    arith,
    numbers_few (all_members k c).methods,
    notes_more c k.notes (line_of k.outline c),
    within (line_of k.outline c) (map own k.notes) (line_distinct k.outline h (length k.outline) c (omega arith)),
    all_own is no_counts,
  )

  tables_few : NoCircle k.outline → (c : ℕ) (os : List Class) → Each HasFew (map made_class (class_tables_from k c os))
  tables_few h c [] = tt
  tables_few h c (o ∷ os) = (class_few h c, tables_few h (c + 1) os)

  pub classes_few : NoCircle k.outline → Each HasFew (map made_class (class_tables k))
  classes_few h = tables_few h 0 k.outline
