-- The methods that the table has for a class are methods of the items.
use Rattle.std.proofs.Common.{◌≡◌, ℕ, zero, suc, ◌+◌, List, [], ◌∷◌, map, subst}
use Rattle.std.specs.Prelude.{Option, Some, None, slice_get}
use Rattle.verse_tree.specs.ItemTree.{FunTree, MemberTree, field, method, ItemTree, using, enumeration, class, function}
use Rattle.verse_tree.specs.declared.tables.ClassInfo.{ClassInfo}
use Rattle.verse_tree.specs.declared.tables.Ref.{Ref}
use Rattle.verse_tree.specs.declared.tables.Ref.TheVariants as ref
use Rattle.verse_rules_types.specs.Types.{Class}
use Rattle.verse_names_tables.specs.Names.{Table, meanings}
use Rattle.verse_names_tables.specs.Counting.{counted, counts_after, no_counts}
use Rattle.verse_names_tables.specs.declared.counting.Counts.{Counts}
use Rattle.verse_names_tables.specs.Notes.{Note, notes}
use Rattle.verse_names_declarations.specs.Known.{Known, known}
use Rattle.verse_names_declarations.specs.Lines.{Members, with_member, with_members, with_note, with_notes, no_members, all_members}
use Rattle.verse_names_declarations.specs.Lines.{line_of}
use Rattle.verse_names_items.specs.Tables.{fun_number, fun_numbers, class_tables_from, class_tables}
use Rattle.verse_rules.specs.Naming.{made_class}
use Rattle.verse_meaning.specs.Programs.{method_in}
use Rattle.lower_bounds.proofs.Lists.{Each, each_joined}
use Rattle.lower_simulation_runs.specs.Programs.{a_method, methods_defined, defined_in}
use Rattle.verse_accept_classes.proofs.Places.{Placed, first_placed}
use Rattle.verse_accept_tables.proofs.Standing.{AllStand, put_stands, Last, next, whole}

module _ (all : List ItemTree) where
  -- the function of a number is a method
  abbrev pub IsMethod : ℕ → Type 0
  IsMethod f = (fn : FunTree) × (slice_get (defined_in all) f ≡ Some (a_method fn))

  abbrev Fits : Ref → Type 0
  Fits (ref.Local n) = Unit {0}
  Fits (ref.Key n) = Unit {0}
  Fits (ref.Field c i) = Unit {0}
  Fits (ref.Method c m) = Unit {0}
  Fits (ref.Fun f) = IsMethod f
  Fits (ref.Class c) = Unit {0}
  Fits (ref.Enum e) = Unit {0}
  Fits (ref.Builtin b) = Unit {0}

  abbrev AllFit : Table → Type 0
  AllFit t = AllStand Fits t

  members_fit : (c n : ℕ) (ds : List MemberTree) (m : Members) → Placed (defined_in all) n (methods_defined ds) → AllFit m.methods →
      AllFit (with_members c n ds m).methods
  members_fit c n [] m p h = h
  members_fit c n (field d ∷ ds) m p h = members_fit c n ds (with_member c n (field d) m) p h
  members_fit c n (method f ∷ ds) m p h = members_fit c (n + 1) ds (with_member c n (method f) m) p.1
      (put_stands Fits f.name (ref.Fun n) m.methods (f, p.0) h)

  -- the methods of a class stand where its note says
  abbrev pub IsNoted : Note → Type 0
  IsNoted n = Placed (defined_in all) n.first (methods_defined n.item.members)

  all_noted : (is : List ItemTree) (n : Counts) → Last all is n → Each IsNoted (notes (counted n is))
  all_noted [] n l = tt
  all_noted (using u ∷ is) n l = all_noted is (counts_after (using u) n) (next all is (using u) n l)
  all_noted (enumeration e ∷ is) n l = all_noted is (counts_after (enumeration e) n) (next all is (enumeration e) n l)
  all_noted (class c ∷ is) n l = (
    first_placed (defined_in all) n.funs (methods_defined c.members) (defined_in is) l.functions,
    all_noted is (counts_after (class c) n) (next all is (class c) n l),
  )
  all_noted (function f ∷ is) n l = all_noted is (counts_after (function f) n) (next all is (function f) n l)

  note_fits : (c : ℕ) (ns : List Note) (d : ℕ) (m : Members) → Each IsNoted ns → AllFit m.methods →
      AllFit (with_note c (slice_get ns d) m).methods
  note_fits c [] d m p h = h
  note_fits c (n ∷ ns) zero m p h = members_fit c n.first n.item.members m p.0 h
  note_fits c (n ∷ ns) (suc d) m p h = note_fits c ns d m p.1 h

  notes_fit : (c : ℕ) (ns : List Note) (ds : List ℕ) → Each IsNoted ns → AllFit (with_notes ns c ds no_members).methods
  notes_fit c ns [] p = tt
  notes_fit c ns (d ∷ ds) p = note_fits c ns d (with_notes ns c ds no_members) p (notes_fit c ns ds p)

  one_number : (r : Ref) → Fits r → Each IsMethod (fun_number r)
  one_number (ref.Fun n) h = (h, tt)
  one_number r h = tt

  numbers_fit : (t : Table) → AllFit t → Each IsMethod (fun_numbers (meanings t))
  numbers_fit [] h = tt
  numbers_fit (e ∷ t) h = each_joined IsMethod (fun_number e.1) (fun_numbers (meanings t)) (one_number e.1 h.0) (numbers_fit t h.1)

  -- a class of the table has methods alone
  abbrev pub HasMethods : ClassInfo → Type 0
  HasMethods c = Each IsMethod c.methods

  tables_fit : (k : Known) (c : ℕ) (os : List Class) → Each IsNoted k.notes → Each HasMethods (map made_class (class_tables_from k c os))
  tables_fit k c [] p = tt
  tables_fit k c (o ∷ os) p = (
    numbers_fit (all_members k c).methods (notes_fit c k.notes (line_of k.outline c) p),
    tables_fit k (c + 1) os p,
  )

  number_at : (fs : List ℕ) (m f : ℕ) → Each IsMethod fs → slice_get fs m ≡ Some f → IsMethod f
  number_at [] m f h e = cc
  number_at (g ∷ fs) zero f h e = subst (λ (o : Option ℕ). Given o) e h.0
    where
      Given : Option ℕ → Type 0
      Given None = ⊥
      Given (Some g) = IsMethod g
  number_at (g ∷ fs) (suc m) f h e = number_at fs m f h.1 e

  pub method_there : (cs : List ClassInfo) (c m f : ℕ) → Each HasMethods cs → method_in m (slice_get cs c) ≡ Some f → IsMethod f
  method_there [] c m f h e = cc
  method_there (d ∷ cs) zero m f h e = number_at d.methods m f h.0 e
  method_there (d ∷ cs) (suc c) m f h e = method_there cs c m f h.1 e

pub classes_fit : (is : List ItemTree) → Each (HasMethods is) (map made_class (class_tables (known is)))
classes_fit is = tables_fit is (known is) 0 (known is).outline (all_noted is is no_counts (whole is))
