-- What is found at the nodes of each body and of each field.
use Rattle.std.proofs.Common.{◌≡◌, ℕ, zero, suc, List, [], ◌∷◌, length, ap, ◌∙◌, subst, inl}
use Rattle.std.specs.Prelude.{Some, slice_get}
use Rattle.verse_tree.specs.ItemTree.{FieldTree, MemberTree, field, method, ItemTree, using, enumeration, class, function}
use Rattle.verse_names_tables.specs.Counting.{counted, counts_after, no_counts}
use Rattle.verse_names_tables.specs.declared.counting.Counts.{Counts}
use Rattle.verse_names_tables.specs.Notes.{Note, notes}
use Rattle.verse_names_declarations.specs.Known.{Known, known}
use Rattle.verse_names_declarations.specs.Lines.{line_of}
use Rattle.verse_names_items.specs.Nodes.{ItemsBreak}
use Rattle.verse_names_items.specs.Tables.{note_members}
use Rattle.verse_names_scopes.specs.Visible.{World, inside, outside}
use Rattle.verse_meaning.specs.Programs as programs
use Rattle.verse_meaning.specs.Programs.{fields_from}
use Rattle.verse_meaning_state.specs.Waits.{nth}
use Rattle.verse_accept_scopes.specs.Lists.{Each}
use Rattle.verse_accept_scopes.specs.Sites.{Site, member_site}
use Rattle.verse_accept_scopes.specs.Holding.{OnField, OnMembers, OnItems}
use Rattle.verse_accept_scopes.proofs.Rows.{each_joined}
use Rattle.verse_accept_rows.specs.Found.{Found}
use Rattle.verse_accept_rows.proofs.Whole.{items_found}
use Rattle.verse_accept_classes.specs.Laws.{BodiesFound, FieldsFound}
use Rattle.verse_accept_classes.proofs.Functions.{on_owned}
use Rattle.verse_accept_classes.proofs.Circles.{no_circle}
use Rattle.verse_accept_classes.proofs.Fields.{field_trees, class_fields, fields_agree}

module _ (P : Site → Type 0) (k : Known) where
  -- at the nodes of a field, and at its own
  abbrev OnOne : FieldTree → Type 0
  OnOne d = OnField P (outside k) [] d × P (member_site (outside k) [] (field d))

  own_on : (w : World) (ms : List MemberTree) → OnMembers P (outside k) w [] ms → Each OnOne (programs.own_fields ms)
  own_on w [] h = tt
  own_on w (field d ∷ ms) h = (h.0, own_on w ms h.1)
  own_on w (method f ∷ ms) h = own_on w ms h.1

  -- at the fields of each class
  abbrev OnNotes : List Note → Type 0
  OnNotes ns = Each (λ (n : Note). Each OnOne (programs.own_fields n.item.members)) ns

  notes_on : (is : List ItemTree) (n : Counts) → OnItems P k [] (counted n is) → OnNotes (notes (counted n is))
  notes_on [] n h = tt
  notes_on (using u ∷ is) n h = notes_on is (counts_after (using u) n) h.1
  notes_on (enumeration e ∷ is) n h = notes_on is (counts_after (enumeration e) n) h.1
  notes_on (class c ∷ is) n h =
      (own_on (inside k n.classes) c.members h.0.0, notes_on is (counts_after (class c) n) h.1)
  notes_on (function f ∷ is) n h = notes_on is (counts_after (function f) n) h.1

  note_on : (ns : List Note) (d : ℕ) → OnNotes ns → Each OnOne (programs.own_fields (note_members (slice_get ns d)))
  note_on [] d h = tt
  note_on (n ∷ ns) zero h = h.0
  note_on (n ∷ ns) (suc d) h = note_on ns d h.1

  trees_on : (ns : List Note) (ds : List ℕ) → OnNotes ns → Each OnOne (field_trees ns ds)
  trees_on ns [] h = tt
  trees_on ns (d ∷ ds) h =
      each_joined OnOne (field_trees ns ds) (programs.own_fields (note_members (slice_get ns d))) (trees_on ns ds h) (note_on ns d h)

  one_on : (ds : List FieldTree) (i : ℕ) (d : FieldTree) → Each OnOne ds → slice_get ds i ≡ Some d → OnOne d
  one_on [] i d h e = absurd (cc)
  one_on (x ∷ ds) zero d h e = let same : x ≡ d = cc in subst OnOne same h.0
  one_on (x ∷ ds) (suc i) d h e = one_on ds i d h.1 e

pub bodies_found : BodiesFound
bodies_found is shaped numbered sound g o e =
    on_owned (Found is) (known is) (known is).items (items_found is shaped numbered sound) g o e

module _ (P : Site → Type 0) (is : List ItemTree) (quiet : (m r : ℕ) → ItemsBreak is m r → ⊥)
    (h : OnItems P (known is) [] (known is).items) (c i : ℕ) (d : FieldTree)
    (e : slice_get (fields_from (length (programs.classes is)) (programs.classes is) (nth (programs.classes is) c)) i ≡ Some d) where
  field_on : OnOne P (known is) d
  field_on =
      let k = known is in
      let own = ap (λ l. slice_get l i) (fields_agree is (no_circle is quiet) c) ∙ e in
      one_on P k (class_fields is c) i d (trees_on P k k.notes (line_of k.outline c) (notes_on P k is no_counts h)) own

  -- what holds on the items holds on each field of a class
  pub fields_on : OnField P (outside (known is)) [] d
  fields_on = field_on.0

  -- and at its own node
  pub at_fields : P (member_site (outside (known is)) [] (field d))
  at_fields = field_on.1

pub fields_found : FieldsFound
fields_found is shaped numbered sound =
    fields_on (Found is) is (λ m r b. sound.named m r (inl b)) (items_found is shaped numbered sound)
