-- The table has as many fields for a class as its items give it.
use Rattle.std.proofs.Common.{◌≡◌, ℕ, zero, suc, ◌+◌, ◌<◌, List, [], ◌∷◌, map, length, true, refl, sym, ap, ◌∙◌, subst, arith}
use Rattle.std.proofs.lemmas.List.{length-map, length-append}
use Rattle.std.proofs.lemmas.Option.{slice_get_within}
use Rattle.std.specs.Prelude.{Option, Some, None, slice_get}
use Rattle.verse_base.proofs.Facts.{past}
use Rattle.verse_tree.specs.ItemTree.{MemberTree, field, method, ClassTree, ItemTree}
use Rattle.verse_tree.specs.Sizes.{class_fields}
use Rattle.verse_rules_types.specs.Types.{Class}
use Rattle.verse_rules_types.specs.Fitting.{parent_of}
use Rattle.verse_names_tables.specs.Names.{Table}
use Rattle.verse_names_tables.specs.Counting.{no_counts}
use Rattle.verse_names_tables.specs.Notes.{Note}
use Rattle.verse_names_declarations.specs.Known.{Known, known}
use Rattle.verse_names_declarations.specs.Lines.{on_class, line, line_of}
use Rattle.verse_names_items.specs.Tables.{own_fields, note_members, fields_of, class_tables_from, class_tables}
use Rattle.verse_rules.specs.Naming.{made_field, made_class}
use Rattle.verse_meaning_state.specs.Waits.{nth}
use Rattle.verse_meaning_state.proofs.Numbers.{nth_is}
use Rattle.verse_meaning.specs.Programs.{classes, fields_from}
use Rattle.verse_meaning.specs.Programs as programs
use Rattle.verse_accept_classes.proofs.Classes.{tree_of, notes_are, outline_many}
use Rattle.verse_accept_classes.proofs.Parents.{at, parent_is, parents_within}
use Rattle.verse_accept_classes.proofs.Lines.{ends_above, ends, NoCircle, all_end}
use Rattle.verse_accept_classes.proofs.Fields.{no_parent}

-- ---- the fields of one class

own_many : (ts : Table) (ms : List MemberTree) → length (own_fields ts ms) ≡ length (programs.own_fields ms)
own_many ts [] = refl
own_many ts (field d ∷ ms) = ap suc (own_many ts ms)
own_many ts (method f ∷ ms) = own_many ts ms

-- how many a class of the program has itself
abbrev own : Option ClassTree → ℕ
own None = 0
own (Some c) = length (programs.own_fields c.members)

note_many : (ts : Table) (ns : List Note) (d : ℕ) →
    length (own_fields ts (note_members (slice_get ns d))) ≡ own (slice_get (map tree_of ns) d)
note_many ts [] d = refl
note_many ts (n ∷ ns) zero = own_many ts n.item.members
note_many ts (n ∷ ns) (suc d) = note_many ts ns d

-- ---- the fields of a class and its ancestors

no_more : (n : ℕ) (cs : List ClassTree) → length (fields_from n cs None) ≡ 0
no_more zero cs = refl
no_more (suc n) cs = refl

module _ (is : List ItemTree) where
  abbrev k : Known
  k = known is

  abbrev ts : Table
  ts = k.index.types

  own_is : (d : ℕ) → length (own_fields ts (note_members (slice_get k.notes d))) ≡ own (slice_get (classes is) d)
  own_is d = note_many ts k.notes d ∙ ap (λ cs. own (slice_get cs d)) (notes_are is no_counts)

  -- behind n steps, where the ancestors end within these
  line_many : (n d : ℕ) → ends k.outline n d ≡ true →
      length (fields_of ts k.notes (line k.outline n d)) ≡ length (fields_from n (classes is) (slice_get (classes is) d))
  line_many zero d h = cc
  line_many (suc n) d h = by (slice_get (classes is) d) refl (above (parent_of k.outline d) h (λ p g. line_many n p g))
    where
      -- the fields of what is above
      above : (o : Option ℕ) → ends_above k.outline o (ends k.outline n) ≡ true →
          ((p : ℕ) → ends k.outline n p ≡ true →
          length (fields_of ts k.notes (line k.outline n p)) ≡ length (fields_from n (classes is) (slice_get (classes is) p))) →
          length (fields_of ts k.notes (on_class o (line k.outline n))) ≡ length (fields_from n (classes is) (at (classes is) o))
      above None g r = sym (no_more n (classes is))
      above (Some p) g r = r p g

      sum : (o : Option ℕ) → length (fields_of ts k.notes (d ∷ on_class o (line k.outline n))) ≡
          length (fields_of ts k.notes (on_class o (line k.outline n))) + own (slice_get (classes is) d)
      sum o = length-append (fields_of ts k.notes (on_class o (line k.outline n))) (own_fields ts (note_members (slice_get k.notes d))) ∙
          ap (λ m. length (fields_of ts k.notes (on_class o (line k.outline n))) + m) (own_is d)

      by : (o : Option ClassTree) → slice_get (classes is) d ≡ o →
          length (fields_of ts k.notes (on_class (parent_of k.outline d) (line k.outline n))) ≡
          length (fields_from n (classes is) (at (classes is) (parent_of k.outline d))) →
          length (fields_of ts k.notes (line k.outline (suc n) d)) ≡ length (fields_from (suc n) (classes is) o)
      by None e r =
          let none = no_parent k.outline d (past (classes is) k.outline d (sym (outline_many is)) e) in
          sum (parent_of k.outline d) ∙
          ap (λ o. length (fields_of ts k.notes (on_class o (line k.outline n))) + own (slice_get (classes is) d)) none ∙
          ap (λ (o : Option ClassTree). 0 + own o) e ∙ omega arith
      by (Some c) e r =
          sum (parent_of k.outline d) ∙
          ap (λ (o : Option ClassTree). length (fields_of ts k.notes (on_class (parent_of k.outline d) (line k.outline n))) + own o) e ∙
          ap (λ m. m + length (programs.own_fields c.members)) (r ∙
          ap (λ o. length (fields_from n (classes is) o)) (parent_is is d c e)) ∙
          sym (length-append (fields_from n (classes is) (programs.parent_of (classes is) c.parent)) (programs.own_fields c.members))

  table_at : (c n : ℕ) (os : List Class) → n < length os →
      class_fields (slice_get (map made_class (class_tables_from k c os)) n) ≡ length (fields_of ts k.notes (line_of k.outline (c + n)))
  table_at c n [] l = absurd (omega (arith, l))
  table_at c zero (o ∷ os) l = length-map (fields_of ts k.notes (line_of k.outline c)) made_field ∙
      ap (λ d. length (fields_of ts k.notes (line_of k.outline d))) (omega arith)
  table_at c (suc n) (o ∷ os) l = table_at (c + 1) n os (omega (arith, l)) ∙
      ap (λ d. length (fields_of ts k.notes (line_of k.outline d))) (omega arith)

  no_table : (c n : ℕ) (os : List Class) → slice_get os n ≡ None →
      class_fields (slice_get (map made_class (class_tables_from k c os)) n) ≡ 0
  no_table c n [] e = refl
  no_table c zero (o ∷ os) e = cc
  no_table c (suc n) (o ∷ os) e = no_table (c + 1) n os e

  pub fields_agree : NoCircle k.outline → (c : ℕ) → class_fields (slice_get (map made_class (class_tables k)) c) ≡
      length (fields_from (length (classes is)) (classes is) (nth (classes is) c))
  fields_agree h c = by (slice_get (classes is) c) refl ∙
      ap (λ o. length (fields_from (length (classes is)) (classes is) o)) (sym (nth_is (classes is) c))
    where
      by : (o : Option ClassTree) → slice_get (classes is) c ≡ o → class_fields (slice_get (map made_class (class_tables k)) c) ≡
          length (fields_from (length (classes is)) (classes is) (slice_get (classes is) c))
      by None e =
          no_table 0 c k.outline (past (classes is) k.outline c (sym (outline_many is)) e) ∙
          sym (no_more (length (classes is)) (classes is)) ∙ ap (λ o. length (fields_from (length (classes is)) (classes is) o)) (sym e)
      by (Some cl) e =
          let inside : c < length k.outline = subst (λ n. c < n) (sym (outline_many is)) (slice_get_within (classes is) c cl e) in
          table_at 0 c k.outline inside ∙
          ap (λ d. length (fields_of ts k.notes (line_of k.outline d))) (omega arith) ∙
          line_many (length k.outline) c (all_end k.outline h (parents_within is) c inside) ∙
          ap (λ n. length (fields_from n (classes is) (slice_get (classes is) c))) (outline_many is)
