-- The fields of a class, made of those of its parent.
use Rattle.std.proofs.Common.{◌≡◌, ℕ, zero, suc, ◌<◌, Bool, true, false, nat_eq, List, [], ◌∷◌, ◌++◌, length, map, Option, refl, ap, ◌∙◌}
use Rattle.std.proofs.Common.{sym}
use Rattle.std.proofs.Common.{subst, arith}
use Rattle.std.specs.Prelude.{Some, None, slice_get, slice_set}
use Rattle.verse_tree.specs.declared.tables.FieldInfo.{FieldInfo}
use Rattle.verse_rules_types.specs.Types.{field_of}
use Rattle.verse_rules_types.specs.Fitting.{parent_of}
use Rattle.verse_rules_types.specs.Depths.{up}
use Rattle.verse_rules_types.proofs.Levels.{once, same_number, high_ends}
use Rattle.verse_names_declarations.specs.Known.{Known}
use Rattle.verse_names_declarations.specs.Lines.{line, line_of, on_class}
use Rattle.verse_names_declarations.specs.Descents.{Tells}
use Rattle.verse_names_declarations.specs.declared.descents.Descent.{Descent}
use Rattle.verse_names_tables.proofs.Sharing.{get_set, get_other}
use Rattle.verse_names_declarations.proofs.Descending.{not_same}
use Rattle.verse_names_items.specs.Tables.{fields_of, own_fields, note_members, class_fields}
use Rattle.verse_names_items.specs.Making.{FieldsTold, FieldsAbove, AreMade}

module _ (k : Known) where
  last_none : (ms : List (Option (List FieldInfo))) (c : ℕ) (fs : List FieldInfo) →
      slice_get (ms ++ None ∷ []) c ≡ Some (Some fs) → slice_get ms c ≡ Some (Some fs)
  last_none [] zero fs e = cc
  last_none [] (suc c) fs e = cc
  last_none (m ∷ ms) zero fs e = e
  last_none (m ∷ ms) (suc c) fs e = last_none ms c fs e

  pub none_made : (ms : List (Option (List FieldInfo))) → AreMade k ms → AreMade k (ms ++ None ∷ [])
  none_made ms h c fs e = h c fs (last_none ms c fs e)

  pub made_at : (ms : List (Option (List FieldInfo))) (c : ℕ) (fs : List FieldInfo) → AreMade k ms →
      slice_get ms c ≡ Some (Some fs) → FieldsTold k c fs
  made_at ms c fs h e = h c fs e

  pub set_made : (ms : List (Option (List FieldInfo))) (c : ℕ) (fs : List FieldInfo) → AreMade k ms → FieldsTold k c fs →
      c < length ms → AreMade k (slice_set ms c (Some fs))
  set_made ms c fs h t l e gs q = by (nat_eq e c) refl
    where
      by : (b : Bool) → nat_eq e c ≡ b → FieldsTold k e gs
      by true s =
          let same : e ≡ c = same_number e c s in
          let here : slice_get (slice_set ms c (Some fs)) e ≡ Some (Some fs) =
          ap (slice_get (slice_set ms c (Some fs))) same ∙ get_set ms c (Some fs) l in
          let also : fs ≡ gs = cc in
          subst (FieldsTold k e) also (subst (λ i. FieldsTold k i fs) (sym same) t)
      by false s = h e gs (sym (get_other ms c e (Some fs) (not_same e c s)) ∙ q)

  pub root_told : (c : ℕ) (d : Descent) → Tells k.notes k.outline c d → parent_of k.outline c ≡ None → FieldsAbove k c []
  root_told c d t e = record {
    depth = d.depth;
    descends = t.descends;
    told = λ n h. ap (λ o. fields_of k.index.types k.notes (on_class o (line k.outline n))) (sym e);
  }

  pub below_told : (c p : ℕ) (d : Descent) (fs : List FieldInfo) → Tells k.notes k.outline c d → parent_of k.outline c ≡ Some p →
      FieldsTold k p fs → FieldsAbove k c fs
  below_told c p d fs t e f = record {
    depth = d.depth;
    descends = t.descends;
    told = λ n h.
        f.told n (omega (
          arith,
          once k.outline (up e (high_ends k.outline p f.depth f.descends).1)
              (high_ends k.outline c d.depth t.descends).1,
          h,
        )) ∙
        ap (λ o. fields_of k.index.types k.notes (on_class o (line k.outline n))) (sym e);
  }

  pub own_told : (c : ℕ) (fs gs : List FieldInfo) → FieldsAbove k c fs →
      map field_of gs ≡ map field_of fs ++ own_fields k.index.types (note_members (slice_get k.notes c)) → FieldsTold k c gs
  own_told c fs gs t e = record { depth = t.depth; descends = t.descends; told = by }
    where
      by : (n : ℕ) → t.depth < n → map field_of gs ≡ fields_of k.index.types k.notes (line k.outline n c)
      by zero h = absurd (omega (arith, h))
      by (suc n) h = e ∙ ap (λ l. l ++ own_fields k.index.types (note_members (slice_get k.notes c))) (t.told n h)

  pub all_told : (c : ℕ) (fs : List FieldInfo) → FieldsTold k c fs → map field_of fs ≡ class_fields k c
  all_told c fs t = t.told (length k.outline) (high_ends k.outline c t.depth t.descends).0
