-- Classes stand at heights, each above its parent, where no rule of items and members is broken.
use Rattle.std.proofs.Common.{◌≡◌, ℕ, zero, suc, ◌≤◌, ◌<◌, List, ◌∷◌, length, Option, Some, None, Bool, refl, sym, ap, ◌∙◌, subst, arith}
use Rattle.std.specs.Prelude.{slice_get}
use Rattle.std.proofs.lemmas.List.{length-map}
use Rattle.std.proofs.lemmas.Option.{none-some, slice_get_within}
use Rattle.verse_tree.specs.ItemTree.{ItemTree}
use Rattle.verse_rules_types.specs.Types.{Class}
use Rattle.verse_rules_types.specs.Fitting.{parent_of}
use Rattle.verse_names_declarations.specs.Known.{known}
use Rattle.verse_names_declarations.specs.Lines.{on_class, line, line_of}
use Rattle.verse_meaning.specs.Programs.{Program}
use Rattle.verse_sound_rules.specs.Found.{Found}
use Rattle.verse_verify_kept.specs.Notes.{ClassNote, parent_in}
use Rattle.verse_verify_faults.specs.Spots.{Table}
use Rattle.verse_verify_clean.specs.Laws.{Falling}
use Rattle.lower_code.specs.Programs.{class_of}
use Rattle.lower_notes.proofs.Whole.{one_for_each}
use Rattle.lower_pass_programs.proofs.Declared.{table, class_is}
use Rattle.verse_accept_classes.specs.Laws.{Quiet}
use Rattle.verse_accept_classes.proofs.Parents.{parents_within}
use Rattle.verse_accept_classes.proofs.Circles.{no_circle}
use Rattle.verse_accept_classes.proofs.Fields.{no_parent}
use Rattle.verse_accept_classes.proofs.Ancestors.{line_is}

line_short : (os : List Class) (n c : ℕ) → length (line os n c) ≤ n
line_short os zero c = omega arith
line_short os (suc n) c = by (parent_of os c) (λ p. line_short os n p)
  where
    by : (o : Option ℕ) → ((p : ℕ) → length (line os n p) ≤ n) → length (c ∷ on_class o (line os n)) ≤ suc n
    by None r = omega arith
    by (Some p) r = omega (arith, r p)

module _ (is : List ItemTree) (quiet : Quiet is) where
  abbrev os : List Class
  os = (known is).outline

  -- how many classes a class has in its line, itself and those above it
  abbrev height : ℕ → ℕ
  height c = length (line_of os c)

  class_there : (c p : ℕ) → parent_of os c ≡ Some p → c < length os
  class_there c p e = by (slice_get os c) refl
    where
      by : (o : Option Class) → slice_get os c ≡ o → c < length os
      by None h = elim (none-some p (sym (no_parent os c h) ∙ e)) [ ]
      by (Some o) h = slice_get_within os c o h

  lower : (c p : ℕ) → parent_of os c ≡ Some p → height p < height c
  lower c p e = more (height c) (height p) (
      ap length (line_is os (no_circle is quiet) (parents_within is) c (class_there c p e))
      ∙ ap (λ o. length (c ∷ on_class o (line_of os))) e)
    where
      more : (a b : ℕ) → a ≡ suc b → b < a
      more a b e = omega (arith, e)

  -- so do those of a program of these items, whose parents the notes have
  module _ (p : Program) (found : Found) (differ : ℕ → ℕ → Bool) (count : ℕ) (up : (c : ℕ) → found.up c ≡ parent_of os c)
      (many : length p.names.classes ≡ length os) where
    abbrev notes : Table
    notes = table p found differ count

    parent_noted : (c d : ℕ) → parent_in (slice_get notes.classes c) ≡ Some d → found.up c ≡ Some d
    parent_noted c d e = by (slice_get notes.classes c) refl
      where
        by : (o : Option ClassNote) → slice_get notes.classes c ≡ o → found.up c ≡ Some d
        by None h = elim (none-some d (ap parent_in (sym h) ∙ e)) [ ]
        by (Some x) h = ap (λ (z : ClassNote). z.parent) (class_is p found differ count c x h) ∙ (ap parent_in (sym h) ∙ e)

    notes_many : length notes.classes ≡ length os
    notes_many = ((one_for_each p found differ).whole count).classes ∙ (length-map p.names.classes class_of ∙ many)

    pub falling : Falling notes
    falling = record {
      rank = height;
      falls = λ c d e. lower c d (sym (up c) ∙ parent_noted c d e);
      most = λ c. subst (λ n. height c ≤ n) (sym notes_many) (line_short os (length os) c);
    }
