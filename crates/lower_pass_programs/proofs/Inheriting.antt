-- Classes inherit as the notes say.
use Rattle.std.proofs.Common.{◌≡◌, ℕ, Option, Some, None, Bool, refl, sym, ap, ◌∙◌, subst}
use Rattle.std.specs.Prelude.{slice_get}
use Rattle.std.proofs.lemmas.Option.{none-some}
use std.Path.{fun_ext}
use Rattle.verse_meaning.specs.Programs.{Program}
use Rattle.verse_sound_rules.specs.Found.{Found}
use Rattle.verse_sound_rules.specs.Programs.{FineFound}
use Rattle.verse_verify_kept.specs.Notes.{Notes, ClassNote, parent_in, parent_of}
use Rattle.lower_pass_forms.proofs.Applied.{noted_found}
use Rattle.lower_pass_programs.proofs.Telling.{Told}
use Rattle.lower_pass_programs.proofs.Declared as declared
use Rattle.lower_pass_programs.proofs.Declared.{class_at, class_is}

abbrev with_up : Found → (ℕ → Option ℕ) → Found
with_up f u = record {
  sort = f.sort;
  key = f.key;
  is_var = f.is_var;
  up = u;
  slots = f.slots;
  signature = f.signature;
}

module _ (p : Program) (found : Found) (differ : ℕ → ℕ → Bool) (files : ℕ) (told : Told p found) where
  abbrev notes : Notes
  notes = declared.notes p found differ files

  pub up_at : (c : ℕ) → found.up c ≡ parent_of notes c
  up_at c = by (slice_get notes.classes c) refl
    where
      none_above : (r : Option ℕ) → found.up c ≡ r → slice_get notes.classes c ≡ None → found.up c ≡ None
      none_above None e h = e
      none_above (Some d) e h = elim (none-some _ (sym h ∙ class_at p found differ files c (told.below c d e))) [ ]

      by : (r : Option ClassNote) → slice_get notes.classes c ≡ r →
          found.up c ≡ parent_of notes c
      by None e = none_above (found.up c) refl e ∙ ap parent_in (sym e)
      by (Some x) e = ap (λ (z : ClassNote). z.parent) (class_is p found differ files c x e) ∙ ap parent_in (sym e)

  pub fine_noted : FineFound p found → FineFound p (noted_found notes found)
  fine_noted h = subst (λ u. FineFound p (with_up found u)) (fun_ext up_at) h
