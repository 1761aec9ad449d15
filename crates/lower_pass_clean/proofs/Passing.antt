-- The notes of a whole program break no rule.
use Rattle.std.proofs.Common.{◌≡◌, ℕ, Bool, length, None, All, refl}
use Rattle.verse_tree.specs.PostOrder.{items_order}
use Rattle.verse_code.specs.Validity.{IsClass}
use Rattle.verse_meaning.specs.Programs.{Program}
use Rattle.verse_sound_rules.specs.Found as rules
use Rattle.verse_sound_rules.specs.Programs.{FineFound}
use Rattle.verse_verify_faults.specs.Faults.{notes_fault}
use Rattle.verse_verify_laws.specs.Laws.{Formed}
use Rattle.verse_verify_clean.specs.Laws.{Falling}
use Rattle.verse_verify_clean.proofs.Tables.{clean}
use Rattle.lower_code.specs.Programs.{code_of}
use Rattle.lower_notes.specs.Programs as n
use Rattle.lower_notes.proofs.Whole.{one_for_each}
use Rattle.lower_simulation_runs.specs.Programs.{NodeStands, NumbersAgree}
use Rattle.lower_sound.specs.Programs.{ItemsFound}
use Rattle.lower_pass_told.proofs.Telling.{told_of}
use Rattle.lower_pass_programs.proofs.Telling.{Told}
use Rattle.lower_pass_programs.proofs.Bodies.{Knot}
use Rattle.lower_pass_programs.proofs.Whole.{held_states, verified}

module _ (p : Program) (found : rules.Found) (differ : ℕ → ℕ → Bool) (files : ℕ) (numbers : NumbersAgree p)
    (nodes : All (NodeStands p) (items_order p.items)) (items : ItemsFound p found p.items) (told : Told p found)
    (fine : FineFound p found) (knot : Knot p found differ files) where
  formed : Formed (code_of p differ files) (n.notes_of p found differ (code_of p differ files))
  formed =
      let counts = (one_for_each p found differ).whole files in
      let v = verified p found differ files numbers nodes items told fine knot in
      record {
        classes = counts.classes;
        functions = counts.functions;
        params = λ k f g e h. (v.begins k f g e h).count;
        spots = counts.spots;
      }

  -- of the validity of the code only that of its classes is needed, so the count of files may be any
  pub note_passes : All (IsClass (length (code_of p differ files).functions)) (code_of p differ files).classes →
      Falling (n.notes_of p found differ (code_of p differ files)) →
      notes_fault (code_of p differ files) (n.notes_of p found differ (code_of p differ files)) ≡ None
  note_passes are falling =
      clean (code_of p differ files) (n.notes_of p found differ (code_of p differ files))
      (told_of (code_of p differ files) (n.notes_of p found differ (code_of p differ files))
      (n.whole p found differ (code_of p differ files)).states refl
      (held_states p found differ files numbers nodes items told fine knot) falling) are formed
      (verified p found differ files numbers nodes items told fine knot)
