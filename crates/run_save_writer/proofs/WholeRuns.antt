-- Writing a saved run whole.
use Rattle.std.proofs.Common.{◌≡◌, ℕ, List, [], ◌∷◌, ◌++◌, length, map, sym, ap, subst, ◌∙◌}
use Rattle.std.proofs.lemmas.List.{append-nil}
use Rattle.std.proofs.lemmas.List.Elements.{All-nil, All-cons}
use Rattle.std.specs.Prelude.{All}
use Rattle.verse_code.specs.declared.codes.Code.{Code}
use Rattle.verse_image.specs.Format.{Field, ◌⨾◌, plain, Image, version_of}
use Rattle.verse_image.specs.Writing.{Writes}
use Rattle.verse_image.proofs.WritingLemmas.{writes_then, writes_as, writes_four}
use Rattle.run_save_shots.specs.declared.shots.TaskShot.{TaskShot}
use Rattle.run_save_shots.specs.Kept.{Kept}
use Rattle.run_save_shots.specs.Lists.{Each}
use Rattle.run_save_shots.specs.Fitting.{TaskFits, Fits}
use Rattle.run_save_shots.specs.View.{task_of}
use Rattle.run_save_format.specs.Format.{wide, imaged, fields, Saved}
use Rattle.run_save_writer.specs.Roles.{IsSuited}

pub all_suited : (c : Code) (s : Kept) (ts : List TaskShot) → Each (TaskFits c s) (map task_of ts) → All IsSuited ts
all_suited c s [] h = All-nil IsSuited
all_suited c s (t ∷ ts) h = All-cons IsSuited t ts h.0.role (all_suited c s ts h.1)

pub writes_image : (code : Code) (image : List ℕ) (a b c : List ℕ) → Image (version_of code) code image → Writes (wide (length
    image)) a b →
    Writes (plain image) b c → Writes (imaged code) a c
writes_image code image a b c i p q =
    writes_as (wide (length image) ⨾ plain image) (imaged code) a c (λ x z h. (image, i, h))
    (writes_then (wide (length image)) (plain image) a b c p q)

pub writes_six : (P Q R S T U : Field) (a b c d e f g : List ℕ) → Writes P a b → Writes Q b c → Writes R c d → Writes S d e →
    Writes T e f → Writes U f g → Writes (P ⨾ Q ⨾ R ⨾ S ⨾ T ⨾ U) a g
writes_six P Q R S T U a b c d e f g p q r s t u =
    writes_then (P ⨾ Q ⨾ R ⨾ S ⨾ T) U a f g (writes_then (P ⨾ Q ⨾ R ⨾ S) T a e f (writes_four P Q R S a b c d e p q r s) t) u

-- what is written onto nothing is the saved run
pub saved_from : (code : Code) (s : Kept) (a b : List ℕ) → a ≡ [] → Fits code s → Writes (fields code s) a b → Saved code s b
saved_from code s a b e fits p =
    let whole : b ≡ p.0 = p.1 ∙ ap (λ (w : List ℕ). w ++ p.0) e in
    record { fits = fits; spelled = subst (λ (w : List ℕ). fields code s w []) (append-nil p.0 ∙ sym whole) (p.2 []) }
