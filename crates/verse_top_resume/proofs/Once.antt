-- A file has one saved run at most, and none where a place fails.
use Rattle.std.proofs.Common.{◌≡◌, ℕ, ◌-◌, List, Bool, length, Result, Ok, Err, refl, sym, ap, ◌∙◌}
use Rattle.verse_code.specs.declared.codes.Code.{Code}
use Rattle.verse_image.specs.Reading.{flaw}
use Rattle.verse_image.specs.declared.faults.Flaw.{Flaw}
use Rattle.verse_meaning_state.specs.Texts.{run_text}
use Rattle.run_save_shots.specs.Kept.{Kept}
use Rattle.run_save_format.specs.Whole.{file_at}
use Rattle.verse_top_texts.specs.Endings.{ending_status}
use Rattle.verse_top_exec.specs.Courses.{Comes, run_on}
use Rattle.verse_top_resume.specs.Resuming.{IsFault, ResumedOnce, Resumes, course_from, no_state, state_line, went_on}

goes_once : (until : ℕ) (heap : Bool) (c d : Code) (x y : Kept) (s t : ℕ) (a b : List ℕ) → c ≡ d → x ≡ y →
    Comes c (course_from c x until heap) s a → Comes d (course_from d y until heap) t b → (s ≡ t) × (a ≡ b)
goes_once until heap c d x y s t a b e f p q = (
  p.status_is ∙ ap (λ (k : Code). ending_status (run_on k (course_from k x until heap)).ending) e ∙
      ap (λ (z : Kept). ending_status (run_on d (course_from d z until heap)).ending) f ∙ sym q.status_is,
  p.text_is ∙ ap (λ (k : Code). run_text (run_on k (course_from k x until heap)) heap k.files) e ∙
      ap (λ (z : Kept). run_text (run_on d (course_from d z until heap)) heap d.files) f ∙ sym q.text_is,
)

one_run : (c d : Code) (x y : Kept) (r : Result (Code × Kept) Flaw) → r ≡ Ok (c, x) → r ≡ Ok (d, y) → (c ≡ d) × (x ≡ y)
one_run c d x y r e f =
    let same : (c, x) ≡ (d, y) = cc (e, f) in
    (ap (λ (m : Code × Kept). m.0) same, ap (λ (m : Code × Kept). m.1) same)

pub once : ResumedOnce
once file until heap s t a b (went_on c x _ _ e p) (went_on d y _ _ f q) =
    let same = one_run c d x y (file_at file) e f in
    goes_once until heap c d x y s t a b same.0 same.1 p q
once file until heap s t a b (went_on c x _ _ e p) (no_state rule left f) = absurd (cc (e, f))
once file until heap s t a b (no_state rule left e) (went_on d y _ _ f q) = absurd (cc (e, f))
once file until heap s t a b (no_state rule left e) (no_state role less f) =
    let same : flaw rule left ≡ flaw role less = cc (e, f) in
    (refl, ap (λ (k : Flaw). state_line k.rule (length file - k.left)) same)

-- a fault that is told is that of the file
pub resumes_fault : (file : List ℕ) (until : ℕ) (heap : Bool) (rule at left s : ℕ) (t : List ℕ) → file_at file ≡ Err (flaw rule left) →
    at ≡ length file - left → IsFault rule at s t → Resumes file until heap s t
resumes_fault file until heap rule at left s t e f p =
    let text : t ≡ state_line rule (length file - left) = p.1 ∙ ap (state_line rule) f in
    rw (p.0, text) (no_state rule left e)
