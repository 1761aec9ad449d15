-- Bytes are the image of one code at most, and none where a place fails.
use Rattle.std.proofs.Common.{◌≡◌, ℕ, ◌-◌, List, length, Ok, Err, refl, sym, ap, subst, ◌∙◌}
use Rattle.verse_code.specs.declared.codes.Code.{Code}
use Rattle.verse_image.specs.Reading.{flaw, image_at}
use Rattle.verse_image.specs.declared.faults.Flaw.{Flaw}
use Rattle.verse_image.proofs.ImageLaws.{image_again, one_code}
use Rattle.verse_meaning_state.specs.Texts.{run_text}
use Rattle.verse_top_texts.specs.Endings.{ending_status}
use Rattle.verse_top_texts.specs.Images.{image_line}
use Rattle.verse_top_args.specs.Words.{Options}
use Rattle.verse_top_exec.specs.Executions.{ExecutedOnce, Executes, IsFault, Runs, no_image, ran, run_with}

runs_once : (c d : Code) (o : Options) (s t : ℕ) (x y : List ℕ) → c ≡ d → Runs c o s x → Runs d o t y → (s ≡ t) × (x ≡ y)
runs_once c d o s t x y e p q = (
  p.status_is ∙ ap (λ (k : Code). ending_status (run_with k o).ending) e ∙ sym q.status_is,
  p.text_is ∙ ap (λ (k : Code). run_text (run_with k o) o.heap k.files) e ∙ sym q.text_is,
)

pub once : ExecutedOnce
once bytes o s t x y (ran v c _ _ i p) (ran w d _ _ j q) = runs_once c d o s t x y (one_code bytes v w c d i j) p q
once bytes o s t x y (ran v c _ _ i p) (no_image rule left e) = let a = image_again v c bytes i in absurd (cc (a, e))
once bytes o s t x y (no_image rule left e) (ran w d _ _ j q) = let a = image_again w d bytes j in absurd (cc (a, e))
once bytes o s t x y (no_image rule left e) (no_image role less f) =
    let same : flaw rule left ≡ flaw role less = cc (e, f) in
    (refl, ap (λ (k : Flaw). image_line k.rule (length bytes - k.left)) same)

-- a fault that is told is that of the bytes
pub executes_fault : (bytes : List ℕ) (o : Options) (rule at left s : ℕ) (t : List ℕ) → image_at bytes ≡ Err (flaw rule left) →
    at ≡ length bytes - left →
    IsFault rule at s t → Executes bytes o s t
executes_fault bytes o rule at left s t e f p =
    let text : t ≡ image_line rule (length bytes - left) = p.1 ∙ ap (image_line rule) f in
    rw (p.0, text) (no_image rule left e)
