-- Bytes and notes have one answer.
use Rattle.std.proofs.Common.{◌≡◌, ℕ, ◌-◌, List, [], length, Option, Some, None, Err, refl, ap, subst, sym, ◌∙◌}
use Rattle.verse_code.specs.declared.codes.Code.{Code}
use Rattle.verse_image.specs.Format.{Image}
use Rattle.verse_image.specs.Reading.{flaw, image_at}
use Rattle.verse_image.specs.declared.faults.Flaw.{Flaw}
use Rattle.verse_image.proofs.ImageLaws.{image_again, one_code}
use Rattle.verse_verify_faults.specs.Reading.{verdict}
use Rattle.verse_top_texts.specs.Images.{image_line}
use Rattle.verse_top_texts.specs.Verdicts.{notes_line, ok_line}
use Rattle.verse_verify_laws.specs.Laws.{PassingNotes}
use Rattle.verse_verify.specs.declared.faults.VerifyFault.{VerifyFault}
use Rattle.verse_verify.specs.declared.faults.VerifyFault.TheVariants as fault
use Rattle.verse_verify.specs.Answers.{Answers}
use Rattle.verse_top_verify.specs.Verifying.{PassedIsNeverStuck, VerifiedOnce, Verifies, broken, no_image, passed}

one_verdict : (bytes notes : List ℕ) (v w : ℕ) (c d : Code) → Image v c bytes → Image w d bytes → verdict c notes ≡ verdict d notes
one_verdict bytes notes v w c d p q = ap (λ (k : Code). verdict k notes) (one_code bytes v w c d p q)

abbrev rule_of : Option (ℕ × ℕ) → List ℕ
rule_of None = []
rule_of (Some f) = notes_line f.0 f.1

pub verifies_once : VerifiedOnce
verifies_once bytes notes s t x y (passed v c i e) (passed w d j f) = (refl, refl)
verifies_once bytes notes s t x y (passed v c i e) (broken w d rule at j f) =
    let same = one_verdict bytes notes v w c d i j in absurd (cc (e, same, f))
verifies_once bytes notes s t x y (passed v c i e) (no_image rule left f) = let a = image_again v c bytes i in absurd (cc (a, f))
verifies_once bytes notes s t x y (broken v c rule at i e) (passed w d j f) =
    let same = one_verdict bytes notes v w c d i j in absurd (cc (e, same, f))
verifies_once bytes notes s t x y (broken v c rule at i e) (broken w d role to j f) =
    (refl, ap rule_of (sym e ∙ one_verdict bytes notes v w c d i j ∙ f))
verifies_once bytes notes s t x y (broken v c rule at i e) (no_image role left f) = let a = image_again v c bytes i in absurd (cc (a, f))
verifies_once bytes notes s t x y (no_image rule left e) (passed w d j f) = let a = image_again w d bytes j in absurd (cc (a, e))
verifies_once bytes notes s t x y (no_image rule left e) (broken w d role at j f) = let a = image_again w d bytes j in absurd (cc (a, e))
verifies_once bytes notes s t x y (no_image rule left e) (no_image role less f) =
    let same : flaw rule left ≡ flaw role less = cc (e, f) in
    (refl, ap (λ (k : Flaw). image_line k.rule (length bytes - k.left)) same)

pub verifies_fault : (bytes notes : List ℕ) (rule at left : ℕ) (t : List ℕ) → image_at bytes ≡ Err (flaw rule left) →
    at ≡ length bytes - left → t ≡ image_line rule at → Verifies bytes notes 1 t
verifies_fault bytes notes rule at left t e f g =
    let text : t ≡ image_line rule (length bytes - left) = g ∙ ap (image_line rule) f in
    rw text (no_image rule left e)

module _ (bytes notes : List ℕ) (v : ℕ) (c : Code) (t : List ℕ) (i : Image v c bytes) where
  pub verifies_passed : verdict c notes ≡ None → t ≡ ok_line → Verifies bytes notes 0 t
  verifies_passed e f = rw f (passed v c i e)

  pub verifies_broken : (told : VerifyFault) (rule at : ℕ) → told ≡ fault.Bad rule at →
      Answers {A = Unit {0}} (Err told) (verdict c notes) → t ≡ notes_line rule at → Verifies bytes notes 1 t
  verifies_broken told rule at is e f =
      let first : verdict c notes ≡ Some (rule, at) =
      subst (λ (x : VerifyFault). Answers {A = Unit {0}} (Err x) (verdict c notes)) is e in
      rw f (broken v c rule at i first)

-- the code of an image that passes is valid, and its notes break no rule
pub never_stuck : PassingNotes → PassedIsNeverStuck
never_stuck law bytes notes text version c i (passed w d j e) = law c notes i.valid (one_verdict bytes notes version w c d i j ∙ e)
