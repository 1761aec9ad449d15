-- A fault that is told is that of the bytes; and bytes have one answer, but for the order in which trees are kept.
use Rattle.std.proofs.Common.{◌≡◌, ◌⊎◌, inl, inr, ℕ, ◌-◌, List, length, Err, refl, sym, ap, subst, ◌∙◌}
use Rattle.verse_code.specs.declared.codes.Code.{Code}
use Rattle.verse_image.specs.Reading.{flaw, image_at}
use Rattle.verse_image.specs.declared.faults.Flaw.{Flaw}
use Rattle.verse_image.proofs.ImageLaws.{image_again, one_code}
use Rattle.verse_value.specs.declared.runs.Ending.TheVariants as ending
use Rattle.verse_code_machine.specs.Tasks.{tree_waits}
use Rattle.verse_meaning_state.specs.Turns.{run_of}
use Rattle.verse_top_args.specs.Words.{Options}
use Rattle.verse_top_texts.specs.Images.{image_line}
use Rattle.verse_top_exec.specs.Executions.{IsFault, run_with}
use Rattle.verse_top_save.specs.Saving.{IsSaved, SavedOnce, SavedTwice, Saves, SavesRun, ended, no_image, ran, stopped}

pub saves_fault : (bytes : List ℕ) (o : Options) (rule at left s : ℕ) (t : List ℕ) → image_at bytes ≡ Err (flaw rule left) →
    at ≡ length bytes - left → IsFault rule at s t → Saves bytes o s t
saves_fault bytes o rule at left s t e f p =
    let text : t ≡ image_line rule (length bytes - left) = p.1 ∙ ap (image_line rule) f in
    rw (p.0, text) (no_image rule left e)

-- a run that is saved stopped at its horizon
saved_until : (c : Code) (o : Options) (s : ℕ) (x : List ℕ) → IsSaved c o s x → (run_with c o).ending ≡ ending.Until
saved_until c o s x p = ap (λ g. (run_of tree_waits g).ending) p.shot.stopped

runs_once : (c : Code) (o : Options) (s t : ℕ) (x y : List ℕ) → SavesRun c o s x → SavesRun c o t y →
    (s ≡ t) × ((x ≡ y) ⊎ ((d : Code) × SavedTwice d o x y))
runs_once c o s t x y (stopped _ _ p) (stopped _ _ q) = (
  p.status_is ∙ sym q.status_is,
  inr (
    c,
    record {
      first = subst (λ n. IsSaved c o n x) p.status_is p;
      second = subst (λ n. IsSaved c o n y) q.status_is q;
    },
  ),
)
runs_once c o s t x y (stopped _ _ p) (ended _ _ n q) = absurd (n (saved_until c o s x p))
runs_once c o s t x y (ended _ _ n p) (stopped _ _ q) = absurd (n (saved_until c o t y q))
runs_once c o s t x y (ended _ _ n p) (ended _ _ m q) = (p.status_is ∙ sym q.status_is, inl (p.text_is ∙ sym q.text_is))

pub once : SavedOnce
once bytes o s t x y (ran v c _ _ i p) (ran w d _ _ j q) =
    runs_once d o s t x y (subst (λ (k : Code). SavesRun k o s x) (one_code bytes v w c d i j) p) q
once bytes o s t x y (ran v c _ _ i p) (no_image rule left e) = let a = image_again v c bytes i in absurd (cc (a, e))
once bytes o s t x y (no_image rule left e) (ran w d _ _ j q) = let a = image_again w d bytes j in absurd (cc (a, e))
once bytes o s t x y (no_image rule left e) (no_image role less f) =
    let same : flaw rule left ≡ flaw role less = cc (e, f) in
    (refl, inl (ap (λ (k : Flaw). image_line k.rule (length bytes - k.left)) same))
