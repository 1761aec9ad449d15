-- The run that is taken up is the one run, as text.
use Rattle.std.proofs.Common.{◌≡◌, ◌≢◌, ℕ, ◌≤◌, List, [], ◌∷◌, ◌++◌, Bool, true, false, Option, Some, None, cond, eqb, Ok, refl, sym, ap}
use Rattle.std.proofs.Common.{subst, ◌∙◌, append_assoc}
use Rattle.std.specs.Prelude.{codes, decimal}
use Rattle.std.proofs.lemmas.Grind.{flat_map-append}
use Rattle.std.proofs.lemmas.List.Elements.{All-append, All-cons, All-nil}
use Rattle.verse_base.specs.TraceLine.{line_bytes}
use Rattle.verse_code.specs.declared.codes.Code.{Code}
use Rattle.verse_code.specs.Validity.{Valid}
use Rattle.verse_value.specs.Runs.{Line, Run}
use Rattle.verse_meaning_state.specs.Effects.{printed}
use Rattle.verse_meaning_state.specs.Texts.{ending_line, heap_lines, live_text, run_text}
use Rattle.verse_meaning_state.specs.Turns.{run_of}
use Rattle.verse_code_machine.specs.Runs.{mach}
use Rattle.verse_code_machine.specs.Tasks.{tree_waits}
use Rattle.verse_code_machine_saved.specs.Resuming.{behind}
use Rattle.run_save_chain.specs.Chains.{Chain, ChainIsTheRun, first_save, taken_up}
use Rattle.run_save_format.specs.Format.{Begins, IsLine, saved_word}
use Rattle.run_save_format.specs.Whole.{file_at}
use Rattle.run_save_moves.specs.Fine.{TextsAreBytes}
use Rattle.run_save_premises.specs.Inputs.{FewInputsFit}
use Rattle.run_save_restores.specs.Restores.{SavedBehindTrace}
use Rattle.run_save_shots.specs.Kept.{Kept}
use Rattle.run_save_restores.proofs.Traces.{decimal_is_line}
use Rattle.verse_top_args.specs.Words.{Options}
use Rattle.verse_top_texts.specs.Endings.{ending_status}
use Rattle.verse_top_exec.specs.Courses.{Comes}
use Rattle.verse_top_exec.specs.Endings.{IsWithin}
use Rattle.verse_top_exec.specs.Executions.{Runs, ran, run_with}
use Rattle.verse_top_save.specs.Saving.{IsSaved, saved_line}
use Rattle.verse_top_resume.specs.Resuming.{course_from, no_state, went_on}
use Rattle.verse_top_save_laws.specs.OneRun.{ResumeGoesOn, to_horizon}
use Rattle.verse_top_save_laws.proofs.Texts.{image_texts}

-- ---- the line before what is saved

-- without its line feed
abbrev line_of : Run → List ℕ
line_of r = codes "= saved at " ++ (decimal r.now ++ (codes " steps " ++ (decimal r.steps ++ live_text r.live)))

five : (a b c d e z : List ℕ) → a ++ (b ++ (c ++ (d ++ (e ++ z)))) ≡ (a ++ (b ++ (c ++ (d ++ e)))) ++ z
five a b c d e z =
    ap (λ w. a ++ (b ++ (c ++ w))) (sym (append_assoc d e z)) ∙ ap (λ w. a ++ (b ++ w)) (sym (append_assoc c (d ++ e) z)) ∙
    ap (λ w. a ++ w) (sym (append_assoc b (c ++ (d ++ e)) z)) ∙ sym (append_assoc a (b ++ (c ++ (d ++ e))) z)

line_ends : (r : Run) (bytes : List ℕ) → saved_line r ++ bytes ≡ line_of r ++ 10 ∷ bytes
line_ends r bytes =
    ap (λ w. w ++ bytes) (five (codes "= saved at ") (decimal r.now) (codes " steps ") (decimal r.steps) (live_text r.live) (codes "\n")) ∙
    append_assoc (line_of r) (codes "\n") bytes

-- none of the bytes is a line feed
abbrev no_feed : List ℕ → Bool
no_feed [] = true
no_feed (b ∷ bytes) = cond (eqb b 10) false (no_feed bytes)

both_hold : (is more : Bool) → cond is false more ≡ true → (is ≡ false) × (more ≡ true)
both_hold true more e = absurd (cc)
both_hold false more e = (refl, e)

is_no_feed : (b : ℕ) → eqb b 10 ≡ false → b ≢ 10
is_no_feed b f e = let same : eqb 10 10 ≡ false = subst (λ (n : ℕ). eqb n 10 ≡ false) e f in absurd (cc)

abbrev IsNoFeed : ℕ → Type 0
IsNoFeed b = b ≢ 10

is_line : (bytes : List ℕ) → no_feed bytes ≡ true → IsLine bytes
is_line [] e = All-nil IsNoFeed
is_line (b ∷ bytes) e =
    let both = both_hold (eqb b 10) (no_feed bytes) e in
    All-cons IsNoFeed b bytes (is_no_feed b both.0) (is_line bytes both.1)

live_is_line : (live : Option ℕ) → IsLine (live_text live)
live_is_line None = All-nil IsNoFeed
live_is_line (Some n) = All-append IsNoFeed (codes " live ") (decimal n) (is_line (codes " live ") refl) (decimal_is_line n)

line_is : (r : Run) → IsLine (line_of r)
line_is r =
    All-append IsNoFeed (codes "= saved at ") _ (is_line (codes "= saved at ") refl)
    (All-append IsNoFeed (decimal r.now) _ (decimal_is_line r.now)
    (All-append IsNoFeed (codes " steps ") _ (is_line (codes " steps ") refl)
    (All-append IsNoFeed (decimal r.steps) (live_text r.live) (decimal_is_line r.steps) (live_is_line r.live))))

begins : (r : Run) → Begins saved_word (line_of r)
begins r = (codes "at " ++ (decimal r.now ++ (codes " steps " ++ (decimal r.steps ++ live_text r.live))), refl)

-- ---- the text behind lines

text_behind : (lines : List Line) (r : Run) (heap : Bool) (files : ℕ) →
    run_text (behind lines r) heap files ≡ printed lines ++ run_text r heap files
text_behind lines r heap files =
    let rest = cond heap (heap_lines 0 r.store) [] ++ ending_line files r in
    ap (λ w. w ++ rest) (flat_map-append (λ (l : Line). line_bytes l.moment l.bytes) lines r.trace) ∙
    append_assoc (printed lines) (printed r.trace) rest

-- ---- the run

module _ (read : SavedBehindTrace) (chain : ChainIsTheRun) (few : FewInputsFit) (c : Code) (o : Options) (status : ℕ) (file : List ℕ)
    (p : IsSaved c o status file)
  where
    file_read : file_at file ≡ Ok (c, p.kept)
    file_read =
        let r = run_with c o in
        let is : file ≡ printed r.trace ++ (line_of r ++ 10 ∷ p.bytes) = p.text_is ∙ ap (λ w. printed r.trace ++ w) (line_ends r p.bytes) in
        subst (λ (f : List ℕ). file_at f ≡ Ok (c, p.kept)) (sym is)
        (read c p.kept r.trace (line_of r) p.bytes (line_is r) (begins r) p.saved)

    module _ (until : ℕ) (valid : Valid c) (texts : TextsAreBytes c) (within : IsWithin o) (low : o.until ≤ until) where
      one_run : behind (run_with c o).trace (taken_up c p.kept until) ≡ mach c o.inputs o.steps until
      one_run =
          let s = p.shot.state in
          let trace : (run_with c o).trace ≡ s.memory.trace = ap (λ g. (run_of tree_waits g).trace) p.shot.stopped in
          let first : Chain c o.inputs o.steps o.until s.memory.trace p.kept = first_save within.until p.shot.stopped p.shot.shown.spells in
          subst (λ (lines : List Line). behind lines (taken_up c p.kept until) ≡ mach c o.inputs o.steps until) (sym trace)
          (chain c o.inputs o.steps o.until until s.memory.trace p.kept valid texts (few o.inputs within.inputs) first low)

      runs_on : (heap : Bool) (ended : ℕ) (text : List ℕ) → Comes c (course_from c p.kept until heap) ended text →
          Runs c (to_horizon o until heap) ended (printed (run_with c o).trace ++ text)
      runs_on heap ended text m =
          let lines = (run_with c o).trace in
          let on = taken_up c p.kept until in
          record {
            status_is = m.status_is ∙ ap (λ (r : Run). ending_status r.ending) one_run;
            text_is = ap (λ w. printed lines ++ w) m.text_is ∙ sym (text_behind lines on heap c.files) ∙
                ap (λ (r : Run). run_text r heap c.files) one_run;
          }

pub goes_on : SavedBehindTrace → ChainIsTheRun → FewInputsFit → ResumeGoesOn
goes_on read chain few image version c o status file until heap ended text b i within p low (went_on d x _ _ e m) =
    let same : (d, x) ≡ (c, p.kept) = cc (e, file_read read chain few c o status file p) in
    let here : Comes c (course_from c p.kept until heap) ended text =
    subst (λ (z : Code × Kept). Comes z.0 (course_from z.0 z.1 until heap) ended text) same m in
    ran version c ended (printed (run_with c o).trace ++ text) i
    (runs_on read chain few c o status file p until i.valid (image_texts version c image i b) within low heap ended text here)
goes_on read chain few image version c o status file until heap ended text b i within p low (no_state rule left e) =
    absurd (cc (e, file_read read chain few c o status file p))
