-- What is told in short of a run that is over.
use Rattle.std.proofs.Common.{◌≡◌, ℕ, List, ◌++◌, Result, Ok, Err, IfOk, length, sym, ap, ◌∙◌}
use Rattle.verse_base.specs.declared.refusals.Memory.{Memory}
use Rattle.verse_code.specs.declared.codes.Code.{Code}
use Rattle.verse_value.specs.declared.runs.Ending.{Ending}
use Rattle.verse_meaning_state.specs.Texts.{ending_line}
use Rattle.verse_top_args.specs.Words.{Options}
use Rattle.verse_top_load.specs.Load.{lines_line}
use Rattle.verse_top_texts.specs.declared.answers.Answer.{Answer}
use Rattle.verse_top_texts.specs.Endings.{ended, ending_status, live_of}
use Rattle.verse_top_exec.specs.Counts.{Counts}
use Rattle.verse_top_exec.specs.Executions.{run_with}
use Rattle.verse_top_exec.proofs.StreamLemmas.{ending_same}

-- the run of a code ended so
pub record EndedSo (c : Code) (o : Options) (e : Ending) (now steps live lines : ℕ) : Type 0 where
  pub ending : e ≡ (run_with c o).ending
  pub moment : now ≡ (run_with c o).now
  pub spent : steps ≡ (run_with c o).steps
  pub left : (run_with c o).live ≡ live_of (run_with c o).ending live
  pub count : lines ≡ length (run_with c o).trace

pub counts : (c : Code) (o : Options) (e : Ending) (now steps live lines : ℕ) (line : List ℕ) → EndedSo c o e now steps live lines →
    line ≡ ending_line c.files (ended e now steps live) → (r : Result Answer Memory) → IfOk r (λ a. a.status ≡ ending_status e) →
    IfOk r (λ a. a.text.items ≡ line ++ lines_line lines) → IfOk r (λ a. Counts c o a.status a.text.items)
counts c o e now steps live lines line x f (Err m) s t = tt
counts c o e now steps live lines line x f (Ok a) s t = record {
  status_is = s ∙ ap ending_status x.ending;
  text_is =
      t ∙ ap (λ (l : List ℕ). l ++ lines_line lines)
      (f ∙ ending_same c.files (run_with c o) e now steps live x.ending x.moment x.spent x.left)
      ∙ ap (λ (n : ℕ). ending_line c.files (run_with c o) ++ lines_line n) x.count;
}
