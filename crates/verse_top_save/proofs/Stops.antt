-- A run that stopped at its horizon, and what is written behind its trace.
use Rattle.std.proofs.Common.{◌≡◌, ◌≢◌, ℕ, ◌≤◌, List, [], ◌++◌, Bool, true, false, Option, Some, Result, Err, refl, sym, ap, subst, ◌∙◌}
use Rattle.std.specs.Prelude.{codes, decimal}
use Rattle.verse_outside.specs.Held.{with_more}
use Rattle.verse_code.specs.declared.codes.Code.{Code}
use Rattle.verse_value.specs.Runs.{Run}
use Rattle.verse_value.specs.declared.runs.Ending.{Ending}
use Rattle.verse_value.specs.declared.runs.Ending.TheVariants as ending
use Rattle.verse_meaning_state.specs.Effects.{printed}
use Rattle.verse_meaning_state.specs.Texts.{live_text}
use Rattle.run_save_shots.specs.Kept.{Kept}
use Rattle.vm_run.specs.Origins.{from_inputs}
use Rattle.vm_run.specs.Saving.{IsShot}
use Rattle.verse_top_args.specs.Words.{Options}
use Rattle.verse_top_texts.specs.Endings.{ended, live_of}
use Rattle.verse_top_texts.specs.Streams.{lines}
use Rattle.verse_top_exec.specs.declared.stops.Stop.{Stop}
use Rattle.verse_top_exec.specs.declared.stops.Stop.TheVariants as stop
use Rattle.verse_top_exec.specs.Executions.{IsNothing, run_with}
use Rattle.verse_top_exec.specs.Leaving.{Leaves}
use Rattle.verse_top_exec.proofs.Takes.{more_nothing, more_then}
use Rattle.verse_top_save.specs.Saving.{IsWritten, SavesRun, SavesRunSoFar, is_until, saved_line, stopped}
use Rattle.verse_top_save.proofs.Behind.{leaves_behind}

pub until_is : (e : Ending) → is_until e ≡ true → e ≡ ending.Until
until_is ending.Done t = absurd (cc)
until_is ending.Waiting t = absurd (cc)
until_is ending.Until t = refl
until_is ending.Steps t = absurd (cc)
until_is (ending.Error k p) t = absurd (cc)
until_is ending.Stuck t = absurd (cc)

pub until_isnt : (e : Ending) → is_until e ≡ false → e ≢ ending.Until
until_isnt e f same = let yes : is_until e ≡ true = ap is_until same in absurd (cc (f, yes))

abbrev line_of : (now steps : ℕ) → Option ℕ → List ℕ
line_of now steps live =
    codes "= saved at " ++ (decimal now ++ (codes " steps " ++ (decimal steps ++ (live_text live ++ codes "\n"))))

-- the line tells what the run came to
pub line_same : (r : Run) (now steps live : ℕ) → ending.Until ≡ r.ending → now ≡ r.now → steps ≡ r.steps → r.live ≡ live_of r.ending live →
    saved_line (ended ending.Until now steps live) ≡ saved_line r
line_same r now steps live e a b l =
    let some : r.live ≡ Some live = l ∙ ap (λ (x : Ending). live_of x live) (sym e) in
    ap (λ n. line_of n steps (Some live)) a ∙ ap (λ n. line_of r.now n (Some live)) b ∙
    ap (λ (x : Option ℕ). line_of r.now r.steps x) (sym some)

module _ (c : Code) (o : Options) where
  only_trace : (t : List ℕ) → IsNothing t → SavesRunSoFar c o (printed (run_with c o).trace ++ t)
  only_trace t e = subst (λ (l : List ℕ). SavesRunSoFar c o (printed (run_with c o).trace ++ l)) (sym e) (lines 0)

  module _ (before at now : ℕ) (old mid new : Option (List ℕ)) (low : before ≤ at)
      (taken : mid ≡ with_more old (printed (run_with c o).trace))
    where
      -- the trace is written, and nothing more for want of memory
      pub leaves_trace : new ≡ mid → Leaves (SavesRun c o) (SavesRunSoFar c o) before now old new (Err stop.Memory)
      leaves_trace same = (
        printed (run_with c o).trace ++ [],
        (only_trace [] refl, more_then old mid new (printed (run_with c o).trace) [] taken (same ∙ sym (more_nothing mid))),
      )

      -- what is kept is written behind the trace
      pub leaves_saved : (x : Kept) (line : List ℕ) (r : Result ℕ Stop) → IsShot c (from_inputs o.inputs) o.steps o.until x →
          line ≡ saved_line (run_with c o) → Leaves (IsWritten c x line) IsNothing at now mid new r →
          Leaves (SavesRun c o) (SavesRunSoFar c o) before now old new r
      leaves_saved x line r shot e l =
          leaves_behind (printed (run_with c o).trace) (IsWritten c x line) (SavesRun c o) IsNothing (SavesRunSoFar c o)
          (λ s t w. stopped s (printed (run_with c o).trace ++ t) (record {
            kept = x;
            bytes = w.1;
            shot = shot;
            saved = w.2;
            status_is = w.0;
            text_is = ap (λ (l : List ℕ). printed (run_with c o).trace ++ l) (w.3 ∙ ap (λ (l : List ℕ). l ++ w.1) e);
          })) only_trace before at now old mid new r low taken l
