-- The parts of a run that is written as it goes on.
use Rattle.std.proofs.Common.{◌≡◌, ◌⊎◌, ℕ, ◌≤◌, List, [], ◌++◌, Bool, true, false, cond, Option, Result, Ok, Err, IfOk, IfErr, OnOk, inl}
use Rattle.std.proofs.Common.{inr, length, take, refl, sym, ap, subst, ◌∙◌, arith}
use Rattle.std.proofs.lemmas.List.{take_all}
use Rattle.verse_outside.specs.Causes.{Rose}
use Rattle.verse_outside.specs.Held.{TookPrefix, with_more}
use Rattle.verse_code.specs.declared.codes.Code.{Code}
use Rattle.verse_value.specs.Runs.{Run}
use Rattle.verse_value.specs.Store.{Store}
use Rattle.verse_value.specs.declared.runs.Ending.{Ending}
use Rattle.verse_meaning_state.specs.Effects.{printed}
use Rattle.verse_meaning_state.specs.Texts.{heap_lines, ending_line, run_text}
use Rattle.verse_top_texts.specs.Endings.{ended, ending_status, live_of}
use Rattle.verse_top_texts.specs.Streams.{nothing, lines, lines_so_far}
use Rattle.verse_top_exec.specs.declared.stops.Stop.{Stop}
use Rattle.verse_top_exec.specs.declared.stops.Stop.TheVariants as stop
use Rattle.verse_top_exec.specs.declared.streams.Last.{Last}
use Rattle.verse_top_exec.specs.Cells.{FirstLines, lines_of}
use Rattle.verse_top_exec.specs.Endings.{FrontOf, last_run, rest_text}
use Rattle.verse_top_exec.specs.Courses.{Course, Comes, ComesSoFar, run_on}
use Rattle.verse_top_exec.specs.Leaving.{Either, Leaves, Stopped}
use Rattle.verse_top_exec.proofs.Takes.{more_then, rose_from, took_behind}

-- all lines of the heap are the lines of so many cells as there are
pub all_lines : (asked : Bool) (cells : Store) → FirstLines asked cells (cond asked (heap_lines 0 cells) [])
all_lines true cells = (length cells, ap (heap_lines 0) (sym (take_all (length cells) cells (omega arith))))
all_lines false cells = (0, refl)

pub ending_same : (files : ℕ) (r : Run) (e : Ending) (now steps live : ℕ) → e ≡ r.ending → now ≡ r.now → steps ≡ r.steps →
    r.live ≡ live_of r.ending live →
    ending_line files (ended e now steps live) ≡ ending_line files r
ending_same files r e now steps live a b d l = rw (a, b, d, sym l) refl

-- what the last line tells is how a run ended, and these are its cells
pub record Tells (r : Run) (last : Last) (cells : Store) : Type 0 where
  pub ending : last.ending ≡ r.ending
  pub moment : last.now ≡ r.now
  pub steps : last.steps ≡ r.steps
  pub live : r.live ≡ live_of r.ending last.live
  pub store : cells ≡ r.store

module _ (c : Code) (w : Course) (last : Last) (cells : Store) (tells : Tells (run_on c w) last cells) where
  rest_same : rest_text w.heap cells c.files (last_run last) ≡ rest_text w.heap (run_on c w).store c.files (run_on c w)
  rest_same =
      ap (λ (s : Store). rest_text w.heap s c.files (last_run last)) tells.store
      ∙ ap (λ (l : List ℕ). cond w.heap (heap_lines 0 (run_on c w).store) [] ++ l)
      (ending_same c.files (run_on c w) last.ending last.now last.steps last.live tells.ending tells.moment tells.steps tells.live)

  module _ (before at now : ℕ) (old mid new : Option (List ℕ)) (low : before ≤ at)
      (trace : mid ≡ with_more old (printed (run_on c w).trace)) where
    first_of : (t : List ℕ) → FirstLines w.heap cells t → ComesSoFar c w (printed (run_on c w).trace ++ t)
    first_of t f =
        let same : lines_so_far (run_on c w) w.heap f.0 ≡ printed (run_on c w).trace ++ t =
        ap (λ (s : Store). printed (run_on c w).trace ++ lines_of w.heap s f.0) (sym tells.store) ∙
        ap (λ (l : List ℕ). printed (run_on c w).trace ++ l) (sym f.1) in
        subst (ComesSoFar c w) same (lines f.0)

    front_of : (t : List ℕ) → FrontOf w.heap cells c.files (last_run last) t →
        Either (Comes c w) (ComesSoFar c w) (printed (run_on c w).trace ++ t)
    front_of t (inl f) = inr (first_of t f)
    front_of t (inr e) = inl (
      ending_status (run_on c w).ending,
      record {
        status_is = refl;
        text_is = ap (λ (l : List ℕ). printed (run_on c w).trace ++ l) (e ∙ rest_same);
      },
    )

    pub leaves_rest : (r : Result ℕ Stop) → IfOk r (λ s. s ≡ ending_status last.ending) →
        OnOk r (new ≡ with_more mid (rest_text w.heap cells c.files (last_run last))) →
        IfErr r (Stopped (FirstLines w.heap cells) (FrontOf w.heap cells c.files (last_run last)) at now mid new) →
        Leaves (Comes c w) (ComesSoFar c w) before now old new r
    leaves_rest (Ok s) status whole stopped = (
      printed (run_on c w).trace ++ rest_text w.heap cells c.files (last_run last),
      (
        record {
          status_is = status ∙ ap ending_status tells.ending;
          text_is = ap (λ (l : List ℕ). printed (run_on c w).trace ++ l) rest_same;
        },
        more_then old mid new (printed (run_on c w).trace) (rest_text w.heap cells c.files (last_run last)) trace whole,
      ),
    )
    leaves_rest (Err stop.Memory) status whole stopped = (
      printed (run_on c w).trace ++ stopped.0,
      (first_of stopped.0 stopped.1.0, more_then old mid new (printed (run_on c w).trace) stopped.0 trace stopped.1.1),
    )
    leaves_rest (Err stop.Failed) status whole stopped = (
      rose_from before at now low stopped.0,
      (
        printed (run_on c w).trace ++ stopped.1.0,
        (front_of stopped.1.0 stopped.1.1.0, took_behind old mid new (printed (run_on c w).trace) stopped.1.0 trace stopped.1.1.1),
      ),
    )
