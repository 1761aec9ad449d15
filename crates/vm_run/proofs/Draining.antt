-- Lines that are drained.
use Rattle.std.proofs.Common.{◌≡◌, ◌+◌, ℕ, suc, List, [], ◌∷◌, ◌++◌, length, map, drop, Option, Some, None, refl, sym, ap, subst, ◌∙◌}
use Rattle.std.proofs.Common.{length-append, arith}
use Rattle.std.specs.Prelude.{IfSome}
use Rattle.std.proofs.lemmas.List.{append-nil, drop_all}
use Rattle.verse_outside.specs.Held.{TookPrefix, with_more}
use Rattle.verse_code.specs.declared.codes.Code.{Code}
use Rattle.verse_value.specs.Runs.{Line, Run}
use Rattle.verse_value.specs.declared.runs.Ending.{Ending}
use Rattle.verse_meaning_state.specs.State.{State}
use Rattle.verse_meaning_state.specs.Effects.{printed}
use Rattle.verse_meaning_state.specs.Turns.{Stage, going, closed, broken, amiss, run_closed}
use Rattle.verse_code_machine.specs.Tasks.{tree_waits}
use Rattle.verse_code_machine.specs.Runs.{Forest}
use Rattle.sim_clock.specs.declared.waits.Pending.{Pending}
use Rattle.trace_buf.specs.Trace.{Trace, outside, drained}
use Rattle.trace_buf.specs.Trace as trace
use Rattle.tx_heap.specs.State.{State as Kept}
use Rattle.vm_tasks_laws.proofs.Ticks.{same_timed}
use Rattle.vm_tasks_laws.specs.Clocks.{sleeping}
use Rattle.vm_running.specs.Views.{Aside, line_of, state_of}
use Rattle.vm_running.specs.Runners.{view_of}
use Rattle.vm_running.proofs.Lines.{kept_printed}
use Rattle.vm_exec_memory.proofs.Lines.{size_is}
use Rattle.vm_tasks.specs.View.{slot_of}
use Rattle.vm_scheduler.specs.Frames.{frames_in}
use Rattle.vm_run.specs.declared.machines.Vm.{Vm}
use Rattle.vm_run.specs.Origins.{Origin, stage_after, whole_run}
use Rattle.vm_run.specs.Standing.{Shows, LiveIs, IsEnd, IsResting, Holds, IsBound, At}
use Rattle.vm_run.specs.Turning.{state_in, lines_after, TookPart, Turned, TurnedTo}
use Rattle.vm_run.proofs.Standing.{counted}

length_lines : (ks : List (ℕ × List ℕ)) → length (map line_of ks) ≡ length ks
length_lines [] = refl
length_lines (k ∷ ks) = let h = length_lines ks in omega (arith, h)

count_is : (past : List Line) (ks : List (ℕ × List ℕ)) → length (past ++ map line_of ks) ≡ length past + length ks
count_is past ks = let sum = length-append past (map line_of ks) in let same = length_lines ks in omega (arith, sum, same)

-- where no mark is open
kept_gone : (t : Trace) → t.marks ≡ [] → (drained t).kept ≡ []
kept_gone t e = ap (λ ms. drop (length (outside t.kept ms)) t.kept) e ∙ drop_all (length t.kept) t.kept (omega arith)

marks_gone : (t : Trace) → t.marks ≡ [] → (drained t).marks ≡ []
marks_gone t e = ap (λ ms. map (drop (length (outside t.kept ms))) ms) e

bytes_gone : (t : Trace) → t.marks ≡ [] → (drained t).bytes ≡ t.bytes + length (trace.printed t.kept)
bytes_gone t e = ap (λ ms. t.bytes + length (trace.printed (outside t.kept ms))) e

lines_gone : (t : Trace) → t.marks ≡ [] → (drained t).lines ≡ t.lines + length t.kept
lines_gone t e = ap (λ ms. t.lines + length (outside t.kept ms)) e

outside_printed : (t : Trace) → t.marks ≡ [] → trace.printed (outside t.kept t.marks) ≡ printed (map line_of t.kept)
outside_printed t e = ap (λ ms. trace.printed (outside t.kept ms)) e ∙ sym (kept_printed t.kept)

-- where nothing is kept there is nothing to drain

kept_none : (ks : List (ℕ × List ℕ)) → length ks ≡ 0 → ks ≡ []
kept_none [] none = refl
kept_none (k ∷ ks) none = absurd (omega (arith, none))

pub none_drained : (t : Trace) → t.marks ≡ [] → length t.kept ≡ 0 → t ≡ drained t
none_drained t bare none = go t.kept t.marks bare none
  where
    go : (ks : List (ℕ × List ℕ)) (ms : List (List (ℕ × List ℕ))) → ms ≡ [] → length ks ≡ 0 →
        record t { kept = ks; marks = ms } ≡ drained (record t { kept = ks; marks = ms })
    go [] [] e z =
        let b : t.bytes ≡ t.bytes + 0 = omega arith in
        let l : t.lines ≡ t.lines + 0 = omega arith in
        ap (λ b. record t { kept = []; marks = []; bytes = b }) b ∙
        ap (λ l. record t { kept = []; marks = []; bytes = t.bytes + 0; lines = l }) l
    go [] (m ∷ ms) e z = absurd (omega (arith, ap length e))
    go (k ∷ ks) ms e z = absurd (omega (arith, z))

pub none_taken : (taken : Option (List ℕ)) (t : Trace) → t.marks ≡ [] → length t.kept ≡ 0 →
    taken ≡ with_more taken (trace.printed (outside t.kept t.marks))
none_taken taken t bare none =
    same taken ∙ ap (λ bytes. with_more taken bytes) (sym (ap (λ ms. trace.printed (outside t.kept ms)) bare ∙
    ap trace.printed (kept_none t.kept none)))
  where
    same : (taken : Option (List ℕ)) → taken ≡ with_more taken []
    same None = refl
    same (Some bytes) = ap Some (sym (append-nil bytes))

module _ {H W : Type 0} (state : H → Kept) (pending : W → List Pending) where
  abbrev pub with_trace : Vm H W → Trace → Vm H W
  with_trace m t = record m { run = record m.run { trace = t } }

  pub no_marks : (stage : Stage Forest) (past : List Line) (m : Vm H W) → Holds state pending stage past m → m.run.trace.marks ≡ []
  no_marks (going s trees) past m h = h.shows.marks
  no_marks (closed e s trees) past m h = h.end.marks
  no_marks (broken e s) past m h = h.marks
  no_marks (amiss s) past m h = absurd h

  all_lines : (stage : Stage Forest) (past : List Line) (m : Vm H W) → Holds state pending stage past m →
      (state_in stage).memory.trace ≡ past ++ map line_of m.run.trace.kept
  all_lines (going s trees) past m h = h.shows.trace
  all_lines (closed e s trees) past m h = sym (ap (λ (r : Run). r.trace) (counted e s (length (tree_waits trees))).is) ∙ h.end.trace
  all_lines (broken e s) past m h = h.trace
  all_lines (amiss s) past m h = absurd h

  nothing_more : (all : List Line) (t u : Trace) → t.marks ≡ [] → u ≡ drained t → all ≡ all ++ map line_of u.kept
  nothing_more all t u none e = sym (append-nil all) ∙
      ap (λ ks. all ++ map line_of ks) (sym (ap (λ (t : Trace). t.kept) e ∙ kept_gone t none))

  same_live : (live : Option ℕ) (m : Vm H W) (t : Trace) → LiveIs state pending live m → LiveIs state pending live (with_trace m t)
  same_live None m t h = tt
  same_live (Some n) m t h = h

  drained_end : (r : Run) (past all : List Line) (m : Vm H W) (t : Trace) → t ≡ drained m.run.trace →
      all ≡ past ++ map line_of m.run.trace.kept → IsEnd state pending r past m → IsEnd state pending r all (with_trace m t)
  drained_end r past all m t e is h = record {
    ended = h.ended;
    trace = h.trace ∙ (sym is ∙ nothing_more all m.run.trace t h.marks e);
    store = h.store;
    moment = h.moment;
    steps = h.steps;
    live = same_live r.live m t h.live;
    copies = h.copies;
    marks = ap (λ (t : Trace). t.marks) e ∙ marks_gone m.run.trace h.marks;
  }

  abbrev with_lines : State → List Line → State
  with_lines s ls = record s { memory = record s.memory { trace = ls } }

  drained_rests : (s : State) (trees : Forest) (past : List Line) (m : Vm H W) (t : Trace) → t ≡ drained m.run.trace →
      IsResting state pending s trees past m → IsResting state pending s trees s.memory.trace (with_trace m t)
  drained_rests s trees past m t e h =
      let all = s.memory.trace in
      let a : Aside = record h.aside { past = all } in
      let v = view_of state m.run in
      let u = view_of state (record m.run { trace = t }) in
      let k = h.resting in
      let none = k.bare.marks in
      let lines : h.aside.past ++ map line_of m.run.trace.kept ≡ all = sym (ap (λ (s : State). s.memory.trace) h.is) in
      let more : all ≡ all ++ map line_of t.kept = nothing_more all m.run.trace t none e in
      let same : state_of h.aside v ≡ state_of a u = ap (λ ls. with_lines (state_of h.aside v) ls) (lines ∙ more) in
      let size : length (printed all) ≡ length (printed h.aside.past) + length (trace.printed m.run.trace.kept) =
      ap (λ ls. length (printed ls)) (sym lines) ∙ size_is h.aside.past m.run.trace.kept in
      let count : length all ≡ length h.aside.past + length m.run.trace.kept =
      ap length (sym lines) ∙ count_is h.aside.past m.run.trace.kept in
      let bytes_past = k.clock.past.0 in
      let lines_past = k.clock.past.1 in
      let bytes_all : h.aside.before.bytes + length (printed all) ≡ m.run.trace.bytes + length (trace.printed m.run.trace.kept) =
      omega (arith, size, bytes_past) in
      let lines_all : h.aside.before.lines + length all ≡ m.run.trace.lines + length m.run.trace.kept =
      omega (arith, count, lines_past) in
      record {
        aside = a;
        same = refl;
        is = h.is ∙ same;
        resting = record {
          clock = record {
            past = (
              bytes_all ∙ (sym (bytes_gone m.run.trace none) ∙ sym (ap (λ (t : Trace). t.bytes) e)),
              lines_all ∙ (sym (lines_gone m.run.trace none) ∙ sym (ap (λ (t : Trace). t.lines) e)),
            );
            next = k.clock.next;
            results = k.clock.results;
            signals = k.clock.signals;
            timed = same_timed (sleeping (slot_of frames_in) m.tasks.tree) (pending m.tasks.gone.waits) (state_of h.aside v)
                (state_of a u) refl refl refl k.clock.timed;
            fine = k.clock.fine;
            untold = k.clock.untold;
          };
          rests = k.rests;
          bare = record {
            copies = k.bare.copies;
            marks = ap (λ (t : Trace). t.marks) e ∙ marks_gone m.run.trace none;
            steps =
                k.bare.steps;
          };
          no_ups = k.no_ups;
          still = k.still;
          none = k.none;
        };
      }

  drained_shows : (s : State) (past : List Line) (m : Vm H W) (t : Trace) → t ≡ drained m.run.trace → Shows s past (view_of state m.run) →
      Shows s s.memory.trace (view_of state (record m.run { trace = t }))
  drained_shows s past m t e h = record {
    trace = nothing_more s.memory.trace m.run.trace t h.marks e;
    store = h.store;
    moment = h.moment;
    steps = h.steps;
    copies = h.copies;
    marks = ap (λ (t : Trace). t.marks) e ∙ marks_gone m.run.trace h.marks;
  }

  drained_holds : (stage : Stage Forest) (past : List Line) (m : Vm H W) (t : Trace) → t ≡ drained m.run.trace →
      Holds state pending stage past m → Holds state pending stage (state_in stage).memory.trace (with_trace m t)
  drained_holds (going s trees) past m t e h =
      record { between = h.between; rests = drained_rests s trees past m t e h.rests; shows = drained_shows s past m t e h.shows }
  drained_holds (closed f s trees) past m t e h = record {
    rests = drained_rests s trees past m t e h.rests;
    end = drained_end (run_closed f s (length (tree_waits trees))) past s.memory.trace m t e (all_lines (closed f s trees) past m h) h.end;
  }
  drained_holds (broken f s) past m t e h = drained_end _ past s.memory.trace m t e h.trace h
  drained_holds (amiss s) past m t e h = h

  module _ (c : Code) (origin : Origin) (steps until k : ℕ) (past : List Line) (m : Vm H W) where
    same_bound : (t : Trace) → IsBound c origin steps until m → IsBound c origin steps until (with_trace m t)
    same_bound t b = record {
      steps_are = b.steps_are;
      until_is = b.until_is;
      can = b.can;
      few_steps = b.few_steps;
      near =
          b.near;
    }

    still_over : (t : Trace) (o : Option Ending) → t ≡ drained m.run.trace →
        lines_after c origin steps until k ≡ past ++ map line_of m.run.trace.kept →
        IfSome o (λ e. (e ≡ (whole_run c origin steps until).ending) × IsEnd state pending (whole_run c origin steps until) past m) →
        IfSome o (λ e. (e ≡ (whole_run c origin steps until).ending) ×
        IsEnd state pending (whole_run c origin steps until) (lines_after c origin steps until k) (with_trace m t))
    still_over t None e is h = tt
    still_over t (Some f) e is h = (
      h.0,
      drained_end (whole_run c origin steps until) past (lines_after c origin steps until k) m t e is
          h.1,
    )

    pub drained_at : (o : Option Ending) (t : Trace) → t ≡ drained m.run.trace → Turned state pending c origin steps until k past o m →
        At state pending c origin steps until (suc k) (lines_after c origin steps until k) (with_trace m t)
    drained_at o t e h = record {
      bound = same_bound t h.at.bound;
      holds =
          drained_holds (stage_after c origin steps until k) past m t e h.at.holds;
    }

    pub turned_to : (o : Option Ending) (t : Trace) (old new : Option (List ℕ)) → t ≡ drained m.run.trace →
        new ≡ with_more old (trace.printed (outside m.run.trace.kept m.run.trace.marks)) →
        Turned state pending c origin steps until k past o m →
        TurnedTo state pending c origin steps until k past o old new (with_trace m t)
    turned_to o t old new e took h =
        let all = all_lines (stage_after c origin steps until k) past m h.at.holds in
        record {
          turned = record {
            at = drained_at o t e h;
            answer = h.answer;
            over = still_over t o e all h.over;
          };
          took = record {
            more = map line_of m.run.trace.kept;
            all_are = all;
            taken = took ∙ ap (λ bs. with_more old bs)
                (outside_printed m.run.trace (no_marks (stage_after c origin steps until k) past m h.at.holds));
          };
        }

    pub took_part : (o : Option Ending) (old new : Option (List ℕ)) →
        TookPrefix old (trace.printed (outside m.run.trace.kept m.run.trace.marks)) new →
        Turned state pending c origin steps until k past o m → TookPart past (lines_after c origin steps until k) old new
    took_part o old new took h = record {
      more = map line_of m.run.trace.kept;
      all_are = all_lines (stage_after c origin steps until k) past m h.at.holds;
      taken = subst (λ bs. TookPrefix old bs new)
          (outside_printed m.run.trace (no_marks (stage_after c origin steps until k) past m h.at.holds)) took;
    }

    pub none_kept : (o : Option Ending) (t : Trace) → t ≡ drained m.run.trace → Turned state pending c origin steps until k past o m →
        t.kept ≡ []
    none_kept o t e h = ap (λ (t : Trace). t.kept) e ∙
        kept_gone m.run.trace (no_marks (stage_after c origin steps until k) past m h.at.holds)
