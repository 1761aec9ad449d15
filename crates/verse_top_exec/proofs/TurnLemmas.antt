-- A run turn after turn, written as it goes on.
use Rattle.std.proofs.Common.{◌≡◌, ℕ, zero, suc, ◌+◌, ◌≤◌, List, [], ◌∷◌, ◌++◌, Option, Some, None, map, length, refl, ap, sym, subst, ◌∙◌}
use Rattle.std.proofs.Common.{append-nil, arith}
use Rattle.std.specs.List.{flat_map}
use Rattle.verse_outside.specs.Causes.{Rose}
use Rattle.verse_outside.specs.Held.{with_more, TookPrefix}
use Rattle.verse_code.specs.declared.codes.Code.{Code}
use Rattle.verse_code.specs.Validity.{Valid}
use Rattle.verse_value.specs.Runs.{Line}
use Rattle.verse_value.specs.declared.runs.Ending.{Ending}
use Rattle.verse_meaning_state.specs.Turns.{Stage, going, closed, broken, amiss}
use Rattle.verse_meaning_state.specs.Effects.{printed}
use Rattle.verse_meaning_state.proofs.Lines.{printed_both}
use Rattle.verse_code_machine.specs.Laws.{IsOver}
use Rattle.verse_code_machine.specs.Runs.{Forest}
use Rattle.sim_clock.specs.declared.waits.Pending.{Pending}
use Rattle.tx_heap.specs.State.{State as Kept}
use Rattle.vm_running.specs.Views.{line_of}
use Rattle.verse_top_texts.specs.Streams as s
use Rattle.verse_top_texts.specs.Streams.{Streams, nothing, turns, trace_text}
use Rattle.vm_run.specs.declared.machines.Vm.{Vm}
use Rattle.vm_run.specs.declared.machines.Phase.TheVariants as phase
use Rattle.vm_run.specs.Origins.{RunsHold}
use Rattle.vm_run.specs.Standing.{Belongs, stands, IsEnd, LiveIs}
use Rattle.vm_run.specs.Turning as t
use Rattle.vm_run.specs.Turning.{ending_in, TookPart, TurnedTo}
use Rattle.vm_run.specs.declared.turns.TurnFault.{TurnFault}
use Rattle.vm_run.specs.declared.turns.TurnFault.TheVariants as fault
use Rattle.verse_top_exec.specs.declared.stops.Stop.TheVariants as stop
use Rattle.verse_top_exec.specs.Courses.{Course, ComesSoFar, run_on, stage_on}
use Rattle.verse_top_exec.specs.Leaving.{Stopped, Wrote, WroteFront}
use Rattle.verse_top_exec.specs.Turns.{Written, unbegun, begun, lines_on, StandsAt, Reached, Shown, Ended, stop_of}
use Rattle.verse_top_exec.proofs.InsideRuns.{Counts}
use Rattle.verse_top_exec.proofs.Takes.{more_nothing, more_then, rose_from, took_behind}

same_state : (g : Stage Forest) → t.state_in g ≡ s.state_in g
same_state (going u ts) = refl
same_state (closed e u ts) = refl
same_state (broken e u) = refl
same_state (amiss u) = refl

over_ends : (g : Stage Forest) → IsOver g → ending_in g ≡ None → ⊥
over_ends (going u ts) o e = o
over_ends (closed x u ts) o e = cc
over_ends (broken x u) o e = cc
over_ends (amiss u) o e = o

module _ (c : Code) (w : Course) where
  lines_text : (k : ℕ) → printed (lines_on c w k) ≡ trace_text (stage_on c w k)
  lines_text k = ap (λ u. printed u.memory.trace) (same_state (stage_on c w k))

  so_far : (turn : ℕ) (past : List Line) → Written c w turn past → ComesSoFar c w (printed past)
  so_far _ _ unbegun = nothing
  so_far _ _ (begun k none) = subst (ComesSoFar c w) (sym (lines_text k)) (turns k)

  none_ended : (turn : ℕ) (past : List Line) → Written c w turn past → (k : ℕ) → turn ≡ suc k → ending_in (stage_on c w k) ≡ None
  none_ended _ _ unbegun k e = absurd (cc)
  none_ended _ _ (begun j none) k e = let same : j ≡ k = cc in subst (λ i. ending_in (stage_on c w i) ≡ None) same none

module _ {H W : Type 0} (state : H → Kept) (pending : W → List Pending) (c : Code) (w : Course) where
  pub reached_first : (m : Vm H W) (old : Option (List ℕ)) → StandsAt state pending c w 0 [] m → Reached state pending c w 0 old old m
  reached_first m old at = record { past = []; written = unbegun; at = at; taken = sym (more_nothing old) }

  pub belongs_first : (m : Vm H W) → StandsAt state pending c w 0 [] m → Belongs state pending c m
  belongs_first m at = stands w.origin w.steps w.until 0 [] at

  module _ (turn : ℕ) (old mid new : Option (List ℕ)) (m n : Vm H W) (r : Reached state pending c w turn old mid m) where
    after_turn : (e : Option Ending) → TurnedTo state pending c w.origin w.steps w.until turn r.past e mid new n →
        new ≡ with_more old (printed (lines_on c w turn))
    after_turn e t =
        more_then old mid new (printed r.past) (printed t.took.more) r.taken t.took.taken
        ∙ ap (with_more old) (sym (printed_both r.past t.took.more) ∙ ap printed (sym t.took.all_are))

    pub reached_next : TurnedTo state pending c w.origin w.steps w.until turn r.past None mid new n →
        Reached state pending c w (turn + 1) old new n
    reached_next t =
        let next : suc turn ≡ turn + 1 = omega arith in
        let reached : Reached state pending c w (suc turn) old new n = record {
          past = lines_on c w turn;
          written = begun turn (sym t.turned.answer);
          at = t.turned.at;
          taken = after_turn None t;
        } in
        subst (λ k. Reached state pending c w k old new n) next reached

    pub ended_at : (e : Ending) → TurnedTo state pending c w.origin w.steps w.until turn r.past (Some e) mid new n → n.run.trace.kept ≡ [] →
        Ended state pending c w e old new n
    ended_at e t none =
        let is : IsEnd state pending (run_on c w) (lines_on c w turn) n = t.turned.over.1 in
        let lines : lines_on c w turn ≡ (run_on c w).trace =
        sym (is.trace ∙ ap (λ ks. lines_on c w turn ++ map line_of ks) none ∙
        append-nil (lines_on c w turn)) in
        record {
          ending = t.turned.over.0;
          shown = record { store = is.store; moment = is.moment; steps = is.steps; live = is.live };
          taken = after_turn (Some e) t ∙ ap (λ ls. with_more old (printed ls)) lines;
          calls = suc turn;
          past = lines_on c w turn;
          at = t.turned.at;
          over = is.ended ∙ ap (λ x. phase.Ended x) (sym t.turned.over.0);
        }

    pub stops_without : new ≡ mid → Wrote (ComesSoFar c w) old new
    stops_without e = (printed r.past, (so_far c w turn r.past r.written, e ∙ r.taken))

    pub stops_within : (before at now : ℕ) → before ≤ at → Rose at now →
        TookPart r.past (lines_on c w turn) mid new →
        Stopped (ComesSoFar c w) (ComesSoFar c w) before now old new stop.Failed
    stops_within before at now low rose p =
        let text : printed r.past ++ printed p.more ≡ trace_text (stage_on c w turn) =
        sym (printed_both r.past p.more) ∙ ap printed (sym p.all_are) ∙ lines_text c w turn in (
          rose_from before at now low rose,
          (
            trace_text (stage_on c w turn),
            (
              turns turn,
              subst (λ (l : List ℕ). TookPrefix old l new) text (took_behind old mid new (printed r.past) (printed p.more) r.taken p.taken),
            ),
          ),
        )

    pub stops_by : (before at now : ℕ) (f : TurnFault) → before ≤ at → (f ≡ fault.Memory → new ≡ mid) → (f ≡ fault.Failed → Rose at now) →
        (f ≡ fault.Failed → TookPart r.past (lines_on c w turn) mid new) →
        Stopped (ComesSoFar c w) (ComesSoFar c w) before now old new (stop_of f)
    stops_by before at now fault.Memory low memory rose part = stops_without (memory refl)
    stops_by before at now fault.Failed low memory rose part = stops_within before at now low (rose refl) (part refl)

  -- a run is over before there are more turns than steps
  pub never_reached : RunsHold → (turn : ℕ) (old new : Option (List ℕ)) (m : Vm H W) → Valid c → turn ≡ w.steps + 2 →
      Reached state pending c w turn old new m → ⊥
  never_reached holds turn old new m valid e r =
      let last : turn ≡ suc (suc w.steps) = omega arith in
      over_ends (stage_on c w (suc w.steps)) (holds c w.origin w.steps w.until valid r.at.bound.can).over
      (none_ended c w turn r.past r.written (suc w.steps) last)

-- how many waits a machine has is how many are left, where that counts
pub counts_of : {H W : Type 0} (state : H → Kept) (pending : W → List Pending) (m : Vm H W) (live : Option ℕ) (n : ℕ) →
    n ≡ length (pending m.tasks.gone.waits) →
    LiveIs state pending live m → Counts live n
counts_of state pending m None n e l = tt
counts_of state pending m (Some live) n e l = l ∙ sym e
