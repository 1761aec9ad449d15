-- Runs from wherever they began.
use Rattle.std.proofs.Common.{◌≡◌, ◌+◌, ◌-◌, ◌⊎◌, inl, inr, ℕ, zero, suc, refl, sym, ap, subst, ◌∙◌, arith}
use Rattle.verse_code.specs.declared.codes.Code.{Code}
use Rattle.verse_meaning_state.specs.State.{State}
use Rattle.verse_meaning_state.specs.Turns.{Stage, going, closed, broken, amiss, turns, run_of}
use Rattle.verse_code_machine.specs.Tasks.{tree_waits}
use Rattle.verse_code_machine.specs.Runs.{Forest, turn_taken, started}
use Rattle.verse_code_machine.specs.Belonging.{RunBelongs}
use Rattle.verse_code_machine.specs.Laws.{IsOver, RunsEnd, StaysOver}
use Rattle.verse_code_machine.specs.Goings.{gone_from, RunsEndFrom, StaysOverFrom, RunBelongsFrom}
use Rattle.verse_code_machine_endings.specs.Endings.{RunsEndSo, RunsEndSoFrom}
use Rattle.vm_run.specs.Origins.{Origin, from_inputs, from_state, stage_after, RunHolds, RunsHold}

-- a stage after one call more
abbrev pub next : (State → Forest → Stage Forest) → Stage Forest → Stage Forest
next take (going s trees) = take s trees
next take (closed e s trees) = closed e s trees
next take (broken e s) = broken e s
next take (amiss s) = amiss s

one_turn : (take : State → Forest → Stage Forest) (k : ℕ) (stage : Stage Forest) → next take (turns take k stage) ≡ turns take (suc k) stage
one_turn take zero (going s trees) = refl
one_turn take zero (closed e s trees) = refl
one_turn take zero (broken e s) = refl
one_turn take zero (amiss s) = refl
one_turn take (suc k) (going s trees) = one_turn take k (take s trees)
one_turn take (suc k) (closed e s trees) = refl
one_turn take (suc k) (broken e s) = refl
one_turn take (suc k) (amiss s) = refl

pub one_more_turn : (c : Code) (origin : Origin) (steps until k : ℕ) →
    next (turn_taken c steps until) (stage_after c origin steps until k) ≡ stage_after c origin steps until (suc k)
one_more_turn c (from_inputs ns) steps until k = one_turn (turn_taken c steps until) k (started c ns steps)
one_more_turn c (from_state s trees) steps until k = one_turn (turn_taken c steps until) (suc k) (going s trees)

either_way : (n m : ℕ) → (n + (m - n) ≡ m) ⊎ (m + (n - m) ≡ n)
either_way n m = grind arith

-- a run that is over is the whole run
pub over_same : (c : Code) (origin : Origin) (steps until k : ℕ) → RunHolds c origin steps until →
    IsOver (stage_after c origin steps until k) → stage_after c origin steps until (suc steps) ≡ stage_after c origin steps until k
over_same c origin steps until k r over =
    elim (either_way k (suc steps)) [
      | inl e ↦ ap (λ n. stage_after c origin steps until n) (sym e) ∙ r.stays k (suc steps - k) over
      | inr e ↦ sym (r.stays (suc steps) (k - suc steps) r.over) ∙ ap (λ n. stage_after c origin steps until n) e
    ]

pub always_over : (c : Code) (origin : Origin) (steps until j : ℕ) → RunHolds c origin steps until →
    IsOver (stage_after c origin steps until (suc steps + j))
always_over c origin steps until j r = subst IsOver (sym (r.stays (suc steps) j r.over)) r.over

pub runs_hold : RunsEnd → StaysOver → RunBelongs → RunsEndSo → RunsEndFrom → StaysOverFrom → RunBelongsFrom → RunsEndSoFrom → RunsHold
runs_hold ends stay all so ends_from stay_from all_from so_from c (from_inputs ns) steps until valid can = record {
  whole = (ends c ns steps until valid).whole;
  over = (ends c ns steps until valid).over;
  stays = λ k j over. stay c ns steps until k j over;
  belongs = λ k. all c ns steps until k;
  ends = λ k. so c ns steps until k;
  run = refl;
}
runs_hold ends stay all so ends_from stay_from all_from so_from c (from_state s trees) steps until valid can =
    let r = ends_from c steps until s trees valid can.steps_are can.can in
    let last : suc steps + 1 ≡ suc (suc steps) = omega arith in
    let same : gone_from c steps until (suc (suc steps)) s trees ≡ gone_from c steps until (suc steps) s trees =
    ap (λ k. gone_from c steps until k s trees) (sym last) ∙ stay_from c steps until (suc steps) 1 s trees r.over in
    record {
      whole = λ k. r.whole (suc k);
      over = subst IsOver (sym same) r.over;
      stays = λ k j over.
          let sum : suc k + j ≡ suc (k + j) = omega arith in
          ap (λ n. gone_from c steps until n s trees) (sym sum) ∙ stay_from c steps until (suc k) j s trees over;
      belongs = λ k. all_from c steps until (suc k) s trees can.state_belongs can.trees_belong;
      ends = λ k. so_from c steps until (suc k) s trees;
      run = ap (run_of tree_waits) (sym same);
    }
