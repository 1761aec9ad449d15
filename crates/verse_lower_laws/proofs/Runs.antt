-- The laws of the meaning, carried over to the machine that runs the code: what is seen of both is the same.
use Rattle.std.proofs.Common.{◌≡◌, ◌≤◌, ◌+◌, ◌-◌, ◌⊎◌, inl, inr, ℕ, zero, suc, ℤ, List, length, map, Bool, true, false}
use Rattle.std.proofs.Common.{refl, sym, subst, arith}
use Rattle.std.proofs.Math.Path.{ap, ◌∙◌}
use Rattle.std.proofs.Math.Nat.{add-suc}
use Rattle.std.proofs.lemmas.Bool.{cases_lt}
use Rattle.verse_value.specs.declared.runs.Ending.{Ending}
use Rattle.verse_value.specs.declared.runs.Ending.TheVariants as ending
use Rattle.verse_meaning_state.specs.State.{State}
use Rattle.verse_meaning_state.specs.Turns.{Stage, amiss, broken, closed, going, run_closed, run_of}
use Rattle.verse_meaning.specs.Programs.{Program}
use Rattle.verse_meaning.specs.Runs.{Forest, after, forest_leaves, started}
use Rattle.verse_meaning.specs.RunLaws.{Begins, GroupsWait, LinesStay, NothingLost, NumbersOnce, StageChances, StepsCounted, count}
use Rattle.verse_meaning.specs.RunLaws.{stage_state, to_come}
use Rattle.verse_meaning.proofs.Following.{begins_same, begins_then}
use Rattle.verse_code_machine.specs.Tasks.{Task, tree_waits}
use Rattle.verse_code_machine.specs.Runs.{mach, mach_after}
use Rattle.verse_code_machine.specs.Laws.{RunsEnd, StaysOver}
use Rattle.lower_code.specs.Programs.{code_of}
use Rattle.lower_bounds.specs.Laws.{CodeIsValid}
use Rattle.lower_simulation.specs.Seen.{Seen, between, seen_of}
use Rattle.lower_simulation_runs.specs.Programs.{CanBeFollowed, Distinct}
use Rattle.lower_simulation_runs.specs.Laws.{TurnsAreTheSame}
use Rattle.verse_lower_laws.specs.Laws.{LinesAreKept, LinesOfRun, NumbersLiveOnce, NumbersOfRun, OthersOfRun, OthersStayLive, RunsTellAll}
use Rattle.verse_lower_laws.specs.Laws.{StepsAreBounded, StepsOfRun, TasksAfter, WaitsAreDistinct, WaitsOfRun, Wakes, WholeRun, is_drawn}
use Rattle.verse_lower_laws.specs.Laws.{is_live, lines, seen_after, state_in, steps_left, steps_spent, wait_number, waits}
use Rattle.verse_lower_laws.proofs.Stages.{before, fewer_left, gone_of, one_more, one_turn, stays_gone, told, told_chances}
use Rattle.verse_lower_laws.proofs.Stages.{told_drawn, told_distinct, told_state, turn_counts, woken_gone}
use Rattle.verse_lower_laws.proofs.Waits.{drawn_counts, none_counts, none_live, old_or_undrawn}

-- ---- lines

later_lines : (seen : ℕ → Seen) → ((k : ℕ) → Begins (lines (seen k)) (lines (seen (suc k)))) → (k j : ℕ) →
    Begins (lines (seen k)) (lines (seen (k + j)))
later_lines seen turn k zero = subst (λ i. Begins (lines (seen k)) (lines (seen i))) (omega arith) (begins_same (lines (seen k)))
later_lines seen turn k (suc j) = subst (λ i. Begins (lines (seen k)) (lines (seen i))) (sym (add-suc k j))
    (begins_then (lines (seen k)) (lines (seen (k + j))) (lines (seen (suc (k + j)))) (later_lines seen turn k j) (turn (k + j)))

-- ---- the run as it is told

closed_lines : (e : Ending) (s : State) (live : ℕ) → (run_closed e s live).trace ≡ s.memory.trace
closed_lines ending.Done s live = refl
closed_lines ending.Waiting s live = refl
closed_lines ending.Until s live = refl
closed_lines ending.Steps s live = refl
closed_lines (ending.Error x pl) s live = refl
closed_lines ending.Stuck s live = refl

closed_steps : (e : Ending) (s : State) (live : ℕ) → (run_closed e s live).steps ≡ s.clock.spent
closed_steps ending.Done s live = refl
closed_steps ending.Waiting s live = refl
closed_steps ending.Until s live = refl
closed_steps ending.Steps s live = refl
closed_steps (ending.Error x pl) s live = refl
closed_steps ending.Stuck s live = refl

run_lines : (g : Stage (List (List Task))) → (run_of tree_waits g).trace ≡ lines (seen_of tree_waits g)
run_lines (going s ts) = refl
run_lines (closed e s ts) = closed_lines e s (length (tree_waits ts))
run_lines (broken e s) = refl
run_lines (amiss s) = refl

run_steps : (g : Stage (List (List Task))) → (run_of tree_waits g).steps ≡ steps_spent (seen_of tree_waits g)
run_steps (going s ts) = refl
run_steps (closed e s ts) = closed_steps e s (length (tree_waits ts))
run_steps (broken e s) = refl
run_steps (amiss s) = refl

-- as many turns more
reached : (k m : ℕ) → k ≤ m → k + (m - k) ≡ m
reached k m le = omega (arith, le)

spent_within : (x : Seen) (steps : ℕ) → steps_left x + steps_spent x ≡ steps → steps_spent x ≤ steps
spent_within x steps e = omega (arith, e)

module _ (same : TurnsAreTheSame) (p : Program) (differ : ℕ → ℕ → Bool) (files : ℕ) (can : CanBeFollowed p files)
    (ns : List ℤ) (steps until : ℕ) where
  alike : (k : ℕ) → seen_after p differ files ns steps until k ≡ told (after p ns steps until k)
  alike k = same p differ files can ns steps until k

  state_alike : (k : ℕ) → state_in (seen_after p differ files ns steps until k) ≡ stage_state (after p ns steps until k)
  state_alike k = ap state_in (alike k) ∙ told_state (after p ns steps until k)

  -- the next stage is that of one turn more
  next_stage : (k : ℕ) → after p ns steps until (suc k) ≡ one_turn p until (after p ns steps until k)
  next_stage k = one_more p until k (started p ns steps)

  lines_turn : LinesStay → (k : ℕ) → Begins (lines (seen_after p differ files ns steps until k))
      (lines (seen_after p differ files ns steps until (suc k)))
  lines_turn stay k =
      subst (λ s. Begins s.memory.trace (lines (seen_after p differ files ns steps until (suc k)))) (sym (state_alike k))
      (subst (λ s. Begins (stage_state (after p ns steps until k)).memory.trace s.memory.trace) (sym (state_alike (suc k)))
      ((stay p).run ns steps until k))

  lines_of : LinesStay → LinesOfRun p differ files ns steps until
  lines_of stay = record {
    turn = lines_turn stay;
    later = later_lines (seen_after p differ files ns steps until) (lines_turn stay);
  }

  steps_of : StepsCounted → StepsOfRun p differ files ns steps until
  steps_of counted = record {
    sum = λ k. ap (λ s. s.clock.left + s.clock.spent) (state_alike k) ∙ (((counted p).run ns steps until k).sum ∙ omega arith);
    falls = λ k.
        subst (λ s. s.clock.left ≤ steps_left (seen_after p differ files ns steps until k)) (sym (state_alike (suc k)))
        (subst (λ s. (stage_state (after p ns steps until (suc k))).clock.left ≤ s.clock.left) (sym (state_alike k))
        (subst (λ g. (stage_state g).clock.left ≤ (stage_state (after p ns steps until k)).clock.left) (sym (next_stage k))
        (fewer_left p until (counted p) (after p ns steps until k))));
  }

  waits_of : NumbersOnce → WaitsOfRun p differ files ns steps until
  waits_of once = record {
    distinct = λ k. subst (λ x. Distinct (map wait_number (waits x))) (sym (alike k))
        (told_distinct (after p ns steps until k) (λ i. (once p).run ns i steps until k));
    drawn = λ n k. subst (λ x. is_live n x ≡ true → is_drawn n x ≡ true) (sym (alike k))
        (told_drawn n (after p ns steps until k) ((once p).run ns n steps until k));
  }

  -- ---- numbers

  counts_turn : NumbersOnce → (n k : ℕ) → count n (waits (seen_after p differ files ns steps until (suc k))) ≤
      count n (waits (seen_after p differ files ns steps until k)) + to_come n (state_in (seen_after p differ files ns steps until k))
  counts_turn once n k =
      subst (λ y. count n (waits y) ≤ count n (waits (seen_after p differ files ns steps until k)) +
      to_come n (state_in (seen_after p differ files ns steps until k))) (sym (alike (suc k) ∙ ap told (next_stage k)))
      (subst (λ x. count n (waits (told (one_turn p until (after p ns steps until k)))) ≤ count n (waits x) + to_come n (state_in x))
      (sym (alike k)) (turn_counts p until (once p) n (after p ns steps until k)))

  gone_on : NumbersOnce → (n k j : ℕ) → StageChances n 0 (after p ns steps until k) → StageChances n 0 (after p ns steps until (k + j))
  gone_on once n k zero a = subst (λ i. StageChances n 0 (after p ns steps until i)) (omega arith) a
  gone_on once n k (suc j) a = subst (λ i. StageChances n 0 (after p ns steps until i)) (sym (add-suc k j))
      (subst (StageChances n 0) (sym (next_stage (k + j)))
      (stays_gone p until (once p) n (after p ns steps until (k + j)) (gone_on once n k j a)))

  not_live : (n k : ℕ) → StageChances n 0 (after p ns steps until k) → is_live n (seen_after p differ files ns steps until k) ≡ false
  not_live n k a = subst (λ x. is_live n x ≡ false) (sym (alike k))
      (none_live n (waits (told (after p ns steps until k))) (told_chances n 0 (after p ns steps until k) a))

  gone_stage : (n k : ℕ) → is_drawn n (seen_after p differ files ns steps until k) ≡ true →
      is_live n (seen_after p differ files ns steps until k) ≡ false → StageChances n 0 (after p ns steps until k)
  gone_stage n k d e = gone_of n (after p ns steps until k)
      (none_counts n (waits (told (after p ns steps until k))) (subst (λ x. is_live n x ≡ false) (alike k) e))
      (drawn_counts n (state_in (told (after p ns steps until k))) (subst (λ x. is_drawn n x ≡ true) (alike k) d))

  -- the wakes of the machine are those of the program
  wakes_alike : (n k : ℕ) → Wakes n (seen_after p differ files ns steps until k) (seen_after p differ files ns steps until (suc k)) →
      Wakes n (told (after p ns steps until k)) (told (one_turn p until (after p ns steps until k)))
  wakes_alike n k h = subst (λ x. Wakes n x (told (one_turn p until (after p ns steps until k)))) (alike k)
      (subst (λ y. Wakes n (seen_after p differ files ns steps until k) y) (alike (suc k) ∙ ap told (next_stage k)) h)

  numbers_of : NumbersOnce → NumbersOfRun p differ files ns steps until
  numbers_of once = record {
    old_or_new = λ n k. old_or_undrawn n (state_in (seen_after p differ files ns steps until k))
        (waits (seen_after p differ files ns steps until k)) (waits (seen_after p differ files ns steps until (suc k)))
        (counts_turn once n k);
    gone = λ n k j d e. not_live n (k + j) (gone_on once n k j (gone_stage n k d e));
    woken = λ n k j h. not_live n (suc k + j) (gone_on once n (suc k) j (subst (StageChances n 0) (sym (next_stage k))
        (woken_gone p until n (once p) (after p ns steps until k) ((once p).run ns n steps until k) (wakes_alike n k h))));
  }

  -- ---- what is not woken

  seen_stage : (k : ℕ) (s : State) (fs : Forest) → after p ns steps until k ≡ going s fs →
      seen_after p differ files ns steps until k ≡ between s (forest_leaves fs)
  seen_stage k s fs e = alike k ∙ ap told e

  tasks_after : (k : ℕ) (s : State) (fs : Forest) → after p ns steps until k ≡ going s fs → TasksAfter p differ files ns steps until k
  tasks_after k s fs e = record {
    tasks = fs;
    there = e ∙ ap (λ t. going t fs) (sym (ap state_in (seen_stage k s fs e)));
    same = sym (ap waits (seen_stage k s fs e));
  }

  others_of : NothingLost → GroupsWait → OthersOfRun p differ files ns steps until
  unfolding tasks_after
  others_of lost groups = record {
    turn = λ n k h.
        let b = before p until n lost (after p ns steps until k) ((groups p).run ns steps until k) (wakes_alike n k h) in (
          tasks_after k b.state b.tasks b.there,
          λ i e. subst (λ y. is_live i y ≡ true) (sym (alike (suc k) ∙ ap told (next_stage k)))
              (b.others i e),
        );
  }

  -- ---- the whole run

  run_tells : (k : ℕ) → Begins (lines (seen_after p differ files ns steps until k))
      (lines (seen_after p differ files ns steps until (suc steps))) →
      Begins (lines (seen_after p differ files ns steps until k)) (mach (code_of p differ files) ns steps until).trace
  run_tells k b = subst (Begins (lines (seen_after p differ files ns steps until k)))
      (sym (run_lines (mach_after (code_of p differ files) ns steps until (suc steps)))) b

  -- a run that is over has no more lines
  over_same : RunsEnd → StaysOver → CodeIsValid → (j : ℕ) →
      seen_after p differ files ns steps until (suc steps + j) ≡ seen_after p differ files ns steps until (suc steps)
  over_same ends stays valid j = ap (seen_of tree_waits) (stays (code_of p differ files) ns steps until (suc steps) j
      (ends (code_of p differ files) ns steps until (valid p differ files can.lowered)).over)

  late_lines : RunsEnd → StaysOver → CodeIsValid → (k : ℕ) → suc steps ≤ k →
      Begins (lines (seen_after p differ files ns steps until k)) (lines (seen_after p differ files ns steps until (suc steps)))
  late_lines ends stays valid k le =
      subst (λ i. Begins (lines (seen_after p differ files ns steps until i))
      (lines (seen_after p differ files ns steps until (suc steps))))
      (reached (suc steps) k le)
      (subst (λ x. Begins (lines x) (lines (seen_after p differ files ns steps until (suc steps))))
      (sym (over_same ends stays valid (k - suc steps))) (begins_same (lines (seen_after p differ files ns steps until (suc steps)))))

  early_lines : LinesStay → (k : ℕ) → k ≤ suc steps →
      Begins (lines (seen_after p differ files ns steps until k)) (lines (seen_after p differ files ns steps until (suc steps)))
  early_lines stay k le =
      subst (λ i. Begins (lines (seen_after p differ files ns steps until k)) (lines (seen_after p differ files ns steps until i)))
      (reached k (suc steps) le) ((lines_of stay).later k (suc steps - k))

  either_lines : LinesStay → RunsEnd → StaysOver → CodeIsValid → (k : ℕ) → (suc k ≤ suc steps) ⊎ (suc steps ≤ k) →
      Begins (lines (seen_after p differ files ns steps until k)) (lines (seen_after p differ files ns steps until (suc steps)))
  either_lines stay ends stays valid k (inl a) = early_lines stay k (omega (arith, a))
  either_lines stay ends stays valid k (inr a) = late_lines ends stays valid k a

  whole_of : LinesStay → StepsCounted → RunsEnd → StaysOver → CodeIsValid → WholeRun p differ files ns steps until
  whole_of stay counted ends stays valid = record {
    tells = λ k. run_tells k (either_lines stay ends stays valid k (cases_lt k (suc steps)));
    within = subst (λ n. n ≤ steps) (sym (run_steps (mach_after (code_of p differ files) ns steps until (suc steps))))
        (spent_within (seen_after p differ files ns steps until (suc steps)) steps ((steps_of counted).sum (suc steps)));
  }

-- ---- the laws of the crate

pub lines_are_kept : TurnsAreTheSame → LinesStay → LinesAreKept
lines_are_kept same stay p differ files can ns steps until = lines_of same p differ files can ns steps until stay

pub waits_are_distinct : TurnsAreTheSame → NumbersOnce → WaitsAreDistinct
waits_are_distinct same once p differ files can ns steps until = waits_of same p differ files can ns steps until once

pub numbers_live_once : TurnsAreTheSame → NumbersOnce → NumbersLiveOnce
numbers_live_once same once p differ files can ns steps until = numbers_of same p differ files can ns steps until once

pub others_stay_live : TurnsAreTheSame → NothingLost → GroupsWait → OthersStayLive
others_stay_live same lost groups p differ files can ns steps until = others_of same p differ files can ns steps until lost groups

pub steps_are_bounded : TurnsAreTheSame → StepsCounted → StepsAreBounded
steps_are_bounded same counted p differ files can ns steps until = steps_of same p differ files can ns steps until counted

pub runs_tell_all : TurnsAreTheSame → LinesStay → StepsCounted → RunsEnd → StaysOver → CodeIsValid → RunsTellAll
runs_tell_all same stay counted ends stays valid p differ files can ns steps until =
    whole_of same p differ files can ns steps until stay counted ends stays valid
