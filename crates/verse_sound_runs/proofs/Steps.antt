-- A turn that goes on has spent a step, so no more turns go on than there are steps.
use Rattle.std.proofs.Common.{◌≡◌, ℕ, zero, suc, ◌≤◌, ◌<◌, ℤ, Bool, true, false, cond, List, [], ◌∷◌, ◌++◌, Option, Some, None, refl}
use Rattle.std.proofs.Common.{sym, subst, arith}
use Rattle.std.specs.Prelude.{nat_lt}
use Rattle.verse_value.specs.Val.{Val}
use Rattle.verse_value.specs.declared.runs.Ending.TheVariants as ending
use Rattle.verse_meaning_state.specs.State.{State, begun, spending, stepped, at_moment}
use Rattle.verse_meaning_state.specs.Waits.{Wait, has, Due, least}
use Rattle.verse_meaning_state.specs.Turns.{Stage, going, closed, broken, amiss, turn, turn_at, turns}
use Rattle.verse_meaning.specs.Programs.{Program}
use Rattle.verse_meaning.specs.Residuals.{called, none, scope_leaves}
use Rattle.verse_meaning.specs.Outcomes as o
use Rattle.verse_meaning.specs.Outcomes.{world, TaskOutcome, call_end}
use Rattle.verse_meaning.specs.Evaluating.{on_bool}
use Rattle.verse_meaning.specs.Resuming.{resume_scope}
use Rattle.verse_meaning.specs.Runs.{deeper, Forest, forest_leaves, ended_by, came, woken, turn_taken, after}
use Rattle.verse_meaning.specs.RunLaws.{Reaches, StepsStand, StepsCount, stage_state, halted_state}

module _ (p : Program) (count : StepsCount p) where
  stands : (st : State) → StepsStand st st
  stands st = record { sum = refl; falls = omega arith }

  halted_same : (h : o.Halt) → stage_state (ended_by h) ≡ halted_state h
  halted_same (o.fault k pl st) = refl
  halted_same (o.out st) = refl
  halted_same (o.jammed st) = refl
  halted_same (o.wrong st) = refl

  came_stands : (st : State) (before : Forest) (x : TaskOutcome) → Reaches StepsStand st (call_end [] x) →
      StepsStand st (stage_state (came before x))
  unfolding call_end
  came_stands st before (o.ends v w) h = h
  came_stands st before (o.lost s) h = h
  came_stands st before (o.stops z) h = subst (λ q. StepsStand st q) (sym (halted_same z)) h
  came_stands st before (o.sleeps s w) h = h

  woken_stands : (n : ℕ) (v : Val) (before fs : Forest) (st : State) → StepsStand st (stage_state (woken p n v before fs st))
  woken_stands n v before [] st = stands st
  woken_stands n v before (None ∷ fs) st = woken_stands n v (before ++ None ∷ []) fs st
  woken_stands n v before (Some x ∷ fs) st = by (has n (scope_leaves x)) (woken_stands n v (before ++ Some x ∷ []) fs st)
    where
      by : (b : Bool) → StepsStand st (stage_state (woken p n v (before ++ Some x ∷ []) fs st)) → StepsStand st
          (stage_state (on_bool b (λ u. came before (resume_scope p (deeper p st.clock.left) x n v (world st none fs))) (λ u. woken p n v
          (before ++ Some x ∷ []) fs st)))
      by true h = came_stands st before (resume_scope p (deeper p st.clock.left) x n v (world st none fs))
          (count.going st.clock.left (called [] x) n v (world st none fs))
      by false h = h

  -- what is left, where a stage goes on
  abbrev pub Leaves : ℕ → Stage Forest → Type 0
  Leaves m (going st fs) = st.clock.left ≤ m
  Leaves m (closed e st fs) = Unit {0}
  Leaves m (broken e st) = Unit {0}
  Leaves m (amiss st) = Unit {0}

  -- and where it goes on behind a turn
  abbrev pub LeavesLess : ℕ → Stage Forest → Type 0
  LeavesLess m (going st fs) = st.clock.left < m
  LeavesLess m (closed e st fs) = Unit {0}
  LeavesLess m (broken e st) = Unit {0}
  LeavesLess m (amiss st) = Unit {0}

  less_of : (l : ℕ) (st : State) (x : Stage Forest) → StepsStand (stepped l st) (stage_state x) → LeavesLess (suc l) x
  less_of l st (going u fs) h = omega (arith, h.falls)
  less_of l st (closed e u fs) h = tt
  less_of l st (broken e u) h = tt
  less_of l st (amiss u) h = tt

  spending_less : (left m : ℕ) (st : State) (fs : Forest) (d : Due) → left ≤ m → LeavesLess m (spending left st (closed ending.Steps st fs)
      (λ s. woken p d.number d.given.value [] fs (at_moment d.given.moment s)))
  spending_less zero m st fs d h = tt
  spending_less (suc l) m st fs d h =
      at_most (woken p d.number d.given.value [] fs (at_moment d.given.moment (stepped l st))) (less_of l st
      (woken p d.number d.given.value [] fs (at_moment d.given.moment (stepped l st))) (same_steps (woken p d.number d.given.value [] fs
      (at_moment d.given.moment (stepped l st))) (woken_stands d.number d.given.value [] fs (at_moment d.given.moment
      (stepped l st)))))
    where
      same_steps : (x : Stage Forest) → StepsStand (at_moment d.given.moment (stepped l st)) (stage_state x) →
          StepsStand (stepped l st) (stage_state x)
      same_steps x g = record { sum = g.sum; falls = g.falls }

      at_most : (x : Stage Forest) → LeavesLess (suc l) x → LeavesLess m x
      at_most (going u fs1) g = omega (arith, g, h)
      at_most (closed e u fs1) g = tt
      at_most (broken e u) g = tt
      at_most (amiss u) g = tt

  turn_less : (until m : ℕ) (st : State) (fs : Forest) → st.clock.left ≤ m → LeavesLess m (turn_taken p until st fs)
  turn_less until m st fs h = listed (forest_leaves fs)
    where
      within : (d : Due) (b : Bool) → LeavesLess m (cond b (closed ending.Until st fs) (spending st.clock.left st
          (closed ending.Steps st fs)
          (λ s. woken p d.number d.given.value [] fs (at_moment d.given.moment s))))
      within d true = tt
      within d false = spending_less st.clock.left m st fs d h

      chosen : (x : Option Due) → LeavesLess m (turn_at until x st fs (λ d s. woken p d.number d.given.value [] fs s))
      chosen None = tt
      chosen (Some d) = within d (nat_lt until d.given.moment)

      listed : (ws : List Wait) → LeavesLess m (turn until ws st fs (λ d s. woken p d.number d.given.value [] fs s))
      listed [] = tt
      listed (w ∷ ws) = chosen (least st (w ∷ ws))

  abbrev pub NotGoing : Stage Forest → Type 0
  NotGoing (going st fs) = ⊥
  NotGoing (closed e st fs) = Unit {0}
  NotGoing (broken e st) = Unit {0}
  NotGoing (amiss st) = Unit {0}

  -- more turns than steps
  ends_by : (until k m : ℕ) (x : Stage Forest) → Leaves m x → m < k → NotGoing (turns (turn_taken p until) k x)
  ends_by until zero m x h lt = absurd (omega (arith, lt))
  ends_by until (suc k) m (closed e st fs) h lt = tt
  ends_by until (suc k) m (broken e st) h lt = tt
  ends_by until (suc k) m (amiss st) h lt = tt
  ends_by until (suc k) m (going st fs) h lt = by m (turn_taken p until st fs) h (turn_less until m st fs h) lt
      (λ j x g gt. ends_by until k j x g gt)
    where
      by : (m : ℕ) (x : Stage Forest) → st.clock.left ≤ m → LeavesLess m x → m < suc k → ((j : ℕ) (x : Stage Forest) → Leaves j x →
          j < k → NotGoing (turns (turn_taken p until) k x)) →
          NotGoing (turns (turn_taken p until) k x)
      by zero (going u fs1) h g lt next = absurd (omega (arith, g))
      by (suc m) (going u fs1) h g lt next = next m (going u fs1) (omega (arith, g)) (omega (arith, lt))
      by m (closed e u fs1) h g lt next = stays k
        where
          stays : (k : ℕ) → NotGoing (turns (turn_taken p until) k (closed e u fs1))
          stays zero = tt
          stays (suc k) = tt
      by m (broken e u) h g lt next = stays k
        where
          stays : (k : ℕ) → NotGoing (turns (turn_taken p until) k (broken e u))
          stays zero = tt
          stays (suc k) = tt
      by m (amiss u) h g lt next = stays k
        where
          stays : (k : ℕ) → NotGoing (turns (turn_taken p until) k (amiss u))
          stays zero = tt
          stays (suc k) = tt

  starts_by : (steps : ℕ) (x : Stage Forest) → StepsStand (begun steps) (stage_state x) → Leaves steps x
  starts_by steps (going st fs) h = h.falls
  starts_by steps (closed e st fs) h = tt
  starts_by steps (broken e st) h = tt
  starts_by steps (amiss st) h = tt

  pub run_ends : (ns : List ℤ) (steps until : ℕ) → NotGoing (after p ns steps until (suc steps))
  run_ends ns steps until = ends_by until (suc steps) steps (after p ns steps until zero) (starts_by steps (after p ns steps until zero)
      (count.run ns steps until zero)) (omega arith)
