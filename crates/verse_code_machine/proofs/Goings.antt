-- A run of a valid code ends from a state between two turns as well, and what follows for one who takes its turns.
use Rattle.std.proofs.Common.{◌≡◌, ℕ, zero, suc, length, ◌+◌, ◌*◌, ◌≤◌, List, [], ◌∷◌, true, refl, sym}
use Rattle.std.proofs.Common.{ap, subst, arith}
use Rattle.std.proofs.Math.Nat.{mul-le-mul_left}
use Rattle.verse_code.specs.declared.codes.Class.{Class}
use Rattle.verse_code.specs.declared.codes.Code.{Code}
use Rattle.verse_code.specs.Validity.{Valid}
use Rattle.verse_meaning_state.specs.State.{State}
use Rattle.verse_meaning_state.specs.Turns.{Stage, going, closed, broken, amiss, turns}
use Rattle.verse_code_machine.specs.Tasks.{Handler, Frame, Note, Task}
use Rattle.verse_code_machine.specs.Frames.{fits, free}
use Rattle.verse_code_machine.specs.Runs.{Forest, turn_taken}
use Rattle.verse_code_machine.specs.Laws.{IsWhole, IsOver}
use Rattle.verse_code_machine.specs.Belonging.{HandlersBelong, FramesBelong, TasksBelong, TreesBelong}
use Rattle.verse_code_machine.specs.Goings.{gone_from, TasksAreFree, TreesAreFree, tasks_frames, trees_frames}
use Rattle.verse_code_machine.specs.Goings.{CanGoOn, RunEndsFrom, RunsEndFrom, StaysOverFrom, RunBelongsFrom}
use Rattle.verse_code_machine.proofs.Weights.{Kept, FramesAre, TasksAre, TreesAre}
use Rattle.verse_code_machine.proofs.Weights.{frames_weight, tasks_weight, trees_weight}
use Rattle.verse_code_machine.proofs.Whole.{Within, turns_within, is_whole, is_over, turns_more}
use Rattle.verse_code_machine.proofs.BelongingRuns.{turns_belong}

-- a frame without handlers and those below it
free_are : (hs : List Handler) (ns : List Note) (bl : List Frame) (q : ℕ) → free hs ns bl ≡ true →
    ((fits hs q ≡ true) × Kept hs (length ns)) × FramesAre bl
free_are (h ∷ hs) ns bl q e = cc
free_are [] (m ∷ ns) bl q e = cc
free_are [] [] [] q e = ((refl, tt), tt)
free_are [] [] (f ∷ bl) q e = ((refl, tt), free_are f.handlers f.life.noted bl f.place e)

tasks_are : (ts : List Task) → TasksAreFree ts → TasksAre ts
tasks_are [] a = tt
tasks_are (t ∷ ts) a =
    let f = t.thread.frame in (free_are f.handlers f.life.noted t.thread.below f.place a.0, tasks_are ts a.1)

trees_are : (tss : Forest) → TreesAreFree tss → TreesAre tss
trees_are [] a = tt
trees_are (ts ∷ tss) a = (tasks_are ts a.0, trees_are tss a.1)

module _ (n : ℕ) where
  one_more : (k : ℕ) → (n + 1) * suc k ≡ (n + 1) * k + (n + 1)
  one_more k = omega arith

  -- a frame weighs no more than the code has operations, and one
  free_weight : (hs : List Handler) (ns : List Note) (bl : List Frame) → free hs ns bl ≡ true →
      (n + 2) * length ns + frames_weight n bl ≤ (n + 1) * length bl
  free_weight (h ∷ hs) ns bl e = cc
  free_weight [] (m ∷ ns) bl e = cc
  free_weight [] [] [] e = omega arith
  free_weight [] [] (f ∷ bl) e =
      omega (arith, free_weight f.handlers f.life.noted bl e, one_more (length bl))

  more_frames : (a b : ℕ) → (n + 1) * (suc a + b) ≡ (n + 1) * a + (n + 1) + (n + 1) * b
  more_frames a b = omega arith

  tasks_weigh : (ts : List Task) → TasksAreFree ts → tasks_weight n ts ≤ (n + 1) * tasks_frames ts
  tasks_weigh [] a = omega arith
  tasks_weigh (t ∷ ts) a =
      let f = t.thread.frame in
      omega (
        arith,
        free_weight f.handlers f.life.noted t.thread.below a.0,
        tasks_weigh ts a.1,
        more_frames (length t.thread.below) (tasks_frames ts),
      )

  both_frames : (a b : ℕ) → (n + 1) * (a + b) ≡ (n + 1) * a + (n + 1) * b
  both_frames a b = omega arith

  trees_weigh : (tss : Forest) → TreesAreFree tss → trees_weight n tss ≤ (n + 1) * trees_frames tss
  trees_weigh [] a = omega arith
  trees_weigh (ts ∷ tss) a =
      omega (arith, tasks_weigh ts a.0, trees_weigh tss a.1, both_frames (tasks_frames ts) (trees_frames tss))

  steps_carry : (left spent w f : ℕ) → w ≤ (n + 1) * f → f ≤ 2 * spent →
      left * (2 * n + 4) + w + 0 * (2 * n + 4) ≤ (left + spent) * (2 * n + 4)
  steps_carry left spent w f light few = omega (arith, light, mul-le-mul_left (n + 1) few)

goes_within : (c : Code) (valid : Valid c) (steps : ℕ) (s : State) (tss : Forest) →
    s.clock.left + s.clock.spent ≡ steps → CanGoOn s tss → Within c valid.operations steps 0 (going s tss)
goes_within c valid steps s tss e can =
    subst (λ z. Within c valid.operations z 0 (going s tss)) e (
      steps_carry (length c.ops) s.clock.left s.clock.spent _ _ (trees_weigh
          (length c.ops) tss can.are_free) can.few,
      trees_are tss can.are_free,
    )

gone_within : (c : Code) (valid : Valid c) (steps until k : ℕ) (s : State) (tss : Forest) →
    s.clock.left + s.clock.spent ≡ steps → CanGoOn s tss →
    Within c valid.operations steps k (gone_from c steps until k s tss)
gone_within c valid steps until k s tss e can =
    subst (λ z. Within c valid.operations steps z (gone_from c steps until k s tss)) (omega arith)
    (turns_within c valid.operations steps until 0 k (going s tss) (goes_within c valid steps s tss e can))

pub runs_end_from : RunsEndFrom
runs_end_from c steps until s tss valid e can =
    let within : (k : ℕ) → Within c valid.operations steps k (gone_from c steps until k s tss) =
    λ k. gone_within c valid steps until k s tss e can in
    record {
      whole = λ k. is_whole c valid.operations steps k (gone_from c steps until k s tss) (within k);
      over = is_over c valid.operations steps (gone_from c steps until (suc steps) s tss) (within (suc steps));
    }

pub stays_over_from : StaysOverFrom
stays_over_from c steps until k j s tss h = turns_more (turn_taken c steps until) k j (going s tss) h

pub run_belongs_from : RunBelongsFrom
run_belongs_from c steps until k s tss a b = turns_belong c steps until k (going s tss) (a, b)

-- tasks without handlers belong to any code
module _ (cs : List Class) where
  frames_belong : (hs : List Handler) (ns : List Note) (bl : List Frame) → free hs ns bl ≡ true →
      HandlersBelong cs hs × FramesBelong cs bl
  frames_belong (h ∷ hs) ns bl e = cc
  frames_belong [] (m ∷ ns) bl e = cc
  frames_belong [] [] [] e = (tt, tt)
  frames_belong [] [] (f ∷ bl) e = (tt, frames_belong f.handlers f.life.noted bl e)

  tasks_belong : (ts : List Task) → TasksAreFree ts → TasksBelong cs ts
  tasks_belong [] a = tt
  tasks_belong (t ∷ ts) a =
      let f = t.thread.frame in (frames_belong f.handlers f.life.noted t.thread.below a.0, tasks_belong ts a.1)

  pub trees_belong : (tss : Forest) → TreesAreFree tss → TreesBelong cs tss
  trees_belong [] a = tt
  trees_belong (ts ∷ tss) a = (tasks_belong ts a.0, trees_belong tss a.1)

-- a run that stands between two turns is the next turn's after one more
pub one_turn : (take : State → Forest → Stage Forest) (k : ℕ) (g : Stage Forest) (s : State) (tss : Forest) →
    turns take k g ≡ going s tss → turns take (suc k) g ≡ take s tss
one_turn take zero (going t uss) s tss e = ap (turns take 1) e
one_turn take zero (closed x t uss) s tss e = grind (arith, e)
one_turn take zero (broken x t) s tss e = grind (arith, e)
one_turn take zero (amiss t) s tss e = grind (arith, e)
one_turn take (suc k) (going t uss) s tss e = one_turn take k (take t uss) s tss e
one_turn take (suc k) (closed x t uss) s tss e = grind (arith, e)
one_turn take (suc k) (broken x t) s tss e = grind (arith, e)
one_turn take (suc k) (amiss t) s tss e = grind (arith, e)

-- wherever the run stands, the operations of its next turn come to an end within its room
pub turn_ends : (c : Code) (steps until k : ℕ) (s t : State) (tss uss : Forest) → RunEndsFrom c steps until s tss →
    gone_from c steps until k s tss ≡ going t uss → IsWhole (turn_taken c steps until t uss)
turn_ends c steps until k s t tss uss ends e =
    subst IsWhole (one_turn (turn_taken c steps until) k (going s tss) t uss e) (ends.whole (suc k))

-- after one turn more than it has steps the run is over, and stays so
pub always_over : (c : Code) (steps until j : ℕ) (s : State) (tss : Forest) → RunEndsFrom c steps until s tss →
    IsOver (gone_from c steps until (suc steps + j) s tss)
always_over c steps until j s tss ends =
    subst IsOver (sym (stays_over_from c steps until (suc steps) j s tss ends.over)) ends.over
