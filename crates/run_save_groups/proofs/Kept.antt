-- What begins spends a step, so it has a number below the births of all frames that stand: each operation keeps that the
-- arms of a group began later than the frames of its task.
use Rattle.std.proofs.Common.{◌≡◌, ◌<◌, ◌≤◌, ℕ, suc, List, [], ◌∷◌, ◌++◌, Bool, arith}
use Rattle.std.proofs.lemmas.Bool.{cond_both}
use Rattle.verse_value.specs.Val.{Val}
use Rattle.verse_meaning_state.specs.Waits.{eqn}
use Rattle.verse_code_machine.specs.Tasks.{Frame, Who, Part, did, runs, Rest, asleep, group, Thread}
use Rattle.verse_code_machine.specs.Ends.{with_did}
use Rattle.verse_code_machine_births.specs.Births.{Anyone, FramesBorn}
use Rattle.verse_code_machine_births.proofs.Kept.{OfRest, Kept}
use Rattle.verse_code_machine_births.proofs.Runs.{Least, frame_becomes}
use Rattle.run_save_groups.specs.Arms.{ArmsBelow, RestBelow, TaskIs, BeginsIs}

-- Arms: one more that runs, one that gave a value as it began, and one of them gives one.
arms_end : (born n : ℕ) (gs : List Part) → ArmsBelow born gs → n < born → ArmsBelow born (gs ++ runs n ∷ [])
arms_end born n [] a h = (h, tt)
arms_end born n (did v ∷ gs) a h = arms_end born n gs a h
arms_end born n (runs m ∷ gs) a h = (a.0, arms_end born n gs a.1 h)

arms_did : (born n : ℕ) (v : Val) (gs : List Part) → ArmsBelow born (gs ++ runs n ∷ []) →
    ArmsBelow born (gs ++ did v ∷ [])
arms_did born n v [] a = tt
arms_did born n v (did w ∷ gs) a = arms_did born n v gs a
arms_did born n v (runs m ∷ gs) a = (a.0, arms_did born n v gs a.1)

arms_with : (born n : ℕ) (v : Val) (gs : List Part) → ArmsBelow born gs → ArmsBelow born (with_did n v gs)
arms_with born n v [] a = tt
arms_with born n v (did w ∷ gs) a = arms_with born n v gs a
arms_with born n v (runs m ∷ gs) a = cond_both (eqn n m) (did v ∷ gs) (runs m ∷ with_did n v gs) (ArmsBelow born)
    (λ e. a.1) (λ e. (
      a.0,
      arms_with born n v gs a.1,
    ))

-- of the frames of a task while so many steps are left, and of the arms of its group
abbrev pub FramesIn : ℕ → Who → List Frame → Type 0
FramesIn most w fs = FramesBorn most fs

abbrev pub ArmsIn : Thread → List Part → Type 0
ArmsIn x gs = ArmsBelow x.frame.life.born gs

module _ (most : ℕ) where
  rest_below : (x : Thread) (r : Rest) → OfRest (FramesIn most) ArmsIn x r → RestBelow x.frame.life.born r
  rest_below x (asleep w) a = tt
  rest_below x (group k p gs) a = a

  below_rest : (x : Thread) (r : Rest) → RestBelow x.frame.life.born r → OfRest (FramesIn most) ArmsIn x r
  below_rest x (asleep w) a = tt
  below_rest x (group k p gs) a = a

  below : {n born : ℕ} → suc n ≡ most → most ≤ born → n < born
  below e h = omega (arith, e, h)

  pub arms_kept : Kept most (FramesIn most) ArmsIn (TaskIs most) (BeginsIs most)
  arms_kept = record {
    left = λ w f fs a. a.1;
    becomes = λ w f g fs b a. (frame_becomes (Least most) Anyone f g b a.0, a.1);
    rests = λ x r a g. (a, rest_below x r g);
    thread = λ t a. a.0;
    rest = λ t a. below_rest t.thread t.rest a.1;
    begins = λ x gs number e a g. (a, arms_end x.frame.life.born number gs g (below e a.0.0));
    begun = λ x gs number a. a;
    none = λ x. tt;
    gave = λ x gs number v a. arms_did x.frame.life.born number v gs a;
    gives = λ x gs number v a. arms_with x.frame.life.born number v gs a;
  }
