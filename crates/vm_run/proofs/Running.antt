-- Turns to the end.
use Rattle.std.proofs.Common.{◌≡◌, ◌<◌, ◌+◌, ◌-◌, ℕ, suc, List, Option, Some, None, sym, subst, ◌∙◌, arith}
use Rattle.verse_code.specs.declared.codes.Code.{Code}
use Rattle.verse_code.specs.Validity.{Valid}
use Rattle.verse_value.specs.Runs.{Line}
use Rattle.verse_value.specs.declared.runs.Ending.{Ending}
use Rattle.sim_clock.specs.declared.waits.Pending.{Pending}
use Rattle.tx_heap.specs.State.{State as Kept}
use Rattle.vm_run.specs.declared.machines.Phase.TheVariants as phase
use Rattle.vm_run.specs.declared.machines.Vm.{Vm}
use Rattle.vm_run.specs.Origins.{Origin, stage_after, RunsHold}
use Rattle.vm_run.specs.Standing.{Holds, HoldsAfter, At, Belongs, stands, lost}
use Rattle.vm_run.specs.Turning.{Turned, Ran}
use Rattle.vm_run.specs.Reaching.{ended_in}
use Rattle.vm_run.proofs.Origins.{over_same, always_over}
use Rattle.vm_run.proofs.Standing.{answers, no_ending, goes_on, over_ends}

module _ {H W : Type 0} (state : H → Kept) (pending : W → List Pending) (c : Code) where
  -- after so many calls that found no ending
  pub record Runs (n : ℕ) (old m : Vm H W) : Type 0 where
    pub belongs : Belongs state pending c m
    pub at : (origin : Origin) (steps until k : ℕ) (past : List Line) → At state pending c origin steps until k past old →
        At state pending c origin steps until (k + n) past m
    pub going : 0 < n → m.phase ≡ phase.Between
    pub lost : old.phase ≡ phase.Lost → m.phase ≡ phase.Lost

  pub none_yet : (m : Vm H W) → Belongs state pending c m → Runs 0 m m
  none_yet m b = record {
    belongs = b;
    at = λ origin steps until k past at. subst (λ j. At state pending c origin steps until j past m) (omega arith) at;
    going = λ less. absurd (omega (arith, less));
    lost = λ is. is;
  }

  -- what a call answers, wherever the machine stands
  abbrev pub TurnsInto : Vm H W → Option Ending → Vm H W → Type 0
  TurnsInto m o n = (origin : Origin) (steps until k : ℕ) (past : List Line) → At state pending c origin steps until k past m →
      Turned state pending c origin steps until k past o n

  between : (m n : Vm H W) → Belongs state pending c m → TurnsInto m None n → (m.phase ≡ phase.Lost → ⊥) → n.phase ≡ phase.Between
  between m n (stands origin steps until k past at) turns not =
      let t = turns origin steps until k past at in no_ending state pending (stage_after c origin steps until k) past n t.at.holds (none t)
    where
      none : Turned state pending c origin steps until k past None n → ended_in n.phase ≡ None
      none t = answers state pending (stage_after c origin steps until k) past n t.at.holds ∙ sym t.answer
  between m n (lost is) turns not = absurd (not is)

  pub one_more : (k : ℕ) (old m n : Vm H W) → Runs k old m → TurnsInto m None n → Belongs state pending c n → (m.phase ≡ phase.Lost → ⊥) →
      Runs (k + 1) old n
  one_more k old m n r turns belongs not = record {
    belongs = belongs;
    at = λ origin steps until j past at. subst (λ i. At state pending c origin steps until i past n) (omega arith)
        (turns origin steps until (j + k) past (r.at origin steps until j past at)).at;
    going = λ less. between m n r.belongs turns not;
    lost = λ is. absurd (not (r.lost is));
  }

  pub never_so_many : RunsHold → Valid c → (old m : Vm H W) → Belongs state pending c old → Runs 100000002 old m → ⊥
  never_so_many law valid old m (stands origin steps until k past at) r =
      let far = r.at origin steps until k past at in
      let few = at.bound.few_steps in
      let index : k + 100000002 ≡ suc (suc steps + (k + 100000000 - steps)) = omega (arith, few) in
      let h : HoldsAfter state pending c origin steps until (suc (suc steps + (k + 100000000 - steps))) past m =
      subst (λ i. HoldsAfter state pending c origin steps until i past m) index far.holds in
      goes_on state pending (stage_after c origin steps until (suc steps + (k + 100000000 - steps))) past m h (r.going (omega arith))
      (always_over c origin steps until (k + 100000000 - steps) (law c origin steps until valid at.bound.can))
  never_so_many law valid old m (lost is) r = let a = r.lost is in let b : m.phase ≡ phase.Between = r.going (omega arith) in
      absurd (cc)

  ran_by : RunsHold → Valid c → (origin : Origin) (steps until k : ℕ) (past : List Line) (e : Ending) (n : Vm H W) →
      Turned state pending c origin steps until k past (Some e) n → Ran state pending c origin steps until past e n
  ran_by law valid origin steps until k past e n t =
      let o = over_ends state pending (stage_after c origin steps until k) past n e t.at.holds (sym t.answer) in
      record {
        at = record {
          bound = t.at.bound;
          holds =
              subst (λ z. Holds state pending z past n) (sym
              (over_same c origin steps until k (law c origin steps until valid t.at.bound.can) o.0)) t.at.holds;
        };
        answer = t.over.0;
        over = t.over.1;
      }

  pub ran : RunsHold → Valid c → (j : ℕ) (old m n : Vm H W) (e : Ending) → Runs j old m → TurnsInto m (Some e) n →
      (origin : Origin) (steps until k : ℕ) (past : List Line) → At state pending c origin steps until k past old →
      Ran state pending c origin steps until past e n
  ran law valid j old m n e r turns origin steps until k past at =
      ran_by law valid origin steps until (k + j) past e n (turns origin steps until (k + j) past (r.at origin steps until k past at))
