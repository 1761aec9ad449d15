-- A call whose lines are drained, wherever the machine stands.
use Rattle.std.proofs.Common.{◌≡◌, suc, List, [], Option, sym, subst}
use Rattle.verse_code.specs.declared.codes.Code.{Code}
use Rattle.verse_value.specs.declared.runs.Ending.{Ending}
use Rattle.sim_clock.specs.declared.waits.Pending.{Pending}
use Rattle.trace_buf.specs.Trace.{Trace, drained}
use Rattle.tx_heap.specs.State.{State as Kept}
use Rattle.vm_run.specs.declared.machines.Phase.TheVariants as phase
use Rattle.vm_run.specs.declared.machines.Vm.{Vm}
use Rattle.vm_run.specs.Standing.{Belongs, stands, lost}
use Rattle.vm_run.specs.Origins.{stage_after}
use Rattle.vm_run.specs.Turning.{lines_after}
use Rattle.vm_run.proofs.Draining.{with_trace, drained_at, none_kept, no_marks}
use Rattle.vm_run.proofs.Running.{TurnsInto}

module _ {H W : Type 0} (state : H → Kept) (pending : W → List Pending) (c : Code) where
  pub drained_belongs : (m n : Vm H W) (o : Option Ending) (t : Trace) → Belongs state pending c m → (m.phase ≡ phase.Lost → ⊥) →
      TurnsInto state pending c m o n → t ≡ drained n.run.trace → Belongs state pending c (with_trace state pending n t)
  drained_belongs m n o t (stands origin steps until k past at) not turns e =
      stands origin steps until (suc k) (lines_after c origin steps until k)
      (drained_at state pending c origin steps until k past n o t e (turns origin steps until k past at))
  drained_belongs m n o t (lost is) not turns e = absurd (not is)

  pub drained_kept : (m n : Vm H W) (o : Option Ending) (t : Trace) → Belongs state pending c m → (m.phase ≡ phase.Lost → ⊥) →
      TurnsInto state pending c m o n → t ≡ drained n.run.trace → t.kept ≡ []
  drained_kept m n o t (stands origin steps until k past at) not turns e =
      none_kept state pending c origin steps until k past n o t e (turns origin steps until k past at)
  drained_kept m n o t (lost is) not turns e = absurd (not is)

  pub turned_bare : (m n : Vm H W) (o : Option Ending) → Belongs state pending c m → (m.phase ≡ phase.Lost → ⊥) →
      TurnsInto state pending c m o n → n.run.trace.marks ≡ []
  turned_bare m n o (stands origin steps until k past at) not turns =
      no_marks state pending (stage_after c origin steps until k) past n (turns origin steps until k past at).at.holds
  turned_bare m n o (lost is) not turns = absurd (not is)

  pub still_belongs : (n : Vm H W) (t : Trace) → Belongs state pending c n → t ≡ n.run.trace →
      Belongs state pending c (with_trace state pending n t)
  still_belongs n t b e = subst (λ u. Belongs state pending c (with_trace state pending n u)) (sym e) b
