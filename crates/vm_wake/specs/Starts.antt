-- The start of a run.
use Rattle.std.specs.Prelude.{◌≡◌, ◌≤◌, ℤ, List, [], None}
use Rattle.verse_code.specs.declared.codes.Func.{Func}
use Rattle.verse_meaning_state.specs.State.{begun}
use Rattle.verse_code_machine.specs.Runs.{main_starts}
use Rattle.sim_clock.specs.declared.waits.Pending.{Pending}
use Rattle.vm_running.specs.Views.{View}
use Rattle.vm_scheduler.specs.declared.tasks.Tasks.{Tasks}
use Rattle.vm_scheduler.specs.declared.tasks.Went.{Went}
use Rattle.vm_scheduler.specs.Meets.{MovesOn}

-- nothing has been done
pub record Fresh (v : View) : Type 0 where
  pub cells : v.heap.cells ≡ []
  pub copies : v.heap.copies ≡ []
  pub kept : v.trace.kept ≡ []
  pub marks : v.trace.marks ≡ []
  pub bytes : v.trace.bytes ≡ 0
  pub lines : v.trace.lines ≡ 0
  pub spent : v.spent ≡ 0
  pub moment : v.moment ≡ 0
  pub left : v.left ≤ 18446744073709551615

module _ {W : Type 0} (pending : W → List Pending) where
  -- no task has begun
  pub record IsNew (t : Tasks W) : Type 0 where
    pub tree : t.tree ≡ []
    pub waits : pending t.gone.waits ≡ []
    pub frames : t.gone.frames.items ≡ []
    pub ups : t.ups.items ≡ []
    pub after : t.after ≡ None
    pub next : t.next ≡ 0
    pub results : t.results.items ≡ []
    pub signals : t.signals.items ≡ []

  -- Main runs, or the run is over
  pub record MainStarts (f : Func) (ns : List ℤ) (r : Went) (v u : View) (s : Tasks W) :
      Type 0 where
    pub starts : MovesOn pending (main_starts ns (begun v.left) f) [] r u s
