-- A run that stopped at its horizon, and what is kept of it in whatever order.
use Rattle.std.specs.Prelude.{◌≡◌, ◌≤◌, ℕ, ℤ, List}
use Rattle.verse_code.specs.declared.codes.Code.{Code}
use Rattle.verse_code.specs.Validity.{Valid}
use Rattle.verse_meaning_state.specs.State.{State}
use Rattle.verse_code_machine.specs.Runs.{Forest, mach}
use Rattle.verse_code_machine_saved.specs.Horizons.{run_from, Stopped}
use Rattle.verse_code_machine_saved.specs.Resuming.{behind, SameTrees}
use Rattle.run_save_shots.specs.Kept.{Kept}
use Rattle.run_save_shots.specs.Keeping.{Spells}
use Rattle.run_save_shots.specs.Spelling.{state, trees}
use Rattle.verse_base.specs.declared.limits.TheConstants.{MOST_NOW}
use Rattle.run_save_moves.specs.Fine.{TextsAreBytes}
use Rattle.run_save_fits.specs.Laws.{InputsFit}
use Rattle.run_save_kept.specs.Growing.{filled}
use Rattle.run_save_births.specs.Births.{AreBorn}
use Rattle.run_save_orders.specs.Laws.{SameButOrder}

-- the trees as they were kept, without the empty ones
abbrev pub KeptIsSameButOrder : Type 0
KeptIsSameButOrder = (s : State) (tss : Forest) (x : Kept) → (y : Spells x s tss) →
    SameButOrder tss (filled y.ordered)

-- in them births rise and none is the number of a child
abbrev pub KeptIsBorn : Type 0
KeptIsBorn = (c : Code) (ns : List ℤ) (steps u : ℕ) (s : State) (tss : Forest) (x : Kept) →
    Stopped c ns steps u s tss → (y : Spells x s tss) → AreBorn s.clock.left (filled y.ordered)

-- Where these are the trees that are spelled, with other numbers in the same order, the run that
-- goes on from what is kept is the run to the later horizon, and its trace goes on from the one so
-- far.
abbrev pub KeptRunIsTheRun : Type 0
KeptRunIsTheRun = (c : Code) (ns : List ℤ) (steps u v : ℕ) (s : State) (tss : Forest) (x : Kept) →
    Valid c → TextsAreBytes c → InputsFit ns → u ≤ v → u ≤ MOST_NOW → Stopped c ns steps u s tss →
    (y : Spells x s tss) → SameTrees (state x) (filled y.ordered) (trees c x) →
    behind s.memory.trace (run_from c steps v (state x) (trees c x)) ≡ mach c ns steps v
