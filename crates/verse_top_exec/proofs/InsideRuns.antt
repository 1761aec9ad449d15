-- The waits that are left count exactly where the run has ended by itself; and the cells of a run belong to its code.
use Rattle.std.proofs.Common.{◌≡◌, ℕ, suc, List, Option, Some, None, refl, ap, subst, sym}
use Rattle.std.specs.Prelude.{length}
use Rattle.verse_code.specs.declared.codes.Class.{Class}
use Rattle.verse_code.specs.declared.codes.Code.{Code}
use Rattle.verse_value.specs.declared.runs.Ending.{Ending}
use Rattle.verse_value.specs.declared.runs.Ending.TheVariants as ending
use Rattle.verse_meaning_state.specs.Turns.{Stage, going, closed, broken, amiss, run_of, run_closed}
use Rattle.verse_meaning_state.specs.State.{State}
use Rattle.verse_code_machine.specs.Tasks.{tree_waits}
use Rattle.verse_code_machine.specs.Runs.{Forest}
use Rattle.verse_code_machine.specs.Belonging.{StoreBelongs, StageBelongs}
use Rattle.verse_code_machine_endings.specs.Endings.{EndsSo}
use Rattle.verse_top_texts.specs.Endings.{live_of}
use Rattle.verse_value.specs.Runs.{Run}
use Rattle.vm_run.specs.Origins.{RunHolds}
use Rattle.verse_top_exec.specs.Courses.{Course, run_on, stage_on}

-- how many waits are left, where that counts
abbrev pub Counts : Option ℕ → ℕ → Type 0
Counts None n = Unit {0}
Counts (Some live) n = live ≡ n

live_right : (g : Stage Forest) (n : ℕ) → EndsSo g → Counts (run_of tree_waits g).live n →
    (run_of tree_waits g).live ≡ live_of (run_of tree_waits g).ending n
live_right (going s tss) n a b = refl
live_right (closed ending.Done s tss) n a b = ap (λ k. Some k) b
live_right (closed ending.Waiting s tss) n a b = ap (λ k. Some k) b
live_right (closed ending.Until s tss) n a b = ap (λ k. Some k) b
live_right (closed ending.Steps s tss) n a b = refl
live_right (closed (ending.Error k p) s tss) n a b = absurd a
live_right (closed ending.Stuck s tss) n a b = absurd a
live_right (broken ending.Done s) n a b = absurd a
live_right (broken ending.Waiting s) n a b = absurd a
live_right (broken ending.Until s) n a b = absurd a
live_right (broken ending.Steps s) n a b = refl
live_right (broken (ending.Error k p) s) n a b = refl
live_right (broken ending.Stuck s) n a b = refl
live_right (amiss s) n a b = refl

-- each run that holds
abbrev pub HoldsOn : Code → Course → Type 0
HoldsOn c w = RunHolds c w.origin w.steps w.until

pub live_is : (c : Code) (w : Course) (n : ℕ) → HoldsOn c w → Counts (run_on c w).live n → (run_on c w).live ≡ live_of (run_on c w).ending n
live_is c w n h =
    subst (λ (r : Run). Counts r.live n → r.live ≡ live_of r.ending n) (sym h.run)
    (live_right (stage_on c w (suc w.steps)) n (h.ends (suc w.steps)))

-- ---- cells

closed_belongs : (cs : List Class) (e : Ending) (s : State) (n : ℕ) → StoreBelongs cs s.memory.store →
    StoreBelongs cs (run_closed e s n).store
closed_belongs cs ending.Done s n a = a
closed_belongs cs ending.Waiting s n a = a
closed_belongs cs ending.Until s n a = a
closed_belongs cs ending.Steps s n a = a
closed_belongs cs (ending.Error k p) s n a = a
closed_belongs cs ending.Stuck s n a = a

store_belongs : (cs : List Class) (g : Stage Forest) → StageBelongs cs g → StoreBelongs cs (run_of tree_waits g).store
store_belongs cs (going s tss) a = a.0
store_belongs cs (closed e s tss) a = closed_belongs cs e s (length (tree_waits tss)) a.0
store_belongs cs (broken e s) a = a
store_belongs cs (amiss s) a = a

pub cells_belong : (c : Code) (w : Course) → HoldsOn c w → StoreBelongs c.classes (run_on c w).store
cells_belong c w h =
    subst (λ (r : Run). StoreBelongs c.classes r.store) (sym h.run)
    (store_belongs c.classes (stage_on c w (suc w.steps)) (h.belongs (suc w.steps)))
