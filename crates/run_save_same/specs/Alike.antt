-- Trees of tasks that differ in their numbers alone.
use Rattle.std.specs.Prelude.{◌≡◌, ℕ, List, [], ◌∷◌}
use Rattle.verse_code.specs.declared.codes.Code.{Code}
use Rattle.verse_meaning_state.specs.State.{State}
use Rattle.verse_code_machine.specs.Tasks.{Frame, Part, did, runs, Rest, asleep, group, Task}
use Rattle.verse_code_machine.specs.Runs.{Forest}
use Rattle.run_save_shots.specs.Kept.{Kept}
use Rattle.run_save_shots.specs.Keeping.{Spells}
use Rattle.run_save_shots.specs.Spelling.{trees}
use Rattle.run_save_fits.specs.Held.{Savable}
use Rattle.run_save_kept.specs.Orders.{Orderly}
use Rattle.run_save_kept.specs.Growing.{filled}

-- but for the steps that were left when it began
pub record FrameAlike (g h : Frame) : Type 0 where
  pub defers : g.life.defers ≡ h.life.defers
  pub noted : g.life.noted ≡ h.life.noted
  pub locals : g.locals ≡ h.locals
  pub stack : g.stack ≡ h.stack
  pub place : g.place ≡ h.place
  pub handlers : g.handlers ≡ h.handlers

abbrev pub FramesAlike : List Frame → List Frame → Type 0
FramesAlike [] [] = Unit {0}
FramesAlike (g ∷ gs) (h ∷ hs) = FrameAlike g h × FramesAlike gs hs
FramesAlike [] (h ∷ hs) = ⊥
FramesAlike (g ∷ gs) [] = ⊥

abbrev pub PartAlike : Part → Part → Type 0
PartAlike (did v) (did w) = v ≡ w
PartAlike (runs n) (runs m) = Unit {0}
PartAlike (did v) (runs m) = ⊥
PartAlike (runs n) (did w) = ⊥

abbrev pub PartsAlike : List Part → List Part → Type 0
PartsAlike [] [] = Unit {0}
PartsAlike (g ∷ gs) (h ∷ hs) = PartAlike g h × PartsAlike gs hs
PartsAlike [] (h ∷ hs) = ⊥
PartsAlike (g ∷ gs) [] = ⊥

abbrev pub RestAlike : Rest → Rest → Type 0
RestAlike (asleep w) (asleep v) = w ≡ v
RestAlike (group k p gs) (group j q hs) = (k ≡ j) × (p ≡ q) × PartsAlike gs hs
RestAlike (asleep w) (group j q hs) = ⊥
RestAlike (group k p gs) (asleep v) = ⊥

pub record TaskAlike (t u : Task) : Type 0 where
  pub role : t.thread.who.role ≡ u.thread.who.role
  pub frame : FrameAlike t.thread.frame u.thread.frame
  pub below : FramesAlike t.thread.below u.thread.below
  pub rest : RestAlike t.rest u.rest

abbrev pub TasksAlike : List Task → List Task → Type 0
TasksAlike [] [] = Unit {0}
TasksAlike (t ∷ ts) (u ∷ us) = TaskAlike t u × TasksAlike ts us
TasksAlike [] (u ∷ us) = ⊥
TasksAlike (t ∷ ts) [] = ⊥

abbrev pub TreesAlike : Forest → Forest → Type 0
TreesAlike [] [] = Unit {0}
TreesAlike (ts ∷ tss) (us ∷ uss) = TasksAlike ts us × TreesAlike tss uss
TreesAlike [] (us ∷ uss) = ⊥
TreesAlike (ts ∷ tss) [] = ⊥

-- What is kept of a state between two turns spells its trees again, in the order in which they were
-- kept and without the empty ones, but for the numbers of their tasks and frames.
abbrev pub TreesAreSpelled : Type 0
TreesAreSpelled = (c : Code) (steps until : ℕ) (s : State) (tss : Forest) (x : Kept) →
    Savable c steps until s tss → Orderly s.clock.left tss → (y : Spells x s tss) →
    TreesAlike (filled y.ordered) (trees c x)
