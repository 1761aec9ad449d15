-- What is kept of the frames of a task.
use Rattle.std.specs.Prelude.{ℕ, pred, List, [], ◌∷◌, ◌++◌, map, reverse}
use Rattle.verse_meaning_state.specs.Waits.{ltn}
use Rattle.verse_code_machine.specs.Tasks.{Frame}
use Rattle.vm_frames.specs.Framed.{Framed}
use Rattle.vm_frames.specs.Machine.{frame_with}
use Rattle.run_save_shots.specs.Lists.{count}
use Rattle.run_save_shots.specs.Kept.{KeptFrame}
use Rattle.run_save_shots.specs.Keeping.{frame}

-- the lowest frame first; the top one stands behind so many arms
abbrev pub kept_frames : (arms : ℕ) → List Frame → List KeptFrame
kept_frames arms [] = []
kept_frames arms (f ∷ below) = map (frame 0) (reverse below) ++ frame arms f ∷ []

-- how many frames are below the highest that began before the task of a number
abbrev pub depth_among : ℕ → List Frame → ℕ
depth_among n fs = pred (count (λ (f : Frame). ltn n f.life.born) fs)

-- a frame without its handlers
abbrev pub bare : Framed → Frame
bare f = frame_with f []

-- the top one first, which stands behind so many arms
abbrev pub from_top : (arms : ℕ) → List Framed → List KeptFrame
from_top arms [] = []
from_top arms (f ∷ fs) = frame arms (bare f) ∷ from_top 0 fs

-- of these frames so many began before the task of a number
abbrev pub began_before : ℕ → List Framed → ℕ
began_before n fs = count (λ (f : Framed). ltn n f.born) fs
