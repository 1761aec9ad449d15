-- The frames of a task, from what is kept of them.
use Rattle.std.specs.Prelude.{◌≡◌, ◌<◌, ◌+◌, ◌==◌, ℕ, suc, if◌then◌else◌, List, [], ◌∷◌, length}
use Rattle.std.specs.Prelude.{reverse}
use Rattle.verse_code.specs.declared.codes.Code.{Code}
use Rattle.run_save_shots.specs.Kept.{KeptFrame, KeptTask, Kept}
use Rattle.run_save_shots.specs.Fitting.{arms_of}
use Rattle.run_save_shots.specs.Spelling.{frames_from}
use Rattle.run_save_numbers.specs.Numbers.{borns_from}
use Rattle.vm_frames.specs.Framed.{Framed}
use Rattle.vm_frames.specs.Calls.{added}
use Rattle.vm_frames.specs.Machine.{frames_with}

-- a frame more on top, which goes on behind its operation and so many arms
abbrev pub with_frame : (born arms : ℕ) → KeptFrame → List Framed → List Framed
with_frame born arms f below =
    added born (suc f.place + arms) f.locals (reverse f.stack) (reverse f.defers) below

-- the arms behind the operation of a frame above which these stand
abbrev pub behind_top : (arms : ℕ) → List KeptFrame → ℕ
behind_top arms [] = arms
behind_top arms (f ∷ fs) = 0

abbrev pub arms_under : (above arms : ℕ) → ℕ
arms_under above arms = if above == 0 then arms else 0

-- frames on those below, the lowest first, each with its number
abbrev pub stacked : (arms : ℕ) → (borns : List ℕ) → List KeptFrame → List Framed → List Framed
stacked arms borns [] below = below
stacked arms [] (f ∷ fs) below = below
stacked arms (b ∷ bs) (f ∷ fs) below =
    stacked arms bs fs (with_frame b (behind_top arms fs) f below)

-- where it goes on is a place of 32 bits
abbrev pub IsNear : (arms : ℕ) → KeptFrame → Type 0
IsNear arms f = f.place + arms < 4294967295

-- with the numbers that its frames have, these are the frames that a task is spelled with of which
-- such frames and so many arms are kept
abbrev pub SpellsFrames : (arms : ℕ) → (borns : List ℕ) → List KeptFrame → List Framed → Type 0
SpellsFrames arms borns frames made =
    (c : Code) (s : Kept) (at : ℕ) (t : KeptTask) (ts : List KeptTask) → t.frames ≡ frames →
    length (arms_of t.rest) ≡ arms →
    borns ≡ borns_from s at 0 (length t.frames) (t ∷ ts) ts →
    frames_with made [] ≡ frames_from c s at t ts 0 t.frames []
