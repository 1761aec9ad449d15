-- What is read of a saved run.
use Rattle.std.specs.Prelude.{◌≡◌, List, ℕ, Ok}
use Rattle.verse_code.specs.declared.codes.Code.{Code}
use Rattle.verse_code.specs.Validity.{Valid}
use Rattle.verse_image.specs.Numbers.{IsBytes}
use Rattle.run_save_shots.specs.Fitting.{Fits}
use Rattle.run_save_shots.specs.Kept.{Kept}
use Rattle.run_save_format.specs.Whole.{file_at}

-- a code that is read is valid, and what is kept fits it
abbrev pub ReadRunFits : Type 0
ReadRunFits =
    (file : List ℕ) (c : Code) (s : Kept) → IsBytes file → file_at file ≡ Ok (c, s) →
    Valid c × Fits c s
