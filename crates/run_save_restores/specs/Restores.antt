-- What is saved behind the lines of a trace.
use Rattle.std.specs.Prelude.{◌≡◌, ℕ, List, ◌∷◌, ◌++◌, Ok}
use Rattle.verse_code.specs.declared.codes.Code.{Code}
use Rattle.verse_value.specs.Runs.{Line}
use Rattle.verse_meaning_state.specs.Effects.{printed}
use Rattle.run_save_shots.specs.Kept.{Kept}
use Rattle.run_save_format.specs.Format.{Begins, IsLine, Saved, saved_word}
use Rattle.run_save_format.specs.Whole.{file_at}

-- it is read from behind them and the line that begins with `= saved `
abbrev pub SavedBehindTrace : Type 0
SavedBehindTrace = (c : Code) (s : Kept) (lines : List Line) (line bytes : List ℕ) →
    IsLine line → Begins saved_word line → Saved c s bytes →
    file_at (printed lines ++ (line ++ 10 ∷ bytes)) ≡ Ok (c, s)
