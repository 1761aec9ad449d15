-- What fits breaks no rule on the whole list, and where a saved run stands in a file.
use Rattle.std.specs.Prelude.{◌≡◌, ℕ, true, false, List, ◌∷◌, ◌++◌, None, Ok}
use Rattle.verse_value.specs.Runs.{Line}
use Rattle.verse_meaning_state.specs.Effects.{printed}
use Rattle.run_save_shots.specs.Fitting.{Fits}
use Rattle.run_save_format.specs.Format.{IsLine, Begins, saved_word, StandsBehind}
use Rattle.run_save_format.specs.Reading.{Found}
use Rattle.run_save_format.specs.Whole.{broken, start_at}

-- where what is kept fits the code, no part breaks a rule on the whole list
abbrev pub FitsIsUnbroken : Type 0
FitsIsUnbroken = (m : Found) → Fits m.code m.kept → broken m ≡ None

-- what stands behind the first line that begins with the word is what is read
abbrev pub BehindIsFound : Type 0
BehindIsFound =
    (file bytes : List ℕ) → StandsBehind file bytes → start_at true false file ≡ Ok bytes

-- a line that begins with the word and stands behind a trace is the first one, whatever was printed
abbrev pub TraceStandsBehind : Type 0
TraceStandsBehind =
    (lines : List Line) (line bytes : List ℕ) → IsLine line → Begins saved_word line →
    StandsBehind (printed lines ++ (line ++ 10 ∷ bytes)) bytes
