-- What is told of the bytes of a saved run, and of a file that has one.
use Rattle.std.specs.Prelude.{◌≡◌, ℕ, true, false, List, [], Ok}
use Rattle.verse_image.specs.Numbers.{IsBytes}
use Rattle.run_save_format.specs.Format.{fields, StandsBehind}
use Rattle.run_save_format.specs.Reading.{Found, parts_found_at}
use Rattle.run_save_format.specs.Whole.{start_at}

-- the parts that are found are spelled by the bytes, which end with them
abbrev pub FoundIsSpelled : Type 0
FoundIsSpelled =
    (bytes : List ℕ) (m : Found) → IsBytes bytes → parts_found_at bytes ≡ Ok m →
    fields m.code m.kept bytes []

-- what is found stands behind the first line that begins with `= saved `
abbrev pub StartStandsBehind : Type 0
StartStandsBehind =
    (file bytes : List ℕ) → start_at true false file ≡ Ok bytes → StandsBehind file bytes
