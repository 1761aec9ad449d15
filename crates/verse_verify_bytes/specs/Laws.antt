-- What is written and what is read.
use Rattle.std.specs.Prelude.{◌≡◌, ℕ, List, Ok}
use Rattle.verse_code.specs.declared.codes.Code.{Code}
use Rattle.verse_code.specs.Validity.{Valid}
use Rattle.verse_image.specs.Numbers.{IsBytes}
use Rattle.verse_verify_faults.specs.Spots.{Table}
use Rattle.verse_verify_faults.specs.Reading.{notes_at}
use Rattle.verse_verify_bytes.specs.Bytes.{bytes_of}
use Rattle.verse_verify_bytes.specs.Suits.{Suits}

-- notes that suit a code are read back from their bytes, with nothing behind them
abbrev pub WrittenIsRead : Type 0
WrittenIsRead = (c : Code) (t : Table) → Valid c → Suits c t → notes_at c (bytes_of c t) ≡ Ok t

-- notes have one spelling
abbrev pub ReadIsWritten : Type 0
ReadIsWritten = (c : Code) (bytes : List ℕ) (t : Table) → IsBytes bytes → notes_at c bytes ≡ Ok t →
    bytes ≡ bytes_of c t
